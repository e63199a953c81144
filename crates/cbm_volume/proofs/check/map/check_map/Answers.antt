use Rattle.std.proofs.Common.{◌≡◌, ℕ, true, sym, subst, arith, inl, inr}
use Rattle.std.proofs.lemmas.Bool.{cases_eq}
use Rattle.cbm_bam.specs.Map.{map_of}
use Rattle.cbm_volume.specs.check.MapCounts.{is_counted_on}
use Rattle.cbm_volume.proofs.check.map.check_map.Goals as goal

pub loop-track-preserved : goal.loop-track-preserved
loop-track-preserved g c = λ u some l. elim (cases_eq u c.loop-track.track) [
  | inl e ↦ subst (λ (t : ℕ). is_counted_on t (map_of (g.M.Medium.seen c.args.medium.now).content) ≡ true) (sym e) c.in_ok-check_count.ensures.ok
  | inr ne ↦ c.loop-track.invariant u some (omega arith)
]
