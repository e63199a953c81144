use Rattle.std.proofs.Common.{◌∙◌, ◌<◌, ℕ, subst, inl, inr, arith, rules}
use Rattle.std.proofs.lemmas.Bool.{cases_eq}
use Rattle.cbm_medium.specs.Place.{sectors_on}
use Rattle.cbm_g64.proofs.copying.copy_tracks.Goals as goal

pub loop-track-preserved : goal.loop-track-preserved
loop-track-preserved g c = record {
  here = λ p h l. elim (cases_eq p.track c.loop-track.track) [
    | inl e ↦ c.copy_track.ensures.here p e (subst (λ (t : ℕ). p.sector < sectors_on t) e h.2)
    | inr ne ↦ c.copy_track.ensures.others p ne ∙ c.loop-track.invariant.here p h (omega arith)
  ];
  later = λ p l. c.copy_track.ensures.others p (λ e. omega arith) ∙ c.loop-track.invariant.later p (omega arith);
  disk = search rules;
}
