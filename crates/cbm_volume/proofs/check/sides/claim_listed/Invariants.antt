use Rattle.std.proofs.Common.{◌+◌, ◌-◌, ◌*◌, Bool, drop}
use Rattle.cbm_medium.specs.Place.{Place}
use Rattle.cbm_relfile.specs.SideSectors.{named_in}
use Rattle.cbm_bam.specs.Marks.{is_marked}
use Rattle.cbm_volume.specs.check.SideLists.{ClaimsEach, MeetsAmong, after_the_first}
use Rattle.cbm_volume.specs.declared.check.unsound.Part.TheVariants.{OfFile}
use Rattle.cbm_volume.specs.declared.check.unsound.Unsound.{Unsound}
use Rattle.cbm_volume.proofs.check.sides.claim_listed.Given as goal

-- what is still to be claimed, or met, makes the whole
abbrev pub invariant-loop-number : goal.invariant-loop-number
invariant-loop-number g l = record {
  forth : (after : Place → Bool) → ClaimsEach OfFile l.fn.geometry (g.M.Medium.seen l.medium).content (is_marked l.claimed) (named_in (6 - l.number) (drop (4 + 2 * l.number) l.first)) after
      → ClaimsEach OfFile l.fn.geometry (g.M.Medium.seen l.medium).content (is_marked l.fn.claimed) (after_the_first l.first) after;
  faulty : (u : Unsound) → MeetsAmong OfFile l.fn.geometry (g.M.Medium.seen l.medium).content (is_marked l.claimed) (named_in (6 - l.number) (drop (4 + 2 * l.number) l.first)) u
      → MeetsAmong OfFile l.fn.geometry (g.M.Medium.seen l.medium).content (is_marked l.fn.claimed) (after_the_first l.first) u;
}
