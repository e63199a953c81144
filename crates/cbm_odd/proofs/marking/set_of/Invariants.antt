use Rattle.std.proofs.Common.{◌≡◌, drop}
use Rattle.cbm_bam.specs.Marks.{is_marked}
use Rattle.cbm_shell.specs.Mapping.{is_among}
use Rattle.cbm_shell.specs.Marking.{with_places}
use Rattle.cbm_odd.proofs.marking.set_of.Given as goal

abbrev pub invariant-loop-at : goal.invariant-loop-at
invariant-loop-at l = with_places (is_marked l.set) (drop l.at-index l.places) ≡ is_among l.places
