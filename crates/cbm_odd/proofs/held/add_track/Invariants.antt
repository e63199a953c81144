use Rattle.std.proofs.Common.{◌≡◌, ◌++◌}
use Rattle.cbm_bam.specs.Marks.{is_marked}
use Rattle.cbm_shell.specs.Passing.{places_on}
use Rattle.cbm_odd.specs.Held.{is_only_in}
use Rattle.cbm_odd.proofs.held.add_track.Given as goal

abbrev pub invariant-loop-sector : goal.invariant-loop-sector
invariant-loop-sector l = l.out.items ≡ l.fn.out.items ++ places_on (is_only_in (is_marked l.reached) (is_marked l.own)) l.track l.sector
