use Rattle.std.proofs.Common.{◌≡◌}
use Rattle.cbm_bam.specs.Marks.{is_marked}
use Rattle.cbm_shell.specs.Passing.{places_in}
use Rattle.cbm_odd.specs.Held.{is_only_in}
use Rattle.cbm_odd.proofs.held.held_in.Given as goal

abbrev pub invariant-loop-track : goal.invariant-loop-track
invariant-loop-track l = l.held.items ≡ places_in (is_only_in (is_marked l.reached) (is_marked l.own)) l.track
