use Rattle.std.proofs.Common.{◌≡◌}
use Rattle.cbm_medium.specs.Place.{directory_head}
use Rattle.cbm_bam.specs.Marks.{is_marked}
use Rattle.cbm_shell.specs.Passing.{places_in}
use Rattle.cbm_odd.specs.Marking.{is_taken_now}
use Rattle.cbm_odd.proofs.marking.taken_in.Given as goal

abbrev pub invariant-loop-track : goal.invariant-loop-track
invariant-loop-track g l =
    l.taken.items ≡ places_in (is_taken_now ((g.M.Medium.seen l.medium).content directory_head) (is_marked l.more) (is_marked l.less)) l.track
