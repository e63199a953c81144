use Rattle.std.proofs.Common.{◌∙◌}
use Rattle.cbm_bam.specs.Marks.{is_marked}
use Rattle.cbm_shell.proofs.PassingLemmas.{places_in-none, places_in-more}
use Rattle.cbm_odd.specs.Held.{is_only_in}
use Rattle.cbm_odd.proofs.held.held_in.Goals as goal

pub loop-track-init : goal.loop-track-init
loop-track-init c = c.new-held.ensures.items ∙ places_in-none (is_only_in (is_marked c.args.reached.now) (is_marked c.args.own.now))

pub loop-track-preserved : goal.loop-track-preserved
loop-track-preserved c =
    places_in-more c.loop-track.held.items c.add_track.new.out.items (is_only_in (is_marked c.args.reached.now) (is_marked c.args.own.now)) c.loop-track.track
    c.loop-track.invariant c.in_ok-add_track.ensures
