use Rattle.std.proofs.Common.{◌∙◌}
use Rattle.cbm_shell.specs.Freeing.{is_freed}
use Rattle.cbm_shell.proofs.PassingLemmas.{places_in-none, places_in-more}
use Rattle.cbm_shell.proofs.looking.freeing.freed_in.Goals as goal

pub loop-track-init : goal.loop-track-init
loop-track-init g c = c.new-freed.ensures.items ∙ places_in-none (is_freed (g.M.Medium.seen c.args.old.now).content (g.M.Medium.seen c.args.new.now).content)

pub loop-track-preserved : goal.loop-track-preserved
loop-track-preserved g c =
    places_in-more c.loop-track.freed.items c.add_freed_on.new.out.items (is_freed (g.M.Medium.seen c.args.old.now).content (g.M.Medium.seen c.args.new.now).content) c.loop-track.track
    c.loop-track.invariant c.in_ok-add_freed_on.ensures
