use Rattle.std.proofs.Common.{◌≡◌}
use Rattle.cbm_shell.specs.Passing.{places_in}
use Rattle.cbm_shell.specs.Freeing.{is_freed}
use Rattle.cbm_shell.proofs.looking.freeing.freed_in.Given as goal

abbrev pub invariant-loop-track : goal.invariant-loop-track
invariant-loop-track g l = l.freed.items ≡ places_in (is_freed (g.M.Medium.seen l.old).content (g.M.Medium.seen l.new).content) l.track
