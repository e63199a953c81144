use Rattle.std.proofs.Common.{◌≡◌, ◌++◌}
use Rattle.cbm_shell.specs.Passing.{places_on}
use Rattle.cbm_shell.specs.Freeing.{is_freed}
use Rattle.cbm_shell.proofs.looking.freeing.add_freed_on.Given as goal

abbrev pub invariant-loop-sector : goal.invariant-loop-sector
invariant-loop-sector g l = l.out.items ≡ l.fn.out.items ++ places_on (is_freed (g.M.Medium.seen l.old).content (g.M.Medium.seen l.new).content) l.track l.sector
