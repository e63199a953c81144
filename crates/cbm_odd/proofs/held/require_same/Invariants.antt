use Rattle.std.proofs.Common.{◌≡◌, length}
use Rattle.cbm_shell.specs.declared.fault.ShellFault.{ShellFault}
use Rattle.cbm_odd.specs.Held.{are_same_cells, IsChangedAmong}
use Rattle.cbm_odd.proofs.held.require_same.Given as goal

abbrev pub invariant-sectors : goal.invariant-sectors
invariant-sectors g l =
    let old = g.M.Medium.seen l.old in
    let new = g.M.Medium.seen l.new in
    (are_same_cells old.content new.content l.rest ≡ are_same_cells old.content new.content l.held)
    × ((f : ShellFault) → IsChangedAmong old new l.rest f → IsChangedAmong old new l.held f)

abbrev pub decreases-sectors : goal.decreases-sectors
decreases-sectors g l = length l.rest
