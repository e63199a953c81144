use Rattle.std.proofs.Common.{◌≡◌, ◌++◌}
use Rattle.cbm_shell.specs.Sectors.{faults_on}
use Rattle.cbm_shell.proofs.looking.sectors.add_faults.Given as goal

abbrev pub invariant-loop-sector : goal.invariant-loop-sector
invariant-loop-sector g l = l.faults.items ≡ l.fn.faults.items ++ faults_on (g.M.Medium.seen l.medium).content l.track l.sector
