use Rattle.std.proofs.Common.{◌≡◌}
use Rattle.cbm_shell.specs.Sectors.{faults_in}
use Rattle.cbm_shell.proofs.looking.sectors.faults_in.Given as goal

abbrev pub invariant-loop-track : goal.invariant-loop-track
invariant-loop-track g l = l.faults.items ≡ faults_in (g.M.Medium.seen l.medium).content l.track
