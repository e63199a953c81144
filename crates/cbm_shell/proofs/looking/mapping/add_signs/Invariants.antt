use Rattle.std.proofs.Common.{◌≡◌, ◌++◌}
use Rattle.cbm_bam.specs.Marks.{is_marked}
use Rattle.cbm_shell.specs.Mapping.{signs_on}
use Rattle.cbm_shell.proofs.looking.mapping.add_signs.Given as goal

abbrev pub invariant-loop-sector : goal.invariant-loop-sector
invariant-loop-sector g l = l.out.items ≡ l.fn.out.items ++ signs_on (g.M.Medium.seen l.medium).content (is_marked l.used) l.track l.sector
