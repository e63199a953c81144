use Rattle.std.proofs.Common.{◌≡◌, length}
use Rattle.cbm_bam.specs.Marks.{is_marked}
use Rattle.cbm_shell.specs.Freeing.{is_any}
use Rattle.cbm_shell.proofs.looking.freeing.is_any.Given as goal

abbrev pub invariant-sectors : goal.invariant-sectors
invariant-sectors l = is_any (is_marked l.held) l.rest ≡ is_any (is_marked l.held) l.places

abbrev pub decreases-sectors : goal.decreases-sectors
decreases-sectors l = length l.rest
