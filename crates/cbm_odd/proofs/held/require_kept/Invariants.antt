use Rattle.std.proofs.Common.{◌≡◌, length}
use Rattle.cbm_medium.specs.Place.{directory_head}
use Rattle.cbm_bam.specs.Marks.{is_marked}
use Rattle.cbm_shell.specs.declared.fault.ShellFault.{ShellFault}
use Rattle.cbm_odd.specs.Held.{is_only_in, are_kept, IsSpoiltAmong}
use Rattle.cbm_odd.proofs.held.require_kept.Given as goal

abbrev pub invariant-sectors : goal.invariant-sectors
invariant-sectors g l =
    let head = (g.M.Medium.seen l.medium).content directory_head in
    let used = is_only_in (is_marked l.used) (is_marked l.before) in
    (are_kept head used l.rest ≡ are_kept head used l.held) × ((f : ShellFault) → IsSpoiltAmong head used l.rest f → IsSpoiltAmong head used l.held f)

abbrev pub decreases-sectors : goal.decreases-sectors
decreases-sectors g l = length l.rest
