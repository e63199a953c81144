use Rattle.std.proofs.Common.{◌≡◌, ◌++◌}
use Rattle.cbm_bam.specs.Marks.{is_marked}
use Rattle.cbm_shell.specs.Passing.{places_on}
use Rattle.cbm_shell.specs.Lost.{lost_at}
use Rattle.cbm_shell.proofs.broken.flaws.lost.add_track.Given as goal

abbrev pub invariant-loop-sector : goal.invariant-loop-sector
invariant-loop-sector g l = l.out.items ≡ l.fn.out.items ++ places_on (lost_at (g.M.Medium.seen l.medium).content (is_marked l.used) (is_marked l.geos)) l.track l.sector
