use Rattle.std.proofs.Common.{◌≡◌}
use Rattle.cbm_bam.specs.Marks.{is_marked}
use Rattle.cbm_shell.specs.Passing.{places_in}
use Rattle.cbm_shell.specs.Lost.{lost_at}
use Rattle.cbm_shell.proofs.broken.flaws.lost.lost_in.Given as goal

abbrev pub invariant-loop-track : goal.invariant-loop-track
invariant-loop-track g l = l.lost.items ≡ places_in (lost_at (g.M.Medium.seen l.medium).content (is_marked l.used) (is_marked l.geos)) l.track
