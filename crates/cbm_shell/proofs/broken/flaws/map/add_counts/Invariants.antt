use Rattle.std.proofs.Common.{◌≡◌, ◌++◌}
use Rattle.cbm_bam.specs.Map.{map_of}
use Rattle.cbm_shell.specs.Flaws.{count_flaws}
use Rattle.cbm_shell.proofs.broken.flaws.map.add_counts.Given as goal

abbrev pub invariant-loop-track : goal.invariant-loop-track
invariant-loop-track g l = l.out.items ≡ l.fn.out.items ++ count_flaws (map_of (g.M.Medium.seen l.medium).content) l.track
