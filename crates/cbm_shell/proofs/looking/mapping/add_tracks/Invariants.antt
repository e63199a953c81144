use Rattle.std.proofs.Common.{◌≡◌, ◌++◌}
use Rattle.cbm_bam.specs.Marks.{is_marked}
use Rattle.cbm_shell.specs.Mapping.{rows_of}
use Rattle.cbm_shell.proofs.looking.mapping.add_tracks.Given as goal

abbrev pub invariant-loop-track : goal.invariant-loop-track
invariant-loop-track g l = l.out.items ≡ l.fn.out.items ++ rows_of (g.M.Medium.seen l.medium).content (is_marked l.used) l.track
