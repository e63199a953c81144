use Rattle.std.proofs.Common.{◌≡◌, ◌++◌}
use Rattle.cbm_g64.specs.NewFile.{new_track_blocks}
use Rattle.cbm_g64.proofs.image.append_blocks.Given as goal

abbrev pub invariant-loop-i : goal.invariant-loop-i
invariant-loop-i l = l.out.items ≡ l.fn.out.items ++ new_track_blocks l.i
