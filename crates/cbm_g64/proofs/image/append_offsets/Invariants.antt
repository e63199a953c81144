use Rattle.std.proofs.Common.{◌≡◌, ◌++◌}
use Rattle.cbm_g64.specs.NewFile.{entries_of, new_place}
use Rattle.cbm_g64.proofs.image.append_offsets.Given as goal

abbrev pub invariant-loop-i : goal.invariant-loop-i
invariant-loop-i l = l.out.items ≡ l.fn.out.items ++ entries_of new_place l.i
