use Rattle.cbm_relfile.proofs.Freed.{Freeing}
use Rattle.cbm_relfile.proofs.growth.freeing.free_sides.Given as goal

abbrev pub invariant-loop-n : goal.invariant-loop-n
invariant-loop-n g l = Freeing l.fn.geometry l.fn.release l.release l.head l.n
