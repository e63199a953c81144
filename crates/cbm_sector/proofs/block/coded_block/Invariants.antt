use Rattle.std.proofs.Common.{◌≡◌, ◌*◌, take, length}
use Rattle.cbm_gcr.specs.Code.{code, bits_of}
use Rattle.cbm_sector.proofs.block.coded_block.Given as goal

abbrev pub invariant-loop-i : goal.invariant-loop-i
invariant-loop-i l = record { length : length l.coded ≡ 325; made : bits_of (take (5 * l.i) l.coded) ≡ code (take (4 * l.i) l.block) }
