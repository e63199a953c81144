use Rattle.std.proofs.Common.{◌≡◌, take}
use Rattle.cbm_sector.specs.Answer.{xor_of}
use Rattle.cbm_sector.proofs.block.xor.Given as goal

abbrev pub invariant-loop-byte : goal.invariant-loop-byte
invariant-loop-byte l = l.sum ≡ xor_of (take l.byte-index l.bytes)
