use Rattle.std.proofs.Common.{◌≡◌, ◌<◌, drop}
use Rattle.cbm_saved.specs.Seals.{checksum, mixed}
use Rattle.cbm_saved.proofs.seal.checksum.Given as goal

-- what is left, mixed into the number, makes the whole
abbrev pub invariant-loop-byte : goal.invariant-loop-byte
invariant-loop-byte l = record {
  whole : mixed l.sum (drop l.byte-index l.bytes) ≡ checksum l.fn.bytes;
  small : l.sum < 4294967291;
}
