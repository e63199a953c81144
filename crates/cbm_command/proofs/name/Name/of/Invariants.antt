use Rattle.std.proofs.Common.{◌≡◌, ◌++◌, drop, take, ◌-◌, length}
use Rattle.cbm_command.specs.Names.{name_of}
use Rattle.cbm_command.specs.Texts.{before_byte}
use Rattle.cbm_command.proofs.name.Name.of.Given as goal

abbrev pub invariant-loop-byte : goal.invariant-loop-byte
invariant-loop-byte l = name_of l.text ≡ l.bytes.items ++ take (16 - length l.bytes.items) (before_byte 0xa0 (drop l.byte-index l.text))
