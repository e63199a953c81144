use Rattle.std.proofs.Common.{◌≡◌, ◌++◌, take, length, ◌+◌}
use Rattle.std.specs.Prelude.{map}
use Rattle.cbm_listing.specs.Lines.{shown_byte}
use Rattle.cbm_listing.proofs.line.add_shown.Given as goal

abbrev pub invariant-loop-byte : goal.invariant-loop-byte
invariant-loop-byte l = record { items : l.line.items ≡ l.initial.line.items ++ map shown_byte (take l.byte-index l.bytes); len : length l.line.items ≡ length l.initial.line.items + l.byte-index }
