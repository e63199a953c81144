use Rattle.std.proofs.Common.{◌≡◌, ◌≤◌, ◌++◌, length, string_bytes}
use Rattle.cbm_shell.specs.Readable.{text}
use Rattle.cbm_shell.proofs.texts.readable.add_text.Given as goal

abbrev pub invariant-codes : goal.invariant-codes
invariant-codes l = record {
  same : string_bytes l.out ++ text l.charset l.left l.rest ≡ string_bytes l.initial.out ++ text l.charset 24 l.bytes;
  shorter : length l.rest ≤ length l.bytes;
}

abbrev pub decreases-codes : goal.decreases-codes
decreases-codes l = length l.rest
