use Rattle.std.proofs.Common.{◌≡◌, ◌≤◌, ◌++◌, length, false}
use Rattle.cbm_basic.specs.Lines.{listed_text}
use Rattle.cbm_basic.proofs.lines.add_text.Given as goal

abbrev pub invariant-codes : goal.invariant-codes
invariant-codes l = record {
  same : l.signs.items ++ listed_text l.is_quoted l.rest ≡ l.initial.signs.items ++ listed_text false l.bytes;
  shorter : length l.rest ≤ length l.bytes;
}

abbrev pub decreases-codes : goal.decreases-codes
decreases-codes l = length l.rest
