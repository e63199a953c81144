use Rattle.std.proofs.Common.{◌≡◌, ◌≤◌, length}
use Rattle.cbm_basic.specs.Lines.{after_text}
use Rattle.cbm_basic.proofs.following.after_text.Given as goal

abbrev pub invariant-codes : goal.invariant-codes
invariant-codes l = record {
  same : after_text l.rest ≡ after_text l.bytes;
  shorter : length l.rest ≤ length l.bytes;
}

abbrev pub decreases-codes : goal.decreases-codes
decreases-codes l = length l.rest
