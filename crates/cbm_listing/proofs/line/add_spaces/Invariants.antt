use Rattle.std.proofs.Common.{◌≡◌, ◌++◌, length, ◌+◌}
use Rattle.std.specs.Prelude.{replicate}
use Rattle.cbm_listing.specs.Lines.{space}
use Rattle.cbm_listing.proofs.line.add_spaces.Given as goal

abbrev pub invariant-loop-i : goal.invariant-loop-i
invariant-loop-i l = record { items : l.line.items ≡ l.initial.line.items ++ replicate l._i space; len : length l.line.items ≡ length l.initial.line.items + l._i }
