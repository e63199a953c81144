use Rattle.std.proofs.Common.{◌≡◌, ◌++◌, List, ℕ, length}
use Rattle.std.specs.Io.KnownBytes.{Appends}
use Rattle.cbm_program.proofs.output.print.Given as goal

abbrev pub invariant-writes : goal.invariant-writes
invariant-writes g l = (part : List ℕ) × Appends (g.W.Write.contents l.initial.writer) (g.W.Write.contents l.writer) part × (l.bytes ≡ part ++ l.rest)

abbrev pub decreases-writes : goal.decreases-writes
decreases-writes g l = length l.rest
