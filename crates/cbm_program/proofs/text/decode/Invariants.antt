use Rattle.std.proofs.Common.{◌≡◌, ◌+◌, ◌≤◌, length}
use Rattle.cbm_program.specs.Texts.{with_text_front, text_of}
use Rattle.cbm_program.proofs.text.decode.Given as goal

abbrev pub invariant-loop-first : goal.invariant-loop-first
invariant-loop-first l = record { same : with_text_front l.bytes.items (text_of l.rest) ≡ text_of l.text; room : length l.bytes.items + length l.rest ≤ length l.text }

abbrev pub decreases-loop-first : goal.decreases-loop-first
decreases-loop-first l = length l.rest
