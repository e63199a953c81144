use Rattle.std.proofs.Common.{◌++◌, ℕ, Option, ap, sym, ◌∙◌, arith}
use Rattle.std.specs.Prelude.{option_to_list, slice_range}
use Rattle.cbm_chain.specs.Reading.{Reading}
use Rattle.cbm_file.specs.Waiting.{next_shown}
use Rattle.cbm_chain.proofs.Showing.{shown_next}
use Rattle.cbm_chain.proofs.reader.ChainReader.peek.Goals as goal

-- what is shown is the byte that waits, with what its sector holds after it
pub returns-in-Some : goal.returns-in-Some
returns-in-Some c =
    sym (shown_next c.in-Some.byte c.self.inside.sector c.self.inside.from c.self.inside.to (omega arith) (omega arith))
    ∙ ap (λ (waiting : Option ℕ). next_shown (option_to_list waiting ++ slice_range c.self.inside.sector c.self.inside.from c.self.inside.to)) (sym c.in-Some.is)
    ∙ ap (λ (r : Reading). next_shown r.bytes) c.self.view_is
