use Rattle.std.proofs.Common.{◌≡◌, ℕ, List, length, drop, ap, sym, ◌∙◌, arith}
use Rattle.cbm_machine.specs.Statuses.{status_line}
use Rattle.cbm_file.specs.Waiting.{next_shown}
use Rattle.cbm_machine.specs.Told.{ToldStatus, next_told}
use Rattle.cbm_machine.proofs.NextBytes.{next_dropped}
use Rattle.cbm_machine.proofs.telling.Telling.peek.Goals as goal

-- the line is that of the status
pub returns : goal.returns
returns c =
    let same : c.as_slice-line.result.now ≡ status_line c.self.inside.status = c.as_slice-line.ensures.value ∙ c.self.invariant.0 in
    sym (next_dropped c.as_slice-line.result.now c.self.inside.told (omega (arith, ap length c.as_slice-line.ensures.value, c.self.invariant.1)))
    ∙ ap (λ (line : List ℕ). next_shown (drop c.self.inside.told line)) same
    ∙ ap (λ (t : ToldStatus). next_told t) c.self.view_is
