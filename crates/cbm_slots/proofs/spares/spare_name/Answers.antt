use Rattle.std.proofs.Common.{arith}
use Rattle.cbm_slots.proofs.spares.spare_name.Goals as goal

pub returns-clause-none : goal.returns-clause-none
returns-clause-none c = λ none n less. c.names.invariant.1 n (omega (arith, less, c.names-test.false))
