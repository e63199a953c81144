use Rattle.cbm_program.proofs.StatusLemmas.{with_return, without}
use Rattle.cbm_program.proofs.performing.status.without_return.Goals as goal

pub returns-then-last-eq13-clause-value : goal.returns-then-last-eq13-clause-value
returns-then-last-eq13-clause-value c = with_return _ _ _ c.in-Some.ensures.cases.0 c.if-last-eq13.true

pub returns-else-last-eq13-clause-value : goal.returns-else-last-eq13-clause-value
returns-else-last-eq13-clause-value c = without _ _ _ c.in-Some.ensures.cases.0 c.if-last-eq13.false
