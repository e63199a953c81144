use Rattle.cbm_basic.proofs.LineLemmas.{lines-more}
use Rattle.cbm_basic.proofs.lines.next_line.Goals as goal

pub returns-clause-line : goal.returns-clause-line
returns-clause-line c = lines-more _ _ _ _ _ _ _ _ _ c.in_ok-rest.ensures.cases.0 c.in_ok-second.ensures.cases.0 c.in_ok-low.ensures.cases.0 c.in_ok-high.ensures.cases.0 c.if-second-eq0.false
