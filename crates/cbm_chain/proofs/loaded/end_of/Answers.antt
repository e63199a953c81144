use Rattle.std.proofs.Common.{rules}
use Rattle.cbm_chain.proofs.loaded.end_of.Goals as goal

pub returns-then-sector-eq0-clause-value : goal.returns-then-sector-eq0-clause-value
returns-then-sector-eq0-clause-value c = search rules

pub returns-then-sector-eq0-clause-bounds : goal.returns-then-sector-eq0-clause-bounds
returns-then-sector-eq0-clause-bounds c = search rules

pub returns-then-sector-eq0-clause-whole : goal.returns-then-sector-eq0-clause-whole
returns-then-sector-eq0-clause-whole c = search rules

pub returns-else-sector-eq0-clause-value : goal.returns-else-sector-eq0-clause-value
returns-else-sector-eq0-clause-value c = search rules

pub returns-else-sector-eq0-clause-bounds : goal.returns-else-sector-eq0-clause-bounds
returns-else-sector-eq0-clause-bounds c = search rules

pub returns-else-sector-eq0-clause-whole : goal.returns-else-sector-eq0-clause-whole
returns-else-sector-eq0-clause-whole c = search rules
