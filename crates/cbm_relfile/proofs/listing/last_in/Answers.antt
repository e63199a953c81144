use Rattle.std.proofs.Common.{rules}
use Rattle.cbm_relfile.proofs.listing.last_in.Goals as goal

pub returns-then-count-eq0-clause-none : goal.returns-then-count-eq0-clause-none
returns-then-count-eq0-clause-none c = search rules

pub returns-then-count-eq0-clause-last : goal.returns-then-count-eq0-clause-last
returns-then-count-eq0-clause-last c = search rules

pub returns-clause-none : goal.returns-clause-none
returns-clause-none c = search rules

pub returns-clause-last : goal.returns-clause-last
returns-clause-last c = search rules
