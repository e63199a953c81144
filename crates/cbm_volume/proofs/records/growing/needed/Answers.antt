use Rattle.std.proofs.Common.{rules}
use Rattle.cbm_volume.proofs.records.growing.needed.Goals as goal

pub returns-then-blocks-extent-clause-some : goal.returns-then-blocks-extent-clause-some
returns-then-blocks-extent-clause-some c = search rules

pub returns-then-blocks-extent-clause-none : goal.returns-then-blocks-extent-clause-none
returns-then-blocks-extent-clause-none c = search rules

pub returns-then-blocks-extent-clause-bound : goal.returns-then-blocks-extent-clause-bound
returns-then-blocks-extent-clause-bound c = search rules

pub returns-clause-some : goal.returns-clause-some
returns-clause-some c = search rules

pub returns-clause-none : goal.returns-clause-none
returns-clause-none c = search rules

pub returns-clause-bound : goal.returns-clause-bound
returns-clause-bound c = search rules
