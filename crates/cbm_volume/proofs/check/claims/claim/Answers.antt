use Rattle.std.proofs.Common.{rules}
use Rattle.cbm_volume.proofs.check.claims.claim.Goals as goal

pub returns-in_default-clause-none : goal.returns-in_default-clause-none
returns-in_default-clause-none g c = search rules

pub returns-in_default-clause-claimed : goal.returns-in_default-clause-claimed
returns-in_default-clause-claimed g c = search rules

pub returns-in_default-clause-read : goal.returns-in_default-clause-read
returns-in_default-clause-read g c = search rules

pub returns-in_default-clause-wrong : goal.returns-in_default-clause-wrong
returns-in_default-clause-wrong g c = search rules

pub returns-then-has-clause-none : goal.returns-then-has-clause-none
returns-then-has-clause-none g c = search rules

pub returns-then-has-clause-claimed : goal.returns-then-has-clause-claimed
returns-then-has-clause-claimed g c = search rules

pub returns-then-has-clause-read : goal.returns-then-has-clause-read
returns-then-has-clause-read g c = search rules

pub returns-then-has-clause-wrong : goal.returns-then-has-clause-wrong
returns-then-has-clause-wrong g c = search rules

pub returns-in_default-read-clause-none : goal.returns-in_default-read-clause-none
returns-in_default-read-clause-none g c = search rules

pub returns-in_default-read-clause-claimed : goal.returns-in_default-read-clause-claimed
returns-in_default-read-clause-claimed g c = search rules

pub returns-in_default-read-clause-read : goal.returns-in_default-read-clause-read
returns-in_default-read-clause-read g c = search rules

pub returns-in_default-read-clause-wrong : goal.returns-in_default-read-clause-wrong
returns-in_default-read-clause-wrong g c = search rules

pub returns-then-ne-clause-none : goal.returns-then-ne-clause-none
returns-then-ne-clause-none g c = search rules

pub returns-then-ne-clause-claimed : goal.returns-then-ne-clause-claimed
returns-then-ne-clause-claimed g c = search rules

pub returns-then-ne-clause-read : goal.returns-then-ne-clause-read
returns-then-ne-clause-read g c = search rules

pub returns-then-ne-clause-wrong : goal.returns-then-ne-clause-wrong
returns-then-ne-clause-wrong g c = search rules

pub returns-clause-none : goal.returns-clause-none
returns-clause-none g c = search rules

pub returns-clause-claimed : goal.returns-clause-claimed
returns-clause-claimed g c = search rules

pub returns-clause-read : goal.returns-clause-read
returns-clause-read g c = search rules

pub returns-clause-wrong : goal.returns-clause-wrong
returns-clause-wrong g c = search rules
