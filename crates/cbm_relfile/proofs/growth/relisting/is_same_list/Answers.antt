use Rattle.std.proofs.Common.{rules}
use Rattle.cbm_relfile.proofs.growth.relisting.is_same_list.Goals as goal

pub returns-then-one-place-clause-tells : goal.returns-then-one-place-clause-tells
returns-then-one-place-clause-tells c = search rules

pub returns-then-one-place-clause-same : goal.returns-then-one-place-clause-same
returns-then-one-place-clause-same c = search rules

pub returns-clause-tells : goal.returns-clause-tells
returns-clause-tells c = search rules

pub returns-clause-same : goal.returns-clause-same
returns-clause-same c = search rules
