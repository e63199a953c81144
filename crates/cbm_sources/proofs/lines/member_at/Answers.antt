use Rattle.std.proofs.Common.{refl}
use Rattle.cbm_sources.specs.Lynxes.{member_at}
use Rattle.cbm_sources.proofs.lines.member_at.Goals as goal

pub returns-in_err-name_to-clause-value : goal.returns-in_err-name_to-clause-value
unfolding member_at
returns-in_err-name_to-clause-value c = rw (← c.in_err-name_to.ensures.value) c.from_residual.ensures

pub returns-in_err-blocks-clause-value : goal.returns-in_err-blocks-clause-value
unfolding member_at
returns-in_err-blocks-clause-value c = rw (← c.in_ok-name_to.ensures.value, ← c.in_err-blocks.ensures) c.from_residual-in_err-blocks.ensures

pub returns-in_err-kind-clause-value : goal.returns-in_err-kind-clause-value
unfolding member_at
returns-in_err-kind-clause-value c = rw (← c.in_ok-name_to.ensures.value, ← c.in_ok-blocks.ensures, ← c.in_err-kind.ensures) c.from_residual-in_err-kind.ensures

pub returns-in_err-last-clause-value : goal.returns-in_err-last-clause-value
unfolding member_at
returns-in_err-last-clause-value c =
    rw (← c.in_ok-name_to.ensures.value, ← c.in_ok-blocks.ensures, ← c.in_ok-kind.ensures, ← c.in_err-last.ensures) c.from_residual-in_err-last.ensures

pub returns-clause-value : goal.returns-clause-value
unfolding member_at
returns-clause-value c = rw (← c.in_ok-name_to.ensures.value, ← c.in_ok-blocks.ensures, ← c.in_ok-kind.ensures, ← c.in_ok-last.ensures) refl
