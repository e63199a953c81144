use Rattle.std.proofs.Common.{refl}
use Rattle.cbm_sources.specs.Lynxes.{number_line}
use Rattle.cbm_sources.proofs.lines.number_line.Goals as goal

pub returns-in_err-end : goal.returns-in_err-end
unfolding number_line
returns-in_err-end c = rw (← c.in_err-end.ensures.value) c.from_residual.ensures

pub returns-in_err-value : goal.returns-in_err-value
unfolding number_line
returns-in_err-value c = rw (← c.in_ok-end.ensures.value, ← c.in_err-value.ensures) c.from_residual-in_err-value.ensures

pub returns : goal.returns
unfolding number_line
returns c = rw (← c.in_ok-end.ensures.value, ← c.in_ok-value.ensures) refl
