use Rattle.std.proofs.Common.{refl}
use Rattle.cbm_sources.specs.Lynxes.{kind_line}
use Rattle.cbm_sources.proofs.lines.kind_line.Goals as goal

pub returns-in_err-end : goal.returns-in_err-end
unfolding kind_line
returns-in_err-end c = rw (← c.in_err-end.ensures.value) c.from_residual.ensures

pub returns-in_err-kind : goal.returns-in_err-kind
unfolding kind_line
returns-in_err-kind c = rw (← c.in_ok-end.ensures.value, ← c.in_err-kind.ensures) c.from_residual-in_err-kind.ensures

pub returns : goal.returns
unfolding kind_line
returns c = rw (← c.in_ok-end.ensures.value, ← c.in_ok-kind.ensures) refl
