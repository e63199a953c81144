use Rattle.std.proofs.Common.{◌∙◌, sym}
use Rattle.cbm_sources.specs.Lynxes.{last_byte_line}
use Rattle.cbm_sources.proofs.lines.last_line.Goals as goal

pub returns-then-not-is_relative : goal.returns-then-not-is_relative
unfolding last_byte_line
returns-then-not-is_relative c = rw (sym c.is_relative.ensures ∙ c.if-not-is_relative.true) c.number_line.ensures

pub returns-in_err-width : goal.returns-in_err-width
unfolding last_byte_line
returns-in_err-width c = rw (sym c.is_relative.ensures ∙ c.if-not-is_relative.false, ← c.in_err-width.ensures) c.from_residual.ensures

pub returns : goal.returns
unfolding last_byte_line
returns c = rw (sym c.is_relative.ensures ∙ c.if-not-is_relative.false, ← c.in_ok-width.ensures) c.number_line-3.ensures
