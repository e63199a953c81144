use Rattle.cbm_sources.specs.Lynxes.{lynx_header}
use Rattle.cbm_sources.proofs.lines.header_of.Goals as goal

pub returns-in_err-text_start : goal.returns-in_err-text_start
unfolding lynx_header
returns-in_err-text_start c = rw (← c.in_err-text_start.ensures) c.from_residual.ensures

pub returns : goal.returns
unfolding lynx_header
returns c = rw (← c.in_ok-text_start.ensures) c.header_at.ensures
