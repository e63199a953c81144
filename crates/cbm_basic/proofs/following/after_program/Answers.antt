use Rattle.std.proofs.Common.{sym, ◌∙◌}
use Rattle.cbm_basic.proofs.following.after_program.Goals as goal

pub returns : goal.returns
returns c = sym (c.after_link.ensures (sym c.lines-test.ensures)) ∙ c.lines.invariant
