use Rattle.std.proofs.Common.{sym, ◌∙◌}
use Rattle.cbm_basic.proofs.LinkLemmas.{end-holds}
use Rattle.cbm_basic.proofs.links.links_hold.Goals as goal

pub returns : goal.returns
returns c = sym (end-holds c.lines.at c.lines.rest.now (sym c.lines-test.ensures)) ∙ c.lines.invariant.same
