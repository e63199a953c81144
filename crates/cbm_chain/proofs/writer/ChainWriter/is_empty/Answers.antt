use Rattle.std.proofs.Common.{ap, ◌∙◌}
use Rattle.cbm_chain.specs.Writing.{has_no_byte}
use Rattle.cbm_chain.proofs.Filling.{none_waits}
use Rattle.cbm_chain.proofs.writer.ChainWriter.is_empty.Goals as goal

pub returns-then-self-lt2 : goal.returns-then-self-lt2
returns-then-self-lt2 c =
    none_waits c.self.inside.sector c.self.inside.used c.self.inside.count c.self.invariant.2 c.self.invariant.0 c.self.invariant.1 c.if-self-lt2.true ∙ ap has_no_byte c.self.view_is
