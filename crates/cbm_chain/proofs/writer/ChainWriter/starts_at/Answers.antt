use Rattle.std.proofs.Common.{refl, arith}
use Rattle.cbm_chain.proofs.Filling.{zeros_at}
use Rattle.cbm_chain.proofs.writer.ChainWriter.starts_at.Goals as goal

pub invariant_of-result : goal.invariant_of-result
invariant_of-result c = (omega arith, omega arith, refl, c.requires, λ i h. zeros_at 256 i)
