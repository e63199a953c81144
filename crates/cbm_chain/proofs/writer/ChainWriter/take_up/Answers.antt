use Rattle.std.proofs.Common.{rules}
use Rattle.cbm_chain.proofs.writer.ChainWriter.take_up.Goals as goal

pub returns : goal.returns
returns c = search rules
