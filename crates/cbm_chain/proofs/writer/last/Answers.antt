use Rattle.cbm_chain.proofs.Filling.{last_is_block}
use Rattle.cbm_chain.proofs.writer.last.Goals as goal

pub returns-clause-block : goal.returns-clause-block
returns-clause-block c = last_is_block c.args.sector.now c.args.used c.told-sector c.requires.used.0 c.requires.used.1
