use Rattle.cbm_chain.proofs.After.{alone_data, alone_zeros}
use Rattle.cbm_chain.proofs.writer.data_alone.Goals as goal

pub returns-clause-data : goal.returns-clause-data
returns-clause-data c = alone_data c.args.block.now c.fill.new.self c.args.end c.told-block c.requires.0 c.requires.1

pub returns-clause-zeros : goal.returns-clause-zeros
returns-clause-zeros c = alone_zeros c.args.block.now c.fill.new.self c.args.end _ c.told-block c.requires.1 (c.fill.ensures.after (λ y e. e))
