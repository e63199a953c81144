use Rattle.cbm_chain.proofs.After.{alone_zeros}
use Rattle.cbm_relfile.proofs.growth.growing.cut_at.Goals as goal

pub returns-clause-zeros : goal.returns-clause-zeros
returns-clause-zeros c = alone_zeros c.args.sector.now c.fill.new.self c.args.place _ c.told-sector c.requires (c.fill.ensures.after (λ y e. e))
