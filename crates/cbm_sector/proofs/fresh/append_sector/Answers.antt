use Rattle.cbm_sector.proofs.Building.{sector_built}
use Rattle.cbm_sector.proofs.fresh.append_sector.Goals as goal

pub returns-clause-bits : goal.returns-clause-bits
returns-clause-bits c = sector_built c.args.out.now.items c.append.new.out.items c.append_header.new.out.items c.append-2.new.out.items c.append-3.new.out.items c.append-4.new.out.items c.append-5.new.out.items
    c.args.header.now c.args.block.now c.append.ensures.items c.append_header.ensures.bits c.append-2.ensures.items c.append-3.ensures.items c.append-4.ensures.items c.append-5.ensures.items
