use Rattle.cbm_sector.proofs.Building.{header_built}
use Rattle.cbm_sector.proofs.fresh.append_header.Goals as goal

pub returns-clause-bits : goal.returns-clause-bits
returns-clause-bits c = header_built c.args.out.now.items c.append.new.out.items c.append-2.new.out.items c.encode4.result c.encode4-2.result c.args.header.now
    c.append.ensures.items c.append-2.ensures.items c.told-header c.encode4.ensures c.encode4-2.ensures
