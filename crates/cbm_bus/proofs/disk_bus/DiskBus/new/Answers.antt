use Rattle.cbm_bus.proofs.Rests.{rests}
use Rattle.cbm_bus.proofs.disk_bus.DiskBus.new.Goals as goal

pub returns-clause-rests : goal.returns-clause-rests
returns-clause-rests g c = λ bs ms powered. rests g.M.Medium.seen ms bs c.new.result c.args.drives c.new.ensures.drives c.new.ensures.host powered
