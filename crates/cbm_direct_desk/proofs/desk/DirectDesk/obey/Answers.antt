use Rattle.cbm_direct_desk.specs.DirectDesks.{direct_desk_shows}
use Rattle.cbm_drive.proofs.Desks.{owes_next}
use Rattle.cbm_direct_desk.proofs.desk.DirectDesk.obey.Goals as goal

-- only what was said is owed
pub returns-in-Said-clause-owed : goal.returns-in-Said-clause-owed
returns-in-Said-clause-owed g c = λ e. (let next = owes_next c.args.act (direct_desk_shows c.args.self.now) e in c.said.ensures.next next.0 next.1)
