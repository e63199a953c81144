use Rattle.cbm_session.proofs.handed.Handed.{hands_each}
use Rattle.cbm_session.proofs.laws.hands_each.Goals as goal

pub returns : goal.returns
returns g c = hands_each g.D.Machine.State g.D.Machine.step g.D.Machine.says
