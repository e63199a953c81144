use Rattle.cbm_session.proofs.headline.LawsMet.{keeps}
use Rattle.cbm_session.proofs.laws.keeps_sessions.Goals as goal

pub returns : goal.returns
returns g c = keeps g.D.Machine.State g.D.Machine.step g.D.Machine.says
