use Rattle.cbm_session.proofs.laws.keeps_loosely.Goals as goal
use Rattle.cbm_session.proofs.loose.Itself.{tidy_is_loose}
use Rattle.cbm_session.proofs.loose.Loosely.{keeps_loosely}

pub returns : goal.returns
returns g c = record {
  keeps = keeps_loosely g.D.Machine.State g.D.Machine.step g.D.Machine.says;
  tidy = tidy_is_loose g.D.Machine.State g.D.Machine.step g.D.Machine.says;
}
