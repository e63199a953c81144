use Rattle.cbm_session.proofs.among.Sessions.{follows_buses}
use Rattle.cbm_session.proofs.laws.follows_buses.Goals as goal

pub returns : goal.returns
returns c = follows_buses
