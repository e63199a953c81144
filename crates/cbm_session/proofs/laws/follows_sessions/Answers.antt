use Rattle.cbm_session.proofs.alone.Sessions.{follows_sessions}
use Rattle.cbm_session.proofs.laws.follows_sessions.Goals as goal

pub returns : goal.returns
returns c = follows_sessions
