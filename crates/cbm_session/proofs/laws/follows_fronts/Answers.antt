use Rattle.cbm_session.proofs.alone.Fronts.{follows_fronts}
use Rattle.cbm_session.proofs.laws.follows_fronts.Goals as goal

pub returns : goal.returns
returns c = follows_fronts
