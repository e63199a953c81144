use Rattle.cbm_session.proofs.laws.goes_on.Goals as goal
use Rattle.cbm_session.proofs.timing.SessionOrder.{goes_on}

pub returns : goal.returns
returns c = goes_on
