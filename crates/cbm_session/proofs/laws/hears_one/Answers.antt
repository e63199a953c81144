use Rattle.cbm_session.proofs.handed.OneHearing.{hears_one}
use Rattle.cbm_session.proofs.laws.hears_one.Goals as goal

pub returns : goal.returns
returns c = hears_one
