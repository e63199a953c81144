use Rattle.cbm_session.proofs.frames.Accepted.{listeners_accepted, drives_accepted}
use Rattle.cbm_session.proofs.laws.has_accepted.Goals as goal

pub returns : goal.returns
returns c = record { listeners = listeners_accepted; drives = drives_accepted }
