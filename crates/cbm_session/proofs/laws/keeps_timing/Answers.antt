use Rattle.cbm_session.proofs.laws.keeps_timing.Goals as goal
use Rattle.cbm_session.proofs.timing.KeepsTiming.{fronts_keep, fronts_in_time}

pub returns : goal.returns
returns c = record { host = fronts_keep; drives = fronts_in_time }
