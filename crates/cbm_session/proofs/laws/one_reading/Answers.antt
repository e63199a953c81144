use Rattle.cbm_session.proofs.laws.one_reading.Goals as goal
use Rattle.cbm_session.proofs.reading.OneReading.{one_reading_lem}

pub returns : goal.returns
returns c = one_reading_lem
