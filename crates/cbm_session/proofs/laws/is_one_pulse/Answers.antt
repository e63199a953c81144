use Rattle.cbm_session.proofs.frames.OnePulse.{one_pulse, pulse_ends}
use Rattle.cbm_session.proofs.laws.is_one_pulse.Goals as goal

pub returns : goal.returns
returns c = record { one = one_pulse; ends = pulse_ends }
