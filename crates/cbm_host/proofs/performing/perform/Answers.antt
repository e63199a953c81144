use Rattle.std.proofs.Common.{refl}
use Rattle.cbm_iec.specs.declared.pace.Pace.TheVariants.{Profile}
use Rattle.cbm_session.specs.Seats.{at_pace}
use Rattle.cbm_host.proofs.performing.perform.Goals as goal

pub returns-clause-carried_out : goal.returns-clause-carried_out
returns-clause-carried_out g c = λ u v ms drive device short bus. c.perform_at.ensures.carried_out u (at_pace Profile v) ms drive device refl short bus

pub returns-clause-recorded : goal.returns-clause-recorded
returns-clause-recorded g c = λ v drive device rest. c.perform_at.ensures.recorded (at_pace Profile v) drive device refl rest
