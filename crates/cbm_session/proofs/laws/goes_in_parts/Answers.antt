use Rattle.cbm_session.proofs.frames.Phases.{commands_go_in_parts, bytes_go_in_parts}
use Rattle.cbm_session.proofs.laws.goes_in_parts.Goals as goal

pub returns : goal.returns
returns c = record { commands = commands_go_in_parts; bytes = bytes_go_in_parts }
