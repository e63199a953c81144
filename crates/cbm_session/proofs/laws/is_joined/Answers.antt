use Rattle.cbm_session.proofs.joining.Parts.{joins, only_join}
use Rattle.cbm_session.proofs.laws.is_joined.Goals as goal

pub returns : goal.returns
returns c = record { joins = joins; only = only_join }
