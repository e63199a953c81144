use Rattle.cbm_session.proofs.alone.Pieces.{follows_pieces}
use Rattle.cbm_session.proofs.laws.follows_pieces.Goals as goal

pub returns : goal.returns
returns c = follows_pieces
