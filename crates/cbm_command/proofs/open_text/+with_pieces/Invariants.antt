use Rattle.std.proofs.Common.{length}
use Rattle.cbm_command.proofs.open_text.+with_pieces.Given as goal

abbrev pub decreases-with_pieces : goal.decreases-with_pieces
decreases-with_pieces l = length l.text.now
