use Rattle.std.proofs.Common.{sym, ◌∙◌}
use Rattle.cbm_command.proofs.Pieces.{pieces_last}
use Rattle.cbm_command.proofs.open_text.+with_pieces.Goals as goal

-- the last piece
pub returns-else-contains : goal.returns-else-contains
returns-else-contains t c = pieces_last c.args.text.now c.before_first-piece.result.now c.args.wanted c.in_ok-wanted.wanted
    c.before_first-piece.ensures c.in_ok-wanted.ensures
    (sym c.is_length_piece.ensures ∙ c.if-is_length_piece.false) (sym c.contains.ensures ∙ c.if-contains.false)
