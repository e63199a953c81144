-- The pieces of a text, one at a time.
use Rattle.std.proofs.Common.{◌≡◌, ℕ, true, false, List, ◌∷◌, ap, sym, ◌∙◌, Ok, Err}
use Rattle.std.specs.Prelude.{slice_index_or}
use Rattle.cbm_command.specs.declared.refusal.Refusal.{Refusal}
use Rattle.cbm_command.specs.declared.opening.Wanted.{Wanted}
use Rattle.cbm_command.specs.Texts.{comma, before_byte, after_byte, holds_byte, parts_at}
use Rattle.cbm_command.specs.Openings.{with_piece, with_pieces, is_length_piece}
use Rattle.cbm_command.proofs.Parts.{more_parts, parts_at-cut, first_byte-more_parts}

-- a piece and those after it, by the text
cut : (text : List ℕ) (w : Wanted) → with_pieces (parts_at comma text) w ≡ with_pieces (before_byte comma text ∷ more_parts comma text) w
cut text w = ap (λ ps. with_pieces ps w) (parts_at-cut comma text)

-- a piece that is refused
pub pieces_refused : (text : List ℕ) (w : Wanted) (e : Refusal) → with_piece (before_byte comma text) w ≡ Err e →
    with_pieces (parts_at comma text) w ≡ Err e
pieces_refused text w e h = cut text w ∙ rw h

-- the record length after L
pub pieces_length : (text : List ℕ) (w v : Wanted) → with_piece (before_byte comma text) w ≡ Ok v → is_length_piece (before_byte comma text) ≡ true →
    with_pieces (parts_at comma text) w ≡ Ok (record v { record_length = slice_index_or (after_byte comma text) 0 0 })
pieces_length text w v h l = cut text w ∙ rw (h, l, first_byte-more_parts text)

-- a piece after which others stand
pub pieces_more : (text : List ℕ) (w v : Wanted) → with_piece (before_byte comma text) w ≡ Ok v → is_length_piece (before_byte comma text) ≡ false →
    holds_byte comma text ≡ true → with_pieces (parts_at comma text) w ≡ with_pieces (parts_at comma (after_byte comma text)) v
pieces_more text w v h l more = cut text w ∙ rw (h, l, more)

-- the last piece
pub pieces_end : (text : List ℕ) (w v : Wanted) → with_piece (before_byte comma text) w ≡ Ok v → is_length_piece (before_byte comma text) ≡ false →
    holds_byte comma text ≡ false → with_pieces (parts_at comma text) w ≡ Ok v
pieces_end text w v h l more = cut text w ∙ rw (h, l, more)

-- the same, of a piece that is known by its value
pub pieces_last : (text piece : List ℕ) (w v : Wanted) → piece ≡ before_byte comma text → Ok v ≡ with_piece piece w → is_length_piece piece ≡ false →
    holds_byte comma text ≡ false → Ok v ≡ with_pieces (parts_at comma text) w
pieces_last text piece w v b h l m = sym (pieces_end text w v (sym (h ∙ ap (λ p. with_piece p w) b)) (ap is_length_piece (sym b) ∙ l) m)
