-- Texts as bytes: how many there are, and they themselves.
use Rattle.std.specs.Prelude.{ℕ, nat_lt, List, [], ◌∷◌, ◌++◌, length, take, drop, Option, Some, None, if◌then◌else◌}
use Rattle.cbm_saved.specs.Numbers.{two, number_of_two}

-- the bytes of a text of at most 65,535
abbrev pub counted_text : List ℕ → List ℕ
counted_text bytes = two (length bytes) ++ bytes

-- the text of a length that begins some bytes, and what follows it; None where they are fewer
abbrev pub front_of : ℕ → List ℕ → Option (List ℕ × List ℕ)
front_of count bytes = if nat_lt (length bytes) count then None else Some (take count bytes, drop count bytes)

-- the text that begins some bytes, and what follows it; None where they are too few
abbrev pub text_at : List ℕ → Option (List ℕ × List ℕ)
text_at (low ∷ high ∷ rest) = front_of (number_of_two low high) rest
text_at _ = None
