-- The links between the lines of a BASIC program.
use Rattle.std.specs.Prelude.{ℕ, ◌+◌, ◌*◌, ◌==◌, Bool, true, false, ◌&&◌, if◌then◌else◌, List, [], ◌∷◌}

-- a link whose second byte is 0 ends the program
abbrev pub is_end : List ℕ → Bool
is_end (low ∷ high ∷ rest) = high == 0
is_end _ = false

unfoldable mutual
  -- Whether each link is the address of the next line, from a line at an address on, up to the program's end.
  pub links_hold : ℕ → List ℕ → Bool
  links_hold at (low ∷ high ∷ rest) = if high == 0 then true else number_holds at (low + 256 * high) rest
  links_hold at _ = false

  -- The same from a line's number on.
  pub number_holds : ℕ → ℕ → List ℕ → Bool
  number_holds at link (low ∷ high ∷ rest) = text_holds (at + 4) link rest
  number_holds at link _ = false

  -- The same from a place in a line's text on, which a 0 ends.
  pub text_holds : ℕ → ℕ → List ℕ → Bool
  text_holds at link [] = false
  text_holds at link (code ∷ rest) = if code == 0 then (link == at + 1) && links_hold (at + 1) rest else text_holds (at + 1) link rest

-- A BASIC PROGRAM of a C64: it is loaded at $0801 (2049), and each of its links holds
abbrev pub is_program : List ℕ → Bool
is_program (low ∷ high ∷ rest) = (low == 1) && ((high == 8) && links_hold 2049 rest)
is_program _ = false
