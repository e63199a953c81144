-- The lines of a BASIC program, as LIST shows them.
use Rattle.std.specs.Prelude.{ℕ, ◌+◌, ◌*◌, ◌==◌, Bool, false, if◌then◌else◌, List, [], ◌∷◌, ◌++◌, drop, decimal}
use Rattle.cbm_basic.specs.Signs.{characters, signs_of, quoted_after}
use Rattle.cbm_basic.specs.declared.sign.Sign.{Sign}
use Rattle.cbm_basic.specs.declared.sign.Sign.TheVariants.{Character, LineEnd}

-- a line's number, and a space
abbrev pub number_signs : ℕ → List Sign
number_signs number = characters (decimal number) ++ (Character 32 ∷ [])

unfoldable mutual
  -- From the beginning of a line on: its link, its number, its text. A link whose second byte is 0 ends the program.
  pub listed_lines : List ℕ → List Sign
  listed_lines (first ∷ second ∷ low ∷ high ∷ rest) = if second == 0 then [] else number_signs (low + 256 * high) ++ listed_text false rest
  listed_lines _ = []

  -- From a place in a line's text on: a 0 ends the line, or the file does.
  pub listed_text : Bool → List ℕ → List Sign
  listed_text quoted [] = LineEnd ∷ []
  listed_text quoted (code ∷ rest) = if code == 0 then LineEnd ∷ listed_lines rest else signs_of quoted code ++ listed_text (quoted_after quoted code) rest

-- THE LISTING of a program: its load address isn't shown
abbrev pub basic_listing : List ℕ → List Sign
basic_listing program = listed_lines (drop 2 program)

unfoldable mutual
  -- What follows a program, from the beginning of a line on: all after the link that ends it. Nothing follows one that is cut off.
  pub after_basic : List ℕ → List ℕ
  after_basic (first ∷ second ∷ rest) = if second == 0 then rest else after_number rest
  after_basic _ = []

  -- The same from a line's number on.
  pub after_number : List ℕ → List ℕ
  after_number (low ∷ high ∷ rest) = after_text rest
  after_number _ = []

  -- The same from a place in a line's text on.
  pub after_text : List ℕ → List ℕ
  after_text [] = []
  after_text (code ∷ rest) = if code == 0 then after_basic rest else after_text rest

-- WHAT FOLLOWS a program in its file
abbrev pub after_program : List ℕ → List ℕ
after_program program = after_basic (drop 2 program)
