-- A directory as the drive sends it, as readable text.
use Rattle.std.specs.Prelude.{ℕ, ◌+◌, ◌-◌, ◌*◌, List, [], ◌∷◌, ◌++◌, drop, codes, decimal, ◌==◌, ◌&&◌, Bool, if◌then◌else◌}
use Rattle.cbm_shell.specs.declared.texts.petscii.Charset.{Charset}
use Rattle.cbm_shell.specs.Names.{shown_as}

-- the first code of a line's text: that for reverse letters, with which the title begins, isn't shown
abbrev pub opened_as : Charset → ℕ → List ℕ
opened_as charset code = if code == 18 then [] else shown_as charset code

-- whether a code ends a line's text of which this many codes are still sure to come
abbrev pub ends : ℕ → ℕ → Bool
ends left code = (left == 0) && (code == 0)

unfoldable mutual
  -- From the beginning of a line on: its link, its number, its text. A link whose second code is 0 ends the lines, as LIST sees it.
  pub readable_lines : Charset → List ℕ → List ℕ
  readable_lines charset (first ∷ second ∷ low ∷ high ∷ rest) = if second == 0 then [] else decimal (low + 256 * high) ++ codes " " ++ opening charset rest
  readable_lines charset _ = []

  -- From the beginning of a line's text on, which has at least 25 codes.
  pub opening : Charset → List ℕ → List ℕ
  opening charset [] = codes "\n"
  opening charset (code ∷ rest) = opened_as charset code ++ text charset 24 rest

  -- From a place in a line's text on: a 0 ends the line, but for the codes that are sure to come, as a name may have it.
  pub text : Charset → ℕ → List ℕ → List ℕ
  text charset left [] = codes "\n"
  text charset left (code ∷ rest) = if ends left code then codes "\n" ++ readable_lines charset rest else shown_as charset code ++ text charset (left - 1) rest

-- the lines after the load address
abbrev pub readable : Charset → List ℕ → List ℕ
readable charset bytes = readable_lines charset (drop 2 bytes)
