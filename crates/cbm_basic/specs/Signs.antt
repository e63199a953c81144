-- What LIST shows for a code.
use Rattle.std.specs.Prelude.{ℕ, ◌==◌, nat_lt, Bool, true, false, not, if◌then◌else◌, List, [], ◌∷◌, Option, Some, None}
use Rattle.cbm_basic.specs.Words.{word_row}
use Rattle.cbm_basic.specs.declared.sign.Sign.{Sign}
use Rattle.cbm_basic.specs.declared.sign.Sign.TheVariants.{Character, NoWord}

-- the characters of codes
unfoldable pub characters : List ℕ → List Sign
characters [] = []
characters (code ∷ rest) = Character code ∷ characters rest

-- the letters of a row of the table of words, which spaces fill up
unfoldable pub letters : List ℕ → List Sign
letters [] = []
letters (letter ∷ rest) = if letter == 32 then [] else Character letter ∷ letters rest

-- the word of a row; the code itself, marked, where no row is a word's
abbrev pub word_signs : ℕ → Option (List ℕ) → List Sign
word_signs code None = NoWord code ∷ []
word_signs code (Some row) = letters row

-- WHAT LIST SHOWS FOR A CODE. Within quotation marks each code is a character. Outside of them the codes from 128 on are tokens: of
-- words, or 255 of π, whose key types 222.
abbrev pub signs_of : Bool → ℕ → List Sign
signs_of true code = Character code ∷ []
signs_of false code =
    if nat_lt code 128 then Character code ∷ []
    else if code == 255 then Character 222 ∷ []
    else word_signs code (word_row code)

-- a quotation mark begins what is quoted, or ends it
abbrev pub quoted_after : Bool → ℕ → Bool
quoted_after quoted code = if code == 34 then not quoted else quoted
