-- Names of files as text, as they are shown and typed.
use Rattle.std.specs.Prelude.{ℕ, ◌+◌, ◌*◌, ◌/◌, ◌%◌, ◌==◌, nat_lt, ◌&&◌, if◌then◌else◌, List, [], ◌∷◌, ◌++◌, Option, Some, None}
use Rattle.std.specs.Char.{digit_char, digit_value}
use Rattle.std.specs.Str.{encode_utf8_all}
use Rattle.cbm_shell.specs.declared.texts.petscii.Charset.{Charset}
use Rattle.cbm_shell.specs.Petscii.{key_of, code_of}

-- ---- as it is shown

-- a code by its number: two digits to the base 16 between braces
abbrev pub numbered : ℕ → List ℕ
numbered code = 123 ∷ digit_char (code / 16) ∷ digit_char (code % 16) ∷ 125 ∷ []

-- a code: the character of its key, or else its number
abbrev pub code_written : Charset → ℕ → List ℕ
code_written charset code = if key_of charset code == 123 then numbered code else key_of charset code ∷ []

-- the same in UTF-8
abbrev pub shown_as : Charset → ℕ → List ℕ
shown_as charset code = encode_utf8_all (code_written charset code)

-- A NAME AS TEXT, in UTF-8
unfoldable pub name_text : Charset → List ℕ → List ℕ
name_text charset [] = []
name_text charset (code ∷ rest) = shown_as charset code ++ name_text charset rest

-- ---- as it is typed

-- the code of two digits to the base 16, small or capital
abbrev pub byte_of_digits : ℕ → ℕ → Option ℕ
byte_of_digits high low =
    if nat_lt (digit_value high) 16 && nat_lt (digit_value low) 16 then Some (16 * digit_value high + digit_value low) else None

-- a code before others; None where one of them can't be read
abbrev pub with_code : Option ℕ → Option (List ℕ) → Option (List ℕ)
with_code None codes = None
with_code (Some code) None = None
with_code (Some code) (Some codes) = Some (code ∷ codes)

unfoldable mutual
  -- THE CODES of a text, character by character: `{` begins a number, any other is a key's; None where a character is no key's
  -- or a number isn't whole
  pub codes_of : Charset → List ℕ → Option (List ℕ)
  codes_of charset [] = Some []
  codes_of charset (first ∷ rest) = if first == 123 then number_in charset rest else with_code (code_of charset first) (codes_of charset rest)

  -- from after the brace of a number on
  pub number_in : Charset → List ℕ → Option (List ℕ)
  number_in charset (high ∷ low ∷ brace ∷ rest) = if brace == 125 then with_code (byte_of_digits high low) (codes_of charset rest) else None
  number_in charset _ = None
