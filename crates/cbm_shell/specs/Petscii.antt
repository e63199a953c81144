-- The keys of a C64 and the characters that they type.
use Rattle.std.specs.Prelude.{ℕ, zero, suc, ◌+◌, ◌/◌, ◌%◌, ◌==◌, if◌then◌else◌, List, [], Option, Some, None, slice_index, slice_index_or}
use Rattle.std.specs.Char.{to_ascii_uppercase}
use Rattle.cbm_shell.specs.declared.texts.petscii.Charset.{Charset}
use Rattle.cbm_shell.specs.declared.texts.petscii.Charset.TheVariants.{Upper, Lower}
use Rattle.cbm_shell.specs.declared.texts.petscii.TheConstants.{TABLE, LOWER_TABLE}

-- what a table of eight rows has for a code
abbrev pub cell : List (List ℕ) → ℕ → ℕ
cell table code = slice_index (slice_index_or table (code / 32) []) (code % 32)

-- THE KEY of a code in a character set: its character, or `{` where the code is written by its number
unfoldable pub key_of : Charset → ℕ → ℕ
key_of Upper code = cell TABLE code
key_of Lower code = cell LOWER_TABLE code

-- a letter as it is meant: at power up small letters are letters, too
abbrev pub cased : Charset → ℕ → ℕ
cased Upper shown = to_ascii_uppercase shown
cased Lower shown = shown

-- the character of the key that is meant: `_` is ▁, the line at the foot of its cell
abbrev pub typed : Charset → ℕ → ℕ
typed charset shown = if shown == 95 then 9601 else cased charset shown

-- the first of this many codes from one on whose key has the character
unfoldable pub code_from : Charset → ℕ → ℕ → ℕ → Option ℕ
code_from charset key zero code = None
code_from charset key (suc left) code =
    let later = code_from charset key left (code + 1) in if key_of charset code == key then Some code else later

-- THE CODE that a character types
abbrev pub code_of : Charset → ℕ → Option ℕ
code_of charset shown = code_from charset (typed charset shown) 256 0
