-- Files of the emulator PC64 (their names end in P00, S00, U00 and so on): a head of 26 bytes before the file's own.
use Rattle.std.specs.Prelude.{ℕ, ◌≡◌, ◌==◌, ◌&&◌, nat_lt, not, if◌then◌else◌, Bool, List, [], ◌∷◌, ◌++◌, codes, length, take, drop, slice_index, slice_range}
use Rattle.std.specs.Str.{bytes_eq}

-- the head begins with C64File and a 0
abbrev pub is_wrapped : List ℕ → Bool
is_wrapped file = not (nat_lt (length file) 26) && bytes_eq (take 8 file) (codes "C64File" ++ 0 ∷ [])

-- a name without the zeros that fill it up
abbrev pub before_zero : List ℕ → List ℕ
before_zero [] = []
before_zero (code ∷ rest) = if code == 0 then [] else code ∷ before_zero rest

-- THE FILE in its head's words: a name in 16 bytes, a 0, the length of the records of a relative file; then the file's bytes.
pub record IsUnwrapped (file name : List ℕ) (record_length : ℕ) (bytes : List ℕ) : Type 0 where
  pub name_is : name ≡ before_zero (slice_range file 8 24)
  pub length_is : record_length ≡ slice_index file 25
  pub bytes_are : bytes ≡ drop 26 file
