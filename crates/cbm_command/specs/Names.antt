-- Names and patterns.
use Rattle.std.specs.Prelude.{ℕ, ◌==◌, Bool, true, false, ◌&&◌, ◌||◌, List, [], ◌∷◌, take, length}
use Rattle.std.specs.List.{list_any}
use Rattle.cbm_command.specs.Texts.{before_byte}

-- in a pattern: all that follows
abbrev pub asterisk : ℕ
asterisk = 42

-- in a pattern: any one byte
abbrev pub question_mark : ℕ
question_mark = 63

-- what fills a name of fewer than sixteen bytes on the disk
abbrev pub filler : ℕ
filler = 0xa0

-- `*` matches the rest and ends the pattern, `?` matches one byte that is there, any other byte itself.
abbrev pub is_match : List ℕ → List ℕ → Bool
is_match [] [] = true
is_match [] (c ∷ name) = false
is_match (p ∷ pattern) [] = p == asterisk
is_match (p ∷ pattern) (c ∷ name) = (p == asterisk) || (((p == question_mark) || (p == c)) && is_match pattern name)

-- a name as it is meant: cut at its first filler and to sixteen bytes
abbrev pub name_of : List ℕ → List ℕ
name_of text = take 16 (before_byte filler text)

-- no byte is left of it
abbrev pub is_empty : List ℕ → Bool
is_empty name = length name == 0

-- it is a pattern that may match several names
abbrev pub is_wild : List ℕ → Bool
is_wild name = list_any (λ c. (c == asterisk) || (c == question_mark)) name
