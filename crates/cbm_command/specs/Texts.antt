-- The bytes and the parts of a text.
use Rattle.std.specs.Prelude.{ℕ, ◌==◌, nat_le, Bool, false, ◌&&◌, ◌||◌, List, [], ◌∷◌, if◌then◌else◌}

-- what parts pieces and names
abbrev pub comma : ℕ
comma = 44

-- what ends a head
abbrev pub colon : ℕ
colon = 58

-- what stands between a new name and old ones
abbrev pub equals : ℕ
equals = 61

-- before a name: its file is to be replaced
abbrev pub at_sign : ℕ
at_sign = 64

-- the number of the one drive that there is
abbrev pub drive_digit : ℕ
drive_digit = 48

-- a digit 0 to 9
abbrev pub is_digit : ℕ → Bool
is_digit c = nat_le 48 c && nat_le c 57

-- a letter A to Z
abbrev pub is_letter : ℕ → Bool
is_letter c = nat_le 65 c && nat_le c 90

-- the part before the first such byte; all where there is none
abbrev pub before_byte : ℕ → List ℕ → List ℕ
before_byte c [] = []
before_byte c (x ∷ text) = if x == c then [] else x ∷ before_byte c text

-- what follows the first such byte; nothing where there is none
abbrev pub after_byte : ℕ → List ℕ → List ℕ
after_byte c [] = []
after_byte c (x ∷ text) = if x == c then text else after_byte c text

-- whether such a byte stands in the text
abbrev pub holds_byte : ℕ → List ℕ → Bool
holds_byte c [] = false
holds_byte c (x ∷ text) = (x == c) || holds_byte c text

-- the byte goes before the first part
abbrev pub add_to_first : ℕ → List (List ℕ) → List (List ℕ)
add_to_first c [] = (c ∷ []) ∷ []
add_to_first c (p ∷ ps) = (c ∷ p) ∷ ps

-- the parts between such bytes; at least one
abbrev pub parts_at : ℕ → List ℕ → List (List ℕ)
parts_at c [] = [] ∷ []
parts_at c (x ∷ text) = if x == c then [] ∷ parts_at c text else add_to_first x (parts_at c text)
