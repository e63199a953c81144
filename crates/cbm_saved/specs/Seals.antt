-- A seal: a mark with its version, how many bytes follow, and their checksum.
use Rattle.std.specs.Prelude.{ℕ, ◌+◌, ◌*◌, ◌%◌, ◌&&◌, ◌==◌, Bool, List, [], ◌∷◌, ◌++◌, length, Option, Some, None, if◌then◌else◌}
use Rattle.cbm_saved.specs.Numbers.{four, number_of_four}

-- one byte more: another byte makes another number, and so does another number before it
abbrev pub mixed_with : ℕ → ℕ → ℕ
mixed_with sum byte = (sum * 65599 + byte + 1) % 4294967291

-- the bytes mixed into a number, from the first on
abbrev pub mixed : ℕ → List ℕ → ℕ
mixed sum [] = sum
mixed sum (byte ∷ rest) = mixed (mixed_with sum byte) rest

-- the checksum of some bytes
abbrev pub checksum : List ℕ → ℕ
checksum bytes = mixed 0 bytes

-- the mark, `1541`, and the version
abbrev pub seal_mark : ℕ → List ℕ
seal_mark version = 49 ∷ 53 ∷ 52 ∷ 49 ∷ version ∷ []

-- SOME BYTES UNDER THE SEAL of a version
abbrev pub sealed : ℕ → List ℕ → List ℕ
sealed version body = seal_mark version ++ four (length body) ++ four (checksum body) ++ body

-- four bytes are the mark
abbrev pub is_mark : ℕ → ℕ → ℕ → ℕ → Bool
is_mark m n o p = (m == 49) && ((n == 53) && ((o == 52) && (p == 49)))

-- so many bytes with such a checksum
abbrev pub is_whole : ℕ → ℕ → List ℕ → Bool
is_whole count sum body = (length body == count) && (checksum body == sum)

-- what the seal of a version holds; None where it is broken, or another version's
abbrev pub seal_opened : ℕ → List ℕ → Option (List ℕ)
seal_opened version (m ∷ n ∷ o ∷ p ∷ other ∷ a ∷ b ∷ c ∷ d ∷ e ∷ f ∷ g ∷ h ∷ body) =
    if is_mark m n o p && ((other == version) && is_whole (number_of_four a b c d) (number_of_four e f g h) body) then Some body else None
seal_opened version _ = None
