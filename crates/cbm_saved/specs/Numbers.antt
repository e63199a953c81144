-- Numbers as bytes, the low one first.
use Rattle.std.specs.Prelude.{ℕ, ◌+◌, ◌*◌, ◌/◌, ◌%◌, List, [], ◌∷◌, Option, Some, None}

-- a number as two bytes
abbrev pub two : ℕ → List ℕ
two n = n % 256 ∷ n / 256 ∷ []

-- the number of two bytes
abbrev pub number_of_two : ℕ → ℕ → ℕ
number_of_two low high = low + 256 * high

-- the number that begins some bytes, and what follows it; None where they are fewer than two
abbrev pub pair_at : List ℕ → Option (ℕ × List ℕ)
pair_at (low ∷ high ∷ rest) = Some (number_of_two low high, rest)
pair_at _ = None

-- a number as four bytes
abbrev pub four : ℕ → List ℕ
four n = n % 256 ∷ n / 256 % 256 ∷ n / 65536 % 256 ∷ n / 16777216 ∷ []

-- the number of four bytes
abbrev pub number_of_four : ℕ → ℕ → ℕ → ℕ → ℕ
number_of_four a b c d = a + 256 * b + 65536 * c + 16777216 * d

-- a number as eight_bytes bytes
abbrev pub eight_bytes : ℕ → List ℕ
eight_bytes n =
    n % 256 ∷ n / 256 % 256 ∷ n / 65536 % 256 ∷ n / 16777216 % 256
    ∷ n / 4294967296 % 256 ∷ n / 1099511627776 % 256 ∷ n / 281474976710656 % 256 ∷ n / 72057594037927936 ∷ []

-- the number of eight_bytes bytes, four by four
abbrev pub number_of_eight : ℕ → ℕ → ℕ → ℕ → ℕ → ℕ → ℕ → ℕ → ℕ
number_of_eight a b c d e f g h = number_of_four a b c d + 4294967296 * number_of_four e f g h

-- the number that begins some bytes, and what follows it; None where they are fewer than eight_bytes
abbrev pub eight_at : List ℕ → Option (ℕ × List ℕ)
eight_at (a ∷ b ∷ c ∷ d ∷ e ∷ f ∷ g ∷ h ∷ rest) = Some (number_of_eight a b c d e f g h, rest)
eight_at _ = None
