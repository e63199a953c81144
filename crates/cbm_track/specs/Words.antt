-- Eight bytes of a circle as one number.
use Rattle.std.specs.Prelude.{ℕ, ◌≡◌, ◌<◌, ◌+◌, ◌*◌, ◌-◌, ◌%◌, List, [], ◌∷◌, Bool, ◌==◌, length, slice_index}
use Rattle.std.specs.Int.{bit_at}
use Rattle.cbm_track.specs.Circle.{circle_bit}

-- bytes as the digits of a number that begins with another, the highest first
abbrev pub number_from : ℕ → List ℕ → ℕ
number_from front [] = front
number_from front (byte ∷ bytes) = number_from (front * 256 + byte) bytes

-- the byte at a place of a circle of bytes
abbrev pub round_byte : List ℕ → ℕ → ℕ
round_byte xs i = slice_index xs (i % length xs)

-- the eight bytes from a place of a circle of bytes on
unfoldable pub eight : List ℕ → ℕ → List ℕ
eight xs i = round_byte xs i ∷ round_byte xs (i + 1) ∷ round_byte xs (i + 2) ∷ round_byte xs (i + 3) ∷ round_byte xs (i + 4) ∷ round_byte xs (i + 5) ∷ round_byte xs (i + 6) ∷ round_byte xs (i + 7) ∷ []

-- where this many ones stand from a bit of a number up, another number has a one
abbrev pub Marks : ℕ → ℕ → ℕ → Type 0
Marks word marks n = (i : ℕ) → ((k : ℕ) → k < n → bit_at word (i + k) ≡ 1) → bit_at marks i ≡ 1

-- the highest bits of a number are those from a place of a circle on, up to the end of the eighth byte
abbrev pub IsWindow : List Bool → ℕ → ℕ → Type 0
IsWindow track place word = (j : ℕ) → j < 64 - place % 8 → (bit_at word (63 - j) == 1) ≡ circle_bit track (place + j)
