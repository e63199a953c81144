-- The words of a line, and the numbers in them.
use Rattle.std.specs.Prelude.{ℕ, ◌+◌, ◌-◌, ◌*◌, List, length, take, drop, fold, Bool, ◌&&◌, ◌==◌, nat_le, Option, Some, None, option_map, option_and_then, if◌then◌else◌, position}
use Rattle.std.specs.List.{list_all}

-- a number from low to high, both counted in
abbrev pub is_between : ℕ → ℕ → ℕ → Bool
is_between low high n = nat_le low n && nat_le n high

-- the code of a space
abbrev pub is_space : ℕ → Bool
is_space b = b == 32

-- the bytes before a place, or all
abbrev pub take_until : Option ℕ → List ℕ → List ℕ
take_until None bytes = bytes
take_until (Some at) bytes = take at bytes

-- what stands before the first space, or all
abbrev pub first_word : List ℕ → List ℕ
first_word bytes = take_until (position is_space bytes) bytes

-- what stands after the first space, if there is one
abbrev pub after_word : List ℕ → Option (List ℕ)
after_word bytes = option_map (λ at. drop (at + 1) bytes) (position is_space bytes)

-- the code of a decimal digit
abbrev pub is_decimal : ℕ → Bool
is_decimal b = is_between 48 57 b

-- the number that decimal digits are
abbrev pub decimal_value : List ℕ → ℕ
decimal_value digits = fold (λ n d. 10 * n + (d - 48)) 0 digits

-- a number of 1 to 16 digits
abbrev pub trace_number : List ℕ → Option ℕ
trace_number word = if is_between 1 16 (length word) && list_all is_decimal word then Some (decimal_value word) else None

-- the number, if it is at most so great
abbrev pub number_upto : ℕ → List ℕ → Option ℕ
number_upto high word = option_and_then (λ n. if nat_le n high then Some n else None) (trace_number word)
