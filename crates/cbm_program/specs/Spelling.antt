-- How lines and texts are written, so that they read back.
use Rattle.std.specs.Prelude.{◌≡◌, ◌≢◌, ℕ, ◌<◌, ◌/◌, ◌%◌, List, [], ◌∷◌, ◌++◌, true}
use Rattle.std.specs.List.{All}
use Rattle.cbm_program.specs.Scripts.{hex_digit}
use Rattle.cbm_program.specs.Texts.{is_plain}

-- each line with its end
abbrev pub ended_lines : List (List ℕ) → List ℕ
ended_lines [] = []
ended_lines (line ∷ lines) = line ++ 10 ∷ ended_lines lines

-- no byte of the line is 10
abbrev pub IsLine : List ℕ → Type 0
IsLine line = All (λ b. b ≢ 10) line

-- each of them is one line: none has the byte that ends a line
abbrev pub AreLines : List (List ℕ) → Type 0
AreLines lines = All IsLine lines

-- each byte as a backslash and two digits
abbrev pub escapes : List ℕ → List ℕ
escapes [] = []
escapes (b ∷ bytes) = 92 ∷ hex_digit (b / 16) ∷ hex_digit (b % 16) ∷ escapes bytes

-- each number is that of a byte
abbrev pub AreByteValues : List ℕ → Type 0
AreByteValues bytes = All (λ b. b < 256) bytes

-- each byte is written as itself: $20 to $7E but the backslash
abbrev pub ArePlain : List ℕ → Type 0
ArePlain bytes = All (λ b. (b ≢ 92) × (is_plain b ≡ true)) bytes
