-- Programs as a C64 keeps them, and what LIST shows of their lines.
use Rattle.std.specs.Prelude.{ℕ, ◌≢◌, ◌<◌, ◌+◌, ◌/◌, ◌%◌, Bool, false, List, [], ◌∷◌, ◌++◌, length}
use Rattle.cbm_basic.specs.Signs.{signs_of, quoted_after}
use Rattle.cbm_basic.specs.Lines.{number_signs}
use Rattle.cbm_basic.specs.declared.sign.Sign.{Sign}
use Rattle.cbm_basic.specs.declared.sign.Sign.TheVariants.{LineEnd}

-- a line of a program: its number, and the codes of its text
pub record BasicLine : Type 0 where
  pub number : ℕ
  pub codes : List ℕ

-- where the line begins that follows one of these codes at an address: after its link, its number, the codes and a 0
abbrev pub line_after : ℕ → List ℕ → ℕ
line_after at codes = at + 4 + length codes + 1

-- A PROGRAM of these lines from an address on, and what follows it: of each line the link to the next one, the number, the codes
-- and a 0, and in the end two zeros
abbrev pub kept_from : ℕ → List BasicLine → List ℕ → List ℕ
kept_from at [] more = 0 ∷ 0 ∷ more
kept_from at (line ∷ lines) more =
    line_after at line.codes % 256 ∷ line_after at line.codes / 256 ∷ line.number % 256 ∷ line.number / 256
    ∷ (line.codes ++ 0 ∷ kept_from (line_after at line.codes) lines more)

-- no code is 0, which ends a line
abbrev pub HasNoZero : List ℕ → Type 0
HasNoZero [] = Unit {0}
HasNoZero (code ∷ rest) = (code ≢ 0) × HasNoZero rest

-- lines that have room in 65,536 bytes from an address on
abbrev pub AreBasicLines : ℕ → List BasicLine → Type 0
AreBasicLines at [] = Unit {0}
AreBasicLines at (line ∷ lines) =
    (line.number < 65536) × HasNoZero line.codes × (line_after at line.codes < 65536) × AreBasicLines (line_after at line.codes) lines

-- what LIST shows of codes
abbrev pub code_signs : Bool → List ℕ → List Sign
code_signs quoted [] = []
code_signs quoted (code ∷ rest) = signs_of quoted code ++ code_signs (quoted_after quoted code) rest

-- what LIST shows of lines: of each the number, a space, the codes, and its end
abbrev pub lines_shown : List BasicLine → List Sign
lines_shown [] = []
lines_shown (line ∷ lines) = number_signs line.number ++ (code_signs false line.codes ++ (LineEnd ∷ lines_shown lines))
