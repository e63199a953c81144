-- Names that are filled up with $A0 to their sixteen bytes.
use Rattle.std.specs.Prelude.{ℕ, ◌-◌, ◌==◌, List, [], ◌∷◌, ◌++◌, length, replicate, if◌then◌else◌}

-- a name ends before the first $A0
abbrev pub before_filler : List ℕ → List ℕ
before_filler [] = []
before_filler (c ∷ name) = if c == 160 then [] else c ∷ before_filler name

-- a name of at most sixteen bytes, filled up
abbrev pub padded : List ℕ → List ℕ
padded name = name ++ replicate (16 - length name) 160
