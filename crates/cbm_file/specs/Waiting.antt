-- The byte that waits, of the bytes that are left to be read.
use Rattle.std.specs.Prelude.{ℕ, List, [], ◌∷◌, Bool, true, false, Option, Some, None}

-- the first of these bytes, and whether it is the last
abbrev pub next_shown : List ℕ → Option (ℕ × Bool)
next_shown [] = None
next_shown (byte ∷ []) = Some (byte, true)
next_shown (byte ∷ more ∷ rest) = Some (byte, false)
