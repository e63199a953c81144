-- A reader or a writer that is made again of its parts.
use Rattle.std.specs.Prelude.{ℕ, ◌-◌, ◌≤◌, ◌≡◌, List, length, Option, IfSome}
use Rattle.cbm_medium.specs.Place.{Place}

-- A reader may have these bytes and this link after them: at most 257 bytes, and at most one only where it has come to the end.
abbrev pub CanRead : List ℕ → Place → Type 0
CanRead bytes next = (length bytes ≤ 257) × (length bytes ≤ 1 → next.track ≡ 0)

-- a writer may fill this block, for which these bytes wait
abbrev pub CanWrite : ℕ → Option Place → List ℕ → Type 0
CanWrite tracks current waiting = (length waiting ≤ 254) × IfSome current (λ p. p.track ≤ tracks)
