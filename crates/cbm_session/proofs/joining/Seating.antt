-- A drive's seat among the seats of a bus.
use Rattle.std.specs.Prelude.{◌≡◌, ◌⊎◌, ℕ, true, false, List, [], ◌∷◌, nat_eq}
use Rattle.cbm_session.specs.Seats.{Seat, device}

-- other drives; and drive d with this seat among them
abbrev pub Apart : ℕ → List Seat → Type 0
Apart d [] = Unit {0}
Apart d (x ∷ xs) = (nat_eq d (device x) ≡ false) × Apart d xs

abbrev pub Sits : ℕ → List Seat → Seat → Type 0
Sits d [] s = ⊥
Sits d (x ∷ xs) s = ((x ≡ s) × (nat_eq d (device x) ≡ true) × Apart d xs) ⊎ ((nat_eq d (device x) ≡ false) × Sits d xs s)
