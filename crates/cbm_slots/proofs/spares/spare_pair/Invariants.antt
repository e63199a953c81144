use Rattle.std.proofs.Common.{ℕ, ◌≡◌, ◌<◌, ◌≤◌, ◌⊎◌, ◌+◌, ◌*◌, ◌-◌, true}
use Rattle.cbm_slots.specs.InSlots.{has_name, spare_of}
use Rattle.cbm_slots.proofs.spares.spare_pair.Given as goal

abbrev pub invariant-pairs : goal.invariant-pairs
invariant-pairs l = (l.number ≤ 72) × ((n : ℕ) → n < l.number → (has_name (spare_of (2 * n)) l.entries ≡ true) ⊎ (has_name (spare_of (2 * n + 1)) l.entries ≡ true))

abbrev pub decreases-pairs : goal.decreases-pairs
decreases-pairs l = 72 - l.number
