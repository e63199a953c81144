use Rattle.std.proofs.Common.{ℕ, ◌≡◌, ◌<◌, ◌≤◌, ◌-◌, true}
use Rattle.cbm_slots.specs.InSlots.{has_name, spare_of}
use Rattle.cbm_slots.proofs.spares.spare_name.Given as goal

abbrev pub invariant-names : goal.invariant-names
invariant-names l = (l.number ≤ 144) × ((n : ℕ) → n < l.number → has_name (spare_of n) l.entries ≡ true)

abbrev pub decreases-names : goal.decreases-names
decreases-names l = 144 - l.number
