use Rattle.std.proofs.Common.{◌≡◌, ◌≤◌, ◌-◌, length, drop}
use Rattle.cbm_slots.specs.InSlots.{has_name}
use Rattle.cbm_slots.proofs.copying.place_of.Given as goal

abbrev pub invariant-entries : goal.invariant-entries
invariant-entries l = (l.slot ≤ 255) × (l.slot ≤ length l.entries) × (has_name l.name (drop l.slot l.entries) ≡ has_name l.name l.entries)

abbrev pub decreases-entries : goal.decreases-entries
decreases-entries l = 255 - l.slot
