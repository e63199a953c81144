use Rattle.std.proofs.Common.{◌≡◌, length}
use Rattle.cbm_slots.specs.InSlots.{has_name}
use Rattle.cbm_slots.proofs.meant.has_name.Given as goal

abbrev pub invariant-entries : goal.invariant-entries
invariant-entries l = has_name l.name l.rest ≡ has_name l.name l.entries

abbrev pub decreases-entries : goal.decreases-entries
decreases-entries l = length l.rest
