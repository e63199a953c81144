use Rattle.std.proofs.Common.{◌≡◌, length}
use Rattle.cbm_odd.specs.Odd.{is_odd_slot}
use Rattle.cbm_odd.proofs.odd.is_odd_slot.Given as goal

abbrev pub invariant-odds : goal.invariant-odds
invariant-odds l = is_odd_slot l.rest l.slot ≡ is_odd_slot l.odds l.slot

abbrev pub decreases-odds : goal.decreases-odds
decreases-odds l = length l.rest
