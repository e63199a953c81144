use Rattle.std.proofs.Common.{◌≡◌, length}
use Rattle.cbm_odd.specs.Odd.{is_slot_flawed}
use Rattle.cbm_odd.proofs.odd.is_slot_flawed.Given as goal

abbrev pub invariant-flaws : goal.invariant-flaws
invariant-flaws l = is_slot_flawed l.rest l.slot ≡ is_slot_flawed l.flaws l.slot

abbrev pub decreases-flaws : goal.decreases-flaws
decreases-flaws l = length l.rest
