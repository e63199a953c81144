use Rattle.std.proofs.Common.{◌≡◌, ℕ, ◌<◌, ◌≤◌, get_or}
use Rattle.cbm_relfile.proofs.growth.relisting.is_same_list.Given as goal

-- the bytes so far are the same
abbrev pub invariant-loop-place : goal.invariant-loop-place
invariant-loop-place l = (i : ℕ) → 16 ≤ i → i < l.place → get_or l.one i 0 ≡ get_or l.other i 0
