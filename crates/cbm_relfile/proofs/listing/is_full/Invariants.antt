use Rattle.std.proofs.Common.{◌≡◌, ◌≢◌, ◌<◌, ◌≤◌, ◌+◌, ◌*◌, ℕ, get_or}
use Rattle.cbm_relfile.proofs.listing.is_full.Given as goal

-- where none was zero so far, all of them list a block
abbrev pub invariant-loop-number : goal.invariant-loop-number
invariant-loop-number l = (l.zeros ≤ l.number) × (l.zeros ≡ 0 → (k : ℕ) → k < l.number → get_or l.side (16 + 2 * k) 0 ≢ 0)
