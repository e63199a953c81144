use Rattle.std.proofs.Common.{◌≡◌, ℕ, ◌+◌, ◌*◌, ◌<◌, ◌≤◌, length, get_or}
use Rattle.cbm_relfile.specs.Fresh.{fresh_in}
use Rattle.cbm_relfile.proofs.growth.fresh.fresh_from.Given as goal

-- the link and the data before the place stand, and the bytes from there up to this one are fresh
abbrev pub invariant-loop-at : goal.invariant-loop-at
invariant-loop-at l = (length l.new ≡ 256) × (get_or l.new 0 0 ≡ l.fn.next.track) × (get_or l.new 1 0 ≡ l.fn.next.sector) × (l.place ≤ l.at)
    × ((o : ℕ) → o < l.place → get_or l.new (2 + o) 0 ≡ get_or l.block (2 + o) 0)
    × ((o : ℕ) → l.place ≤ o → o < l.at → get_or l.new (2 + o) 0 ≡ fresh_in l.length l.blocks (254 * l.number + o))
