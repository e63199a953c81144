use Rattle.std.proofs.Common.{◌≡◌, ◌≤◌, ◌<◌, ◌-◌, ℕ, length, false}
use Rattle.cbm_sector.specs.Answer.{header_at, wanted_test}
use Rattle.cbm_sector.proofs.header.find_header.Given as goal

abbrev pub invariant-loop-from : goal.invariant-loop-from
invariant-loop-from l = record { within : l.from ≤ length l.track; none : (k : ℕ) → k < l.from → header_at (wanted_test l.wanted) l.track k ≡ false }

abbrev pub decreases-loop-from : goal.decreases-loop-from
decreases-loop-from l = length l.track - l.from
