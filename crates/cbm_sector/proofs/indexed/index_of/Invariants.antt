use Rattle.std.proofs.Common.{◌≤◌, ◌-◌, length}
use Rattle.cbm_sector.specs.Index.{IsIndexBelow}
use Rattle.cbm_sector.proofs.indexed.index_of.Given as goal

abbrev pub invariant-loop-from : goal.invariant-loop-from
invariant-loop-from l = record { within : l.from ≤ length l.track; below : IsIndexBelow l.track l.number l.from l.headers }

abbrev pub decreases-loop-from : goal.decreases-loop-from
decreases-loop-from l = length l.track - l.from
