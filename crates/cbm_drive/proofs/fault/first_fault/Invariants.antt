use Rattle.std.proofs.Common.{◌≡◌, ◌+◌, ◌<◌, ◌^◌, length}
use Rattle.cbm_drive.specs.Ordered.{fault_of}
use Rattle.cbm_drive.proofs.fault.first_fault.Given as goal

-- none of those before is at fault
abbrev pub invariant-loop-change : goal.invariant-loop-change
invariant-loop-change l = (fault_of l.initial.number l.initial.before l.end l.changes ≡ fault_of l.number l.before l.end l.rest) × (l.number + length l.rest < 2 ^ 64)

abbrev pub decreases-loop-change : goal.decreases-loop-change
decreases-loop-change l = length l.rest
