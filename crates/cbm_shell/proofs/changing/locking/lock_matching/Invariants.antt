use Rattle.std.proofs.Common.{◌≤◌, ◌-◌}
use Rattle.cbm_shell.specs.Editing.{IsSameMedium}
use Rattle.cbm_shell.specs.Locking.{LocksSlots}
use Rattle.cbm_shell.proofs.changing.locking.lock_matching.Given as goal

-- the slots before this one are done
abbrev pub invariant-slots : goal.invariant-slots
invariant-slots g l =
    let old = g.M.Medium.seen l.initial.medium in
    let now = g.M.Medium.seen l.medium in
    LocksSlots l.is_locked l.geometry l.pattern l.number old.content now.content × IsSameMedium old now × (l.number ≤ 144)

abbrev pub decreases-slots : goal.decreases-slots
decreases-slots g l = 144 - l.number
