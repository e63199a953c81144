use Rattle.std.proofs.Common.{drop}
use Rattle.std.specs.Prelude.{map}
use Rattle.cbm_shell.specs.Editing.{CanBeEdited, IsSameMedium}
use Rattle.cbm_shell.proofs.LockLemmas.{Locking}
use Rattle.cbm_shell.proofs.changing.locking.lock_all.Given as goal

-- the patterns that are left, after those before them, are the whole; and the disk can still be written
abbrev pub invariant-loop-pattern : goal.invariant-loop-pattern
invariant-loop-pattern g l =
    let old = g.M.Medium.seen l.initial.medium in
    let now = g.M.Medium.seen l.medium in
    Locking l.is_locked l.geometry (map (λ r. r.now) l.patterns) old.content (map (λ r. r.now) (drop l.pattern-index l.patterns)) now.content
    × IsSameMedium old now × (CanBeEdited l.geometry old → CanBeEdited l.geometry now)
