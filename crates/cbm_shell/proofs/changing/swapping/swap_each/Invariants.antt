use Rattle.std.proofs.Common.{List, drop}
use Rattle.cbm_medium.specs.Place.{Place}
use Rattle.cbm_shell.specs.Editing.{IsDirectory, IsSameMedium}
use Rattle.cbm_shell.specs.Swapping.{MissesSlot}
use Rattle.cbm_shell.proofs.SwapLemmas.{Swapping}
use Rattle.cbm_shell.proofs.changing.swapping.swap_each.Given as goal

-- the swaps that are left, after those before them, are the whole; the directory stays where it lies
abbrev pub invariant-loop-swap : goal.invariant-loop-swap
invariant-loop-swap g l =
    let old = g.M.Medium.seen l.initial.medium in
    let now = g.M.Medium.seen l.medium in
    Swapping l.geometry l.swaps old.content (drop l.swap-index l.swaps) now.content × IsSameMedium old now
    × ((sectors : List Place) → IsDirectory l.geometry old.content sectors → IsDirectory l.geometry now.content sectors)
    × (MissesSlot l.geometry old.content (drop l.swap-index l.swaps) → MissesSlot l.geometry old.content l.swaps)
