use Rattle.std.proofs.Common.{◌≡◌, ◌*◌, drop}
use Rattle.cbm_bam.specs.Marks.{is_marked}
use Rattle.cbm_shell.specs.Flaws.{slots_walk}
use Rattle.cbm_shell.proofs.FlawLemmas.{Goes}
use Rattle.cbm_shell.proofs.broken.flaws.files.walk_slots.Given as goal

abbrev pub invariant-loop-at : goal.invariant-loop-at
invariant-loop-at g l =
    Goes (slots_walk l.slot l.geometry (g.M.Medium.seen l.volume).content (is_marked l.found.claimed) (drop l.at-index l.sectors))
    (slots_walk 0 l.fn.geometry (g.M.Medium.seen l.fn.volume).content (is_marked l.fn.found.claimed) l.fn.sectors) l.fn.found.flaws.items l.found.flaws.items
    × (l.slot ≡ 8 * l.at-index)
