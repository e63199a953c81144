use Rattle.std.proofs.Common.{◌+◌}
use Rattle.cbm_bam.specs.Marks.{is_marked}
use Rattle.cbm_volume.specs.check.SlotWalk.{entries_after, entries_in}
use Rattle.cbm_shell.specs.Flaws.{entries_walk}
use Rattle.cbm_shell.proofs.FlawLemmas.{Goes}
use Rattle.cbm_shell.proofs.broken.flaws.files.walk_entries.Given as goal

abbrev pub invariant-loop-number : goal.invariant-loop-number
invariant-loop-number g l =
    Goes (entries_walk (l.slot + l.number) l.geometry (g.M.Medium.seen l.volume).content (is_marked l.found.claimed) l.at (entries_after l.number l.sector))
    (entries_walk l.fn.slot l.fn.geometry (g.M.Medium.seen l.fn.volume).content (is_marked l.fn.found.claimed) l.fn.at (entries_in l.fn.sector)) l.fn.found.flaws.items l.found.flaws.items
