use Rattle.std.proofs.Common.{◌+◌, ◌-◌, ◌*◌, drop}
use Rattle.cbm_bam.specs.Marks.{is_marked}
use Rattle.cbm_relfile.specs.SideSectors.{named_in}
use Rattle.cbm_volume.specs.check.SideLists.{after_the_first}
use Rattle.cbm_shell.specs.Flaws.{among}
use Rattle.cbm_shell.proofs.FlawLemmas.{Leads}
use Rattle.cbm_shell.proofs.broken.flaws.sides.walk_listed.Given as goal

abbrev pub invariant-loop-number : goal.invariant-loop-number
invariant-loop-number g l =
    Leads (among l.whose l.geometry (g.M.Medium.seen l.medium).content (is_marked l.found.claimed) (named_in (6 - l.number) (drop (4 + 2 * l.number) l.first)))
    (among l.fn.whose l.fn.geometry (g.M.Medium.seen l.fn.medium).content (is_marked l.fn.found.claimed) (after_the_first l.fn.first)) l.fn.found.flaws.items l.found.flaws.items
