use Rattle.std.proofs.Common.{◌≡◌, ◌+◌, ◌-◌, ◌*◌, drop}
use Rattle.cbm_relfile.specs.SideSectors.{named_in}
use Rattle.cbm_volume.specs.check.SideLists.{sides_along, all_along}
use Rattle.cbm_volume.proofs.check.records.walk_sides.Given as goal

-- what is left from here gives what all give
abbrev pub invariant-loop-number : goal.invariant-loop-number
invariant-loop-number g l =
    sides_along l.fn.geometry (g.M.Medium.seen l.medium).content l.fn.length l.number (named_in (6 - l.number) (drop (4 + 2 * l.number) l.first)) l.at
    ≡ all_along l.fn.geometry (g.M.Medium.seen l.medium).content l.fn.length l.first l.fn.from
