use Rattle.std.proofs.Common.{◌≡◌}
use Rattle.cbm_relfile.specs.SideSectors.{listed_following}
use Rattle.cbm_volume.specs.check.SideLists.{along}
use Rattle.cbm_volume.proofs.check.records.walk_listed.Given as goal

-- what is left from here gives what the whole list gives
abbrev pub invariant-loop-number : goal.invariant-loop-number
invariant-loop-number g l = along l.fn.geometry (g.M.Medium.seen l.medium).content (listed_following l.number l.side) l.at ≡ along l.fn.geometry (g.M.Medium.seen l.medium).content (listed_following 0 l.side) l.fn.from
