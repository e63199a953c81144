use Rattle.std.proofs.Common.{◌≡◌, ◌≤◌, ◌+◌, ◌*◌, length}
use Rattle.cbm_medium.specs.Place.{sector_count}
use Rattle.cbm_chain.specs.Reading.{held_from}
use Rattle.cbm_chain.proofs.counting.byte_count.Given as goal

-- what is counted and what is left to be counted make the whole, and what breaks it off is the same
abbrev pub invariant-loop-geometry : goal.invariant-loop-geometry
invariant-loop-geometry g l = record {
  bytes : l.count + length (held_from l.geometry (g.M.Medium.seen l.medium).content l.left l.at).bytes ≡ length (held_from l.geometry (g.M.Medium.seen l.medium).content (sector_count l.geometry) l.fn.first).bytes;
  trouble : (held_from l.geometry (g.M.Medium.seen l.medium).content l.left l.at).trouble ≡ (held_from l.geometry (g.M.Medium.seen l.medium).content (sector_count l.geometry) l.fn.first).trouble;
  few : l.count + 254 * l.left ≤ 254 * 65535;
}

abbrev pub decreases-loop-geometry : goal.decreases-loop-geometry
decreases-loop-geometry g l = l.left
