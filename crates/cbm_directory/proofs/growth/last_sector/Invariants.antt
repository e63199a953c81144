use Rattle.std.proofs.Common.{◌≡◌, ◌≢◌, ◌+◌, List, ◌++◌, length}
use Rattle.cbm_medium.specs.Place.{Place}
use Rattle.cbm_medium.specs.Links.{Chain, follow}
use Rattle.cbm_directory.specs.Entries.{first_directory}
use Rattle.cbm_directory.proofs.growth.last_sector.Given as goal

-- what leads on from here is a directory after the sectors before, and breaks off as the whole does
abbrev pub invariant-loop-bytes : goal.invariant-loop-bytes
invariant-loop-bytes g l = record {
  going : l.at.track ≢ 0;
  before : (passed : List Place)
      × (((xs : List Place) → Chain l.geometry (g.M.Medium.seen l.medium).content l.at xs → Chain l.geometry (g.M.Medium.seen l.medium).content first_directory (passed ++ xs))
      × (l.left + length passed ≡ 18));
  trouble : (follow l.geometry (g.M.Medium.seen l.medium).content l.left l.at).trouble ≡ (follow l.geometry (g.M.Medium.seen l.medium).content 18 first_directory).trouble;
}

abbrev pub decreases-loop-bytes : goal.decreases-loop-bytes
decreases-loop-bytes g l = l.left
