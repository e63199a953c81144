use Rattle.std.proofs.Common.{◌≡◌, List}
use Rattle.cbm_medium.specs.Place.{Place, sector_count}
use Rattle.cbm_medium.specs.Links.{follow}
use Rattle.cbm_chain.specs.Writing.{StandsAfter}
use Rattle.cbm_chain.proofs.After.{after_these}
use Rattle.cbm_chain.proofs.writer.ChainWriter.after.Given as goal

-- the blocks before the place are taken up, and what is left makes the whole
abbrev pub invariant-loop-at : goal.invariant-loop-at
invariant-loop-at g l = record {
  tracks : l.writer.tracks ≡ l.fn.geometry;
  so_far : (before : List Place)
      × ((follow l.fn.geometry (g.M.Medium.seen l.medium).content (sector_count l.fn.geometry) l.fn.first ≡ after_these before (follow l.fn.geometry (g.M.Medium.seen l.medium).content l.left l.at))
      × StandsAfter l.fn.geometry (g.M.Medium.seen l.medium).content before l.writer);
}

abbrev pub decreases-loop-at : goal.decreases-loop-at
decreases-loop-at g l = l.left
