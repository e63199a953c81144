use Rattle.std.proofs.Common.{◌≡◌, ◌≤◌}
use Rattle.cbm_bam.specs.Marks.{nothing}
use Rattle.cbm_directory.specs.Entries.{first_directory}
use Rattle.cbm_directory.specs.Slots.{all_entries}
use Rattle.cbm_salvage.specs.Trails.{follow_once, trail_left}
use Rattle.cbm_salvage.proofs.TrailLemmas.{after_blocks}
use Rattle.cbm_salvage.proofs.listing.listed_of.Given as goal

abbrev pub invariant-sectors : goal.invariant-sectors
invariant-sectors g l =
    let content = (g.M.Medium.seen l.medium).content in
    record {
      inside : l.trail.geometry ≤ (g.M.Medium.seen l.medium).tracks;
      whole : follow_once l.fn.geometry content 18 nothing first_directory ≡ after_blocks l.sectors.items (trail_left content l.trail);
      entries : l.entries.items ≡ all_entries content l.sectors.items;
    }

abbrev pub decreases-sectors : goal.decreases-sectors
decreases-sectors g l = l.trail.left
