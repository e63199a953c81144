use Rattle.std.proofs.Common.{◌≡◌, []}
use Rattle.cbm_sources.specs.Sectors.{image_content}
use Rattle.cbm_sources.specs.Chains.{met_once, after_blocks, way_left}
use Rattle.cbm_sources.specs.Directories.{directory_start, directory_limit, used_entries}
use Rattle.cbm_sources.proofs.listing.listed_of.Given as goal

abbrev pub invariant-sectors : goal.invariant-sectors
invariant-sectors l =
    let content = image_content l.disk in
    record {
      whole : met_once content (directory_limit l.disk.form) [] (directory_start l.disk.form) ≡ after_blocks l.trail.blocks (way_left content l.trail);
      entries : l.entries.items ≡ used_entries content l.trail.blocks;
    }

abbrev pub decreases-sectors : goal.decreases-sectors
decreases-sectors l = l.trail.left
