use Rattle.std.proofs.Common.{◌≡◌, []}
use Rattle.cbm_chain.specs.Data.{chain_bytes}
use Rattle.cbm_sources.specs.Forms.{form_sectors}
use Rattle.cbm_sources.specs.Sectors.{image_content}
use Rattle.cbm_sources.specs.Chains.{met_once, after_blocks, way_left}
use Rattle.cbm_sources.proofs.held.held_from.Given as goal

abbrev pub invariant-sectors : goal.invariant-sectors
invariant-sectors l =
    let content = image_content l.disk in
    record {
      whole : met_once content (form_sectors l.disk.form) [] l.fn.first ≡ after_blocks l.trail.blocks (way_left content l.trail);
      bytes : l.bytes.items ≡ chain_bytes content l.trail.blocks;
    }

abbrev pub decreases-sectors : goal.decreases-sectors
decreases-sectors l = l.trail.left
