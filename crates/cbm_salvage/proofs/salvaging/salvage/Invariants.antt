use Rattle.std.proofs.Common.{◌≡◌, ◌≤◌}
use Rattle.cbm_medium.specs.Place.{sector_count}
use Rattle.cbm_bam.specs.Marks.{nothing}
use Rattle.cbm_chain.specs.Reading.{held_in, with_front}
use Rattle.cbm_salvage.specs.Trails.{follow_once, trail_left}
use Rattle.cbm_salvage.proofs.salvaging.salvage.Given as goal

abbrev pub invariant-sectors : goal.invariant-sectors
invariant-sectors g l =
    let content = (g.M.Medium.seen l.medium).content in
    record {
      inside : l.trail.geometry ≤ (g.M.Medium.seen l.medium).tracks;
      whole : held_in content (follow_once l.fn.geometry content (sector_count l.fn.geometry) nothing l.fn.first) ≡ with_front l.bytes.items (held_in content (trail_left content l.trail));
    }

abbrev pub decreases-sectors : goal.decreases-sectors
decreases-sectors g l = l.trail.left
