use Rattle.std.proofs.Common.{◌≡◌, ◌≤◌}
use Rattle.cbm_directory.specs.Slots.{listed_after, directory_of, listed_left, most_left}
use Rattle.cbm_bam.specs.Map.{geometry_of}
use Rattle.cbm_shell.proofs.looking.slots.entries_of.Given as goal

abbrev pub invariant-slots : goal.invariant-slots
invariant-slots g l = record {
  tracks : l.slots.tracks ≤ (g.M.Medium.seen l.volume).tracks;
  same : listed_after l.entries.items (listed_left (g.M.Medium.seen l.volume).content l.slots)
      ≡ directory_of (geometry_of (g.M.Medium.seen l.volume).tracks (g.M.Medium.seen l.volume).content) (g.M.Medium.seen l.volume).content;
}

abbrev pub decreases-slots : goal.decreases-slots
decreases-slots g l = most_left l.slots
