use Rattle.std.proofs.Common.{◌≤◌}
use Rattle.cbm_bam.specs.Map.{geometry_of}
use Rattle.cbm_directory.specs.Slots.{directory_of, listed_left, most_left}
use Rattle.cbm_channel.proofs.ListedLines.{Lists}
use Rattle.cbm_channel.proofs.listing.list.Given as goal

abbrev pub invariant-slots : goal.invariant-slots
invariant-slots g l = (l.slots.tracks ≤ (g.M.Medium.seen l.volume).tracks)
    × Lists l.pattern l.initial.listing.bytes (directory_of (geometry_of (g.M.Medium.seen l.volume).tracks (g.M.Medium.seen l.volume).content) (g.M.Medium.seen l.volume).content)
    (listed_left (g.M.Medium.seen l.volume).content l.slots) (most_left l.slots) l.listing

abbrev pub decreases-slots : goal.decreases-slots
decreases-slots g l = most_left l.slots
