use Rattle.std.proofs.Common.{◌≤◌}
use Rattle.cbm_bam.specs.Map.{geometry_of}
use Rattle.cbm_directory.specs.Slots.{directory_of, listed_left, most_left}
use Rattle.cbm_channel.proofs.Scratches.{Gathers}
use Rattle.cbm_channel.proofs.dos.Dos.slots_going.Given as goal

abbrev pub invariant-slots : goal.invariant-slots
invariant-slots g l = (l.slots.tracks ≤ (g.M.Medium.seen l.fn.self.medium).tracks)
    × Gathers l.fn.self.channels l.patterns (directory_of (geometry_of (g.M.Medium.seen l.fn.self.medium).tracks (g.M.Medium.seen l.fn.self.medium).content) (g.M.Medium.seen l.fn.self.medium).content)
    (listed_left (g.M.Medium.seen l.fn.self.medium).content l.slots) (most_left l.slots) l.number l.going.items

abbrev pub decreases-slots : goal.decreases-slots
decreases-slots g l = most_left l.slots
