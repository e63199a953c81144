use Rattle.std.proofs.Common.{Ok, inl, inr}
use Rattle.cbm_bam.specs.Map.{geometry_of}
use Rattle.cbm_volume.proofs.layouts.Vacant.{room_means, map_reads, never_broken}
use Rattle.cbm_volume.proofs.volume.Volume.room.Goals as goal

-- a sound disk's map reads, and its directory isn't broken off
pub returns-in_err-blocks-clause-means : goal.returns-in_err-blocks-clause-means
returns-in_err-blocks-clause-means g c = λ d m. absurd (c.in_err-blocks.ensures.means d m)

pub returns-in_err-slot-clause-means : goal.returns-in_err-slot-clause-means
returns-in_err-slot-clause-means g c = λ d m.
    absurd (elim c.in_err-slot.ensures.err [
      | inl k ↦ map_reads (geometry_of (g.M.Medium.seen c.args.self.now).tracks (g.M.Medium.seen c.args.self.now).content) (g.M.Medium.seen c.args.self.now).content m.layout c.in_err-slot.field-0.0.code m.stands.sound k.0
      | inr k ↦ never_broken (geometry_of (g.M.Medium.seen c.args.self.now).tracks (g.M.Medium.seen c.args.self.now).content) (g.M.Medium.seen c.args.self.now).content m.layout d c.in_err-slot.field-0.0 m.stands k
    ])

-- the free bits are counted on the disk that the medium holds
pub returns-clause-blocks : goal.returns-clause-blocks
returns-clause-blocks g c = c.in_ok-blocks.ensures.blocks

-- what it has room for
pub returns-clause-means : goal.returns-clause-means
returns-clause-means g c =
    room_means (g.M.Medium.seen c.args.self.now).tracks (g.M.Medium.seen c.args.self.now).content (Ok (record { blocks = c.in_ok-blocks.blocks; slot = c.in_ok-slot.slot })) (returns-clause-blocks g c) c.in_ok-slot.ensures.slot tt
