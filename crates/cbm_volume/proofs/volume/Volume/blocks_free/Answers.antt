use Rattle.std.proofs.Common.{rules}
use Rattle.cbm_volume.proofs.layouts.Vacant.{blocks_mean}
use Rattle.cbm_volume.proofs.volume.Volume.blocks_free.Goals as goal

pub returns-clause-blocks : goal.returns-clause-blocks
returns-clause-blocks g c = search rules

pub returns-clause-err : goal.returns-clause-err
returns-clause-err g c = search rules

-- a sound disk's map reads, and its bits say what is free
pub returns-clause-means : goal.returns-clause-means
returns-clause-means g c = blocks_mean (g.M.Medium.seen c.args.self.now).tracks (g.M.Medium.seen c.args.self.now).content c.free_bits.result (returns-clause-blocks g c) (returns-clause-err g c)
