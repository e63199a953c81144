use Rattle.std.proofs.Common.{arith, ap, length}
use Rattle.cbm_track.proofs.Bytes.{length-bits_of}
use Rattle.cbm_track.proofs.track.Track.bits.Goals as goal

pub returns-clause-value : goal.returns-clause-value
returns-clause-value c = omega (arith, length-bits_of c.self.inside.bytes.items, ap length c.self.view_is)
