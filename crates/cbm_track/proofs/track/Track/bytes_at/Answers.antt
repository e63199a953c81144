use Rattle.std.proofs.Common.{arith, ap, length}
use Rattle.cbm_track.proofs.Bytes.{length-bits_of}
use Rattle.cbm_track.proofs.track.Track.bytes_at.Goals as goal

pub read_bytes-requires-clause-place : goal.read_bytes-requires-clause-place
read_bytes-requires-clause-place c = omega (arith, ap length c.as_slice.ensures.value, length-bits_of c.self.inside.bytes.items, ap length c.self.view_is)
