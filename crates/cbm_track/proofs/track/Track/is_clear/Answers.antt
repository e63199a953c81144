use Rattle.std.proofs.Common.{arith, ap, length}
use Rattle.cbm_track.proofs.Bytes.{length-bits_of}
use Rattle.cbm_track.proofs.track.Track.is_clear.Goals as goal

pub is_clear-requires-clause-place : goal.is_clear-requires-clause-place
is_clear-requires-clause-place c = omega (arith, ap length c.as_slice.ensures.value, length-bits_of c.self.inside.bytes.items, ap length c.self.view_is)
