use Rattle.std.proofs.Common.{arith, ap, length}
use Rattle.cbm_track.proofs.Bytes.{length-bits_of}
use Rattle.cbm_track.proofs.track.Track.next_sync.Goals as goal

pub next_place-requires-clause-place : goal.next_place-requires-clause-place
next_place-requires-clause-place c = omega (arith, ap length c.as_slice.ensures.value, length-bits_of c.self.inside.bytes.items, ap length c.self.view_is)

pub returns-clause-below : goal.returns-clause-below
returns-clause-below c = omega (arith, c.in_ok-place.ensures.below, ap length c.as_slice.ensures.value, length-bits_of c.self.inside.bytes.items, ap length c.self.view_is)
