use Rattle.std.proofs.Common.{◌≡◌, ◌+◌, ◌*◌, ◌%◌, length, take}
use Rattle.cbm_track.specs.Circle.{circle_bits_of, stretch}
use Rattle.cbm_track.proofs.stretches.read_around.Given as goal

abbrev pub invariant-loop-byte : goal.invariant-loop-byte
invariant-loop-byte l = record { at : l.at ≡ (l.place + 8 * l.byte-index) % (8 * length l.track); read : circle_bits_of (take l.byte-index l.out) ≡ stretch (circle_bits_of l.track) l.place (8 * l.byte-index) }
