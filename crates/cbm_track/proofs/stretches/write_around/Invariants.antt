use Rattle.std.proofs.Common.{◌≡◌, ℕ, ◌+◌, ◌*◌, ◌%◌, ◌<◌, ◌≤◌, length, get_or, false}
use Rattle.cbm_track.specs.Circle.{circle_bits_of, circle_bit}
use Rattle.cbm_track.proofs.stretches.write_around.Given as goal

abbrev pub invariant-loop-byte : goal.invariant-loop-byte
invariant-loop-byte l = record {
  to : l.to ≡ (l.place + 8 * l.byte-index) % (8 * length l.fn.track);
  written : (j : ℕ) → j < 8 * l.byte-index → circle_bit (circle_bits_of l.track) (l.place + j) ≡ get_or (circle_bits_of l.bytes) j false;
  others : (j : ℕ) → 8 * l.byte-index ≤ j → j < 8 * length l.fn.track → circle_bit (circle_bits_of l.track) (l.place + j) ≡ circle_bit (circle_bits_of l.fn.track) (l.place + j);
}
