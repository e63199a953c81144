use Rattle.std.proofs.Common.{◌≡◌, ℕ, ◌+◌, ◌*◌, ◌-◌, ◌<◌, ◌≤◌, length, false}
use Rattle.cbm_track.specs.Circle.{circle_bits_of, ten_ones}
use Rattle.cbm_track.proofs.words.plain_bytes.Given as goal

abbrev pub invariant-loop-i : goal.invariant-loop-i
invariant-loop-i l = record {
  from : l.from ≤ l.i;
  most : l.i ≤ 8014;
  far : l.i - l.from ≤ 7928;
  none : (j : ℕ) → j < 8 * (l.i - l.from) → ten_ones (circle_bits_of l.track) (8 * l.from + j) ≡ false;
}

abbrev pub decreases-loop-i : goal.decreases-loop-i
decreases-loop-i l = length l.track - l.i
