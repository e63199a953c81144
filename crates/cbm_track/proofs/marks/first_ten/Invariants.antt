use Rattle.std.proofs.Common.{◌≡◌, ℕ, ◌+◌, ◌*◌, ◌-◌, ◌%◌, ◌<◌, length, false}
use Rattle.cbm_track.specs.Circle.{circle_bits_of, ten_ones}
use Rattle.cbm_track.proofs.marks.first_ten.Given as goal

abbrev pub invariant-loop-far : goal.invariant-loop-far
invariant-loop-far l = record {
  at : l.at ≡ (l.place + l.far) % (8 * length l.track);
  none : (j : ℕ) → j < l.far → ten_ones (circle_bits_of l.track) (l.place + j) ≡ false;
}

abbrev pub decreases-loop-far : goal.decreases-loop-far
decreases-loop-far l = l.count - l.far
