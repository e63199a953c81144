use Rattle.std.proofs.Common.{◌∙◌, sym, ap, ◌+◌, ◌*◌, ◌%◌, arith, length, ℕ}
use Rattle.std.proofs.Math.Nat.{mod-eq_of_lt}
use Rattle.cbm_track.specs.Circle.{circle_bits_of, stretch}
use Rattle.cbm_track.proofs.Bytes.{length-bits_of}
use Rattle.cbm_track.proofs.Places.{stretch_wrapped}
use Rattle.cbm_track.proofs.Steps.{stretch_none, bytes_more, step_round}
use Rattle.cbm_track.proofs.stretches.read_around.Goals as goal

pub loop-byte-init : goal.loop-byte-init
loop-byte-init c = record { at = sym (ap (λ (n : ℕ). n % (8 * length c.args.track.now)) (omega arith) ∙ mod-eq_of_lt c.requires.place); read = sym (stretch_none (circle_bits_of c.args.track.now) c.args.place) }

pub loop-byte-preserved : goal.loop-byte-preserved
loop-byte-preserved c = record {
  at = ap (λ (n : ℕ). n) (step_round c.args.place (8 * c.loop-byte.byte-index) c.loop-byte.at (8 * length c.args.track.now) c.wrapped-at.result (omega arith) c.loop-byte.invariant.at 8 c.wrapped-at.ensures.value)
      ∙ ap (λ (n : ℕ). (c.args.place + n) % (8 * length c.args.track.now)) (omega arith);
  read = bytes_more (circle_bits_of c.args.track.now) c.loop-byte.out c.args.place c.loop-byte.byte-index c.byte_at.result (omega arith) c.loop-byte.invariant.read
      (c.byte_at.ensures
      ∙ ap (λ (a : ℕ). stretch (circle_bits_of c.args.track.now) a 8) (c.loop-byte.invariant.at ∙ sym (ap (λ (n : ℕ). (c.args.place + 8 * c.loop-byte.byte-index) % n) (length-bits_of c.args.track.now)))
      ∙ stretch_wrapped (circle_bits_of c.args.track.now) (c.args.place + 8 * c.loop-byte.byte-index) 8 (omega (arith, length-bits_of c.args.track.now)));
}
