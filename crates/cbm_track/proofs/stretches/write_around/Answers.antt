use Rattle.std.proofs.Common.{◌≡◌, ◌∙◌, ap, refl, ◌+◌, ◌*◌, ◌%◌, arith, length, ℕ}
use Rattle.cbm_track.proofs.Crossing.{one_more, still}
use Rattle.cbm_track.proofs.Steps.{step_round}
use Rattle.cbm_track.proofs.stretches.write_around.Goals as goal

pub loop-byte-preserved : goal.loop-byte-preserved
loop-byte-preserved c =
    let place : c.loop-byte.to ≡ (c.args.place + 8 * c.loop-byte.byte-index) % (8 * length c.loop-byte.track) =
    c.loop-byte.invariant.to ∙ ap (λ (n : ℕ). (c.args.place + 8 * c.loop-byte.byte-index) % n) (omega arith) in
    record {
      to =
          step_round c.args.place (8 * c.loop-byte.byte-index) c.loop-byte.to (8 * length c.args.track.now) c.wrapped-to.result (omega arith) c.loop-byte.invariant.to 8 c.wrapped-to.ensures.value
          ∙ ap (λ (n : ℕ). (c.args.place + n) % (8 * length c.args.track.now)) (omega arith);
      written = λ j h. one_more c.loop-byte.track c.put_byte.new.track c.args.bytes.now c.args.place c.loop-byte.to c.loop-byte.byte-index _ (omega arith) (omega arith) (omega arith) refl place
          c.put_byte.ensures.written c.put_byte.ensures.others c.loop-byte.invariant.written j (omega arith);
      others = λ j l b. still c.loop-byte.track c.put_byte.new.track c.args.place c.loop-byte.to c.loop-byte.byte-index j (omega arith) (omega arith) (omega arith) place c.put_byte.ensures.others
          ∙ c.loop-byte.invariant.others j (omega arith) b;
    }
