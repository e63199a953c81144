use Rattle.std.proofs.Common.{◌≡◌, ◌∙◌, ap, sym, arith, ◌+◌, ◌*◌, ◌-◌, ◌%◌, length}
use Rattle.cbm_track.specs.Circle.{circle_bits_of, circle_bit}
use Rattle.cbm_track.proofs.Steps.{step_round}
use Rattle.cbm_track.proofs.Tens.{ones_more, bit_walked}
use Rattle.cbm_track.proofs.words.run_at.Goals as goal

pub returns-then-ones-whole-clause-ones : goal.returns-then-ones-whole-clause-ones
returns-then-ones-whole-clause-ones c = λ j l. ones_more c.args.track.now c.args.place c.loop-run.run c.loop-run.at c.ones_at-ones.result (omega arith) c.loop-run.invariant.at c.loop-run.invariant.ones c.ones_at-ones.ensures.ones j (omega arith)

pub returns-then-ones-whole-clause-zero : goal.returns-then-ones-whole-clause-zero
returns-then-ones-whole-clause-zero c = λ l.
    (let q : c.args.place + c.min.result ≡ c.args.place + c.loop-run.run + c.ones_at-ones.result = omega arith in ap (circle_bit (circle_bits_of c.args.track.now)) q)
    ∙ sym (bit_walked c.args.track.now (c.args.place + c.loop-run.run) c.loop-run.at c.ones_at-ones.result c.loop-run.invariant.at (omega arith))
    ∙ c.ones_at-ones.ensures.zero c.if-ones-whole.true

pub loop-run-preserved : goal.loop-run-preserved
loop-run-preserved c = record {
  at = step_round c.args.place c.loop-run.run c.loop-run.at (8 * length c.args.track.now) c.rounded-at.result (omega arith) c.loop-run.invariant.at (64 - c.loop-run.at % 8) c.rounded-at.ensures.value;
  ones = λ j l. ones_more c.args.track.now c.args.place c.loop-run.run c.loop-run.at (64 - c.loop-run.at % 8) (omega arith) c.loop-run.invariant.at c.loop-run.invariant.ones (λ k b. c.ones_at-ones.ensures.ones k (omega arith)) j l;
}
