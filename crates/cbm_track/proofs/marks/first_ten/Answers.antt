use Rattle.std.proofs.Common.{◌≡◌, ◌∙◌, ap, sym, arith, ◌+◌, ◌*◌, length}
use Rattle.cbm_track.specs.Circle.{circle_bits_of, ten_ones}
use Rattle.cbm_track.proofs.Firsts.{first_some, first_none}
use Rattle.cbm_track.proofs.Steps.{step_round}
use Rattle.cbm_track.proofs.Tens.{ten_more, ten_walked}
use Rattle.cbm_track.proofs.marks.first_ten.Goals as goal

pub returns-in_default-clause-value : goal.returns-in_default-clause-value
returns-in_default-clause-value c = sym (first_some (λ k. ten_ones (circle_bits_of c.args.track.now) (c.args.place + k)) c.args.count c.loop-far.far c.loop-far-test.true
    ((let q : c.args.place + c.loop-far.far ≡ c.args.place + c.loop-far.far + 0 = omega arith in ap (ten_ones (circle_bits_of c.args.track.now)) q)
    ∙ sym (ten_walked c.args.track.now (c.args.place + c.loop-far.far) c.loop-far.at 0 c.loop-far.invariant.at (omega arith))
    ∙ (let q : c.loop-far.at + 0 ≡ c.loop-far.at = omega arith in ap (ten_ones (circle_bits_of c.args.track.now)) q)
    ∙ c.in_default.ensures.none)
    c.loop-far.invariant.none)

pub loop-far-preserved : goal.loop-far-preserved
loop-far-preserved c = let s = c.in-Some.ensures.some in record {
  at = step_round c.args.place c.loop-far.far c.loop-far.at (8 * length c.args.track.now) c.rounded-at-in-loop-far.result (omega arith) c.loop-far.invariant.at c.in-Some.step c.rounded-at-in-loop-far.ensures.value;
  none = ten_more c.args.track.now c.args.place c.loop-far.far c.loop-far.at c.in-Some.step (omega arith) c.loop-far.invariant.at c.loop-far.invariant.none s.2;
}

pub returns-clause-value : goal.returns-clause-value
returns-clause-value c = sym (first_none (λ k. ten_ones (circle_bits_of c.args.track.now) (c.args.place + k)) c.args.count (λ k l. c.loop-far.invariant.none k (omega arith)))

pub loop-far-init : goal.loop-far-init
loop-far-init c = record { at = c.rounded-at.ensures.value; none = c.requires.none }
