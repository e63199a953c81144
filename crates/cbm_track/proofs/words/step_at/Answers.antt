use Rattle.std.proofs.Common.{arith, refl, ap, ◌∙◌, ◌+◌, ◌-◌, ◌≡◌}
use Rattle.cbm_track.specs.Circle.{circle_bits_of, circle_bit}
use Rattle.cbm_track.proofs.Tens.{ten_from}
use Rattle.cbm_track.proofs.Round.{ten_ones_not}
use Rattle.cbm_track.proofs.Windows.{plain_after}
use Rattle.cbm_track.proofs.words.step_at.Goals as goal

pub returns-then-ones-ge10-clause-none : goal.returns-then-ones-ge10-clause-none
returns-then-ones-ge10-clause-none c = ten_from (circle_bits_of c.args.track.now) c.args.place (λ k l. c.ones_at-ones.ensures.ones k (omega arith))

pub returns-clause-some : goal.returns-clause-some
returns-clause-some c = (
  omega arith,
  omega arith,
  λ j l. ten_ones_not (circle_bits_of c.args.track.now) (c.args.place + j) (c.ones_at-ones.result - j) (omega arith)
      ((let q : c.args.place + j + (c.ones_at-ones.result - j) ≡ c.args.place + c.ones_at-ones.result = omega arith in ap (circle_bit (circle_bits_of c.args.track.now)) q) ∙ c.ones_at-ones.ensures.zero (omega arith)),
)

pub returns-then-next-eq0-clause-some : goal.returns-then-next-eq0-clause-some
returns-then-next-eq0-clause-some c = (omega arith, omega arith, λ j l. plain_after (circle_bits_of c.args.track.now) c.args.place c.plain_at-plain.result (c.args.place + c.plain_at-plain.result) c.plain_bytes.result j refl c.if-next-eq0.true c.plain_at-plain.ensures.none c.plain_bytes.ensures.none l)
