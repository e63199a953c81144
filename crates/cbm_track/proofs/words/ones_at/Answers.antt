use Rattle.std.proofs.Common.{arith, ap, ◌∙◌, ℕ, ◌+◌, ◌≡◌}
use Rattle.std.specs.Int.{leading_ones, w64}
use Rattle.cbm_track.specs.Circle.{circle_bits_of, circle_bit}
use Rattle.cbm_track.proofs.Windows.{leads, ends}
use Rattle.cbm_track.proofs.words.ones_at.Goals as goal

pub returns-clause-ones : goal.returns-clause-ones
returns-clause-ones c = λ j l. leads (circle_bits_of c.args.track.now) c.args.place c.args.word j c.requires.window (omega arith) (omega arith) (omega arith)

pub returns-clause-zero : goal.returns-clause-zero
returns-clause-zero c = λ l.
    let e : c.min.result ≡ leading_ones w64 c.args.word = omega arith in
    ap (λ (n : ℕ). circle_bit (circle_bits_of c.args.track.now) (c.args.place + n)) e ∙ ends (circle_bits_of c.args.track.now) c.args.place c.args.word c.requires.window (omega arith) (omega arith)
