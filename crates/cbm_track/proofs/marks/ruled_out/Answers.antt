use Rattle.std.proofs.Common.{◌≡◌, ◌∙◌, sym, ap, arith, ◌+◌, ◌-◌}
use Rattle.cbm_track.specs.Circle.{circle_bits_of, circle_bit}
use Rattle.cbm_track.proofs.Round.{ten_ones_not}
use Rattle.cbm_track.proofs.Tens.{bit_read}
use Rattle.cbm_track.proofs.marks.ruled_out.Goals as goal

pub returns-clause-none : goal.returns-clause-none
returns-clause-none c = λ j l. ten_ones_not (circle_bits_of c.args.track.now) (c.args.place + j) (9 - j) (omega arith)
    ((let q : c.args.place + j + (9 - j) ≡ c.args.place + 9 = omega arith in ap (circle_bit (circle_bits_of c.args.track.now)) q)
    ∙ sym (bit_read c.args.track.now (c.args.place + 9) c.rounded.result c.rounded.ensures.value) ∙ sym c.bit_of.ensures ∙ c.if-bit_of.false)
