use Rattle.std.proofs.Common.{◌≡◌, ◌∙◌, ◌+◌, ◌-◌, ◌/◌, ℕ, refl, ap, arith, length, take, drop}
use Rattle.cbm_track.specs.Circle.{circle_bits_of}
use Rattle.cbm_track.proofs.Whole.{stretch_inside}
use Rattle.cbm_track.proofs.stretches.read_bytes.Goals as goal

pub returns-then-count-track : goal.returns-then-count-track
returns-then-count-track c = ap circle_bits_of c.copy_from_slice.ensures.after
    ∙ (let q : c.args.place / 8 + length c.args.out.now - c.args.place / 8 ≡ length c.args.out.now = omega arith in ap (λ (n : ℕ). circle_bits_of (take n (drop (c.args.place / 8) c.args.track.now))) q)
    ∙ stretch_inside c.args.track.now c.args.place (c.args.place / 8) (length c.args.out.now) c.if-place-eq0.true refl (omega arith)
