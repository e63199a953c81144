use Rattle.std.proofs.Common.{◌≡◌, ◌∙◌, ◌+◌, ◌-◌, ◌/◌, ℕ, List, refl, ap, arith, length, get_or, false}
use Rattle.cbm_track.specs.Circle.{circle_bits_of}
use Rattle.cbm_track.proofs.Whole.{put_here, put_others}
use Rattle.cbm_track.proofs.stretches.write_bytes.Goals as goal

pub returns-then-end-track : goal.returns-then-end-track
returns-then-end-track c =
    let size : length c.copy_from_slice.new.self ≡ c.args.place / 8 + length c.args.bytes.now - c.args.place / 8 = ap length c.copy_from_slice.ensures.after ∙ omega arith in
    record {
      written = λ k l. put_here c.args.track.now c.copy_from_slice.new.self c.args.place (c.args.place / 8) _ k c.if-place-eq0.true refl size (omega arith) (omega arith)
          ∙ ap (λ (ys : List ℕ). get_or (circle_bits_of ys) k false) c.copy_from_slice.ensures.after;
      others = λ k l b. put_others c.args.track.now c.copy_from_slice.new.self c.args.place (c.args.place / 8) _ k c.if-place-eq0.true refl size (omega arith) (omega arith) b;
    }
