use Rattle.std.proofs.Common.{arith, ap, length, ◌∙◌, ◌+◌, List, ℕ, Bool}
use Rattle.std.proofs.lemmas.List.{take_at}
use Rattle.cbm_track.specs.Circle.{circle_bits_of, circle_bit}
use Rattle.cbm_track.proofs.Bytes.{length-bits_of}
use Rattle.cbm_track.proofs.track.Track.overwrite.Goals as goal

pub write_bytes-requires-clause-place : goal.write_bytes-requires-clause-place
write_bytes-requires-clause-place c = omega (arith, ap length c.as_mut_slice.ensures.value, length-bits_of c.self.inside.bytes.items, ap length c.self.view_is)

pub write_bytes-requires-clause-fits : goal.write_bytes-requires-clause-fits
write_bytes-requires-clause-fits c = omega (arith, ap length c.as_mut_slice.ensures.value, length-bits_of c.self.inside.bytes.items, ap length c.self.view_is)

pub returns-clause-length : goal.returns-clause-length
returns-clause-length c =
    ap (λ (xs : List ℕ). length (circle_bits_of xs)) (take_at c.write_bytes.new.track _ (length c.self.inside.bytes.items) (omega (arith, ap length c.as_mut_slice.ensures.value)))
    ∙ omega (arith, length-bits_of c.write_bytes.new.track, ap length c.as_mut_slice.ensures.value, length-bits_of c.self.inside.bytes.items, ap length c.self.view_is)

pub returns-clause-bytes : goal.returns-clause-bytes
returns-clause-bytes c =
    let taken = take_at c.write_bytes.new.track _ (length c.self.inside.bytes.items) (omega (arith, ap length c.as_mut_slice.ensures.value)) in
    record {
      written = λ k h. ap (λ (xs : List ℕ). circle_bit (circle_bits_of xs) (c.args.place + k)) taken ∙ c.write_bytes.ensures.written k h;
      others = λ k h l.
          ap (λ (xs : List ℕ). circle_bit (circle_bits_of xs) (c.args.place + k)) taken
          ∙ c.write_bytes.ensures.others k h (omega (arith, ap length c.as_mut_slice.ensures.value, length-bits_of c.self.inside.bytes.items, ap length c.self.view_is))
          ∙ ap (λ (xs : List ℕ). circle_bit (circle_bits_of xs) (c.args.place + k)) c.as_mut_slice.ensures.value
          ∙ ap (λ (t : List Bool). circle_bit t (c.args.place + k)) c.self.view_is;
    }
