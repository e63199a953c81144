use Rattle.std.proofs.Common.{◌≡◌, ◌∙◌, sym, ap, arith, ℕ, List, Bool, Option, Some, ◌↔◌, ◌+◌, ◌*◌, take, drop}
use Rattle.std.specs.Prelude.{IfSome}
use Rattle.cbm_gcr.specs.Code.{code, bits_of, IsFourBytes}
use Rattle.cbm_track.specs.Circle.{stretch}
use Rattle.cbm_sector.specs.Decoding.{coded_at}
use Rattle.cbm_sector.proofs.Reading.{coded_no_front, coded_no_rest, header_joined, group_there}
use Rattle.cbm_sector.proofs.group.header_bytes.Goals as goal

-- the first four bytes
front : (t : List Bool) (p : ℕ) (xs : List ℕ) (o : Option (List ℕ)) → bits_of xs ≡ stretch t p 80
    → ((v : List ℕ) → IsFourBytes v → ((o ≡ Some v) ↔ (code v ≡ take 40 (drop (8 * 0) (bits_of xs))))) → IfSome o IsFourBytes → o ≡ coded_at t p 4
front t p xs o e value block = group_there t p xs 0 80 o e (omega arith) value block ∙ (let q : p + 8 * 0 ≡ p = omega arith in ap (λ (r : ℕ). coded_at t r 4) q)

pub returns-in_err-a : goal.returns-in_err-a
returns-in_err-a c = c.from_residual.ensures ∙ sym (coded_no_front c.args.track.now c.args.place 4 8 (omega arith)
    (sym (front c.args.track.now c.args.place c.bytes_at.new.out c.group_in.result c.bytes_at.ensures c.group_in.ensures.value c.group_in.ensures.block) ∙ c.in_err-a.was))

pub returns-in_err-e : goal.returns-in_err-e
returns-in_err-e c = c.from_residual-in_err-e.ensures ∙ sym (coded_no_rest c.args.track.now c.args.place 4 4
    (sym (group_there c.args.track.now c.args.place c.bytes_at.new.out 5 80 c.group_in-2.result c.bytes_at.ensures (omega arith) c.group_in-2.ensures.value c.group_in-2.ensures.block) ∙ c.in_err-e.was))

pub returns : goal.returns
returns c =
    let t = c.args.track.now in
    let a : coded_at t c.args.place 4 ≡ Some c.in_ok-a.field-0 = sym (front t c.args.place c.bytes_at.new.out c.group_in.result c.bytes_at.ensures c.group_in.ensures.value c.group_in.ensures.block) ∙ c.in_ok-a.was in
    let b : coded_at t (c.args.place + 40) 4 ≡ Some c.in_ok-e.field-0 = sym (group_there t c.args.place c.bytes_at.new.out 5 80 c.group_in-2.result c.bytes_at.ensures (omega arith) c.group_in-2.ensures.value c.group_in-2.ensures.block) ∙ c.in_ok-e.was in
    header_joined t c.args.place c.in_ok-a.field-0 c.in_ok-e.field-0 a b
