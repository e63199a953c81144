use Rattle.std.proofs.Common.{◌≡◌, ◌∙◌, ◌+◌, sym, ap, arith, ℕ, List, [], ◌∷◌, Bool, true, false, Some, get_or, take, length, refl, eqb-true, inl, inr}
use Rattle.std.specs.Prelude.{slice_index}
use Rattle.std.proofs.lemmas.Bool.{cases_Bool}
use Rattle.std.proofs.lemmas.List.{take_at}
use Rattle.cbm_gcr.specs.Code.{code, bits, bits_of}
use Rattle.cbm_track.specs.Circle.{stretch}
use Rattle.cbm_track.proofs.Places.{stretch_add, length-stretch}
use Rattle.cbm_sector.specs.Answer.{is_header}
use Rattle.cbm_sector.specs.Decoding.{coded_at}
use Rattle.cbm_sector.proofs.Stands.{coded_is}
use Rattle.cbm_sector.proofs.header.may_be_header.Goals as goal

-- the first eight bits of a header's code
front_bits : (v : List ℕ) → slice_index v 0 ≡ 8 → take 8 (code v) ≡ bits 8 82
front_bits [] e = absurd (omega arith)
front_bits (x ∷ xs) e = ap (λ (n : ℕ). take 8 (code (n ∷ xs))) e

front_is : (t : List Bool) (p x : ℕ) (v : List ℕ) → bits 8 x ≡ stretch t p 8 → coded_at t p 8 ≡ Some v → is_header v ≡ true → bits 8 x ≡ bits 8 82
front_is t p x v e f i =
    e
    ∙ sym (take_at (stretch t p 8) (stretch t (p + 8) 72) 8 (length-stretch t p 8))
    ∙ ap (take 8) (sym (stretch_add t p 8 72))
    ∙ ap (take 8) ((coded_is t p 8 v f).2)
    ∙ front_bits v (eqb-true (slice_index v 0) 8 i)

-- the bits of a byte that was read
one_byte : (xs : List ℕ) → length xs ≡ 1 → bits_of xs ≡ bits 8 (get_or xs 0 0)
one_byte [] e = absurd (omega arith)
one_byte (x ∷ []) e = refl
one_byte (x ∷ y ∷ xs) e = absurd (omega arith)

not_front : (t : List Bool) (p : ℕ) (xs v : List ℕ) → length xs ≡ 1 → bits_of xs ≡ stretch t p 8 → coded_at t p 8 ≡ Some v → (bits 8 (get_or xs 0 0) ≡ bits 8 82 → ⊥) → is_header v ≡ false
not_front t p xs v l e f n = elim (cases_Bool (is_header v)) [
  | inl i ↦ absurd (n (front_is t p (get_or xs 0 0) v (sym (one_byte xs l) ∙ e) f i))
  | inr z ↦ z
]

pub returns : goal.returns
returns c = λ n v f. not_front c.args.track.now c.args.place c.bytes_at.new.out v (omega arith) c.bytes_at.ensures f (c.is_front.ensures n)
