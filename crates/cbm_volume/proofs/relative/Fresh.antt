-- Fresh records byte by byte, as they are written into blocks.
use Rattle.std.proofs.Common.{◌≡◌, ℕ, zero, suc, ◌+◌, ◌-◌, ◌*◌, ◌%◌, ◌<◌, ◌≤◌, List, ◌++◌, get_or, Bool, sym, ap, ◌∙◌, arith, inl, inr}
use Rattle.std.specs.Prelude.{replicate, if◌then◌else◌, ◌==◌}
use Rattle.std.proofs.lemmas.Bool.{cases_lt, eq-eqb, ne_eqb, lt-ltb, le-ltb}
use Rattle.std.proofs.lemmas.List.{append_assoc, get_or-append_right, get_or_append_left, get_or-replicate, get_or_past, length-replicate}
use Rattle.std.proofs.Math.Nat.{suc-mul, add-mul-mod_self_right, mod-eq_of_lt}
pub use Rattle.cbm_relfile.specs.Making.{fresh_byte}
use Rattle.cbm_volume.proofs.held.Slices.{joined}
use Rattle.cbm_volume.proofs.relative.Grown.{fresh, fresh_length}

pub inside : (w j o : ℕ) → o < j * w → fresh_byte w j o ≡ (if o % w == 0 then 255 else 0)
inside w j o h = ap (λ (b : Bool). if b then (if o % w == 0 then 255 else 0) else 0) (lt-ltb o (j * w) h)

pub afterwards : (w j o : ℕ) → j * w ≤ o → fresh_byte w j o ≡ 0
afterwards w j o h = ap (λ (b : Bool). if b then (if o % w == 0 then 255 else 0) else 0) (le-ltb o (j * w) h)

zeros_at : (n i : ℕ) → ◌≡◌ {A = ℕ} (get_or (replicate n 0) i 0) 0
zeros_at n i = elim (cases_lt i n) [
  | inl l ↦ get_or-replicate n i 0 0 l
  | inr past ↦ get_or_past (replicate n 0) i 0 (omega (arith, past, length-replicate {A = ℕ} n 0))
]

-- one record
one : (w o : ℕ) → 0 < w → o < w → get_or (fresh w) o 0 ≡ (if o % w == 0 then 255 else 0)
one w zero s h = let z : 0 % w ≡ 0 = mod-eq_of_lt h in sym (ap (λ (b : Bool). if b then 255 else 0) (eq-eqb (0 % w) 0 z))
one w (suc i) s h = zeros_at (w - 1) i ∙ (let e : suc i % w ≡ suc i = mod-eq_of_lt h in sym (ap (λ (b : Bool). if b then 255 else 0) (ne_eqb (suc i % w) 0 (λ z. (let f : suc i ≡ 0 = sym e ∙ z in omega (arith, f))))))

-- THE FRESH RECORDS AND ZEROS AFTER THEM, byte by byte
pub fresh_at : (w j n o : ℕ) → 0 < w → get_or (joined (replicate j (fresh w)) ++ replicate n 0) o 0 ≡ fresh_byte w j o
fresh_at w zero n o s = zeros_at n o ∙ sym (afterwards w 0 o (let z : 0 * w ≡ 0 = omega arith in omega (arith, z)))
fresh_at w (suc j) n o s =
    let whole : fresh w ++ joined (replicate j (fresh w)) ++ replicate n 0 ≡ fresh w ++ (joined (replicate j (fresh w)) ++ replicate n 0) = append_assoc (fresh w) (joined (replicate j (fresh w))) (replicate n 0) in
    ap (λ (xs : List ℕ). get_or xs o 0) whole
    ∙ (elim (cases_lt o w) [
      | inl l ↦ get_or_append_left (fresh w) (joined (replicate j (fresh w)) ++ replicate n 0) 0 o (omega (arith, l, fresh_length w s)) ∙ one w o s l ∙ sym (inside w (suc j) o (omega (arith, l, suc-mul j w)))
      | inr past ↦ get_or-append_right (fresh w) (joined (replicate j (fresh w)) ++ replicate n 0) w o 0 (fresh_length w s) past
          ∙ fresh_at w j n (o - w) s
          ∙ (elim (cases_lt o (suc j * w)) [
            | inl l ↦ inside w j (o - w) (omega (arith, l, suc-mul j w, past))
                ∙ ap (λ (m : ℕ). if m == 0 then 255 else 0) (sym (add-mul-mod_self_right (o - w) 1 w) ∙ (let e : o - w + 1 * w ≡ o = omega (arith, past) in ap (λ (m : ℕ). m % w) e))
                ∙ sym (inside w (suc j) o l)
            | inr far ↦ afterwards w j (o - w) (omega (arith, far, suc-mul j w, past)) ∙ sym (afterwards w (suc j) o far)
          ])
    ])
