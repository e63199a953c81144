-- A mark is set in the rows, and no other.
use mathlib.Core.Path.{fun_ext}
use Rattle.std.proofs.Common.{◌≡◌, ℕ, zero, suc, ◌*◌, ◌^◌, ◌%◌, ◌<◌, List, length, get_or, true, false, replicate, refl, sym, ap, subst, ◌∙◌, arith, inl, inr}
use Rattle.std.specs.Prelude.{◌==◌, bit_or}
use Rattle.std.specs.Int.{bit_at, w32}
use Rattle.std.proofs.lemmas.Nat.Bits.{bit_at_set_same, bit_at_set_other, bit_at-zero}
use Rattle.std.proofs.lemmas.List.{get_or-set_same, get_or-set_other}
use Rattle.std.proofs.lemmas.Bool.{cases_eq}
use Rattle.cbm_medium.specs.Place.{Place, sectors_on, IsOnDisk}
use Rattle.cbm_medium.proofs.Places.{place_decide}
use Rattle.cbm_bam.specs.Map.{with_bit}
use Rattle.cbm_bam.proofs.Counts.{bit_there, bit_elsewhere}
use Rattle.cbm_bam.specs.Marks.{is_marked, with_row_mark}

few : (t : ℕ) → sectors_on t < 22
few t = grind arith

some : (t s : ℕ) → s < sectors_on t → t < 41
some t s h = grind arith

marked : (rows : List ℕ) (p q : Place) → length rows ≡ 41 → IsOnDisk p → is_marked (with_row_mark rows p) q ≡ with_bit (is_marked rows) p true q
unfolding is_marked with_row_mark
marked rows p q l hp = elim (place_decide p q) [
  | inl e ↦ subst (λ (x : Place). is_marked (with_row_mark rows p) x ≡ with_bit (is_marked rows) p true x) e
      (ap (λ (v : ℕ). bit_at v p.sector == 1) (get_or-set_same rows p.track (bit_or (get_or rows p.track 0) (1 * 2 ^ p.sector % 2 ^ 32)) 0 (omega (arith, some p.track p.sector hp)))
      ∙ ap (λ (v : ℕ). v == 1) (bit_at_set_same w32 (get_or rows p.track 0) p.sector (omega (arith, few p.track))) ∙ sym (bit_there (is_marked rows) p true))
  | inr ne ↦ (elim (cases_eq q.track p.track) [
    | inl e ↦ ap (λ (t : ℕ). bit_at (get_or (with_row_mark rows p) t 0) q.sector == 1) e
        ∙ ap (λ (v : ℕ). bit_at v q.sector == 1) (get_or-set_same rows p.track (bit_or (get_or rows p.track 0) (1 * 2 ^ p.sector % 2 ^ 32)) 0 (omega (arith, some p.track p.sector hp)))
        ∙ ap (λ (v : ℕ). v == 1) (bit_at_set_other w32 (get_or rows p.track 0) p.sector (omega (arith, few p.track)) q.sector (λ f. ne (λ i. record { track = sym e i; sector = sym f i })))
        ∙ ap (λ (t : ℕ). bit_at (get_or rows t 0) q.sector == 1) (sym e)
    | inr far ↦ ap (λ (v : ℕ). bit_at v q.sector == 1) (get_or-set_other rows p.track q.track (bit_or (get_or rows p.track 0) (1 * 2 ^ p.sector % 2 ^ 32)) 0 far)
  ]) ∙ sym (bit_elsewhere (is_marked rows) p q true ne)
]

pub marks_one : (rows : List ℕ) (p : Place) → length rows ≡ 41 → IsOnDisk p → is_marked (with_row_mark rows p) ≡ with_bit (is_marked rows) p true
marks_one rows p l h = fun_ext (λ q. marked rows p q l h)

zero_at : (n t : ℕ) → get_or {A = ℕ} (replicate {A = ℕ} n 0) t 0 ≡ 0
zero_at zero t = refl
zero_at (suc n) zero = refl
zero_at (suc n) (suc t) = zero_at n t

-- no mark
pub marks_none : is_marked (replicate {A = ℕ} 41 0) ≡ (λ (p : Place). false)
unfolding is_marked
marks_none = fun_ext (λ p. ap (λ (v : ℕ). bit_at v p.sector == 1) (zero_at 41 p.track) ∙ ap (λ (v : ℕ). v == 1) (bit_at-zero p.sector))
