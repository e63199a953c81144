use Rattle.std.proofs.Common.{◌≡◌, ◌≢◌, ℕ, ◌+◌, ◌*◌, ◌-◌, ◌/◌, ◌%◌, ◌<◌, ◌≤◌, List, length, get_or, sym, ap, ◌∙◌, arith, inl, inr, Bool, true, false}
use Rattle.std.proofs.lemmas.Bool.{cases_lt, cases_Bool}
use Rattle.cbm_gcr.specs.Code.{code}
use Rattle.cbm_track.specs.Circle.{circle_bit, begins}
use Rattle.cbm_track.proofs.Steps.{begins_not_one, begins_not_ten, begins_here}
use Rattle.cbm_track.proofs.Round.{begins_ten, ten_ones_at}
use Rattle.cbm_track.proofs.Places.{round_twice}
use Rattle.cbm_sector.specs.Decoding.{IsBytes}
use Rattle.cbm_sector.proofs.Coding.{no_ten_ones}

-- forty ones at a place, then the code of bytes, and a gap of some bits
pub record IsLaid (t : List Bool) (a : ℕ) (v : List ℕ) (m : ℕ) : Type 0 where
  pub ones : (k : ℕ) → k < 40 → circle_bit t (a + k) ≡ true
  pub bytes : IsBytes v
  pub some : 0 < length v
  pub first : get_or (code v) 0 false ≡ false
  pub here : (k : ℕ) → k < 10 * length v → circle_bit t (a + 40 + k) ≡ get_or (code v) k false
  pub gaps : (k : ℕ) → 2 * k < m → circle_bit t (a + 40 + 10 * length v + 2 * k) ≡ false

-- the bit ten places back and k on
back : (t : List Bool) (p k q : ℕ) → 5 ≤ length t → p + k ≡ q + 10 → circle_bit t (p + (2 * length t - 10) + k) ≡ circle_bit t q
back t p k q h e = ap (circle_bit t) (omega arith) ∙ round_twice t (length t) q (ap (λ (n : ℕ). n) (omega arith))

pub laid_begins : (t : List Bool) (a : ℕ) (v : List ℕ) (m : ℕ) → 5 ≤ length t → IsLaid t a v m → begins t (a + 40) ≡ true
laid_begins t a v m h l = begins_here t (a + 40)
    (ap (circle_bit t) (omega arith) ∙ l.here 0 (omega (arith, l.some)) ∙ l.first)
    (λ k c. back t (a + 40) k (a + (30 + k)) h (omega arith) ∙ l.ones (30 + k) (omega arith))

-- no block begins in it but after the ones
pub laid_quiet : (t : List Bool) (a : ℕ) (v : List ℕ) (m r : ℕ) → 5 ≤ length t → IsLaid t a v m → r < 40 + 10 * length v + m → r ≢ 40 → begins t (a + r) ≡ false
laid_quiet t a v m r h l b ne = elim (cases_lt r 40) [
  | inl u ↦ begins_not_one t (a + r) (l.ones r u)
  | inr u ↦ elim (cases_lt r 50) [
    | inl w ↦ begins_not_ten t (a + r) (50 - r) (omega arith)
        (back t (a + r) (50 - r) (a + 40 + 0) h (omega arith) ∙ l.here 0 (omega (arith, l.some)) ∙ l.first)
    | inr w ↦ elim (cases_lt (40 + 10 * length v) r) [
      | inl g ↦ begins_not_ten t (a + r) (9 - (r - 41) % 2) (omega arith)
          (back t (a + r) (9 - (r - 41) % 2) (a + 40 + 10 * length v + 2 * ((r - 41 - 10 * length v) / 2)) h (omega arith)
          ∙ l.gaps ((r - 41 - 10 * length v) / 2) (omega arith))
      | inr g ↦ elim (cases_Bool (begins t (a + r))) [
        | inr e ↦ e
        | inl e ↦ absurd (no_ten_ones v l.bytes (r - 50) (omega arith) (λ k c.
            sym (l.here (r - 50 + k) (omega arith))
            ∙ sym (back t (a + r) k (a + 40 + (r - 50 + k)) h (omega arith))
            ∙ ten_ones_at t (a + r + (2 * length t - 10)) k (begins_ten t (a + r) e) c))
      ]
    ]
  ]
]
