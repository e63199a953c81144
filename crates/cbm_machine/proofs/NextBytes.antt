-- The next byte of a list from which some were taken.
use Rattle.std.proofs.Common.{◌≡◌, ℕ, zero, suc, ◌+◌, ◌<◌, List, [], ◌∷◌, length, drop, get_or, true, false, Some, refl, sym, ◌∙◌, arith, inl, inr}
use Rattle.std.specs.Prelude.{◌==◌}
use Rattle.std.proofs.lemmas.Bool.{cases_eq, eq-eqb, ne_eqb}
use Rattle.cbm_file.specs.Waiting.{next_shown}

next_last : (xs : List ℕ) (n : ℕ) → n + 1 ≡ length xs → next_shown (drop n xs) ≡ Some (get_or xs n 0, true)
next_last [] n h = absurd (omega arith)
next_last (x ∷ []) zero h = refl
next_last (x ∷ y ∷ ys) zero h = absurd (omega arith)
next_last (x ∷ xs) (suc n) h = next_last xs n (omega arith)

next_more : (xs : List ℕ) (n : ℕ) → n + 1 < length xs → next_shown (drop n xs) ≡ Some (get_or xs n 0, false)
next_more [] n h = absurd (omega arith)
next_more (x ∷ []) zero h = absurd (omega arith)
next_more (x ∷ y ∷ ys) zero h = refl
next_more (x ∷ xs) (suc n) h = next_more xs n (omega arith)

pub next_dropped : (xs : List ℕ) (n : ℕ) → n < length xs → next_shown (drop n xs) ≡ Some (get_or xs n 0, n + 1 == length xs)
next_dropped xs n h = elim (cases_eq (n + 1) (length xs)) [
  | inl e ↦ next_last xs n e ∙ (λ i. Some (get_or xs n 0, sym (eq-eqb (n + 1) (length xs) e) i))
  | inr ne ↦ next_more xs n (omega arith) ∙ (λ i. Some (get_or xs n 0, sym (ne_eqb (n + 1) (length xs) ne) i))
]
