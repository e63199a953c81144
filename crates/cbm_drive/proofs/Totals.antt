-- How many drives hold a line, drive by drive.
use Rattle.std.proofs.Common.{◌≡◌, ℕ, ◌+◌, ◌<◌, List, [], ◌∷◌, ◌++◌, length, take, get_or, sym, ap, ◌∙◌, arith}
use Rattle.std.proofs.lemmas.List.{take_more}
use Rattle.cbm_drive.specs.Seats.{total}

total_more : {A : Type 0} (f : A → ℕ) (xs : List A) (x : A) → total f (xs ++ x ∷ []) ≡ total f xs + f x
total_more f [] x = omega arith
total_more f (y ∷ ys) x = omega (arith, total_more f ys x)

-- one drive more was looked at
pub total_next : {A : Type 0} (f : A → ℕ) (xs : List A) (i : ℕ) (x : A) (sum more : ℕ) → i < length xs → x ≡ get_or xs i x → sum ≡ total f (take i xs) → more ≡ f x → sum + more ≡ total f (take (i + 1) xs)
total_next f xs i x sum more l at so e =
    let one : total f (take (i + 1) xs) ≡ total f (take i xs) + f x = ap (total f) (take_more xs i x l ∙ ap (λ y. take i xs ++ y ∷ []) (sym at)) ∙ total_more f (take i xs) x in
    omega (arith, so, e, one)
