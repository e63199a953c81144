-- The first bytes of a text, of which no more than so many are kept.
use Rattle.std.proofs.Common.{◌≡◌, ℕ, zero, suc, ◌<◌, ◌≤◌, List, [], ◌∷◌, ◌++◌, length, take, refl, ap, arith, Option, Some, None}

-- all of them
pub take_all : (n : ℕ) (xs : List ℕ) → length xs ≤ n → take n xs ≡ xs
take_all zero [] h = refl
take_all zero (x ∷ xs) h = absurd (omega arith)
take_all (suc n) [] h = refl
take_all (suc n) (x ∷ xs) h = ap (λ ys. x ∷ ys) (take_all n xs (omega arith))

-- and one more, where there is room for it
pub take_room : (n : ℕ) (xs : List ℕ) (b : ℕ) → length xs < n → take n (xs ++ b ∷ []) ≡ xs ++ b ∷ []
take_room zero xs b h = absurd (omega (arith, h))
take_room (suc zero) [] b h = refl
take_room (suc (suc n)) [] b h = refl
take_room (suc n) (x ∷ xs) b h = ap (λ ys. x ∷ ys) (take_room n xs b (omega (arith, h)))

-- what stands after the first n isn't among them
pub take_front : (n : ℕ) (xs ys : List ℕ) → n ≤ length xs → take n (xs ++ ys) ≡ take n xs
take_front zero xs ys h = refl
take_front (suc n) [] ys h = absurd (omega arith)
take_front (suc n) (x ∷ xs) ys h = ap (λ zs. x ∷ zs) (take_front n xs ys (omega arith))

-- a byte after what is kept of a text is as one after the text
pub take_more : (n : ℕ) (xs ys : List ℕ) → take n (take n xs ++ ys) ≡ take n (xs ++ ys)
take_more zero xs ys = refl
take_more (suc n) [] ys = refl
take_more (suc n) (x ∷ xs) ys = ap (λ zs. x ∷ zs) (take_more n xs ys)

-- two pairs of the same
pub same_pair : {a b : ℕ} {xs ys : List ℕ} → a ≡ b → xs ≡ ys → ◌≡◌ {A = ℕ × List ℕ} (a, xs) (b, ys)
same_pair e f = λ i. (e i, f i)

-- the parts of one that may be there
abbrev pub number_of : Option (ℕ × List ℕ) → ℕ
number_of None = 0
number_of (Some t) = t.0

abbrev pub bytes_of : Option (ℕ × List ℕ) → List ℕ
bytes_of None = []
bytes_of (Some t) = t.1
