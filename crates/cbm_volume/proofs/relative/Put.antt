-- Bytes that are put in place of as many others.
use Rattle.std.proofs.Common.{◌≡◌, ℕ, zero, suc, ◌+◌, ◌-◌, ◌*◌, ◌<◌, ◌≤◌, List, [], ◌∷◌, ◌++◌, length, take, drop, set, sym, ap, ◌∙◌, arith}
use Rattle.std.proofs.lemmas.List.{length-append, length-drop, length-take-le, append_assoc, append-nil, take-append-drop, take-append-le, drop-append-le, take_at, drop_at, drop_all}
use Rattle.std.proofs.Math.Seq.{drop-append-add, take-append-add}
use Rattle.std.proofs.Math.Nat.{suc-mul}
use Rattle.cbm_volume.specs.Blocks.{slices}
use Rattle.cbm_volume.proofs.relative.Grown.{one_more}

abbrev pub put : List ℕ → ℕ → List ℕ → List ℕ
put xs a ys = take a xs ++ (ys ++ drop (a + length ys) xs)

-- after a front
pub put_front : (front xs : List ℕ) (a : ℕ) (ys : List ℕ) → put (front ++ xs) (length front + a) ys ≡ front ++ put xs a ys
put_front front xs a ys =
    (λ i. take-append-add front xs a i ++ (ys ++ ((let e : length front + a + length ys ≡ length front + (a + length ys) = omega arith in ap (λ (k : ℕ). drop k (front ++ xs)) e) ∙ drop-append-add front xs (a + length ys)) i))
    ∙ append_assoc front (take a xs) (ys ++ drop (a + length ys) xs)

-- before a back
pub put_back : (xs back : List ℕ) (a : ℕ) (ys : List ℕ) → a + length ys ≤ length xs → put (xs ++ back) a ys ≡ put xs a ys ++ back
put_back xs back a ys h =
    (λ i. take-append-le a xs back (omega (arith, h)) i ++ (ys ++ drop-append-le (a + length ys) xs back h i))
    ∙ ap (λ (zs : List ℕ). take a xs ++ zs) (sym (append_assoc ys (drop (a + length ys) xs) back))
    ∙ sym (append_assoc (take a xs) (ys ++ drop (a + length ys) xs) back)

-- over the seam of two parts
pub put_cross : (xs more : List ℕ) (a : ℕ) (ys zs : List ℕ) → length xs ≡ a + length ys → put (xs ++ more) a (ys ++ zs) ≡ put xs a ys ++ put more 0 zs
put_cross xs more a ys zs h =
    let n : a + length (ys ++ zs) ≡ length xs + length zs = omega (arith, h, length-append ys zs) in
    let z : length zs ≡ 0 + length zs = omega arith in
    let end : drop (a + length ys) xs ≡ [] = drop_all (a + length ys) xs (omega (arith, h)) in
    (λ i. take-append-le a xs more (omega (arith, h)) i ++ (ys ++ zs ++ ((ap (λ (k : ℕ). drop k (xs ++ more)) n) ∙ drop-append-add xs more (length zs)) i))
    ∙ ap (λ (us : List ℕ). take a xs ++ us) (append_assoc ys zs (drop (length zs) more))
    ∙ sym (append_assoc (take a xs) ys (zs ++ drop (length zs) more))
    ∙ (λ i. (take a xs ++ sym (ap (λ (us : List ℕ). ys ++ us) end ∙ append-nil ys) i) ++ (zs ++ drop (z i) more))

pub put_length : (xs : List ℕ) (a : ℕ) (ys : List ℕ) → a + length ys ≤ length xs → length (put xs a ys) ≡ length xs
put_length xs a ys h = omega (arith, h, length-append (take a xs) (ys ++ drop (a + length ys) xs), length-append ys (drop (a + length ys) xs), length-take-le a xs (omega (arith, h)), length-drop (a + length ys) xs)

-- A RECORD THAT IS PUT IN PLACE IS ONE OF THE SLICES, and all others stay
pub slices_put : (n w : ℕ) (bytes : List ℕ) (i : ℕ) (rec : List ℕ) → 0 < w → length rec ≡ w → suc i * w ≤ length bytes → length bytes ≤ n → slices n w (put bytes (i * w) rec) ≡ set (slices n w bytes) i rec
slices_put zero w bytes i rec s e h l = absurd (omega (arith, suc-mul i w, h, l, s))
slices_put (suc n) w bytes zero rec s e h l =
    let z : 0 * w ≡ 0 = omega arith in
    let is : put bytes (0 * w) rec ≡ rec ++ drop w bytes = (λ i. take (z i) bytes ++ (rec ++ drop (z i + length rec) bytes)) ∙ (let k : 0 + length rec ≡ w = omega (arith, e) in ap (λ (k : ℕ). rec ++ drop k bytes) k) in
    let enough : w ≤ length bytes = omega (arith, suc-mul 0 w, h) in
    ap (slices (suc n) w) is
    ∙ one_more n w (rec ++ drop w bytes) (omega (arith, length-append rec (drop w bytes), e))
    ∙ (λ i. take_at rec (drop w bytes) w e i ∷ slices n w (drop_at rec (drop w bytes) w e i))
    ∙ sym (ap (λ (xs : List (List ℕ)). set xs 0 rec) (one_more n w bytes enough))
slices_put (suc n) w bytes (suc i) rec s e h l =
    let enough : w ≤ length bytes = omega (arith, suc-mul (suc i) w, h) in
    let front : length (take w bytes) ≡ w = length-take-le w bytes enough in
    let at : suc i * w ≡ length (take w bytes) + i * w = omega (arith, suc-mul i w, front) in
    let is : put bytes (suc i * w) rec ≡ take w bytes ++ put (drop w bytes) (i * w) rec =
    (λ j. put (sym (take-append-drop w bytes) j) (at j) rec) ∙ put_front (take w bytes) (drop w bytes) (i * w) rec in
    let left : length (drop w bytes) ≡ length bytes - w = length-drop w bytes in
    ap (slices (suc n) w) is
    ∙ one_more n w (take w bytes ++ put (drop w bytes) (i * w) rec) (omega (arith, length-append (take w bytes) (put (drop w bytes) (i * w) rec), front))
    ∙ (λ j. take_at (take w bytes) (put (drop w bytes) (i * w) rec) w front j ∷ slices n w (drop_at (take w bytes) (put (drop w bytes) (i * w) rec) w front j))
    ∙ ap (λ (xs : List (List ℕ)). take w bytes ∷ xs) (slices_put n w (drop w bytes) i rec s e (omega (arith, left, h, suc-mul (suc i) w)) (omega (arith, left, l, enough, s)))
    ∙ sym (ap (λ (xs : List (List ℕ)). set xs (suc i) rec) (one_more n w bytes enough))
