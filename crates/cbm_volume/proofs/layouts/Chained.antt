-- A chain is settled by where it begins, so no sector stands in it twice.
use Rattle.std.proofs.Common.{◌≡◌, ◌≢◌, ℕ, zero, suc, ◌+◌, ◌<◌, List, [], ◌∷◌, ◌++◌, length, get_or, drop, IsOk, refl, sym, ap, subst, ◌∙◌, arith}
use Rattle.std.proofs.lemmas.List.{length-drop}
use Rattle.cbm_medium.specs.Place.{Place, Has, directory_head}
use Rattle.cbm_medium.specs.Content.{Content}
use Rattle.cbm_medium.specs.Links.{bytes_at, link, Chain}

off_track_0 : (tracks : ℕ) (a b : Place) → a.track ≡ 0 → a ≡ b → Has tracks b → ⊥
off_track_0 tracks a b z e h = let t = ap (λ (p : Place). p.track) e in omega arith

-- two chains from one place are one, on disks of however many tracks
pub chains_one : (tracks tracks' : ℕ) (c : Content) (a : Place) (xs ys : List Place) → Chain tracks c a xs → Chain tracks' c a ys → xs ≡ ys
chains_one tracks tracks' c a [] [] h k = refl
chains_one tracks tracks' c a [] (y ∷ ys) h k = absurd (off_track_0 tracks' a y h k.0 k.1)
chains_one tracks tracks' c a (x ∷ xs) [] h k = absurd (off_track_0 tracks a x k h.0 h.1)
chains_one tracks tracks' c a (x ∷ xs) (y ∷ ys) h k =
    let e : x ≡ y = sym h.0 ∙ k.0 in
    let t : xs ≡ ys = chains_one tracks tracks' c (link (bytes_at c x)) xs ys h.3 (subst (λ (p : Place). Chain tracks' c (link (bytes_at c p)) ys) (sym e) k.3) in
    λ i. e i ∷ t i

pub chain_settled : (tracks : ℕ) (c : Content) (a : Place) (xs ys : List Place) → Chain tracks c a xs → Chain tracks c a ys → xs ≡ ys
chain_settled tracks = chains_one tracks tracks

-- where each sector of a chain but its last one still links to the next, a chain from the same place begins with it
pub chain_front : (tracks tracks' : ℕ) (c c' : Content) (a : Place) (xs ys : List Place) → Chain tracks c a xs → Chain tracks' c' a ys
    → ((i : ℕ) → i + 1 < length xs → link (bytes_at c' (get_or xs i directory_head)) ≡ link (bytes_at c (get_or xs i directory_head))) → (rest : List Place) × (ys ≡ xs ++ rest)
chain_front tracks tracks' c c' a [] ys h k same = (ys, refl)
chain_front tracks tracks' c c' a (x ∷ xs) [] h k same = absurd (off_track_0 tracks a x k h.0 h.1)
chain_front tracks tracks' c c' a (x ∷ []) (y ∷ ys) h k same = (ys, (let e : y ≡ x = sym k.0 ∙ h.0 in λ i. e i ∷ ys))
chain_front tracks tracks' c c' a (x ∷ z ∷ zs) (y ∷ ys) h k same =
    let e : y ≡ x = sym k.0 ∙ h.0 in
    let to : link (bytes_at c' y) ≡ link (bytes_at c x) = ap (λ (p : Place). link (bytes_at c' p)) e ∙ same 0 (omega arith) in
    let r = chain_front tracks tracks' c c' (link (bytes_at c x)) (z ∷ zs) ys h.3 (subst (λ (p : Place). Chain tracks' c' p ys) to k.3) (λ i l. same (suc i) (omega arith)) in
    (r.0, λ i. e i ∷ r.1 i)

-- the rest of a chain begins at its own first sector
pub chain_from : (tracks : ℕ) (c : Content) (a : Place) (xs : List Place) (i : ℕ) (d : Place) → Chain tracks c a xs → i < length xs → Chain tracks c (get_or xs i d) (drop i xs)
chain_from tracks c a [] i d h l = absurd (omega arith)
chain_from tracks c a (x ∷ xs) zero d h l = (refl, h.1, h.2, h.3)
chain_from tracks c a (x ∷ xs) (suc i) d h l = chain_from tracks c (link (bytes_at c x)) xs i d h.3 (omega arith)

pub chain_has : (tracks : ℕ) (c : Content) (a : Place) (xs : List Place) (i : ℕ) (d : Place) → Chain tracks c a xs → i < length xs → Has tracks (get_or xs i d)
chain_has tracks c a [] i d h l = absurd (omega arith)
chain_has tracks c a (x ∷ xs) zero d h l = h.1
chain_has tracks c a (x ∷ xs) (suc i) d h l = chain_has tracks c (link (bytes_at c x)) xs i d h.3 (omega arith)

-- NO SECTOR STANDS TWICE IN A CHAIN
pub chain_distinct : (tracks : ℕ) (c : Content) (a : Place) (xs : List Place) (i j : ℕ) (d : Place) → Chain tracks c a xs → i < length xs → j < length xs → get_or xs i d ≡ get_or xs j d → i ≡ j
chain_distinct tracks c a xs i j d h k l e =
    let same : drop i xs ≡ drop j xs = chain_settled tracks c (get_or xs j d) (drop i xs) (drop j xs) (subst (λ (p : Place). Chain tracks c p (drop i xs)) e (chain_from tracks c a xs i d h k)) (chain_from tracks c a xs j d h l) in
    omega (arith, ap length same, length-drop i xs, length-drop j xs)

pub chain_reads : (tracks : ℕ) (c : Content) (a : Place) (xs : List Place) (i : ℕ) (d : Place) → Chain tracks c a xs → i < length xs → IsOk (c (get_or xs i d))
chain_reads tracks c a [] i d h l = absurd (omega arith)
chain_reads tracks c a (x ∷ xs) zero d h l = h.2
chain_reads tracks c a (x ∷ xs) (suc i) d h l = chain_reads tracks c (link (bytes_at c x)) xs i d h.3 (omega arith)

pub chain_begins : (tracks : ℕ) (c : Content) (a : Place) (xs : List Place) (d : Place) → a.track ≢ 0 → Chain tracks c a xs → (0 < length xs) × (get_or xs 0 d ≡ a)
chain_begins tracks c a [] d ne h = absurd (ne h)
chain_begins tracks c a (x ∷ xs) d ne h = (omega arith, sym h.0)

pub chain_ends : (tracks : ℕ) (c : Content) (a : Place) (xs : List Place) (i : ℕ) (d : Place) → Chain tracks c a xs → i < length xs → (link (bytes_at c (get_or xs i d))).track ≡ 0 → length xs ≡ i + 1
chain_ends tracks c a [] i d h l z = absurd (omega arith)
chain_ends tracks c a (x ∷ []) zero d h l z = omega arith
chain_ends tracks c a (x ∷ y ∷ ys) zero d h l z = absurd (off_track_0 tracks (link (bytes_at c x)) y z h.3.0 h.3.1)
chain_ends tracks c a (x ∷ xs) (suc i) d h l z = omega (arith, chain_ends tracks c (link (bytes_at c x)) xs i d h.3 (omega arith) z)

pub chain_goes_on : (tracks : ℕ) (c : Content) (a : Place) (xs : List Place) (i : ℕ) (d : Place) → Chain tracks c a xs → i < length xs → (link (bytes_at c (get_or xs i d))).track ≢ 0
    → (i + 1 < length xs) × (get_or xs (suc i) d ≡ link (bytes_at c (get_or xs i d)))
chain_goes_on tracks c a [] i d h l z = absurd (omega arith)
chain_goes_on tracks c a (x ∷ []) zero d h l z = absurd (z h.3)
chain_goes_on tracks c a (x ∷ y ∷ ys) zero d h l z = (omega arith, sym h.3.0)
chain_goes_on tracks c a (x ∷ xs) (suc i) d h l z =
    let r = chain_goes_on tracks c (link (bytes_at c x)) xs i d h.3 (omega arith) z in (omega (arith, r.0), r.1)
