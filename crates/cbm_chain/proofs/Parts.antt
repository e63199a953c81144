-- The blocks of a writer: they stay, one more comes after them, or the last one ends them.
use Rattle.std.proofs.Common.{◌≡◌, ◌≢◌, ℕ, List, [], ◌∷◌, ◌++◌, IsOk, refl, sym, ap, subst, ◌∙◌}
use Rattle.std.proofs.lemmas.List.{append_assoc, append-nil}
use Rattle.cbm_medium.specs.Place.{Place, Has}
use Rattle.cbm_medium.specs.Content.{Cell, Content}
use Rattle.cbm_medium.specs.Links.{bytes_at, link, or_nothing, IsApart, Chain}
use Rattle.cbm_chain.specs.Data.{data_of, chain_bytes}
use Rattle.cbm_chain.specs.Writing.{Part, part_bytes, last_of}

-- these sectors are as they were
abbrev pub AreKept : Content → Content → List Place → Type 0
AreKept c c' [] = Unit {0}
AreKept c c' (x ∷ xs) = (c' x ≡ c x) × AreKept c c' xs

pub part_kept : (tracks : ℕ) (c c' : Content) (xs : List Place) → AreKept c c' xs → Part tracks c xs → Part tracks c' xs
part_kept tracks c c' [] k h = h
part_kept tracks c c' (b ∷ []) k h = h
part_kept tracks c c' (b ∷ b' ∷ rest) k h =
    (h.0, h.1, h.2, subst (λ (x : Cell). IsOk x) (sym k.0) h.3, ap (λ (x : Cell). link (or_nothing x)) k.0 ∙ h.4, part_kept tracks c c' (b' ∷ rest) k.1 h.5)

pub part_bytes_kept : (c c' : Content) (xs : List Place) → AreKept c c' xs → part_bytes c' xs ≡ part_bytes c xs
part_bytes_kept c c' [] k = refl
part_bytes_kept c c' (b ∷ []) k = refl
part_bytes_kept c c' (b ∷ b' ∷ rest) k =
    ap (λ (x : Cell). data_of (or_nothing x) ++ part_bytes c' (b' ∷ rest)) k.0 ∙ ap (λ (x : List ℕ). data_of (bytes_at c b) ++ x) (part_bytes_kept c c' (b' ∷ rest) k.1)

-- ---- the last block

pub apart_last : (b x : Place) (xs : List Place) → IsApart b (x ∷ xs) → b ≢ last_of x xs
apart_last b x [] h = h.0
apart_last b x (y ∷ ys) h = apart_last b y ys h.1

pub last_push : (b q : Place) (rest : List Place) → last_of b (rest ++ q ∷ []) ≡ q
last_push b q [] = refl
last_push b q (x ∷ xs) = last_push x q xs

pub last_off : (tracks : ℕ) (c : Content) (b : Place) (rest : List Place) → Part tracks c (b ∷ rest) → (last_of b rest).track ≢ 18
last_off tracks c b [] h = h.1
last_off tracks c b (x ∷ xs) h = last_off tracks c x xs h.5

-- where only the last block is another, the part is as it was
pub part_last : (tracks : ℕ) (c c' : Content) (b : Place) (rest : List Place) → Part tracks c (b ∷ rest) → ((p : Place) → p ≢ last_of b rest → c' p ≡ c p) → Part tracks c' (b ∷ rest) × (part_bytes c' (b ∷ rest) ≡ part_bytes c (b ∷ rest))
part_last tracks c c' b [] h same = (h, refl)
part_last tracks c c' b (x ∷ xs) h same =
    let e : c' b ≡ c b = same b (apart_last b x xs h.2) in
    let k = part_last tracks c c' x xs h.5 same in (
      (h.0, h.1, h.2, subst (λ (y : Cell). IsOk y) (sym e) h.3, ap (λ (y : Cell). link (or_nothing y)) e ∙ h.4, k.0),
      (ap (λ (y : Cell). data_of (or_nothing y) ++ part_bytes c' (x ∷ xs)) e ∙ ap (λ (y : List ℕ). data_of (bytes_at c b) ++ y) k.1),
    )

-- ---- one block more

apart_push : (b q : Place) (xs : List Place) → IsApart b xs → b ≢ q → IsApart b (xs ++ q ∷ [])
apart_push b q [] h ne = (ne, tt)
apart_push b q (x ∷ xs) h ne = (h.0, apart_push b q xs h.1 ne)

pub part_push : (tracks : ℕ) (c c' : Content) (b q : Place) (rest : List Place) → Part tracks c (b ∷ rest) → IsApart q (b ∷ rest) → ((p : Place) → p ≢ last_of b rest → c' p ≡ c p)
    → IsOk (c' (last_of b rest)) → link (bytes_at c' (last_of b rest)) ≡ q → Has tracks q → q.track ≢ 18 → Part tracks c' (b ∷ rest ++ q ∷ [])
part_push tracks c c' b q [] h apart same ok to has off = (h.0, h.1, (λ e. apart.0 (sym e), tt), ok, to, (has, off))
part_push tracks c c' b q (x ∷ xs) h apart same ok to has off =
    let e : c' b ≡ c b = same b (apart_last b x xs h.2) in (
      h.0,
      h.1,
      apart_push b q (x ∷ xs) h.2 (λ z. apart.0 (sym z)),
      subst (λ (y : Cell). IsOk y) (sym e) h.3,
      ap (λ (y : Cell). link (or_nothing y)) e ∙ h.4,
      part_push tracks c c' x q xs h.5 apart.1 same ok to has off,
    )

pub part_push_bytes : (tracks : ℕ) (c c' : Content) (b q : Place) (rest : List Place) → Part tracks c (b ∷ rest) → ((p : Place) → p ≢ last_of b rest → c' p ≡ c p)
    → part_bytes c' (b ∷ rest ++ q ∷ []) ≡ part_bytes c (b ∷ rest) ++ data_of (bytes_at c' (last_of b rest))
part_push_bytes tracks c c' b q [] h same = append-nil (data_of (bytes_at c' b))
part_push_bytes tracks c c' b q (x ∷ xs) h same =
    ap (λ (y : Cell). data_of (or_nothing y) ++ part_bytes c' (x ∷ xs ++ q ∷ [])) (same b (apart_last b x xs h.2))
    ∙ ap (λ (y : List ℕ). data_of (bytes_at c b) ++ y) (part_push_bytes tracks c c' x q xs h.5 same)
    ∙ sym (append_assoc (data_of (bytes_at c b)) (part_bytes c (x ∷ xs)) (data_of (bytes_at c' (last_of x xs))))

-- ---- the blocks as a chain

-- the blocks of a writer whose last one is written as the last are a chain
pub part_chain : (tracks : ℕ) (c : Content) (b : Place) (rest : List Place) → Part tracks c (b ∷ rest) → IsOk (c (last_of b rest)) → (link (bytes_at c (last_of b rest))).track ≡ 0 → Chain tracks c b (b ∷ rest)
part_chain tracks c b [] h ok z = (refl, h.0, ok, z)
part_chain tracks c b (b' ∷ rest) h ok z = (refl, h.0, h.3, subst (λ (x : Place). Chain tracks c x (b' ∷ rest)) (sym h.4) (part_chain tracks c b' rest h.5 ok z))

-- and hold its bytes, then those of the last
pub part_chain_bytes : (tracks : ℕ) (c : Content) (b : Place) (rest : List Place) → Part tracks c (b ∷ rest) → chain_bytes c (b ∷ rest) ≡ part_bytes c (b ∷ rest) ++ data_of (bytes_at c (last_of b rest))
part_chain_bytes tracks c b [] h = append-nil (data_of (bytes_at c b))
part_chain_bytes tracks c b (b' ∷ rest) h = ap (λ (x : List ℕ). data_of (bytes_at c b) ++ x) (part_chain_bytes tracks c b' rest h.5)
    ∙ sym (append_assoc (data_of (bytes_at c b)) (part_bytes c (b' ∷ rest)) (data_of (bytes_at c (last_of b' rest))))
