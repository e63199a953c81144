-- Following links, and the chains that it gives.
use Rattle.std.proofs.Common.{◌≡◌, ◌≢◌, ◌⊎◌, ℕ, zero, suc, ◌+◌, ◌<◌, ◌≤◌, List, [], ◌∷◌, length, Bool, true, false, Option, Some, None, Ok, Err, IsOk, arith, inl, inr, ap, refl, sym, subst, ◌∙◌}
use Rattle.std.proofs.lemmas.Bool.{lt-ltb, eq-eqb, ne_eqb, cases_eq}
use Rattle.cbm_medium.specs.Place.{Place, Has, has, sectors_on}
use Rattle.cbm_medium.specs.Content.{Cell, Content, written}
use Rattle.cbm_medium.specs.declared.fault.Trouble.{Trouble}
use Rattle.cbm_medium.specs.Links.{or_nothing, bytes_at, link, LinksLead, Chain, Stops, IsCut, Followed, ended, cut_at, with_block, followed_after, follow, AllSame, IsApart}
use Rattle.cbm_medium.proofs.Places.{written_elsewhere}

pub has_true : (tracks : ℕ) (p : Place) → Has tracks p → has tracks p ≡ true
has_true tracks p h = rw (lt-ltb p.sector (sectors_on p.track) h.2, lt-ltb p.track (tracks + 1) (omega arith)) refl

-- no sector lies on track 0
pub on_a_track : (p : Place) → p.sector < sectors_on p.track → 0 < p.track
on_a_track p h = elim (cases_eq p.track 0) [
  | inl z ↦ (let none : sectors_on p.track ≡ 0 = ap sectors_on z in absurd (omega arith))
  | inr nz ↦ omega arith
]

pub true_has : (tracks : ℕ) (p : Place) → has tracks p ≡ true → Has tracks p
true_has tracks p h =
    let s : p.sector < sectors_on p.track = grind arith in
    let t : p.track ≤ tracks = grind arith in
    (on_a_track p s, t, s)

pub has_none : (tracks : ℕ) (p : Place) → (Has tracks p → ⊥) → has tracks p ≡ false
has_none tracks p h = by_test (has tracks p) refl
  where
    by_test : (b : Bool) → has tracks p ≡ b → has tracks p ≡ false
    by_test false e = e
    by_test true e = absurd (h (true_has tracks p e))

-- true or false, as a choice that keeps the equation
pub bool_cases : (b : Bool) → (b ≡ true) ⊎ (b ≡ false)
bool_cases true = inl refl
bool_cases false = inr refl

-- ---- one step

pub follow_end : (tracks : ℕ) (content : Content) (n : ℕ) (a : Place) → a.track ≡ 0 → follow tracks content n a ≡ ended []
unfolding follow
follow_end tracks content zero a z = rw (eq-eqb a.track 0 z) refl
follow_end tracks content (suc n) a z = rw (eq-eqb a.track 0 z) refl

pub follow_off : (tracks : ℕ) (content : Content) (n : ℕ) (a : Place) → a.track ≢ 0 → has tracks a ≡ false → follow tracks content n a ≡ cut_at 66 a
unfolding follow
follow_off tracks content zero a nz h = rw (ne_eqb a.track 0 nz, h) refl
follow_off tracks content (suc n) a nz h = rw (ne_eqb a.track 0 nz, h) refl

pub follow_full : (tracks : ℕ) (content : Content) (n : ℕ) (a : Place) → a.track ≢ 0 → Has tracks a → n ≡ 0 → follow tracks content n a ≡ cut_at 71 a
unfolding follow
follow_full tracks content n a nz h e = ap (λ k. follow tracks content k a) e ∙ rw (ne_eqb a.track 0 nz, has_true tracks a h) refl

pub follow_on : (tracks : ℕ) (content : Content) (m n : ℕ) (a : Place) → a.track ≢ 0 → Has tracks a → m ≡ suc n
    → follow tracks content m a ≡ followed_after a (content a) (λ q. follow tracks content n q)
unfolding follow
follow_on tracks content m n a nz h e = ap (λ k. follow tracks content k a) e ∙ rw (ne_eqb a.track 0 nz, has_true tracks a h) refl

pub follow_fault : (tracks : ℕ) (content : Content) (m n : ℕ) (a : Place) (code : ℕ) → a.track ≢ 0 → Has tracks a → m ≡ suc n → content a ≡ Err code
    → follow tracks content m a ≡ cut_at code a
follow_fault tracks content m n a code nz h e c = follow_on tracks content m n a nz h e ∙ ap (λ cell. followed_after a cell (λ q. follow tracks content n q)) c

pub follow_next : (tracks : ℕ) (content : Content) (m n : ℕ) (a : Place) (bytes : List ℕ) → a.track ≢ 0 → Has tracks a → m ≡ suc n → content a ≡ Ok bytes
    → follow tracks content m a ≡ with_block a (follow tracks content n (link bytes))
follow_next tracks content m n a bytes nz h e c = follow_on tracks content m n a nz h e ∙ ap (λ cell. followed_after a cell (λ q. follow tracks content n q)) c

-- ---- a chain is followed, and so is one that is cut

pub chain_followed : (tracks : ℕ) (content : Content) (blocks : List Place) (n : ℕ) (a : Place) → Chain tracks content a blocks → length blocks ≤ n
    → follow tracks content n a ≡ ended blocks
chain_followed tracks content [] n a h k = follow_end tracks content n a h
chain_followed tracks content (b ∷ rest) zero a h k = absurd (omega arith)
chain_followed tracks content (b ∷ rest) (suc n) a h k =
    ap (λ p. follow tracks content (suc n) p) h.0
    ∙ go (content b) refl h.2 h.3 (λ q tail. chain_followed tracks content rest n q tail (omega arith))
  where
    nz : b.track ≢ 0
    nz e = omega (arith, h.1.0)

    go : (cell : Cell) → content b ≡ cell → IsOk cell → Chain tracks content (link (or_nothing cell)) rest
        → ((q : Place) → Chain tracks content q rest → follow tracks content n q ≡ ended rest)
        → follow tracks content (suc n) b ≡ ended (b ∷ rest)
    go (Ok bytes) e ok tail more = follow_next tracks content (suc n) n b bytes nz h.1 refl e ∙ ap (with_block b) (more (link bytes) tail)
    go (Err code) e ok tail more = absurd (cc)

abbrev cut_of : List Place → ℕ → Place → Followed
cut_of blocks code p = record { blocks = blocks; trouble = Some (record { code = code; track = p.track; sector = p.sector }) }

-- the walk stops at once
stopped : (tracks : ℕ) (content : Content) (n : ℕ) (a : Place) (code : ℕ) → a.track ≢ 0 → Stops tracks content n 0 a code → follow tracks content n a ≡ cut_of [] code a
stopped tracks content n a code nz (inl w) = follow_off tracks content n a nz w.1 ∙ ap (λ k. cut_at k a) (sym w.0)
stopped tracks content n a code nz (inr (inl w)) = follow_full tracks content n a nz w.1 (omega (arith, w.2)) ∙ ap (λ k. cut_at k a) (sym w.0)
stopped tracks content zero a code nz (inr (inr w)) = absurd (omega (arith, w.1))
stopped tracks content (suc n) a code nz (inr (inr w)) = follow_fault tracks content (suc n) n a code nz w.0 refl w.2

-- one sector fewer after it, and one fewer allowed
one_less : (tracks : ℕ) (content : Content) (most n : ℕ) (p : Place) (code : ℕ) → Stops tracks content (suc most) (suc n) p code → Stops tracks content most n p code
one_less tracks content most n p code (inl w) = inl w
one_less tracks content most n p code (inr (inl w)) = inr (inl (w.0, w.1, omega (arith, w.2)))
one_less tracks content most n p code (inr (inr w)) = inr (inr (w.0, omega (arith, w.1), w.2))

one_more : (tracks : ℕ) (content : Content) (most n : ℕ) (p : Place) (code : ℕ) → Stops tracks content most n p code → Stops tracks content (suc most) (suc n) p code
one_more tracks content most n p code (inl w) = inl w
one_more tracks content most n p code (inr (inl w)) = inr (inl (w.0, w.1, omega (arith, w.2)))
one_more tracks content most n p code (inr (inr w)) = inr (inr (w.0, omega (arith, w.1), w.2))

leads_followed : (tracks : ℕ) (content : Content) (blocks : List Place) (n : ℕ) (a p : Place) (code : ℕ)
    → LinksLead tracks content a blocks p → p.track ≢ 0 → length blocks ≤ n → Stops tracks content n (length blocks) p code
    → follow tracks content n a ≡ cut_of blocks code p
leads_followed tracks content [] n a p code h nz k s = ap (λ q. follow tracks content n q) h ∙ stopped tracks content n p code nz s
leads_followed tracks content (b ∷ rest) zero a p code h nz k s = absurd (omega arith)
leads_followed tracks content (b ∷ rest) (suc n) a p code h nz k s =
    ap (λ q. follow tracks content (suc n) q) h.0
    ∙ go (content b) refl h.2 h.3 (λ q tail. leads_followed tracks content rest n q p code tail nz (omega arith) (one_less tracks content n (length rest) p code s))
  where
    going : b.track ≢ 0
    going e = omega (arith, h.1.0)

    go : (cell : Cell) → content b ≡ cell → IsOk cell → LinksLead tracks content (link (or_nothing cell)) rest p
        → ((q : Place) → LinksLead tracks content q rest p → follow tracks content n q ≡ cut_of rest code p)
        → follow tracks content (suc n) b ≡ cut_of (b ∷ rest) code p
    go (Ok bytes) e ok tail more = follow_next tracks content (suc n) n b bytes going h.1 refl e ∙ ap (with_block b) (more (link bytes) tail)
    go (Err c) e ok tail more = absurd (cc)

pub cut_followed : (tracks : ℕ) (content : Content) (n : ℕ) (a : Place) (blocks : List Place) (t : Trouble) → IsCut tracks content n a blocks t
    → follow tracks content n a ≡ record { blocks = blocks; trouble = Some t }
cut_followed tracks content n a blocks t h =
    leads_followed tracks content blocks n a h.at t.code h.leads h.going h.number h.cause
    ∙ (λ i. record { blocks = blocks; trouble = Some (sym h.named i) })

-- ---- what is followed is a chain, or cut

abbrev Meets : ℕ → Content → ℕ → Place → List Place → Option Trouble → Type 0
Meets tracks content n a blocks None = Chain tracks content a blocks × (length blocks ≤ n)
Meets tracks content n a blocks (Some t) = IsCut tracks content n a blocks t

abbrev MeetsIn : ℕ → Content → ℕ → Place → Followed → Type 0
MeetsIn tracks content n a f = Meets tracks content n a f.blocks f.trouble

met_at : (tracks : ℕ) (content : Content) (n : ℕ) (a : Place) (code : ℕ) → a.track ≢ 0 → Stops tracks content n 0 a code → MeetsIn tracks content n a (cut_at code a)
met_at tracks content n a code nz s = record { at = a; leads = refl; number = omega arith; going = nz; named = refl; cause = s }

met_on : (tracks : ℕ) (content : Content) (n : ℕ) (a : Place) (bytes : List ℕ) (blocks : List Place) (t : Option Trouble)
    → a.track ≢ 0 → Has tracks a → content a ≡ Ok bytes
    → Meets tracks content n (link bytes) blocks t → Meets tracks content (suc n) a (a ∷ blocks) t
met_on tracks content n a bytes blocks None nz h c m =
    ((refl, h, subst (λ (cell : Cell). IsOk cell) (sym c) refl, subst (λ (cell : Cell). Chain tracks content (link (or_nothing cell)) blocks) (sym c) m.0), omega (arith, m.1))
met_on tracks content n a bytes blocks (Some t) nz h c m = record {
  at = m.at;
  leads = (refl, h, subst (λ (cell : Cell). IsOk cell) (sym c) refl, subst (λ (cell : Cell). LinksLead tracks content (link (or_nothing cell)) blocks m.at) (sym c) m.leads);
  number = omega (arith, m.number);
  going = m.going;
  named = m.named;
  cause = one_more tracks content n (length blocks) m.at t.code m.cause;
}

step : (tracks : ℕ) (content : Content) (n : ℕ) (a : Place) → a.track ≢ 0 → Has tracks a → (cell : Cell) → content a ≡ cell
    → ((q : Place) → MeetsIn tracks content n q (follow tracks content n q)) → MeetsIn tracks content (suc n) a (follow tracks content (suc n) a)
step tracks content n a nz here (Ok bytes) c more =
    subst (λ (f : Followed). MeetsIn tracks content (suc n) a f) (sym (follow_next tracks content (suc n) n a bytes nz here refl c))
    (met_on tracks content n a bytes (follow tracks content n (link bytes)).blocks (follow tracks content n (link bytes)).trouble nz here c (more (link bytes)))
step tracks content n a nz here (Err code) c more =
    subst (λ (f : Followed). MeetsIn tracks content (suc n) a f) (sym (follow_fault tracks content (suc n) n a code nz here refl c))
    (met_at tracks content (suc n) a code nz (inr (inr (here, omega arith, c))))

none_left : (tracks : ℕ) (content : Content) (a : Place) → a.track ≢ 0 → Has tracks a → MeetsIn tracks content 0 a (follow tracks content 0 a)
none_left tracks content a nz here =
    subst (λ (f : Followed). MeetsIn tracks content 0 a f) (sym (follow_full tracks content 0 a nz here refl)) (met_at tracks content 0 a 71 nz (inr (inl (refl, here, refl))))

-- at the end, at a place that the disk lacks, or on the disk
places : (tracks : ℕ) (content : Content) (n : ℕ) (a : Place)
    → (a.track ≢ 0 → Has tracks a → MeetsIn tracks content n a (follow tracks content n a)) → MeetsIn tracks content n a (follow tracks content n a)
places tracks content n a on = elim (cases_eq a.track 0) [
  | inl z ↦ subst (λ (f : Followed). MeetsIn tracks content n a f) (sym (follow_end tracks content n a z)) (z, omega arith)
  | inr nz ↦ elim (bool_cases (has tracks a)) [
    | inr off ↦ subst (λ (f : Followed). MeetsIn tracks content n a f) (sym (follow_off tracks content n a nz off)) (met_at tracks content n a 66 nz (inl (refl, off)))
    | inl here ↦ on nz (true_has tracks a here)
  ]
]

pub met : (tracks : ℕ) (content : Content) (n : ℕ) (a : Place) → MeetsIn tracks content n a (follow tracks content n a)
met tracks content zero a = places tracks content 0 a (λ nz here. none_left tracks content a nz here)
met tracks content (suc n) a = places tracks content (suc n) a (λ nz here. step tracks content n a nz here (content a) refl (λ q. met tracks content n q))

pub followed_chain : (tracks : ℕ) (content : Content) (n : ℕ) (a : Place) (blocks : List Place) → follow tracks content n a ≡ ended blocks
    → Chain tracks content a blocks × (length blocks ≤ n)
followed_chain tracks content n a blocks e = subst (λ (f : Followed). MeetsIn tracks content n a f) e (met tracks content n a)

pub followed_cut : (tracks : ℕ) (content : Content) (n : ℕ) (a : Place) (blocks : List Place) (t : Trouble)
    → follow tracks content n a ≡ record { blocks = blocks; trouble = Some t } → IsCut tracks content n a blocks t
followed_cut tracks content n a blocks t e = subst (λ (f : Followed). MeetsIn tracks content n a f) e (met tracks content n a)

-- ---- what a write leaves

pub chain_same : (tracks : ℕ) (old new : Content) (a : Place) (blocks : List Place) → AllSame old new blocks → Chain tracks old a blocks → Chain tracks new a blocks
chain_same tracks old new a [] s h = h
chain_same tracks old new a (b ∷ rest) s h = (
  h.0,
  h.1,
  subst (λ (cell : Cell). IsOk cell) (sym s.0) h.2,
  subst (λ (cell : Cell). Chain tracks new (link (or_nothing cell)) rest) (sym s.0) (chain_same tracks old new (link (bytes_at old b)) rest s.1 h.3),
)

pub same_apart : (content : Content) (p : Place) (bytes : List ℕ) (blocks : List Place) → IsApart p blocks → AllSame content (written content p bytes) blocks
same_apart content p bytes [] s = tt
same_apart content p bytes (b ∷ rest) s = (written_elsewhere content p b bytes s.0, same_apart content p bytes rest s.1)
