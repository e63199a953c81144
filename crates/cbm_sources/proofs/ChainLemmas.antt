-- What a chain meets, step by step.
use Rattle.std.proofs.Common.{◌≡◌, ◌≢◌, ℕ, zero, suc, ◌+◌, ◌-◌, ◌<◌, ◌≤◌, List, [], ◌∷◌, ◌++◌, length, Bool, true, false, ◌||◌, Option, Some, None, Ok, Err, IsOk, refl, ap, sym, subst, ◌∙◌, arith, inl, inr, append_assoc, append-nil, length-append}
use Rattle.std.specs.List.{list_any}
use Rattle.std.proofs.lemmas.List.Folds.{list_any-append}
use Rattle.std.proofs.lemmas.Bool.{eq-eqb, ne_eqb, cases_eq, false≢true}
use Rattle.cbm_medium.specs.Place.{Place, is_place}
use Rattle.cbm_medium.specs.Content.{Cell, Content}
use Rattle.cbm_medium.specs.Links.{or_nothing, bytes_at, link, Followed, ended, cut_at, with_block, IsApart}
use Rattle.cbm_medium.specs.declared.fault.Trouble.{Trouble}
use Rattle.cbm_medium.proofs.Places.{place_is_itself, places_apart}
use Rattle.cbm_chain.specs.Data.{data_of, chain_bytes}
use Rattle.cbm_directory.specs.Entries.{entry_of, type_byte}
use Rattle.cbm_directory.specs.Slots.{entries_from}
use Rattle.cbm_sources.specs.Directories.{used, used_entries}
use Rattle.cbm_sources.specs.Chains.{Way, way_left, after_blocks, EntersSector, EndsWay, came_already, met_after, met_once, LinksOn, EachOnce, Breaks, ChainEndsAs, IsToldOf}

-- ---- one step

pub met_end : (content : Content) (n : ℕ) (before : List Place) (a : Place) → a.track ≡ 0 → met_once content n before a ≡ ended []
unfolding met_once
met_end content zero before a z = rw (eq-eqb a.track 0 z) refl
met_end content (suc n) before a z = rw (eq-eqb a.track 0 z) refl

pub met_fault : (content : Content) (n : ℕ) (before : List Place) (a : Place) (code : ℕ) → a.track ≢ 0 → content a ≡ Err code
    → met_once content n before a ≡ cut_at code a
unfolding met_once
met_fault content zero before a code nz e = rw (ne_eqb a.track 0 nz) (ap (λ cell. met_after a cell true (λ q. ended [])) e)
met_fault content (suc n) before a code nz e =
    rw (ne_eqb a.track 0 nz) (ap (λ cell. met_after a cell (came_already a before) (λ q. met_once content n (before ++ a ∷ []) q)) e)

pub met_full : (content : Content) (n : ℕ) (before : List Place) (a : Place) (bytes : List ℕ) → a.track ≢ 0 → content a ≡ Ok bytes → n ≡ 0
    → met_once content n before a ≡ cut_at 71 a
unfolding met_once
met_full content n before a bytes nz e z =
    ap (λ k. met_once content k before a) z ∙ rw (ne_eqb a.track 0 nz) (ap (λ cell. met_after a cell true (λ q. ended [])) e)

pub met_again : (content : Content) (n : ℕ) (before : List Place) (a : Place) (bytes : List ℕ) → a.track ≢ 0 → content a ≡ Ok bytes → came_already a before ≡ true
    → met_once content n before a ≡ cut_at 71 a
unfolding met_once
met_again content zero before a bytes nz e h = rw (ne_eqb a.track 0 nz) (ap (λ cell. met_after a cell true (λ q. ended [])) e)
met_again content (suc n) before a bytes nz e h =
    rw (ne_eqb a.track 0 nz) (ap (λ cell. met_after a cell (came_already a before) (λ q. met_once content n (before ++ a ∷ []) q)) e
    ∙ ap (λ b. met_after a (Ok bytes) b (λ q. met_once content n (before ++ a ∷ []) q)) h)

pub met_next : (content : Content) (m n : ℕ) (before : List Place) (a : Place) (bytes : List ℕ) → a.track ≢ 0 → content a ≡ Ok bytes → came_already a before ≡ false
    → m ≡ suc n → met_once content m before a ≡ with_block a (met_once content n (before ++ a ∷ []) (link bytes))
unfolding met_once
met_next content m n before a bytes nz e h s =
    ap (λ k. met_once content k before a) s
    ∙ rw (ne_eqb a.track 0 nz) (ap (λ cell. met_after a cell (came_already a before) (λ q. met_once content n (before ++ a ∷ []) q)) e
    ∙ ap (λ b. met_after a (Ok bytes) b (λ q. met_once content n (before ++ a ∷ []) q)) h)

-- the trouble that is told
pub cut_told : (f : Followed) (code : ℕ) (p : Place) (t : Trouble) → f ≡ cut_at code p → t ≡ record { code = code; track = p.track; sector = p.sector }
    → f ≡ record { blocks = []; trouble = Some t }
cut_told f code p t e h = e ∙ ap (λ x. let q : Followed = record { blocks = []; trouble = Some x } in q) (sym h)

-- ---- what is met is told

abbrev IsTold : Content → ℕ → Place → List Place → Followed → Type 0
IsTold content most first before f = ChainEndsAs content most first (before ++ f.blocks) f.trouble

ended_told : (content : Content) (most : ℕ) (first : Place) (before : List Place) (a : Place) → LinksOn content first before a → a.track ≡ 0
    → IsTold content most first before (ended [])
ended_told content most first before a leads z = record {
  end = a;
  leads = subst (λ (blocks : List Place). LinksOn content first blocks a) (sym (append-nil before)) leads;
  ends = z;
}

broken_told : (content : Content) (most : ℕ) (first : Place) (before : List Place) (a : Place) (code : ℕ) → LinksOn content first before a → a.track ≢ 0
    → Breaks content most before a code → IsTold content most first before (cut_at code a)
broken_told content most first before a code leads nz cause = record {
  at = a;
  leads = subst (λ (blocks : List Place). LinksOn content first blocks a) (sym (append-nil before)) leads;
  going = nz;
  named = refl;
  cause = subst (λ (blocks : List Place). Breaks content most blocks a code) (sym (append-nil before)) cause;
}

reads : (content : Content) (a : Place) (bytes : List ℕ) → content a ≡ Ok bytes → IsOk (content a)
reads content a bytes e = subst (λ (x : Cell). IsOk x) (sym e) refl

one_more : (content : Content) (first : Place) (before : List Place) (a : Place) (bytes : List ℕ) → LinksOn content first before a → a.track ≢ 0 → content a ≡ Ok bytes
    → LinksOn content first (before ++ a ∷ []) (link bytes)
one_more content first [] a bytes leads nz e = (leads, nz, reads content a bytes e, ap (λ cell. link (or_nothing cell)) e)
one_more content first (b ∷ rest) a bytes leads nz e = (leads.0, leads.1, leads.2, one_more content (link (bytes_at content b)) rest a bytes leads.3 nz e)

after_one : (content : Content) (most : ℕ) (first : Place) (before : List Place) (a : Place) (f : Followed)
    → IsTold content most first (before ++ a ∷ []) f → IsTold content most first before (with_block a f)
after_one content most first before a f told =
    subst (λ (blocks : List Place). ChainEndsAs content most first blocks f.trouble) (append_assoc before (a ∷ []) f.blocks) told

met_told : (content : Content) (most n : ℕ) (first : Place) (before : List Place) (a : Place) → LinksOn content first before a → n + length before ≡ most
    → IsTold content most first before (met_once content n before a)
met_told content most zero first before a leads count = elim (cases_eq a.track 0) [
  | inl z ↦ subst (IsTold content most first before) (sym (met_end content zero before a z)) (ended_told content most first before a leads z)
  | inr nz ↦ by_cell nz (content a) refl
]
  where
    by_cell : a.track ≢ 0 → (cell : Cell) → content a ≡ cell → IsTold content most first before (met_once content zero before a)
    by_cell nz (Err code) e =
        subst (IsTold content most first before) (sym (met_fault content zero before a code nz e)) (broken_told content most first before a code leads nz (inl e))
    by_cell nz (Ok bytes) e =
        let full : length before ≡ most = omega arith in
        subst (IsTold content most first before) (sym (met_full content zero before a bytes nz e refl))
        (broken_told content most first before a 71 leads nz (inr (refl, reads content a bytes e, inr full)))
met_told content most (suc n) first before a leads count = elim (cases_eq a.track 0) [
  | inl z ↦ subst (IsTold content most first before) (sym (met_end content (suc n) before a z)) (ended_told content most first before a leads z)
  | inr nz ↦ by_cell nz (λ blocks q lead number. met_told content most n first blocks q lead number) (content a) refl
]
  where
    Rest : Type 0
    Rest = (blocks : List Place) (q : Place) → LinksOn content first blocks q → n + length blocks ≡ most → IsTold content most first blocks (met_once content n blocks q)

    by_test : a.track ≢ 0 → Rest → (bytes : List ℕ) → content a ≡ Ok bytes → (b : Bool) → came_already a before ≡ b
        → IsTold content most first before (met_once content (suc n) before a)
    by_test nz more bytes e true h =
        subst (IsTold content most first before) (sym (met_again content (suc n) before a bytes nz e h))
        (broken_told content most first before a 71 leads nz (inr (refl, reads content a bytes e, inl h)))
    by_test nz more bytes e false h =
        let longer : n + length (before ++ a ∷ []) ≡ most = omega (arith, length-append {A = Place} before (a ∷ []), count) in
        subst (IsTold content most first before) (sym (met_next content (suc n) n before a bytes nz e h refl))
        (after_one content most first before a (met_once content n (before ++ a ∷ []) (link bytes))
        (more (before ++ a ∷ []) (link bytes) (one_more content first before a bytes leads nz e) longer))

    by_cell : a.track ≢ 0 → Rest → (cell : Cell) → content a ≡ cell → IsTold content most first before (met_once content (suc n) before a)
    by_cell nz more (Err code) e =
        subst (IsTold content most first before) (sym (met_fault content (suc n) before a code nz e)) (broken_told content most first before a code leads nz (inl e))
    by_cell nz more (Ok bytes) e = by_test nz more bytes e (came_already a before) refl

-- ---- no sector comes twice

-- none of these came before
abbrev AllNew : List Place → List Place → Type 0
AllNew before [] = Unit {0}
AllNew before (b ∷ rest) = (came_already b before ≡ false) × AllNew before rest

neither : (x y : Bool) → (x || y) ≡ false → (x ≡ false) × (y ≡ false)
neither true y h = absurd (cc)
neither false y h = (refl, h)

other_place : (a b : Place) → is_place b a ≡ false → a ≢ b
other_place a b h e = false≢true (sym h ∙ ap (is_place b) e ∙ place_is_itself b)

split_new : (before : List Place) (a : Place) (rest : List Place) → AllNew (before ++ a ∷ []) rest → IsApart a rest × AllNew before rest
split_new before a [] h = (tt, tt)
split_new before a (b ∷ rest) h =
    let parts = neither (came_already b before) (list_any (λ q. is_place b q) (a ∷ [])) (sym (list_any-append (λ q. is_place b q) before (a ∷ [])) ∙ h.0) in
    let last = neither (is_place b a) false parts.1 in
    let others = split_new before a rest h.1 in
    ((other_place a b last.0, others.0), (parts.0, others.1))

abbrev AllApart : ℕ → List Place → Followed → Type 0
AllApart n before f = EachOnce f.blocks × AllNew before f.blocks × (length f.blocks ≤ n)

met_apart : (content : Content) (n : ℕ) (before : List Place) (a : Place) → AllApart n before (met_once content n before a)
met_apart content zero before a = elim (cases_eq a.track 0) [
  | inl z ↦ subst (AllApart zero before) (sym (met_end content zero before a z)) (tt, tt, omega arith)
  | inr nz ↦ by_cell nz (content a) refl
]
  where
    by_cell : a.track ≢ 0 → (cell : Cell) → content a ≡ cell → AllApart zero before (met_once content zero before a)
    by_cell nz (Err code) e = subst (AllApart zero before) (sym (met_fault content zero before a code nz e)) (tt, tt, omega arith)
    by_cell nz (Ok bytes) e = subst (AllApart zero before) (sym (met_full content zero before a bytes nz e refl)) (tt, tt, omega arith)
met_apart content (suc n) before a = elim (cases_eq a.track 0) [
  | inl z ↦ subst (AllApart (suc n) before) (sym (met_end content (suc n) before a z)) (tt, tt, omega arith)
  | inr nz ↦ by_cell nz (λ blocks q. met_apart content n blocks q) (content a) refl
]
  where
    Rest : Type 0
    Rest = (blocks : List Place) (q : Place) → AllApart n blocks (met_once content n blocks q)

    by_test : a.track ≢ 0 → Rest → (bytes : List ℕ) → content a ≡ Ok bytes → (b : Bool) → came_already a before ≡ b
        → AllApart (suc n) before (met_once content (suc n) before a)
    by_test nz rest bytes e true h = subst (AllApart (suc n) before) (sym (met_again content (suc n) before a bytes nz e h)) (tt, tt, omega arith)
    by_test nz rest bytes e false h =
        let more = rest (before ++ a ∷ []) (link bytes) in
        let parts = split_new before a (met_once content n (before ++ a ∷ []) (link bytes)).blocks more.1 in
        subst (AllApart (suc n) before) (sym (met_next content (suc n) n before a bytes nz e h refl)) ((parts.0, more.0), (h, parts.1), omega (arith, more.2))

    by_cell : a.track ≢ 0 → Rest → (cell : Cell) → content a ≡ cell → AllApart (suc n) before (met_once content (suc n) before a)
    by_cell nz rest (Err code) e = subst (AllApart (suc n) before) (sym (met_fault content (suc n) before a code nz e)) (tt, tt, omega arith)
    by_cell nz rest (Ok bytes) e = by_test nz rest bytes e (came_already a before) refl

pub chain_told : (content : Content) (most : ℕ) (a : Place) → IsToldOf content most a (met_once content most [] a).blocks (met_once content most [] a).trouble
chain_told content most a =
    let apart = met_apart content most [] a in
    record { once = apart.0; few = apart.2; how = met_told content most most a [] a refl (omega arith) }

-- ---- a chain is met as it is

join_new : (before : List Place) (b : Place) (rest : List Place) → IsApart b rest → AllNew before rest → AllNew (before ++ b ∷ []) rest
join_new before b [] apart new = tt
join_new before b (q ∷ rest) apart new = (
  list_any-append (λ p. is_place q p) before (b ∷ []) ∙ ap (λ x. x || (is_place q b || false)) new.0 ∙ ap (λ x. false || (x || false)) (places_apart q b (λ e. apart.0 (sym e))),
  join_new before b rest apart.1 new.1,
)

all_new : (blocks : List Place) → AllNew [] blocks
all_new [] = tt
all_new (b ∷ rest) = (refl, all_new rest)

led_on : (content : Content) (n : ℕ) (before : List Place) (a : Place) (blocks : List Place) (end : Place) → LinksOn content a blocks end → EachOnce blocks → AllNew before blocks
    → length blocks ≤ n → met_once content n before a ≡ after_blocks blocks (met_once content (n - length blocks) (before ++ blocks) end)
led_on content n before a [] end leads once new few =
    let all : n ≡ n - 0 = omega arith in
    ap (λ q. met_once content n before q) leads ∙ ap (λ k. met_once content k before end) all ∙ ap (λ xs. met_once content (n - 0) xs end) (sym (append-nil before))
led_on content zero before a (b ∷ rest) end leads once new few = absurd (omega arith)
led_on content (suc n) before a (b ∷ rest) end leads once new few =
    ap (λ q. met_once content (suc n) before q) leads.0
    ∙ go (content b) refl leads.2 leads.3 (λ q tail. led_on content n (before ++ b ∷ []) q rest end tail once.1 (join_new before b rest once.0 new.1) (omega arith))
  where
    Rest : Place → Type 0
    Rest q = met_once content n (before ++ b ∷ []) q ≡ after_blocks rest (met_once content (n - length rest) ((before ++ b ∷ []) ++ rest) end)

    go : (cell : Cell) → content b ≡ cell → IsOk cell → LinksOn content (link (or_nothing cell)) rest end → ((q : Place) → LinksOn content q rest end → Rest q)
        → met_once content (suc n) before b ≡ after_blocks (b ∷ rest) (met_once content (suc n - length (b ∷ rest)) (before ++ b ∷ rest) end)
    go (Err code) e ok tail more = absurd (cc)
    go (Ok bytes) e ok tail more =
        let same : n - length rest ≡ suc n - length (b ∷ rest) = omega arith in
        met_next content (suc n) n before b bytes leads.1 e new.0 refl ∙ ap (with_block b) (more (link bytes) tail)
        ∙ ap (λ k. after_blocks (b ∷ rest) (met_once content k ((before ++ b ∷ []) ++ rest) end)) same
        ∙ ap (λ xs. after_blocks (b ∷ rest) (met_once content (suc n - length (b ∷ rest)) xs end)) (append_assoc before (b ∷ []) rest)

breaks_there : (content : Content) (most : ℕ) (blocks : List Place) (at : Place) (code : ℕ) → at.track ≢ 0 → length blocks ≤ most → Breaks content most blocks at code
    → met_once content (most - length blocks) blocks at ≡ cut_at code at
breaks_there content most blocks at code nz few (inl e) = met_fault content (most - length blocks) blocks at code nz e
breaks_there content most blocks at code nz few (inr cause) = go (content at) refl cause.1
  where
    go : (cell : Cell) → content at ≡ cell → IsOk cell → met_once content (most - length blocks) blocks at ≡ cut_at code at
    go (Err other) e ok = absurd (cc)
    go (Ok bytes) e ok = elim cause.2 [
      | inl came ↦ met_again content (most - length blocks) blocks at bytes nz e came ∙ ap (λ k. cut_at k at) (sym cause.0)
      | inr full ↦ met_full content (most - length blocks) blocks at bytes nz e (omega arith) ∙ ap (λ k. cut_at k at) (sym cause.0)
    ]

pub told_met : (content : Content) (most : ℕ) (a : Place) (blocks : List Place) (trouble : Option Trouble) → IsToldOf content most a blocks trouble
    → met_once content most [] a ≡ record { blocks = blocks; trouble = trouble }
told_met content most a blocks None told =
    led_on content most [] a blocks told.how.end told.how.leads told.once (all_new blocks) told.few
    ∙ ap (after_blocks blocks) (met_end content (most - length blocks) blocks told.how.end told.how.ends)
    ∙ ap (λ xs. let f : Followed = record { blocks = xs; trouble = None } in f) (append-nil blocks)
told_met content most a blocks (Some t) told =
    led_on content most [] a blocks told.how.at told.how.leads told.once (all_new blocks) told.few
    ∙ ap (after_blocks blocks) (breaks_there content most blocks told.how.at t.code told.how.going told.few told.how.cause)
    ∙ ap (λ xs. let f : Followed = record { blocks = xs; trouble = Some (record { code = t.code; track = told.how.at.track; sector = told.how.at.sector }) } in f) (append-nil blocks)
    ∙ ap (λ x. let f : Followed = record { blocks = blocks; trouble = Some x } in f) (sym told.how.named)

-- ---- the bytes and the entries of the sectors that came

pub way_more : (content : Content) (whole : Followed) (old new : Way) (bytes : List ℕ) → EntersSector content old new bytes → whole ≡ after_blocks old.blocks (way_left content old)
    → whole ≡ after_blocks new.blocks (way_left content new)
way_more content whole old new bytes g w =
    let rest = way_left content new in
    w ∙ ap (λ f. after_blocks old.blocks f) g.meets
    ∙ ap (λ blocks. let q : Followed = record { blocks = blocks; trouble = rest.trouble } in q) (sym (append_assoc old.blocks (old.next ∷ []) rest.blocks))
    ∙ ap (λ blocks. after_blocks blocks rest) (sym g.blocks)

chain_more : (content : Content) (blocks : List Place) (p : Place) → chain_bytes content (blocks ++ p ∷ []) ≡ chain_bytes content blocks ++ data_of (bytes_at content p)
chain_more content [] p = append-nil (data_of (bytes_at content p))
chain_more content (b ∷ rest) p =
    ap (λ x. data_of (bytes_at content b) ++ x) (chain_more content rest p)
    ∙ sym (append_assoc (data_of (bytes_at content b)) (chain_bytes content rest) (data_of (bytes_at content p)))

pub bytes_more : (content : Content) (old new : Way) (sector before after : List ℕ) → EntersSector content old new sector → before ≡ chain_bytes content old.blocks
    → after ≡ before ++ data_of sector → after ≡ chain_bytes content new.blocks
bytes_more content old new sector before after g b a =
    a ∙ ap (λ x. x ++ data_of sector) b ∙ ap (λ x. chain_bytes content old.blocks ++ data_of x) (sym g.reads)
    ∙ sym (chain_more content old.blocks old.next) ∙ ap (chain_bytes content) (sym g.blocks)

used_more : (content : Content) (blocks : List Place) (p : Place) → used_entries content (blocks ++ p ∷ []) ≡ used_entries content blocks ++ used (entries_from 8 (bytes_at content p) 0)
used_more content [] p = append-nil (used (entries_from 8 (bytes_at content p) 0))
used_more content (b ∷ rest) p =
    ap (λ x. used (entries_from 8 (bytes_at content b) 0) ++ x) (used_more content rest p)
    ∙ sym (append_assoc (used (entries_from 8 (bytes_at content b) 0)) (used_entries content rest) (used (entries_from 8 (bytes_at content p) 0)))

pub entries_more : (content : Content) (old new : Way) (sector : List ℕ) (before after : List (List ℕ)) → EntersSector content old new sector → before ≡ used_entries content old.blocks
    → after ≡ before ++ used (entries_from 8 sector 0) → after ≡ used_entries content new.blocks
entries_more content old new sector before after g b a =
    a ∙ ap (λ x. x ++ used (entries_from 8 sector 0)) b ∙ ap (λ x. used_entries content old.blocks ++ used (entries_from 8 x 0)) (sym g.reads)
    ∙ sym (used_more content old.blocks old.next) ∙ ap (used_entries content) (sym g.blocks)

-- no sector is left
pub way_done : (content : Content) (whole : Followed) (old new : Way) → EndsWay content old new → whole ≡ after_blocks old.blocks (way_left content old)
    → whole ≡ record { blocks = new.blocks; trouble = new.trouble }
way_done content whole old new s w =
    w ∙ ap (λ f. after_blocks old.blocks f) s.meets
    ∙ ap (λ blocks. let q : Followed = record { blocks = blocks; trouble = new.trouble } in q) (append-nil old.blocks ∙ sym s.blocks)

-- ---- the entries of a sector, one after another

used_kept : (e : List ℕ) (rest : List (List ℕ)) → type_byte e ≢ 0 → used (e ∷ rest) ≡ e ∷ used rest
used_kept e rest nz = rw (ne_eqb (type_byte e) 0 nz) refl

used_skipped : (e : List ℕ) (rest : List (List ℕ)) → type_byte e ≡ 0 → used (e ∷ rest) ≡ used rest
used_skipped e rest z = rw (eq-eqb (type_byte e) 0 z) refl

one_fewer : (bytes : List ℕ) (n : ℕ) → n < 8 → used (entries_from (8 - n) bytes n) ≡ used (entry_of bytes n ∷ entries_from (8 - (n + 1)) bytes (n + 1))
one_fewer bytes n k = let less : 8 - n ≡ suc (8 - (n + 1)) = omega (arith, k) in ap (λ m. used (entries_from m bytes n)) less

pub entry_used : (bytes : List ℕ) (n : ℕ) (whole now after : List (List ℕ)) (entry : List ℕ) → n < 8 → now ++ used (entries_from (8 - n) bytes n) ≡ whole
    → entry ≡ entry_of bytes n → type_byte entry ≢ 0 → after ≡ now ++ entry ∷ [] → after ++ used (entries_from (8 - (n + 1)) bytes (n + 1)) ≡ whole
entry_used bytes n whole now after entry k w e nz a =
    let rest = entries_from (8 - (n + 1)) bytes (n + 1) in
    ap (λ x. x ++ used rest) a ∙ append_assoc now (entry ∷ []) (used rest)
    ∙ ap (λ x. now ++ x) (sym (used_kept entry rest nz) ∙ ap (λ x. used (x ∷ rest)) e ∙ sym (one_fewer bytes n k)) ∙ w

pub entry_skipped : (bytes : List ℕ) (n : ℕ) (whole now : List (List ℕ)) (entry : List ℕ) → n < 8 → now ++ used (entries_from (8 - n) bytes n) ≡ whole
    → entry ≡ entry_of bytes n → type_byte entry ≡ 0 → now ++ used (entries_from (8 - (n + 1)) bytes (n + 1)) ≡ whole
entry_skipped bytes n whole now entry k w e z =
    let rest = entries_from (8 - (n + 1)) bytes (n + 1) in
    ap (λ x. now ++ x) (sym (used_skipped entry rest z) ∙ ap (λ x. used (x ∷ rest)) e ∙ sym (one_fewer bytes n k)) ∙ w

pub entries_done : (bytes : List ℕ) (n : ℕ) (whole now : List (List ℕ)) → 8 ≤ n → now ++ used (entries_from (8 - n) bytes n) ≡ whole → now ≡ whole
entries_done bytes n whole now k w =
    let none : 8 - n ≡ 0 = omega (arith, k) in
    sym (append-nil now) ∙ sym (ap (λ m. now ++ used (entries_from m bytes n)) none) ∙ w
