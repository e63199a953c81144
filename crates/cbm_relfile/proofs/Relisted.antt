-- Side sectors that are written anew: what each of them lists, and that the file lies where it lay.
use Rattle.std.proofs.Common.{◌≡◌, ◌≢◌, ℕ, zero, suc, ◌+◌, ◌-◌, ◌*◌, ◌/◌, ◌⊎◌, ◌<◌, ◌≤◌, List, [], ◌∷◌, ◌++◌, length, take, drop, set, get_or, Bool, true, false, Some, Result, Ok, Err, IsOk, refl, sym, ap, subst, ◌∙◌, arith, inl, inr}
use Rattle.std.specs.Prelude.{◌&&◌, MatchResult, IsOkAnd, OnOk}
use Rattle.std.proofs.lemmas.Bool.{cases_eq, cases_lt}
use Rattle.std.proofs.lemmas.List.{length-drop, length-take-le, length-set, get_or-take, get_or-set_same, get_or-set_other, take_all, drop_all, drop-drop, append_assoc, take-append-drop}
use Rattle.cbm_medium.specs.Place.{Place, Has, directory_head}
use Rattle.cbm_medium.specs.Content.{Cell, Content, IsWhole}
use Rattle.cbm_medium.specs.Links.{bytes_at, or_nothing, link, place_in, Chain, IsApart}
use Rattle.cbm_medium.proofs.Places.{place_decide, written_there, written_elsewhere}
use Rattle.cbm_medium.specs.Content.{refusal}
use Rattle.cbm_medium.specs.Seen.{Seen}
use Rattle.cbm_medium.specs.declared.fault.Trouble.{Trouble}
use Rattle.cbm_relfile.specs.Making.{IsNotWritten}
use Rattle.cbm_relfile.specs.Records.{AllWhole, Relative, IsLaid}
use Rattle.cbm_relfile.specs.Relisting.{SidesRead, HaveSides, ListsThese, IsSideListed, lists_at, NamesSides, IsSideRefused, AreApart, IsSideKept, IsRelisted}
use Rattle.cbm_relfile.specs.SideSectors.{named_in, listed_side, sides_listed, blocks_listed, Numbered, IsEnded}
use Rattle.cbm_relfile.proofs.Listed.{at_bytes, named_none, named_some}

-- ---- which side sectors read

pub sides_read_on : (c : Content) (head : List ℕ) (n : ℕ) (side : Place) (bytes : List ℕ) → SidesRead c head n → side ≡ listed_side head n → c side ≡ Ok bytes → SidesRead c head (n + 1)
sides_read_on c head n side bytes before is holds = λ i l. elim (cases_eq i n) [
  | inl e ↦ subst (λ (x : Cell). IsOk x) (sym holds ∙ ap c (is ∙ ap (listed_side head) (sym e))) refl
  | inr ne ↦ before i (omega (arith, l, ne))
]

-- those that the first one names
pub read_listed : (c : Content) (file : Relative) (side : Place) (head : List ℕ) (sides : ℕ) → side ≡ file.side → c side ≡ Ok head → SidesRead c head sides → HaveSides c file.side sides
read_listed c file side head sides is holds read = subst (λ (x : Cell). IsOkAnd x (λ h. SidesRead c h sides)) (sym holds ∙ ap c is) read

pub all_oks : {A : Type 0} {P : Type 0} (r : Result A Trouble) → P → OnOk r P
all_oks (Ok x) p = p
all_oks (Err t) p = tt

pub both_true : (a b : Bool) → (a && b) ≡ true → (a ≡ true) × (b ≡ true)
both_true true true e = (refl, refl)
both_true true false e = absurd (cc)
both_true false b e = absurd (cc)

pub true_both : (a b : Bool) → a ≡ true → b ≡ true → (a && b) ≡ true
true_both true true e f = refl
true_both true false e f = absurd (cc)
true_both false b e f = absurd (cc)

abbrev pub nth : List Place → ℕ → Place
nth xs i = get_or xs i directory_head

-- ---- a list of places in bytes

-- THE PLACES THAT STAND IN THE BYTES, up to a track 0 or to their end
pub named_these : (n base : ℕ) (bytes : List ℕ) (ys : List Place) → length ys ≤ n → ((k : ℕ) → k < length ys → at_bytes bytes (base + 2 * k) ≡ nth ys k) → ((k : ℕ) → k < length ys → (nth ys k).track ≢ 0)
    → (length ys < n → get_or bytes (base + 2 * length ys) 0 ≡ 0) → named_in n (drop base bytes) ≡ ys
named_these zero base bytes [] h each some end = refl
named_these (suc n) base bytes [] h each some end = named_none n base bytes ((let e : base ≡ base + 2 * 0 = omega arith in ap (λ (i : ℕ). get_or bytes i 0) e) ∙ end (omega arith))
named_these zero base bytes (y ∷ ys) h each some end = absurd (omega (arith, h))
named_these (suc n) base bytes (y ∷ ys) h each some end =
    let here : at_bytes bytes base ≡ y = (let e : base ≡ base + 2 * 0 = omega arith in ap (at_bytes bytes) e) ∙ each 0 (omega arith) in
    named_some n base bytes (λ z. some 0 (omega arith) (sym (ap (λ (p : Place). p.track) here) ∙ z))
    ∙ (λ i. here i ∷ named_these n (base + 2) bytes ys (omega (arith, h))
    (λ k l. (let e : base + 2 + 2 * k ≡ base + 2 * suc k = omega arith in ap (at_bytes bytes) e) ∙ each (suc k) (omega (arith, l)))
    (λ k l. some (suc k) (omega (arith, l)))
    (λ l. (let e : base + 2 + 2 * length ys ≡ base + 2 * suc (length ys) = omega arith in ap (λ (m : ℕ). get_or bytes m 0) e) ∙ end (omega (arith, l))) i)

-- the same bytes name the same places
pub named_same : (n base : ℕ) (a b : List ℕ) → ((i : ℕ) → base ≤ i → i < base + 2 * n → get_or a i 0 ≡ get_or b i 0) → named_in n (drop base a) ≡ named_in n (drop base b)
named_same zero base a b h = refl
named_same (suc n) base a b h = elim (cases_eq (get_or b base 0) 0) [
  | inl z ↦ named_none n base a (h base (omega arith) (omega arith) ∙ z) ∙ sym (named_none n base b z)
  | inr ne ↦
      (let t : get_or a base 0 ≡ get_or b base 0 = h base (omega arith) (omega arith) in
      let s : get_or a (base + 1) 0 ≡ get_or b (base + 1) 0 = h (base + 1) (omega arith) (omega arith) in
      named_some n base a (λ z. ne (sym t ∙ z))
      ∙ (λ i. (record { track = t i; sector = s i }) ∷ named_same n (base + 2) a b (λ j l m. h j (omega (arith, l)) (omega (arith, m))) i)
      ∙ sym (named_some n base b ne))
]

-- ---- one side sector

-- the blocks of a chain that are listed so far, and what is after them
pub record Listing (tracks : ℕ) (c : Content) (blocks : List Place) (n : ℕ) (side : List ℕ) (at : Place) : Type 0 where
  pub most : n ≤ length blocks
  pub chain : Chain tracks c at (drop n blocks)
  pub each : (k : ℕ) → k < n → at_bytes side (16 + 2 * k) ≡ nth blocks k
  pub some : (k : ℕ) → k < n → (nth blocks k).track ≢ 0

pub listing_begins : (tracks : ℕ) (c : Content) (blocks : List Place) (side : List ℕ) (at : Place) → Chain tracks c at blocks → Listing tracks c blocks 0 side at
listing_begins tracks c blocks side at h = record { most = omega arith; chain = h; each = λ k l. absurd (omega (arith, l)); some = λ k l. absurd (omega (arith, l)) }

-- the next block of a chain that goes on
pub record Ahead (tracks : ℕ) (c : Content) (blocks : List Place) (n : ℕ) (at : Place) : Type 0 where
  pub there : n < length blocks
  pub is : nth blocks n ≡ at
  pub has : Has tracks at
  pub reads : IsOk (c at)
  pub afterwards : Chain tracks c (link (bytes_at c at)) (drop (suc n) blocks)

pub ahead : (tracks : ℕ) (c : Content) (blocks : List Place) (n : ℕ) (at : Place) → Chain tracks c at (drop n blocks) → at.track ≢ 0 → Ahead tracks c blocks n at
ahead tracks c [] zero at h ne = absurd (ne h)
ahead tracks c [] (suc n) at h ne = absurd (ne h)
ahead tracks c (x ∷ xs) zero at h ne = record {
  there = omega arith;
  is = sym h.0;
  has = subst (λ (p : Place). Has tracks p) (sym h.0) h.1;
  reads = subst (λ (p : Place). IsOk (c p)) (sym h.0) h.2;
  afterwards = subst (λ (p : Place). Chain tracks c (link (bytes_at c p)) xs) (sym h.0) h.3;
}
ahead tracks c (x ∷ xs) (suc n) at h ne = let r = ahead tracks c xs n at h ne in record { there = omega (arith, r.there); is = r.is; has = r.has; reads = r.reads; afterwards = r.afterwards }

-- one block more is listed
pub listing_more : (tracks : ℕ) (c : Content) (blocks : List Place) (n : ℕ) (side : List ℕ) (at next : Place) (bytes : List ℕ) → length side ≡ 256 → n < 120 → Listing tracks c blocks n side at → at.track ≢ 0 → c at ≡ Ok bytes → next ≡ link bytes
    → Listing tracks c blocks (n + 1) (set (set side (16 + 2 * n) at.track) (16 + 2 * n + 1) at.sector) next
listing_more tracks c blocks n side at next bytes long room h ne holds is =
    let a = ahead tracks c blocks n at h.chain ne in
    let one : List ℕ = set side (16 + 2 * n) at.track in
    let size : length one ≡ 256 = length-set side (16 + 2 * n) at.track ∙ long in
    record {
      most = omega (arith, a.there);
      chain = subst (λ (p : Place). Chain tracks c p (drop (n + 1) blocks)) (ap (λ (y : Cell). link (or_nothing y)) holds ∙ sym is) (let e : suc n ≡ n + 1 = omega arith in subst (λ (m : ℕ). Chain tracks c (link (bytes_at c at)) (drop m blocks)) e a.afterwards);
      each = λ k l. elim (cases_eq k n) [
        | inl e ↦
            (let t : get_or (set one (16 + 2 * n + 1) at.sector) (16 + 2 * n) 0 ≡ at.track = get_or-set_other one (16 + 2 * n + 1) (16 + 2 * n) at.sector 0 (omega arith) ∙ get_or-set_same side (16 + 2 * n) at.track 0 (omega (arith, long, room)) in
            let s : get_or (set one (16 + 2 * n + 1) at.sector) (16 + 2 * n + 1) 0 ≡ at.sector = get_or-set_same one (16 + 2 * n + 1) at.sector 0 (omega (arith, size, room)) in
            ap (λ (m : ℕ). at_bytes (set one (16 + 2 * n + 1) at.sector) (16 + 2 * m)) e ∙ (λ i. record { track = t i; sector = s i }) ∙ sym a.is ∙ ap (nth blocks) (sym e))
        | inr other ↦
            (let t : get_or (set one (16 + 2 * n + 1) at.sector) (16 + 2 * k) 0 ≡ get_or side (16 + 2 * k) 0 = get_or-set_other one (16 + 2 * n + 1) (16 + 2 * k) at.sector 0 (omega (arith, other)) ∙ get_or-set_other side (16 + 2 * n) (16 + 2 * k) at.track 0 (omega (arith, other)) in
            let s : get_or (set one (16 + 2 * n + 1) at.sector) (16 + 2 * k + 1) 0 ≡ get_or side (16 + 2 * k + 1) 0 = get_or-set_other one (16 + 2 * n + 1) (16 + 2 * k + 1) at.sector 0 (omega (arith, other)) ∙ get_or-set_other side (16 + 2 * n) (16 + 2 * k + 1) at.track 0 (omega (arith, other)) in
            (λ i. record { track = t i; sector = s i }) ∙ h.each k (omega (arith, l, other)))
      ];
      some = λ k l. elim (cases_eq k n) [
        | inl e ↦ λ z. ne (sym (ap (λ (p : Place). p.track) (ap (nth blocks) e ∙ a.is)) ∙ z)
        | inr other ↦ h.some k (omega (arith, l, other))
      ];
    }

-- what a side sector lists then
lists_so : (tracks : ℕ) (c : Content) (blocks : List Place) (n : ℕ) (old side new : List ℕ) (at : Place) → Listing tracks c blocks n side at → n ≤ 120 → length (take 120 blocks) ≡ n → length new ≡ 256 → IsEnded side n new → ((i : ℕ) → 2 ≤ i → get_or new i 0 ≡ get_or side i 0)
    → ((i : ℕ) → i < 16 → get_or side i 0 ≡ get_or old i 0) → ((i : ℕ) → 16 + 2 * n ≤ i → get_or side i 0 ≡ 0) → ListsThese old (take 120 blocks) new
lists_so tracks c blocks n old side new at h few all whole ends same front zeros =
    let inside : (k : ℕ) → k < length (take 120 blocks) → nth (take 120 blocks) k ≡ nth blocks k = λ k l. get_or-take 120 blocks k directory_head (omega (arith, l, all, few)) in
    record {
      whole = whole;
      ended = record {
        track = ends.track ∙ front 0 (omega arith);
        last = λ z. ends.last (front 0 (omega arith) ∙ z) ∙ ap (λ (m : ℕ). 15 + 2 * m) (sym all);
        linked = λ no. ends.linked (λ z. no (sym (front 0 (omega arith)) ∙ z)) ∙ front 1 (omega arith);
      };
      front = λ i l m. same i l ∙ front i m;
      zeros = λ i l. same i (omega (arith, l)) ∙ zeros i (omega (arith, l, all));
      lists = named_these 120 16 new (take 120 blocks) (omega (arith, all, few))
          (λ k l. (let t = same (16 + 2 * k) (omega arith) in let s = same (16 + 2 * k + 1) (omega arith) in (λ i. record { track = t i; sector = s i })) ∙ h.each k (omega (arith, l, all)) ∙ sym (inside k l))
          (λ k l z. h.some k (omega (arith, l, all)) (sym (ap (λ (p : Place). p.track) (inside k l)) ∙ z))
          (λ l. same (16 + 2 * length (take 120 blocks)) (omega arith) ∙ zeros (16 + 2 * length (take 120 blocks)) (omega (arith, all)));
    }

no_chain : (tracks : ℕ) (c : Content) (at : Place) (xs : List Place) → at.track ≡ 0 → Chain tracks c at xs → length xs ≡ 0
no_chain tracks c at [] z h = refl
no_chain tracks c at (x ∷ xs) z h = absurd (let t = ap (λ (p : Place). p.track) h.0 in omega (arith, t, z, h.1.0))

-- the chain ends
pub listing_ends : (tracks : ℕ) (c : Content) (blocks : List Place) (n : ℕ) (old side new : List ℕ) (at : Place) → Listing tracks c blocks n side at → n < 120 → at.track ≡ 0 → length new ≡ 256 → IsEnded side n new → ((i : ℕ) → 2 ≤ i → get_or new i 0 ≡ get_or side i 0)
    → ((i : ℕ) → i < 16 → get_or side i 0 ≡ get_or old i 0) → ((i : ℕ) → 16 + 2 * n ≤ i → get_or side i 0 ≡ 0) → ListsThese old (take 120 blocks) new × Chain tracks c at (drop 120 blocks)
listing_ends tracks c blocks n old side new at h few end whole ends same front zeros =
    let left : length (drop n blocks) ≡ 0 = no_chain tracks c at (drop n blocks) end h.chain in
    let size : length blocks ≡ n = omega (arith, left, length-drop n blocks, h.most) in (
      lists_so tracks c blocks n old side new at h (omega (arith, few)) (ap length (take_all 120 blocks (omega (arith, size, few))) ∙ size) whole ends same front zeros,
      subst (λ (xs : List Place). Chain tracks c at xs) (sym (drop_all 120 blocks (omega (arith, size, few)))) end,
    )

-- the side sector is full
pub listing_full : (tracks : ℕ) (c : Content) (blocks : List Place) (n : ℕ) (old side new : List ℕ) (at : Place) → Listing tracks c blocks n side at → n ≡ 120 → length new ≡ 256 → IsEnded side 120 new → ((i : ℕ) → 2 ≤ i → get_or new i 0 ≡ get_or side i 0)
    → ((i : ℕ) → i < 16 → get_or side i 0 ≡ get_or old i 0) → ((i : ℕ) → 16 + 2 * n ≤ i → get_or side i 0 ≡ 0) → ListsThese old (take 120 blocks) new × Chain tracks c at (drop 120 blocks)
listing_full tracks c blocks n old side new at h all whole ends same front zeros = (
  lists_so tracks c blocks n old side new at h (omega (arith, all)) (length-take-le 120 blocks (omega (arith, all, h.most)) ∙ sym all) whole (subst (λ (m : ℕ). IsEnded side m new) (sym all) ends) same front zeros,
  subst (λ (m : ℕ). Chain tracks c at (drop m blocks)) all h.chain,
)

-- the bytes of a side sector after one block more
pub record OneSet (new : List ℕ) (n a b : ℕ) : Type 0 where
  pub size : length (set (set new (16 + 2 * n) a) (16 + 2 * n + 1) b) ≡ length new
  pub before : (j : ℕ) → j < 16 + 2 * n → get_or (set (set new (16 + 2 * n) a) (16 + 2 * n + 1) b) j 0 ≡ get_or new j 0
  pub afterwards : (j : ℕ) → 16 + 2 * (n + 1) ≤ j → get_or (set (set new (16 + 2 * n) a) (16 + 2 * n + 1) b) j 0 ≡ get_or new j 0

pub one_set : (new : List ℕ) (n a b : ℕ) → OneSet new n a b
one_set new n a b =
    let one : List ℕ = set new (16 + 2 * n) a in
    record {
      size = length-set one (16 + 2 * n + 1) b ∙ length-set new (16 + 2 * n) a;
      before = λ j l. get_or-set_other one (16 + 2 * n + 1) j b 0 (omega (arith, l)) ∙ get_or-set_other new (16 + 2 * n) j a 0 (omega (arith, l));
      afterwards = λ j l. get_or-set_other one (16 + 2 * n + 1) j b 0 (omega (arith, l)) ∙ get_or-set_other new (16 + 2 * n) j a 0 (omega (arith, l));
    }

-- ---- the side sectors one by one

-- a place that is named
pub named_nth : (n base k : ℕ) (bytes : List ℕ) → k < length (named_in n (drop base bytes)) → nth (named_in n (drop base bytes)) k ≡ at_bytes bytes (base + 2 * k)
named_nth zero base k bytes h = absurd (omega (arith, h))
named_nth (suc n) base k bytes h = elim (cases_eq (get_or bytes base 0) 0) [
  | inl z ↦ absurd (omega (arith, h, ap length (named_none n base bytes z)))
  | inr ne ↦ by_place k (named_some n base bytes ne) h (λ j l. named_nth n (base + 2) j bytes l)
]
  where
    by_place : (k : ℕ) → named_in (suc n) (drop base bytes) ≡ at_bytes bytes base ∷ named_in n (drop (base + 2) bytes) → k < length (named_in (suc n) (drop base bytes)) → ((j : ℕ) → j < length (named_in n (drop (base + 2) bytes)) → nth (named_in n (drop (base + 2) bytes)) j ≡ at_bytes bytes (base + 2 + 2 * j)) → nth (named_in (suc n) (drop base bytes)) k ≡ at_bytes bytes (base + 2 * k)
    by_place zero is h more = ap (λ (ys : List Place). nth ys 0) is ∙ (let e : base ≡ base + 2 * 0 = omega arith in ap (at_bytes bytes) e)
    by_place (suc j) is h more = ap (λ (ys : List Place). nth ys (suc j)) is ∙ more j (omega (arith, h, ap length is)) ∙ (let e : base + 2 + 2 * j ≡ base + 2 * suc j = omega arith in ap (at_bytes bytes) e)

-- each is a sector of the disk that reads
pub numbered_nth : (tracks : ℕ) (c : Content) (width n i : ℕ) (ss : List Place) → Numbered tracks c width n ss → i < length ss → Has tracks (nth ss i) × IsOk (c (nth ss i))
numbered_nth tracks c width n i [] h l = absurd (omega (arith, l))
numbered_nth tracks c width n zero (s ∷ ss) h l = (h.0, h.1)
numbered_nth tracks c width n (suc i) (s ∷ ss) h l = numbered_nth tracks c width (n + 1) i ss h.4 (omega (arith, l))

-- none lists a block
none_listed : (c : Content) (ss : List Place) → ((i : ℕ) → i < length ss → lists_at c ss i ≡ []) → blocks_listed c ss ≡ []
none_listed c [] h = refl
none_listed c (s ∷ ss) h = (λ i. h 0 (omega arith) i ++ none_listed c ss (λ j l. h (suc j) (omega (arith, l))) i)

-- the first ones list what they listed, and the others nothing: a beginning of what was listed
pub emptied_prefix : (old m : Content) (ss : List Place) (left : ℕ) → ((i : ℕ) → i < left → i < length ss → lists_at m ss i ≡ lists_at old ss i) → ((i : ℕ) → left ≤ i → i < length ss → lists_at m ss i ≡ [])
    → (rest : List Place) × (blocks_listed m ss ++ rest ≡ blocks_listed old ss)
emptied_prefix old m [] left same none = ([], refl)
emptied_prefix old m (s ∷ ss) zero same none = (blocks_listed old (s ∷ ss), ap (λ (ys : List Place). ys ++ blocks_listed old (s ∷ ss)) (none_listed m (s ∷ ss) (λ i l. none i (omega arith) l)))
emptied_prefix old m (s ∷ ss) (suc left) same none =
    let r = emptied_prefix old m ss left (λ i l k. same (suc i) (omega (arith, l)) (omega (arith, k))) (λ i l k. none (suc i) (omega (arith, l)) (omega (arith, k))) in
    (r.0, append_assoc (lists_at m (s ∷ ss) 0) (blocks_listed m ss) r.0 ∙ (λ i. same 0 (omega arith) (omega arith) i ++ r.1 i))

-- the first ones list their next 120 blocks, and the others nothing: a beginning of the chain
pub filled_prefix : (m : Content) (ss xs : List Place) (n : ℕ) → ((i : ℕ) → i < n → i < length ss → lists_at m ss i ≡ take 120 (drop (120 * i) xs)) → ((i : ℕ) → n ≤ i → i < length ss → lists_at m ss i ≡ [])
    → (rest : List Place) × (blocks_listed m ss ++ rest ≡ xs)
filled_prefix m [] xs n lists none = (xs, refl)
filled_prefix m (s ∷ ss) xs zero lists none = (xs, ap (λ (ys : List Place). ys ++ xs) (none_listed m (s ∷ ss) (λ i l. none i (omega arith) l)))
filled_prefix m (s ∷ ss) xs (suc n) lists none =
    let r = filled_prefix m ss (drop 120 xs) n
    (λ i l k. lists (suc i) (omega (arith, l)) (omega (arith, k)) ∙ ap (take 120) (sym (drop-drop (120 * i) 120 xs ∙ (let e : 120 + 120 * i ≡ 120 * suc i = omega arith in ap (λ (j : ℕ). drop j xs) e))))
    (λ i l k. none (suc i) (omega (arith, l)) (omega (arith, k))) in
    let first : lists_at m (s ∷ ss) 0 ≡ take 120 xs = lists 0 (omega arith) (omega arith) ∙ (let e : 120 * 0 ≡ 0 = omega arith in ap (λ (j : ℕ). take 120 (drop j xs)) e) in
    (r.0, append_assoc (lists_at m (s ∷ ss) 0) (blocks_listed m ss) r.0 ∙ (λ i. first i ++ r.1 i) ∙ take-append-drop 120 xs)

-- ---- a side sector is written

-- a chain without the sector is as it was
chain_apart : (tracks : ℕ) (c c' : Content) (t a : Place) (xs : List Place) → ((p : Place) → t ≢ p → c' p ≡ c p) → IsApart t xs → Chain tracks c a xs → Chain tracks c' a xs
chain_apart tracks c c' t a [] o p h = h
chain_apart tracks c c' t a (x ∷ xs) o p h =
    let e : c' x ≡ c x = o x p.0 in (
      h.0,
      h.1,
      subst (λ (y : Cell). IsOk y) (sym e) h.2,
      subst (λ (q : Place). Chain tracks c' q xs) (sym (ap (λ (y : Cell). link (or_nothing y)) e)) (chain_apart tracks c c' t (link (bytes_at c x)) xs o p.1 h.3),
    )

apart_drop : (t : Place) (xs : List Place) (n : ℕ) → IsApart t xs → IsApart t (drop n xs)
apart_drop t xs zero h = h
apart_drop t [] (suc n) h = tt
apart_drop t (x ∷ xs) (suc n) h = apart_drop t xs n h.1

apart_nth : (t : Place) (xs : List Place) (i : ℕ) → IsApart t xs → i < length xs → t ≢ nth xs i
apart_nth t [] i h l = absurd (omega (arith, l))
apart_nth t (x ∷ xs) zero h l = h.0
apart_nth t (x ∷ xs) (suc i) h l = apart_nth t xs i h.1 (omega (arith, l))

-- the others keep their numbers and the records' length, and so does this one
numbered_after : (tracks : ℕ) (c c' : Content) (width n : ℕ) (t : Place) (new : List ℕ) (ss : List Place) → ((p : Place) → t ≢ p → c' p ≡ c p) → c' t ≡ Ok new → get_or new 2 0 ≡ get_or (bytes_at c t) 2 0 → get_or new 3 0 ≡ get_or (bytes_at c t) 3 0
    → Numbered tracks c width n ss → Numbered tracks c' width n ss
numbered_after tracks c c' width n t new [] o there e f h = tt
numbered_after tracks c c' width n t new (s ∷ ss) o there e f h = elim (place_decide t s) [
  | inl same ↦
      (let at : c' s ≡ Ok new = ap c' (sym same) ∙ there in (
        h.0,
        subst (λ (x : Cell). IsOk x) (sym at) refl,
        ap (λ (x : Cell). get_or (or_nothing x) 2 0) at ∙ e ∙ ap (λ (p : Place). get_or (bytes_at c p) 2 0) same ∙ h.2,
        ap (λ (x : Cell). get_or (or_nothing x) 3 0) at ∙ f ∙ ap (λ (p : Place). get_or (bytes_at c p) 3 0) same ∙ h.3,
        numbered_after tracks c c' width (n + 1) t new ss o there e f h.4,
      ))
  | inr ne ↦
      (let at : c' s ≡ c s = o s ne in (
        h.0,
        subst (λ (x : Cell). IsOk x) (sym at) h.1,
        ap (λ (x : Cell). get_or (or_nothing x) 2 0) at ∙ h.2,
        ap (λ (x : Cell). get_or (or_nothing x) 3 0) at ∙ h.3,
        numbered_after tracks c c' width (n + 1) t new ss o there e f h.4,
      ))
]

-- the list of side sectors is as it was
sides_after : (c c' : Content) (t f : Place) (new : List ℕ) → ((p : Place) → t ≢ p → c' p ≡ c p) → c' t ≡ Ok new → sides_listed new ≡ sides_listed (bytes_at c t) → sides_listed (bytes_at c' f) ≡ sides_listed (bytes_at c f)
sides_after c c' t f new o there e = elim (place_decide t f) [
  | inl same ↦ ap (λ (p : Place). sides_listed (bytes_at c' p)) (sym same) ∙ ap (λ (x : Cell). sides_listed (or_nothing x)) there ∙ e ∙ ap (λ (p : Place). sides_listed (bytes_at c p)) same
  | inr ne ↦ ap (λ (x : Cell). sides_listed (or_nothing x)) (o f ne)
]

-- what the write of a side sector leaves
pub record SideDone (tracks : ℕ) (m c' : Content) (ss : List Place) (i : ℕ) (list : List Place) : Type 0 where
  pub only : (p : Place) → nth ss i ≢ p → c' p ≡ m p
  pub here : lists_at c' ss i ≡ list
  pub others : (j : ℕ) → j < length ss → j ≢ i → lists_at c' ss j ≡ lists_at m ss j

pub side_done : (tracks : ℕ) (m c' : Content) (xs ss : List Place) (i : ℕ) (list : List Place) → AreApart xs ss → i < length ss → IsSideListed m c' (nth ss i) list → SideDone tracks m c' ss i list
side_done tracks m c' xs ss i list apart l w =
    let only : (p : Place) → nth ss i ≢ p → c' p ≡ m p = λ p ne. ap (λ (y : Content). y p) w.written ∙ written_elsewhere m (nth ss i) p w.bytes ne in
    record {
      only = only;
      here = ap (λ (y : Content). named_in 120 (drop 16 (or_nothing (y (nth ss i))))) w.written ∙ ap (λ (x : Cell). named_in 120 (drop 16 (or_nothing x))) (written_there m (nth ss i) w.bytes) ∙ w.these.lists;
      others = λ j k ne. ap (λ (x : Cell). named_in 120 (drop 16 (or_nothing x))) (only (nth ss j) (λ z. ne (sym (apart.distinct i j l k z))));
    }

-- of two writes of a side sector the second one tells what it lists
lists_then : (old mid new : List ℕ) (ys zs : List Place) → ListsThese old ys mid → ListsThese mid zs new → ListsThese old zs new
lists_then old mid new ys zs a b = record {
  whole = b.whole;
  ended = record {
    track = b.ended.track ∙ a.ended.track;
    last = λ z. b.ended.last (a.ended.track ∙ z);
    linked = λ no. b.ended.linked (λ z. no (sym a.ended.track ∙ z)) ∙ a.ended.linked no;
  };
  front = λ i l m. b.front i l m ∙ a.front i l m;
  lists = b.lists;
  zeros = b.zeros;
}

kept_then : (old mid new : Content) (ss : List Place) (i : ℕ) → IsSideKept old mid ss i → IsSideKept mid new ss i → IsSideKept old new ss i
kept_then old mid new ss i (inl a) (inl b) = inl (b ∙ a)
kept_then old mid new ss i (inl a) (inr b) = inr (subst (λ (x : Cell). ListsThese (or_nothing x) (lists_at new ss i) (bytes_at new (nth ss i))) a b)
kept_then old mid new ss i (inr a) (inl b) = inr (subst (λ (x : Cell). ListsThese (bytes_at old (nth ss i)) (named_in 120 (drop 16 (or_nothing x))) (or_nothing x)) (sym b) a)
kept_then old mid new ss i (inr a) (inr b) = inr (lists_then (bytes_at old (nth ss i)) (bytes_at mid (nth ss i)) (bytes_at new (nth ss i)) (lists_at mid ss i) (lists_at new ss i) a b)

-- the side sector that is written
kept_here : (m c' : Content) (ss : List Place) (i : ℕ) (list : List Place) → IsSideListed m c' (nth ss i) list → IsSideKept m c' ss i
kept_here m c' ss i list w =
    let there : c' (nth ss i) ≡ Ok w.bytes = ap (λ (y : Content). y (nth ss i)) w.written ∙ written_there m (nth ss i) w.bytes in
    inr (subst (λ (x : Cell). ListsThese (bytes_at m (nth ss i)) (named_in 120 (drop 16 (or_nothing x))) (or_nothing x)) (sym there)
    (subst (λ (x : Cell). ListsThese (or_nothing x) (named_in 120 (drop 16 w.bytes)) w.bytes) (sym w.reads) (subst (λ (ys : List Place). ListsThese w.side ys w.bytes) (sym w.these.lists) w.these)))

-- THE FILE STILL LIES WHERE IT LAY, where the lists are a beginning of its chain
pub relisted_step : (tracks : ℕ) (old m c' : Content) (file : Relative) (xs ss : List Place) (i : ℕ) (list : List Place) → AreApart xs ss → IsRelisted tracks old m file xs ss → i < length ss → IsSideListed m c' (nth ss i) list
    → (rest : List Place) × (blocks_listed c' ss ++ rest ≡ xs) → IsRelisted tracks old c' file xs ss
relisted_step tracks old m c' file xs ss i list apart h l w joined =
    let t : Place = nth ss i in
    let only : (p : Place) → t ≢ p → c' p ≡ m p = λ p ne. ap (λ (y : Content). y p) w.written ∙ written_elsewhere m t p w.bytes ne in
    let there : c' t ≡ Ok w.bytes = ap (λ (y : Content). y t) w.written ∙ written_there m t w.bytes in
    let was : bytes_at m t ≡ w.side = ap or_nothing w.reads in
    let byte : (k : ℕ) → 2 ≤ k → k < 16 → get_or w.bytes k 0 ≡ get_or (bytes_at m t) k 0 = λ k a b. w.these.front k a b ∙ sym (ap (λ (ys : List ℕ). get_or ys k 0) was) in
    record {
      laid = record {
        chain = chain_apart tracks m c' t file.first xs only (apart.apart i l) h.laid.chain;
        some_block = h.laid.some_block;
        some_width = h.laid.some_width;
        most_width = h.laid.most_width;
        first_side = h.laid.first_side;
        listed = h.laid.listed ∙ sym (sides_after m c' t file.side w.bytes only there (named_same 6 4 w.bytes (bytes_at m t) (λ k a b. byte k (omega (arith, a)) (omega (arith, b)))));
        numbered = numbered_after tracks m c' file.width 0 t w.bytes ss only there (byte 2 (omega arith) (omega arith)) (byte 3 (omega arith) (omega arith)) h.laid.numbered;
        joined = joined;
      };
      whole = λ p. elim (place_decide t p) [
        | inl e ↦ subst (λ (x : Cell). IsWhole x) (sym (ap c' (sym e) ∙ there)) w.these.whole
        | inr ne ↦ subst (λ (x : Cell). IsWhole x) (sym (only p ne)) (h.whole p)
      ];
      kept = λ j k. kept_then old m c' ss j (h.kept j k) (elim (cases_eq j i) [
        | inl e ↦ subst (λ (n : ℕ). IsSideKept m c' ss n) (sym e) (kept_here m c' ss i list w)
        | inr ne ↦ inl (only (nth ss j) (λ z. ne (sym (apart.distinct i j l k z))))
      ]);
      others = λ p a. only p (λ z. apart_nth p ss i a l (sym z)) ∙ h.others p a;
    }

-- ---- the lists are taken away, from the last side sector down

pub record Unlisting (tracks : ℕ) (old m : Content) (file : Relative) (xs ss : List Place) (left : ℕ) : Type 0 where
  pub relisted : IsRelisted tracks old m file xs ss
  pub before : (i : ℕ) → i < left → i < length ss → lists_at m ss i ≡ lists_at old ss i
  pub afterwards : (i : ℕ) → left ≤ i → i < length ss → lists_at m ss i ≡ []

pub unlisting_begins : (tracks : ℕ) (old : Content) (file : Relative) (xs ss : List Place) (left : ℕ) → AllWhole old → IsLaid tracks old file xs ss → length ss ≤ left → Unlisting tracks old old file xs ss left
unlisting_begins tracks old file xs ss left whole laid all = record {
  relisted = record { laid = laid; whole = whole; kept = λ i l. inl refl; others = λ p a. refl };
  before = λ i l k. refl;
  afterwards = λ i l k. absurd (omega (arith, l, k, all));
}

pub unlisting_more : (tracks : ℕ) (old m c' : Content) (file : Relative) (xs ss : List Place) (left i : ℕ) → AreApart xs ss → IsLaid tracks old file xs ss → Unlisting tracks old m file xs ss left → left ≡ suc i → i < length ss → IsSideListed m c' (nth ss i) []
    → Unlisting tracks old c' file xs ss i
unlisting_more tracks old m c' file xs ss left i apart laid h e l w =
    let done = side_done tracks m c' xs ss i [] apart l w in
    let before : (j : ℕ) → j < i → j < length ss → lists_at c' ss j ≡ lists_at old ss j = λ j a b. done.others j b (λ z. omega (arith, a, z)) ∙ h.before j (omega (arith, a, e)) b in
    let afterwards : (j : ℕ) → i ≤ j → j < length ss → lists_at c' ss j ≡ [] = λ j a b. elim (cases_eq j i) [
      | inl z ↦ ap (lists_at c' ss) z ∙ done.here
      | inr ne ↦ done.others j b ne ∙ h.afterwards j (omega (arith, a, ne, e)) b
    ] in
    let r = emptied_prefix old c' ss i before afterwards in
    record {
      relisted = relisted_step tracks old m c' file xs ss i [] apart h.relisted l w
          (r.0 ++ laid.joined.0, sym (append_assoc (blocks_listed c' ss) r.0 laid.joined.0) ∙ ap (λ (ys : List Place). ys ++ laid.joined.0) r.1 ∙ laid.joined.1);
      before = before;
      afterwards = afterwards;
    }

-- ---- and each side sector gets its blocks, from the first one up

pub record Relisting (tracks : ℕ) (old m : Content) (file : Relative) (xs ss : List Place) (n : ℕ) (at : Place) : Type 0 where
  pub relisted : IsRelisted tracks old m file xs ss
  pub before : (i : ℕ) → i < n → i < length ss → lists_at m ss i ≡ take 120 (drop (120 * i) xs)
  pub afterwards : (i : ℕ) → n ≤ i → i < length ss → lists_at m ss i ≡ []
  pub chain : Chain tracks m at (drop (120 * n) xs)

pub relisting_begins : (tracks : ℕ) (old : Content) (file : Relative) (xs ss : List Place) (at : Place) → AllWhole old → IsLaid tracks old file xs ss → at ≡ file.first → ((i : ℕ) → i < length ss → lists_at old ss i ≡ []) → Relisting tracks old old file xs ss 0 at
relisting_begins tracks old file xs ss at whole laid e none = record {
  relisted = record { laid = laid; whole = whole; kept = λ i l. inl refl; others = λ p a. refl };
  before = λ i l k. absurd (omega (arith, l));
  afterwards = λ i l k. none i k;
  chain = (let z : 0 ≡ 120 * 0 = omega arith in subst (λ (m : ℕ). Chain tracks old at (drop m xs)) z (subst (λ (p : Place). Chain tracks old p xs) (sym e) laid.chain));
}

pub relisting_more : (tracks : ℕ) (old m c' : Content) (file : Relative) (xs ss : List Place) (n : ℕ) (at next : Place) → AreApart xs ss → Relisting tracks old m file xs ss n at → n < length ss → IsSideListed m c' (nth ss n) (take 120 (drop (120 * n) xs))
    → Chain tracks m next (drop 120 (drop (120 * n) xs)) → Relisting tracks old c' file xs ss (n + 1) next
relisting_more tracks old m c' file xs ss n at next apart h l w chain =
    let done = side_done tracks m c' xs ss n (take 120 (drop (120 * n) xs)) apart l w in
    let before : (j : ℕ) → j < n + 1 → j < length ss → lists_at c' ss j ≡ take 120 (drop (120 * j) xs) = λ j a b. elim (cases_eq j n) [
      | inl z ↦ ap (lists_at c' ss) z ∙ done.here ∙ ap (λ (k : ℕ). take 120 (drop (120 * k) xs)) (sym z)
      | inr ne ↦ done.others j b ne ∙ h.before j (omega (arith, a, ne)) b
    ] in
    let afterwards : (j : ℕ) → n + 1 ≤ j → j < length ss → lists_at c' ss j ≡ [] = λ j a b. done.others j b (λ z. omega (arith, a, z)) ∙ h.afterwards j (omega (arith, a)) b in
    let far : drop 120 (drop (120 * n) xs) ≡ drop (120 * (n + 1)) xs = drop-drop 120 (120 * n) xs ∙ (let e : 120 * n + 120 ≡ 120 * (n + 1) = omega arith in ap (λ (k : ℕ). drop k xs) e) in
    record {
      relisted = relisted_step tracks old m c' file xs ss n (take 120 (drop (120 * n) xs)) apart h.relisted l w (filled_prefix c' ss xs (n + 1) before afterwards);
      before = before;
      afterwards = afterwards;
      chain = chain_apart tracks m c' (nth ss n) next (drop (120 * (n + 1)) xs) done.only (apart_drop (nth ss n) xs (120 * (n + 1)) (apart.apart n l)) (subst (λ (ys : List Place). Chain tracks m next ys) far chain);
    }

-- one after the other
pub relisted_then : (tracks : ℕ) (old m new : Content) (file : Relative) (xs ss : List Place) → IsRelisted tracks old m file xs ss → IsRelisted tracks m new file xs ss → IsRelisted tracks old new file xs ss
relisted_then tracks old m new file xs ss a b = record { laid = b.laid; whole = b.whole; kept = λ i l. kept_then old m new ss i (a.kept i l) (b.kept i l); others = λ p h. b.others p h ∙ a.others p h }

-- a side sector that reads is refused by protection alone
pub side_refused : (old mid new : Seen) (q : Place) (code : ℕ) → IsOk (mid.content q) → mid.protected ≡ old.protected → old.failures ≤ mid.failures → IsNotWritten mid new q code → IsSideRefused old new code
side_refused old mid new q code is protected counted (inr failed) = inr (omega (arith, failed, counted))
side_refused old mid new q code is protected counted (inl refused) = by_cell (mid.content q) old.protected refl is (ap (λ (b : Bool). refusal b (mid.content q)) (sym protected) ∙ refused)
  where
    by_cell : (y : Cell) (b : Bool) → old.protected ≡ b → IsOk y → refusal b y ≡ Some code → IsSideRefused old new code
    by_cell y true p k e = inl (p, (let z : 26 ≡ code = cc in sym z))
    by_cell (Ok y) false p k e = absurd (cc)
    by_cell (Err y) false p k e = absurd (cc)

-- what refused a later write refused the call
pub refused_then : (old mid new : Seen) (code : ℕ) → mid.protected ≡ old.protected → old.failures ≤ mid.failures → IsSideRefused mid new code → IsSideRefused old new code
refused_then old mid new code protected counted (inl (p, e)) = inl (sym protected ∙ p, e)
refused_then old mid new code protected counted (inr failed) = inr (omega (arith, failed, counted))

-- ---- the calls

-- the first side sector names the others
pub names_sides : (c : Content) (head : List ℕ) (ss : List Place) → ss ≡ sides_listed head → NamesSides head ss
names_sides c head ss is i l = ap (λ (ys : List Place). nth ys i) is ∙ named_nth 6 4 i head (omega (arith, l, ap length is))

-- where a side sector is, which reads
pub side_there : (tracks : ℕ) (c : Content) (file : Relative) (xs ss : List Place) (i : ℕ) (head : List ℕ) (t : Place) → IsLaid tracks c file xs ss → NamesSides head ss → i < length ss → t ≡ place_in head (4 + 2 * i) → (nth ss i ≡ t) × Has tracks t × IsOk (c t)
side_there tracks c file xs ss i head t laid names l is =
    let same : nth ss i ≡ t = names i l ∙ sym is in
    let there = numbered_nth tracks c file.width 0 i ss laid.numbered l in
    (same, subst (λ (p : Place). Has tracks p) same there.0, subst (λ (p : Place). IsOk (c p)) same there.1)

-- a side sector isn't written
pub side_stopped : (tracks : ℕ) (old mid new : Seen) (file : Relative) (xs ss : List Place) (i : ℕ) (head : List ℕ) (t : Place) (code : ℕ) → IsRelisted tracks old.content mid.content file xs ss → NamesSides head ss → i < length ss
    → t ≡ place_in head (4 + 2 * i) → mid.protected ≡ old.protected → old.failures ≤ mid.failures → (Has tracks t → IsOk (mid.content t) → (new.content ≡ mid.content) × IsNotWritten mid new t code)
    → IsRelisted tracks old.content new.content file xs ss × IsSideRefused old new code
side_stopped tracks old mid new file xs ss i head t code h names l is protected counted refused =
    let now = side_there tracks mid.content file xs ss i head t h.laid names l is in
    let r = refused now.1 now.2 in
    (subst (λ (x : Content). IsRelisted tracks old.content x file xs ss) (sym r.0) h, side_refused old mid new t code now.2 protected counted r.1)

-- the chain ends at once
pub no_blocks : (tracks : ℕ) (c : Content) (p : Place) → p ≡ record { track = 0; sector = 0 } → Chain tracks c p []
no_blocks tracks c p e = ap (λ (q : Place). q.track) e

-- a side sector lists nothing
pub unlisted_one : (tracks : ℕ) (old m c' : Content) (file : Relative) (xs ss : List Place) (left i : ℕ) (head : List ℕ) (t : Place) → AreApart xs ss → IsLaid tracks old file xs ss → Unlisting tracks old m file xs ss left → left ≡ suc i → i < length ss → NamesSides head ss
    → t ≡ place_in head (4 + 2 * i) → (Has tracks t → IsOk (m t) → IsSideListed m c' t (take 120 [])) → Unlisting tracks old c' file xs ss i
unlisted_one tracks old m c' file xs ss left i head t apart laid h e l names is w =
    let there = side_there tracks m file xs ss i head t h.relisted.laid names l is in
    unlisting_more tracks old m c' file xs ss left i apart laid h e l (subst (λ (p : Place). IsSideListed m c' p []) (sym there.0) (w there.1 there.2))

-- a side sector lists its blocks
pub relisted_one : (tracks : ℕ) (old m c' : Content) (file : Relative) (xs ss : List Place) (n : ℕ) (at next : Place) (head : List ℕ) (t : Place) → AreApart xs ss → Relisting tracks old m file xs ss n at → n < length ss → NamesSides head ss → t ≡ place_in head (4 + 2 * n)
    → (Has tracks t → IsOk (m t) → IsSideListed m c' t (take 120 (drop (120 * n) xs)) × Chain tracks m next (drop 120 (drop (120 * n) xs))) → Relisting tracks old c' file xs ss (n + 1) next
relisted_one tracks old m c' file xs ss n at next head t apart h l names is w =
    let there = side_there tracks m file xs ss n head t h.relisted.laid names l is in
    let r = w there.1 there.2 in
    relisting_more tracks old m c' file xs ss n at next apart h l (subst (λ (p : Place). IsSideListed m c' p (take 120 (drop (120 * n) xs))) (sym there.0) r.0) r.1

-- what a side sector lists is what it would list
pub listed_one : (c : Content) (ss xs : List Place) (n : ℕ) (t : Place) (side new : List ℕ) → nth ss n ≡ t → c t ≡ Ok side → ((i : ℕ) → 16 ≤ i → i < 256 → get_or new i 0 ≡ get_or side i 0) → ListsThese side (take 120 (drop (120 * n) xs)) new
    → lists_at c ss n ≡ take 120 (drop (120 * n) xs)
listed_one c ss xs n t side new is reads same these =
    ap (λ (p : Place). named_in 120 (drop 16 (bytes_at c p))) is ∙ ap (λ (x : Cell). named_in 120 (drop 16 (or_nothing x))) reads ∙ sym (named_same 120 16 new side (λ i l k. same i l (omega (arith, k)))) ∙ these.lists

-- the same list with zeros after it is the same bytes
pub same_bytes : (a b : List ℕ) (ys : List Place) → named_in 120 (drop 16 a) ≡ ys → named_in 120 (drop 16 b) ≡ ys → ((i : ℕ) → 16 + 2 * length ys ≤ i → get_or a i 0 ≡ 0) → ((i : ℕ) → 16 + 2 * length ys ≤ i → get_or b i 0 ≡ 0)
    → (i : ℕ) → 16 ≤ i → get_or a i 0 ≡ get_or b i 0
same_bytes a b ys ea eb za zb i low = by_place (cases_lt i (16 + 2 * length ys))
  where
    place : (k : ℕ) → k < length ys → at_bytes a (16 + 2 * k) ≡ at_bytes b (16 + 2 * k)
    place k l = sym (named_nth 120 16 k a (omega (arith, l, ap length ea))) ∙ ap (λ (zs : List Place). nth zs k) (ea ∙ sym eb) ∙ named_nth 120 16 k b (omega (arith, l, ap length eb))

    by_byte : (k : ℕ) → k < length ys → (i ≡ 16 + 2 * k) ⊎ (i ≡ 16 + 2 * k + 1) → get_or a i 0 ≡ get_or b i 0
    by_byte k l (inl e) = ap (λ (m : ℕ). get_or a m 0) e ∙ ap (λ (p : Place). p.track) (place k l) ∙ ap (λ (m : ℕ). get_or b m 0) (sym e)
    by_byte k l (inr e) = ap (λ (m : ℕ). get_or a m 0) e ∙ ap (λ (p : Place). p.sector) (place k l) ∙ ap (λ (m : ℕ). get_or b m 0) (sym e)

    odd_or_even : (k : ℕ) → k ≡ (i - 16) / 2 → (i ≡ 16 + 2 * k) ⊎ (i ≡ 16 + 2 * k + 1)
    odd_or_even k e = elim (cases_eq i (16 + 2 * k)) [
      | inl even ↦ inl even
      | inr odd ↦ inr (omega (arith, e, odd, low))
    ]

    by_place : (i < 16 + 2 * length ys) ⊎ (16 + 2 * length ys ≤ i) → get_or a i 0 ≡ get_or b i 0
    by_place (inl l) = by_byte ((i - 16) / 2) (omega (arith, l, low)) (odd_or_even ((i - 16) / 2) refl)
    by_place (inr afterwards) = za i afterwards ∙ sym (zb i afterwards)

-- the first side sector was read
pub head_names : (tracks : ℕ) (c : Content) (file : Relative) (xs ss : List Place) (t : Place) (head : List ℕ) → IsLaid tracks c file xs ss → t ≡ file.side → c t ≡ Ok head → NamesSides head ss
head_names tracks c file xs ss t head laid is reads = names_sides c head ss (laid.listed ∙ ap (λ (p : Place). sides_listed (bytes_at c p)) (sym is) ∙ ap (λ (x : Cell). sides_listed (or_nothing x)) reads)

-- the same of the call's answer
pub later_refused : {A : Type 0} (old mid new : Seen) (r : Result A Trouble) (P : Type 0) → mid.protected ≡ old.protected → old.failures ≤ mid.failures → MatchResult r (λ x. P) (λ t. IsSideRefused mid new t.code) → MatchResult r (λ x. P) (λ t. IsSideRefused old new t.code)
later_refused old mid new (Ok x) P protected counted h = h
later_refused old mid new (Err t) P protected counted h = refused_then old mid new t.code protected counted h
