-- The last data block of a relative file is filled up: the file has fresh records after its own, and all else is as it was.
use Rattle.std.proofs.Common.{◌≡◌, ◌≢◌, ◌⊎◌, ℕ, zero, suc, ◌+◌, ◌-◌, ◌*◌, ◌/◌, ◌%◌, ◌<◌, ◌≤◌, List, [], ◌∷◌, ◌++◌, length, drop, get_or, Ok, IsOk, refl, sym, ap, subst, ◌∙◌, arith, inl, inr}
use Rattle.std.specs.Prelude.{slice_range, if◌then◌else◌, Bool}
use Rattle.std.proofs.lemmas.Bool.{cases_lt, cases_eq, eq-eqb}
use Rattle.std.proofs.lemmas.List.{length-take, length-take-le, length-drop, get_or-take, get_or-drop, get_or_append_left, get_or-append_right}
use Rattle.std.proofs.Math.Nat.{min-le_left}
use Rattle.cbm_medium.specs.Place.{Place, directory_head}
use Rattle.cbm_medium.specs.Content.{Cell, Content, IsWhole, written}
use Rattle.cbm_medium.specs.Links.{bytes_at, or_nothing, link, Chain}
use Rattle.cbm_medium.proofs.Places.{place_decide, written_there, written_elsewhere}
use Rattle.cbm_chain.specs.Data.{data_of, data_end, chain_bytes}
use Rattle.cbm_relfile.specs.Records.{AllWhole}
use Rattle.cbm_relfile.specs.Fresh.{fresh_in, full_end, IsFilledFrom}
use Rattle.cbm_relfile.specs.Filling.{IsRefilled, last_begin, IsTailFilled}
use Rattle.cbm_relfile.proofs.Filled.{chain_length}
use Rattle.cbm_relfile.proofs.Positions.{whole_bytes, full_length, chain_most}
use Rattle.cbm_volume.proofs.layouts.Chained.{chain_distinct}
use Rattle.cbm_volume.proofs.relative.InPlace.{chain_written}
use Rattle.cbm_volume.proofs.relative.Sides.{OnlyAt}

-- the block of a number
abbrev pub nth : List Place → ℕ → Place
nth xs i = get_or xs i directory_head

-- byte k of the data of a block
abbrev pub byte : Content → Place → ℕ → ℕ
byte c p k = get_or (bytes_at c p) (2 + k) 0

-- ---- where the bytes of a chain stand

in_range : (xs : List ℕ) (a b k : ℕ) → k < length (slice_range xs a b) → get_or (slice_range xs a b) k 0 ≡ get_or xs (a + k) 0
in_range xs a b k h = elim (cases_lt k (b - a)) [
  | inl l ↦ get_or-take (b - a) (drop a xs) k 0 l ∙ get_or-drop a xs k 0
  | inr past ↦ absurd (omega (arith, h, past, length-take (b - a) (drop a xs), min-le_left (b - a) (length (drop a xs))))
]

-- all blocks but the last one have 254 bytes
pub full_there : (tracks : ℕ) (c : Content) (a : Place) (xs : List Place) (i : ℕ) → AllWhole c → Chain tracks c a xs → suc i < length xs → length (data_of (bytes_at c (nth xs i))) ≡ 254
full_there tracks c a [] i w h l = absurd (omega (arith, l))
full_there tracks c a (x ∷ []) i w h l = absurd (omega (arith, l))
full_there tracks c a (x ∷ y ∷ ys) zero w h l =
    full_length (bytes_at c x) (whole_bytes c x w h.2) (λ z. (let t = ap (λ (p : Place). p.track) h.3.0 in omega (arith, t, z, h.3.1.0)))
full_there tracks c a (x ∷ y ∷ ys) (suc i) w h l = full_there tracks c (link (bytes_at c x)) (y ∷ ys) i w h.3 (omega (arith, l))

-- byte 254 i + k of a chain is byte k of block i
pub chain_at : (tracks : ℕ) (c : Content) (a : Place) (xs : List Place) (i k : ℕ) → AllWhole c → Chain tracks c a xs → i < length xs → k < length (data_of (bytes_at c (nth xs i))) → get_or (chain_bytes c xs) (254 * i + k) 0 ≡ byte c (nth xs i) k
chain_at tracks c a [] i k w h l m = absurd (omega (arith, l))
chain_at tracks c a (x ∷ xs) zero k w h l m =
    (let e : 254 * 0 + k ≡ k = omega arith in ap (λ (o : ℕ). get_or (data_of (bytes_at c x) ++ chain_bytes c xs) o 0) e)
    ∙ get_or_append_left (data_of (bytes_at c x)) (chain_bytes c xs) 0 k m
    ∙ in_range (bytes_at c x) 2 (data_end (bytes_at c x)) k m
chain_at tracks c a (x ∷ xs) (suc i) k w h l m =
    let full : length (data_of (bytes_at c x)) ≡ 254 = full_there tracks c a (x ∷ xs) 0 w h (omega (arith, l)) in
    get_or-append_right (data_of (bytes_at c x)) (chain_bytes c xs) 254 (254 * suc i + k) 0 full (omega arith)
    ∙ (let e : 254 * suc i + k - 254 ≡ 254 * i + k = omega arith in ap (λ (o : ℕ). get_or (chain_bytes c xs) o 0) e)
    ∙ chain_at tracks c (link (bytes_at c x)) xs i k w h.3 (omega (arith, l)) m

-- ---- the write of one block

-- a last block stays the last
pub chain_ended : (tracks : ℕ) (c c' : Content) (a : Place) (xs : List Place) (i : ℕ) (new : List ℕ) → Chain tracks c a xs → suc i ≡ length xs → OnlyAt c c' (nth xs i) → c' (nth xs i) ≡ Ok new → (link new).track ≡ 0 → Chain tracks c' a xs
chain_ended tracks c c' a [] i new h l o n k = absurd (omega (arith, l))
chain_ended tracks c c' a (x ∷ []) zero new h l o n k = (h.0, h.1, subst (λ (y : Cell). IsOk y) (sym n) refl, ap (λ (y : Cell). (link (or_nothing y)).track) n ∙ k)
chain_ended tracks c c' a (x ∷ y ∷ ys) zero new h l o n k = absurd (omega (arith, l))
chain_ended tracks c c' a (x ∷ xs) (suc i) new h l o n k =
    let apart : nth xs i ≢ x = λ e. (let z = chain_distinct tracks c a (x ∷ xs) (suc i) 0 directory_head h (omega (arith, l)) (omega arith) e in omega arith) in
    let e : c' x ≡ c x = o x apart in (
      h.0,
      h.1,
      subst (λ (y : Cell). IsOk y) (sym e) h.2,
      subst (λ (q : Place). Chain tracks c' q xs) (sym (ap (λ (y : Cell). link (or_nothing y)) e)) (chain_ended tracks c c' (link (bytes_at c x)) xs i new h.3 (omega (arith, l)) o n k),
    )

-- a block of a chain was written, from a place of its data on
pub record Rewrote (tracks : ℕ) (m c' : Content) (a : Place) (xs : List Place) (w i place : ℕ) : Type 0 where
  pub chain : Chain tracks c' a xs
  pub whole : AllWhole c'
  pub size : length (data_of (bytes_at c' (nth xs i))) ≡ 254
  pub front : (k : ℕ) → k < place → byte c' (nth xs i) k ≡ byte m (nth xs i) k
  pub fresh : (k : ℕ) → place ≤ k → k < 254 → byte c' (nth xs i) k ≡ fresh_in w (length xs) (254 * i + k)
  pub others : (j : ℕ) → j < length xs → j ≢ i → c' (nth xs j) ≡ m (nth xs j)

whole_written : (c c' : Content) (p : Place) (bytes : List ℕ) → AllWhole c → length bytes ≡ 256 → c' ≡ written c p bytes → AllWhole c'
whole_written c c' p bytes w l e q = elim (place_decide p q) [
  | inl same ↦ subst (λ (x : Cell). IsWhole x) (sym (ap (λ (y : Content). y q) e ∙ ap (written c p bytes) (sym same) ∙ written_there c p bytes)) l
  | inr ne ↦ subst (λ (x : Cell). IsWhole x) (sym (ap (λ (y : Content). y q) e ∙ written_elsewhere c p q bytes ne)) (w q)
]

rewrote : (tracks : ℕ) (m c' : Content) (a : Place) (xs : List Place) (w i place : ℕ) (sector new : List ℕ) (next : Place) → AllWhole m → Chain tracks m a xs → i < length xs → m (nth xs i) ≡ Ok sector → IsFilledFrom w (length xs) i place sector next new
    → c' ≡ written m (nth xs i) new → Chain tracks c' a xs → length (data_of new) ≡ 254 → Rewrote tracks m c' a xs w i place
rewrote tracks m c' a xs w i place sector new next whole chain there holds f e after size =
    let p : Place = nth xs i in
    let at : bytes_at c' p ≡ new = ap (λ (y : Content). or_nothing (y p)) e ∙ ap or_nothing (written_there m p new) in
    let was : bytes_at m p ≡ sector = ap or_nothing holds in
    record {
      chain = after;
      whole = whole_written m c' p new whole f.whole e;
      size = ap (λ (ys : List ℕ). length (data_of ys)) at ∙ size;
      front = λ k h. ap (λ (ys : List ℕ). get_or ys (2 + k) 0) at ∙ f.front k h ∙ sym (ap (λ (ys : List ℕ). get_or ys (2 + k) 0) was);
      fresh = λ k h l. ap (λ (ys : List ℕ). get_or ys (2 + k) 0) at ∙ f.fresh k h l;
      others = λ j h ne. ap (λ (y : Content). y (nth xs j)) e ∙ written_elsewhere m p (nth xs j) new (λ z. ne (sym (chain_distinct tracks m a xs i j directory_head chain there h z)));
    }

-- a block before the last keeps its link
tail_rewrote : (tracks : ℕ) (c c' : Content) (a : Place) (xs : List Place) (w i place : ℕ) → AllWhole c → Chain tracks c a xs → suc i < length xs → IsRefilled c c c' xs w i place link → Rewrote tracks c c' a xs w i place
tail_rewrote tracks c c' a xs w i place whole chain there r =
    let p : Place = nth xs i in
    let was : bytes_at c p ≡ r.sector = ap or_nothing r.holds in
    let linked : link r.new ≡ link r.sector = (λ j. record { track = r.filled.track j; sector = r.filled.sector j }) in
    let only : OnlyAt c c' p = λ x ne. ap (λ (y : Content). y x) r.written ∙ written_elsewhere c p x r.new ne in
    let at : c' p ≡ Ok r.new = ap (λ (y : Content). y p) r.written ∙ written_there c p r.new in
    let after = (chain_written tracks c c' a xs i r.new whole chain (omega (arith, there)) only at (linked ∙ ap link (sym was))).chain in
    let size : length (data_of r.new) ≡ 254 = ap (λ (y : Cell). length (data_of (or_nothing y))) (sym at) ∙ full_there tracks c' a xs i (whole_written c c' p r.new whole r.filled.whole r.written) after there in
    rewrote tracks c c' a xs w i place r.sector r.new (link r.sector) whole chain (omega (arith, there)) r.holds r.filled r.written after size

full_data : (bytes : List ℕ) → length bytes ≡ 256 → get_or bytes 0 0 ≡ 0 → get_or bytes 1 0 ≡ 255 → length (data_of bytes) ≡ 254
full_data bytes l z e =
    let end : data_end bytes ≡ 256 = ap (λ (b : Bool). if b then get_or bytes 1 0 + 1 else 256) (eq-eqb (get_or bytes 0 0) 0 z) ∙ omega (arith, e) in
    ap (λ (n : ℕ). length (slice_range bytes 2 n)) end ∙ length-take-le 254 (drop 2 bytes) (omega (arith, length-drop 2 bytes, l))

-- the last one is the last still
last_rewrote : (tracks : ℕ) (c m c' : Content) (a : Place) (xs : List Place) (w i place : ℕ) → AllWhole m → Chain tracks m a xs → suc i ≡ length xs → m (nth xs i) ≡ c (nth xs i) → IsRefilled c m c' xs w i place (λ s. full_end) → Rewrote tracks m c' a xs w i place
last_rewrote tracks c m c' a xs w i place whole chain there same r =
    let p : Place = nth xs i in
    let only : OnlyAt m c' p = λ x ne. ap (λ (y : Content). y x) r.written ∙ written_elsewhere m p x r.new ne in
    let at : c' p ≡ Ok r.new = ap (λ (y : Content). y p) r.written ∙ written_there m p r.new in
    rewrote tracks m c' a xs w i place r.sector r.new full_end whole chain (omega (arith, there)) (same ∙ r.holds) r.filled r.written
    (chain_ended tracks m c' a xs i r.new chain there only at r.filled.track) (full_data r.new r.filled.whole r.filled.track r.filled.sector)

-- ---- the bytes of the file

-- what stands after the first of the two writes: the same bytes up to the end of the last whole record, and fresh ones in the block before the last
pub record TailDone (tracks : ℕ) (c m : Content) (a : Place) (xs : List Place) (w from : ℕ) : Type 0 where
  pub chain : Chain tracks m a xs
  pub whole : AllWhole m
  pub last : m (nth xs (length xs - 1)) ≡ c (nth xs (length xs - 1))
  pub size : length (chain_bytes m xs) ≡ length (chain_bytes c xs)
  pub front : (o : ℕ) → o < from → get_or (chain_bytes m xs) o 0 ≡ get_or (chain_bytes c xs) o 0
  pub fresh : (o : ℕ) → from ≤ o → o < last_begin xs → get_or (chain_bytes m xs) o 0 ≡ fresh_in w (length xs) o

-- a byte of the file is one of a block
pub record InBlock (c : Content) (xs : List Place) (o : ℕ) : Type 0 where
  pub there : o / 254 < length xs
  pub short : o % 254 < length (data_of (bytes_at c (nth xs (o / 254))))

in_block : (tracks : ℕ) (c : Content) (a : Place) (xs : List Place) (o : ℕ) → AllWhole c → Chain tracks c a xs → o < length (chain_bytes c xs) → InBlock c xs o
in_block tracks c a xs o w h l =
    let there : o / 254 < length xs = omega (arith, l, chain_most tracks c a xs w h) in
    record {
      there = there;
      short = elim (cases_lt (suc (o / 254)) (length xs)) [
        | inl more ↦ omega (arith, full_there tracks c a xs (o / 254) w h more)
        | inr no_more ↦ omega (arith, l, chain_length tracks c a xs (o / 254) w h (omega (arith, there, no_more)))
      ];
    }

byte_of : (tracks : ℕ) (c : Content) (a : Place) (xs : List Place) (o : ℕ) → AllWhole c → Chain tracks c a xs → o < length (chain_bytes c xs) → get_or (chain_bytes c xs) o 0 ≡ byte c (nth xs (o / 254)) (o % 254)
byte_of tracks c a xs o w h l =
    let g = in_block tracks c a xs o w h l in
    (let e : o ≡ 254 * (o / 254) + o % 254 = omega arith in ap (λ (m : ℕ). get_or (chain_bytes c xs) m 0) e) ∙ chain_at tracks c a xs (o / 254) (o % 254) w h g.there g.short

-- the bytes before the place, and those of the other blocks, are as they were
rewrote_same : (tracks : ℕ) (m c' : Content) (a : Place) (xs : List Place) (w i place o : ℕ) → AllWhole m → Chain tracks m a xs → Rewrote tracks m c' a xs w i place → (o < 254 * i + place) ⊎ (254 * i + 254 ≤ o) → o < length (chain_bytes m xs)
    → o < length (chain_bytes c' xs) → get_or (chain_bytes c' xs) o 0 ≡ get_or (chain_bytes m xs) o 0
rewrote_same tracks m c' a xs w i place o whole chain r which was is =
    byte_of tracks c' a xs o r.whole r.chain is
    ∙ (elim (cases_eq (o / 254) i) [
      | inl e ↦ ap (λ (j : ℕ). byte c' (nth xs j) (o % 254)) e ∙ r.front (o % 254) (before e which) ∙ ap (λ (j : ℕ). byte m (nth xs j) (o % 254)) (sym e)
      | inr ne ↦ ap (λ (y : Cell). get_or (or_nothing y) (2 + o % 254) 0) (r.others (o / 254) (in_block tracks m a xs o whole chain was).there ne)
    ])
    ∙ sym (byte_of tracks m a xs o whole chain was)
  where
    before : o / 254 ≡ i → (o < 254 * i + place) ⊎ (254 * i + 254 ≤ o) → o % 254 < place
    before e (inl l) = omega (arith, e, l)
    before e (inr l) = absurd (omega (arith, e, l))

rewrote_fresh : (tracks : ℕ) (m c' : Content) (a : Place) (xs : List Place) (w i place o : ℕ) → Rewrote tracks m c' a xs w i place → i < length xs → 254 * i + place ≤ o → o < 254 * i + 254 → get_or (chain_bytes c' xs) o 0 ≡ fresh_in w (length xs) o
rewrote_fresh tracks m c' a xs w i place o r there from to =
    let e : o ≡ 254 * i + (o - 254 * i) = omega (arith, from) in
    ap (λ (n : ℕ). get_or (chain_bytes c' xs) n 0) e
    ∙ chain_at tracks c' a xs i (o - 254 * i) r.whole r.chain there (omega (arith, r.size, to, from))
    ∙ r.fresh (o - 254 * i) (omega (arith, from)) (omega (arith, to, from))
    ∙ ap (λ (n : ℕ). fresh_in w (length xs) n) (sym e)

pub tail_done : (tracks : ℕ) (c m : Content) (a : Place) (xs : List Place) (w from : ℕ) → AllWhole c → Chain tracks c a xs → 1 ≤ length xs → 254 * (length xs - 2) ≤ from → IsTailFilled c m xs w from → TailDone tracks c m a xs w from
tail_done tracks c m a xs w from whole chain some late (inl (far, same)) = record {
  chain = subst (λ (x : Content). Chain tracks x a xs) (sym same) chain;
  whole = subst AllWhole (sym same) whole;
  last = ap (λ (x : Content). x (nth xs (length xs - 1))) same;
  size = ap (λ (x : Content). length (chain_bytes x xs)) same;
  front = λ o h. ap (λ (x : Content). get_or (chain_bytes x xs) o 0) same;
  fresh = λ o h l. absurd (omega (arith, h, l, far));
}
tail_done tracks c m a xs w from whole chain some late (inr (near, r)) =
    let i : ℕ = length xs - 2 in
    let two : suc i < length xs = omega (arith, near, some) in
    let rw : Rewrote tracks c m a xs w i (from - 254 * i) = tail_rewrote tracks c m a xs w i (from - 254 * i) whole chain two r in
    let last : m (nth xs (length xs - 1)) ≡ c (nth xs (length xs - 1)) = rw.others (length xs - 1) (omega (arith, some)) (λ z. omega (arith, z, two)) in
    let long = chain_length tracks c a xs (length xs - 1) whole chain (omega (arith, some)) in
    let long' = chain_length tracks m a xs (length xs - 1) rw.whole rw.chain (omega (arith, some)) in
    let size : length (chain_bytes m xs) ≡ length (chain_bytes c xs) = omega (arith, long, long', ap (λ (y : Cell). length (data_of (or_nothing y))) last) in
    let least : last_begin xs ≤ length (chain_bytes c xs) = omega (arith, long) in
    record {
      chain = rw.chain;
      whole = rw.whole;
      last = last;
      size = size;
      front = λ o h. rewrote_same tracks c m a xs w i (from - 254 * i) o whole chain rw (inl (omega (arith, h, late))) (omega (arith, h, near, least)) (omega (arith, h, near, least, size));
      fresh = λ o h l. rewrote_fresh tracks c m a xs w i (from - 254 * i) o rw (omega (arith, two)) (omega (arith, h, late)) (omega (arith, l, two));
    }

-- what stands after both: the bytes up to the end of the last whole record, and fresh ones up to the end of the last block
pub record EndDone (tracks : ℕ) (c c' : Content) (a : Place) (xs : List Place) (w from : ℕ) : Type 0 where
  pub chain : Chain tracks c' a xs
  pub whole : AllWhole c'
  pub size : length (chain_bytes c' xs) ≡ 254 * length xs
  pub front : (o : ℕ) → o < from → get_or (chain_bytes c' xs) o 0 ≡ get_or (chain_bytes c xs) o 0
  pub fresh : (o : ℕ) → from ≤ o → o < 254 * length xs → get_or (chain_bytes c' xs) o 0 ≡ fresh_in w (length xs) o

pub end_done : (tracks : ℕ) (c m c' : Content) (a : Place) (xs : List Place) (w from : ℕ) → AllWhole c → Chain tracks c a xs → 1 ≤ length xs → from ≤ length (chain_bytes c xs) → TailDone tracks c m a xs w from
    → IsRefilled c m c' xs w (length xs - 1) (from - last_begin xs) (λ s. full_end) → EndDone tracks c c' a xs w from
end_done tracks c m c' a xs w from whole chain some early tail r =
    let i : ℕ = length xs - 1 in
    let rw : Rewrote tracks m c' a xs w i (from - last_begin xs) = last_rewrote tracks c m c' a xs w i (from - last_begin xs) tail.whole tail.chain (omega (arith, some)) tail.last r in
    let size : length (chain_bytes c' xs) ≡ 254 * length xs = omega (arith, chain_length tracks c' a xs i rw.whole rw.chain (omega (arith, some)), rw.size, some) in
    let least : last_begin xs ≤ length (chain_bytes m xs) = omega (arith, chain_length tracks m a xs i tail.whole tail.chain (omega (arith, some))) in
    let most = chain_most tracks c a xs whole chain in
    let same : (o : ℕ) → o < 254 * i + (from - last_begin xs) → o < length (chain_bytes m xs) → get_or (chain_bytes c' xs) o 0 ≡ get_or (chain_bytes m xs) o 0
    = λ o h l. rewrote_same tracks m c' a xs w i (from - last_begin xs) o tail.whole tail.chain rw (inl h) l (omega (arith, size, l, tail.size, most)) in
    record {
      chain = rw.chain;
      whole = rw.whole;
      size = size;
      front = λ o h. same o (omega (arith, h)) (omega (arith, h, early, tail.size)) ∙ tail.front o h;
      fresh = λ o h l. elim (cases_lt o (last_begin xs)) [
        | inl before ↦ same o (omega (arith, before)) (omega (arith, before, least)) ∙ tail.fresh o h before
        | inr there ↦ rewrote_fresh tracks m c' a xs w i (from - last_begin xs) o rw (omega (arith, some)) (omega (arith, h, there)) (omega (arith, l, some))
      ];
    }
