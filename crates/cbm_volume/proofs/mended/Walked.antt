-- Slots that were never closed become empty, one after another.
use Rattle.std.proofs.Common.{◌≡◌, ◌≢◌, ◌⊎◌, ℕ, ◌+◌, ◌*◌, ◌/◌, ◌%◌, ◌<◌, ◌≤◌, List, [], ◌∷◌, length, get_or, true, false, IsOk, refl, sym, ap, subst, ◌∙◌, arith, zero, suc, inl, inr, Option, Some, None, Result, Ok, Err, IfErr}
use Rattle.std.specs.Prelude.{slice_get, OnOk}
use Rattle.std.proofs.lemmas.Bool.{cases_eq}
use Rattle.std.proofs.lemmas.Option.{slice_get_within}
use Rattle.cbm_medium.specs.Place.{Place, directory_head}
use Rattle.cbm_medium.specs.Content.{Cell, Content, written}
use Rattle.cbm_medium.specs.Seen.{Seen, OnlyContent}
use Rattle.cbm_medium.specs.Links.{bytes_at, link, Chain, IsApart}
use Rattle.cbm_medium.specs.declared.fault.Trouble.{Trouble}
use Rattle.cbm_medium.proofs.Places.{place_decide, written_there, written_elsewhere, written_each}
use Rattle.cbm_medium.proofs.Walks.{chain_followed}
use Rattle.cbm_medium.proofs.Sequences.{nothing_yet, only_more}
use Rattle.cbm_bam.specs.Causes.{HasCause}
use Rattle.cbm_directory.specs.Entries.{entry_of, entry_at, sector_of, first_directory, is_closed, type_byte, HasEntry}
use Rattle.cbm_directory.specs.EntryChanges.{cleared_entry, Clears}
use Rattle.cbm_directory.specs.Slots.{all_entries, Listed, listed_in, listed_from, directory_of, Answers}
use Rattle.cbm_volume.specs.Layouts.{IsCellWritable}
use Rattle.cbm_volume.specs.Opens.{IsHindered}
use Rattle.cbm_volume.specs.Sweeps.{IsSweptAs, IsDirectoryChain, IsSwept, SlotSwept}
use Rattle.cbm_volume.proofs.layouts.Chained.{chain_distinct}
use Rattle.cbm_volume.proofs.layouts.Listing.{entries_length, nth_entry}
use Rattle.cbm_volume.proofs.layouts.Refusals.{sector_hindered, sector_reads, hindered_since}

-- ---- the answer for a slot

listed : (tracks : ℕ) (c : Content) (xs : List Place) → IsDirectoryChain tracks c xs → directory_of tracks c ≡ record { entries = all_entries c xs; trouble = None }
unfolding directory_of listed_from
listed tracks c xs h = ap (listed_in c) (chain_followed tracks c xs 18 first_directory h.0 h.1)

pub found_at : (tracks : ℕ) (c : Content) (xs : List Place) (n : ℕ) (entry : List ℕ) → IsDirectoryChain tracks c xs → Answers (directory_of tracks c) n (Ok (Some entry)) → (n < 8 * length xs) × (entry ≡ entry_at c xs n)
found_at tracks c xs n entry h a =
    let at : slice_get (all_entries c xs) n ≡ Some entry = ap (λ (d : Listed). slice_get d.entries n) (sym (listed tracks c xs h)) ∙ a in
    let room : n < 8 * length xs = omega (arith, slice_get_within (all_entries c xs) n entry at, entries_length c xs) in
    (room, same_some (sym at ∙ nth_entry c xs n room))
  where
    same_some : {x y : List ℕ} → Some x ≡ Some y → x ≡ y
    same_some e = cc

pub none_at : (tracks : ℕ) (c : Content) (xs : List Place) (n : ℕ) → IsDirectoryChain tracks c xs → Answers (directory_of tracks c) n (Ok None) → 8 * length xs ≤ n
none_at tracks c xs n h a = omega (arith, a.0, ap (λ (x : Listed). length x.entries) (listed tracks c xs h), entries_length c xs)

pub no_break : (tracks : ℕ) (c : Content) (xs : List Place) (n : ℕ) (t : Trouble) → IsDirectoryChain tracks c xs → Answers (directory_of tracks c) n (Err t) → ⊥
no_break tracks c xs n t h a = let z = sym a.1 ∙ ap (λ (x : Listed). x.trouble) (listed tracks c xs h) in cc

-- ---- one slot, by what was met

-- past the last slot
pub slot_past : (tracks : ℕ) (c : Content) (n : ℕ) (o : Option (List ℕ)) → o ≡ None → Answers (directory_of tracks c) n (Ok o) → (xs : List Place) → IsDirectoryChain tracks c xs → SlotSwept c c xs n
slot_past tracks c n o e a xs h = inl (λ k. absurd (omega (arith, k, none_at tracks c xs n h (subst (λ (x : Option (List ℕ)). Answers (directory_of tracks c) n (Ok x)) e a))), refl)

-- a slot that is closed or empty
pub slot_stays : (tracks : ℕ) (c : Content) (n : ℕ) (entry : List ℕ) → Answers (directory_of tracks c) n (Ok (Some entry)) → (is_closed entry ≡ true) ⊎ (type_byte entry ≡ 0) → (xs : List Place) → IsDirectoryChain tracks c xs → SlotSwept c c xs n
slot_stays tracks c n entry a way xs h =
    let found = found_at tracks c xs n entry h a in
    inl (λ k. subst (λ (e : List ℕ). IsSweptAs e e) found.1 (by_way way), refl)
  where
    by_way : (is_closed entry ≡ true) ⊎ (type_byte entry ≡ 0) → IsSweptAs entry entry
    by_way (inl e) = record { closed = λ _. refl; unclosed = λ z. absurd (let y = sym e ∙ z in cc) }
    by_way (inr e) = record { closed = λ _. refl; unclosed = λ _. e }

-- the entry of this slot was cleared, where the directory is
abbrev pub SlotCleared : ℕ → Content → Content → ℕ → Result (Unit {0}) Trouble → Type 0
SlotCleared tracks c c' n r = (directory : List Place) → Chain tracks c first_directory directory → n < 8 * length directory → OnOk r (Clears c c' (sector_of directory n) (n % 8))

pub slot_cleared : (tracks : ℕ) (c c' : Content) (n : ℕ) (entry : List ℕ) (r : Result (Unit {0}) Trouble) → Answers (directory_of tracks c) n (Ok (Some entry)) → is_closed entry ≡ false → SlotCleared tracks c c' n r
    → (xs : List Place) → IsDirectoryChain tracks c xs → OnOk r (SlotSwept c c' xs n)
slot_cleared tracks c c' n entry (Err t) a open_ put xs h = tt
slot_cleared tracks c c' n entry (Ok x) a open_ put xs h =
    let found = found_at tracks c xs n entry h a in
    inr (found.0, ap is_closed (sym found.1) ∙ open_, put xs h.0 found.0)

-- why an entry isn't cleared, where the directory is
abbrev pub ClearingRefused : ℕ → Seen → Seen → ℕ → Result (Unit {0}) Trouble → Type 0
ClearingRefused tracks old new n r = (directory : List Place) → Chain tracks old.content first_directory directory → n < 8 * length directory → IfErr r (λ t. HasCause old new (sector_of directory n) t.code)

pub slot_hindered : (tracks : ℕ) (old new : Seen) (n : ℕ) (entry : List ℕ) (r : Result (Unit {0}) Trouble) → Answers (directory_of tracks old.content) n (Ok (Some entry)) → ClearingRefused tracks old new n r
    → (xs : List Place) → IsDirectoryChain tracks old.content xs → IfErr r (IsHindered old new)
slot_hindered tracks old new n entry (Ok x) a cause xs h = tt
slot_hindered tracks old new n entry (Err t) a cause xs h =
    let found = found_at tracks old.content xs n entry h a in
    sector_hindered old new (sector_of xs n) t (sector_reads tracks old.content xs n h.0 found.0) (cause xs h.0 found.0)

-- ---- all slots

pub none_swept : (c : Content) (xs : List Place) → IsSwept c c xs 0
none_swept c xs = record {
  elsewhere = λ p a. refl;
  links = λ p ok. (ok, refl);
  writable = λ p w. w;
  before = λ n k l. absurd (omega (arith, l));
  afterwards = λ n k l. refl;
}

-- the directory lies where it lay
pub same_directory : (tracks : ℕ) (c c' : Content) (xs : List Place) (k : ℕ) → IsDirectoryChain tracks c xs → IsSwept c c' xs k → IsDirectoryChain tracks c' xs
same_directory tracks c c' xs k h s = (chain first_directory xs h.0, h.1)
  where
    chain : (a : Place) (ys : List Place) → Chain tracks c a ys → Chain tracks c' a ys
    chain a [] z = z
    chain a (b ∷ ys) z = let l = s.links b z.2 in (z.0, z.1, l.0, subst (λ (x : Place). Chain tracks c' x ys) (sym l.1) (chain (link (bytes_at c b)) ys z.3))

-- nothing happened to a slot that may stay
stays_swept : (c c' : Content) (xs : List Place) (n : ℕ) → IsSwept c c' xs n → (n < 8 * length xs → IsSweptAs (entry_at c' xs n) (entry_at c' xs n)) → IsSwept c c' xs (n + 1)
stays_swept c c' xs n s h = record {
  elsewhere = s.elsewhere;
  links = s.links;
  writable = s.writable;
  before = λ m k l. elim (cases_eq m n) [
    | inl e ↦ subst (λ (i : ℕ). IsSweptAs (entry_at c xs i) (entry_at c' xs i)) (sym e)
        (subst (λ (x : List ℕ). IsSweptAs x (entry_at c' xs n)) (s.afterwards n (omega (arith, k, e)) (omega arith)) (h (omega (arith, k, e))))
    | inr ne ↦ s.before m k (omega (arith, l, ne))
  ];
  afterwards = λ m k l. s.afterwards m k (omega (arith, l));
}

entry_others : (tracks : ℕ) (c : Content) (xs : List Place) (n m : ℕ) (new entry : List ℕ) → Chain tracks c first_directory xs → n < 8 * length xs → m < 8 * length xs → m ≢ n
    → HasEntry (bytes_at c (sector_of xs n)) new (n % 8) entry → entry_at (written c (sector_of xs n) new) xs m ≡ entry_at c xs m
entry_others tracks c xs n m new entry chain a b ne h = elim (cases_eq (m / 8) (n / 8)) [
  | inl e ↦ (let same : sector_of xs m ≡ sector_of xs n = ap (λ (i : ℕ). get_or xs i directory_head) e in
      ap (λ (p : Place). entry_of (bytes_at (written c (sector_of xs n) new) p) (m % 8)) same
      ∙ ap (λ (x : Cell). entry_of (bytes_at (λ q. x) directory_head) (m % 8)) (written_there c (sector_of xs n) new)
      ∙ h.others (m % 8) (omega arith) (omega arith)
      ∙ ap (λ (p : Place). entry_of (bytes_at c p) (m % 8)) (sym same))
  | inr apart ↦ ap (λ (x : Cell). entry_of (bytes_at (λ q. x) directory_head) (m % 8))
      (written_elsewhere c (sector_of xs n) (sector_of xs m) new
      (λ e. apart (chain_distinct tracks c first_directory xs (m / 8) (n / 8) directory_head chain (omega arith) (omega arith) (sym e))))
]

cleared_type : (e : List ℕ) → type_byte (cleared_entry e) ≡ 0
cleared_type [] = refl
cleared_type (x ∷ e) = refl

apart_nth : (p : Place) (xs : List Place) (i : ℕ) → IsApart p xs → i < length xs → get_or xs i directory_head ≢ p
apart_nth p [] i h l e = omega (arith, l)
apart_nth p (x ∷ xs) zero h l e = h.0 (sym e)
apart_nth p (x ∷ xs) (suc i) h l e = apart_nth p xs i h.1 (omega (arith, l)) e

-- one more slot is cleared
clears_swept : (tracks : ℕ) (c c1 c2 : Content) (xs : List Place) (n : ℕ) → IsDirectoryChain tracks c xs → IsSwept c c1 xs n → n < 8 * length xs → is_closed (entry_at c1 xs n) ≡ false → Clears c1 c2 (sector_of xs n) (n % 8) → IsSwept c c2 xs (n + 1)
clears_swept tracks c c1 c2 xs n h s k open_ z = subst (λ (x : Content). IsSwept c x xs (n + 1)) (sym z.written) (record {
  elsewhere = λ p a. written_elsewhere c1 at p z.sector (λ e. apart_nth p xs (n / 8) a (omega (arith, k)) e) ∙ s.elsewhere p a;
  links = λ p ok. then_links p (s.links p ok).0 (s.links p ok).1;
  writable = λ p w. written_each IsCellWritable c1 at z.sector p tt (s.writable p w);
  before = λ m l b. elim (cases_eq m n) [
    | inl e ↦ subst (λ (i : ℕ). IsSweptAs (entry_at c xs i) (entry_at (written c1 at z.sector) xs i)) (sym e)
        (record {
          closed = λ y. absurd (let x = sym y ∙ ap is_closed (sym (s.afterwards n k (omega arith))) ∙ open_ in cc);
          unclosed = λ _. ap type_byte (ap (λ (x : Cell). entry_of (bytes_at (λ q. x) directory_head) (n % 8)) (written_there c1 at z.sector) ∙ z.has.here) ∙ cleared_type (entry_of (bytes_at c1 at) (n % 8));
        })
    | inr ne ↦ subst (λ (x : List ℕ). IsSweptAs (entry_at c xs m) x) (sym (entry_others tracks c1 xs n m z.sector _ there k l ne z.has)) (s.before m l (omega (arith, b, ne)))
  ];
  afterwards = λ m l b. entry_others tracks c1 xs n m z.sector _ there k l (λ e. omega (arith, b, e)) z.has ∙ s.afterwards m l (omega (arith, b));
})
  where
    at : Place
    at = sector_of xs n

    there : Chain tracks c1 first_directory xs
    there = (same_directory tracks c c1 xs n h s).0

    then_links : (p : Place) → IsOk (c1 p) → link (bytes_at c1 p) ≡ link (bytes_at c p) → IsOk (written c1 (sector_of xs n) z.sector p) × (link (bytes_at (written c1 (sector_of xs n) z.sector) p) ≡ link (bytes_at c p))
    then_links p ok e = elim (place_decide (sector_of xs n) p) [
      | inl same ↦ subst (λ (q : Place). link (bytes_at c1 q) ≡ link (bytes_at c q) → IsOk (written c1 (sector_of xs n) z.sector q) × (link (bytes_at (written c1 (sector_of xs n) z.sector) q) ≡ link (bytes_at c q))) same
          (λ f. (subst (λ (x : Cell). IsOk x) (sym (written_there c1 (sector_of xs n) z.sector)) refl, ap (λ (x : Cell). link (bytes_at (λ q. x) directory_head)) (written_there c1 (sector_of xs n) z.sector) ∙ z.has.link ∙ f)) e
      | inr ne ↦ (let y = written_elsewhere c1 (sector_of xs n) p z.sector ne in
          (subst (λ (x : Cell). IsOk x) (sym y) ok, ap (λ (x : Cell). link (bytes_at (λ q. x) p)) y ∙ e))
    ]

pub one_swept : (tracks : ℕ) (c c1 c2 : Content) (xs : List Place) (n : ℕ) → IsDirectoryChain tracks c xs → IsSwept c c1 xs n → SlotSwept c1 c2 xs n → IsSwept c c2 xs (n + 1)
one_swept tracks c c1 c2 xs n h s (inl z) = subst (λ (x : Content). IsSwept c x xs (n + 1)) (sym z.1) (stays_swept c c1 xs n s z.0)
one_swept tracks c c1 c2 xs n h s (inr z) = clears_swept tracks c c1 c2 xs n h s z.0 z.1 z.2

-- ---- the walk

-- these slots are swept, and only the content is another
pub record AreSwept (tracks : ℕ) (old now : Seen) (n : ℕ) : Type 0 where
  pub swept : (xs : List Place) → IsDirectoryChain tracks old.content xs → IsSwept old.content now.content xs n
  pub only : OnlyContent {A = Unit {0}} tracks (Ok tt) old now

pub begins : (tracks : ℕ) (old : Seen) → AreSwept tracks old old 0
begins tracks old = record { swept = λ xs h. none_swept old.content xs; only = nothing_yet old }

pub goes_on : {A : Type 0} (tracks : ℕ) (old mid new : Seen) (n m : ℕ) (x : A) → m ≡ n + 1 → AreSwept tracks old mid n → ((xs : List Place) → IsDirectoryChain tracks mid.content xs → SlotSwept mid.content new.content xs n)
    → OnlyContent {A = A} tracks (Ok x) mid new → AreSwept tracks old new m
goes_on {A} tracks old mid new n m x at s one only = record {
  swept = λ xs h. subst (λ (k : ℕ). IsSwept old.content new.content xs k) (sym at)
      (one_swept tracks old.content mid.content new.content xs n h (s.swept xs h) (one xs (same_directory tracks old.content mid.content xs n h (s.swept xs h))));
  only = only_more x old mid new s.only only;
}

-- where a slot is refused, those before it are swept
pub stops_at : (tracks : ℕ) (old mid : Seen) (new : Content) (n : ℕ) → AreSwept tracks old mid n → new ≡ mid.content → (xs : List Place) → IsDirectoryChain tracks old.content xs → (k : ℕ) × IsSwept old.content new xs k
stops_at tracks old mid new n s same xs h = (n, subst (λ (x : Content). IsSwept old.content x xs n) (sym same) (s.swept xs h))

pub hindered_at : (tracks : ℕ) (old mid new : Seen) (n : ℕ) (t : Trouble) → AreSwept tracks old mid n → ((xs : List Place) → IsDirectoryChain tracks mid.content xs → IsHindered mid new t) → (xs : List Place) → IsDirectoryChain tracks old.content xs → IsHindered old new t
hindered_at tracks old mid new n t s cause xs h =
    hindered_since old mid new t s.only.protected s.only.counted (cause xs (same_directory tracks old.content mid.content xs n h (s.swept xs h)))
