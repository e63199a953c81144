-- A disk is sound with owners exactly where it is so by the list of the sectors that it uses.
use Rattle.std.proofs.Common.{◌≡◌, ◌≢◌, ℕ, zero, suc, ◌+◌, ◌<◌, ◌≤◌, List, [], ◌∷◌, ◌++◌, length, Bool, true, false, Some, refl, sym, ap, ◌∙◌, subst, arith, inl, inr}
use Rattle.std.specs.Prelude.{slice_get, ◌==◌, ◌%◌}
use Rattle.cbm_medium.specs.Place.{Place, Has, has, directory_head}
use Rattle.cbm_medium.specs.Content.{Content}
use Rattle.cbm_medium.specs.Links.{Chain, bytes_at, link, IsApart}
use Rattle.cbm_medium.proofs.Walks.{has_true, bool_cases}
use Rattle.cbm_medium.proofs.Places.{places_apart}
use Rattle.std.proofs.lemmas.Bool.{eq-eqb, eqb-true}
use Rattle.cbm_bam.specs.Map.{with_bit}
use Rattle.cbm_relfile.specs.SideSectors.{Numbered}
use Rattle.cbm_directory.specs.Entries.{type_byte, is_closed, is_relative, first_block, first_directory, entry_at, width_of}
use Rattle.cbm_directory.specs.Slots.{all_entries}
use Rattle.cbm_volume.specs.Blocks.{Blocks, Lies, LiesAs}
use Rattle.cbm_volume.specs.Layouts.{Owner, Nobody, TheMap, Directory, DataOf, SideOf, Layout, OwnedBy, Sound, slot_count}
use Rattle.cbm_volume.specs.check.Claims.{is_inside, ClaimsChain}
use Rattle.cbm_volume.specs.check.SideLists.{ClaimsEach}
use Rattle.cbm_volume.proofs.checked.Claimed.{head_claimed, ClaimsAs, ClaimsSlots, IsClaimedOnce}
use Rattle.cbm_volume.specs.Plain.{blocks_in, IsDistinct, AreReadAndTaken, AreOn18, AreOff18, FilesLie, IsPlainlySound}
use Rattle.cbm_volume.specs.declared.check.unsound.Part.{Part}
use Rattle.cbm_volume.specs.declared.check.unsound.Part.TheVariants.{OfDirectory, OfFile}
use Rattle.cbm_volume.proofs.layouts.Listing.{entries_length, nth_entry}
use Rattle.cbm_volume.proofs.checked.SoundClaimed.{AllUnclaimed, still_unclaimed, none_wrong, cell_reads, chain_is_distinct, sides_distinct, taken_of, blocks_from}
use Rattle.cbm_volume.proofs.checked.ClaimedSound.{claimed_sound}

-- ---- lists joined

apart_join : (p : Place) (xs ys : List Place) → IsApart p xs → IsApart p ys → IsApart p (xs ++ ys)
apart_join p [] ys h g = g
apart_join p (x ∷ xs) ys h g = (h.0, apart_join p xs ys h.1 g)

pub apart_owned : (owner : Place → Owner) (p : Place) (o other : Owner) (xs : List Place) → owner p ≡ o → o ≢ other → OwnedBy owner other xs → IsApart p xs
apart_owned owner p o other [] is ne h = tt
apart_owned owner p o other (x ∷ xs) is ne h = ((λ e. ne (sym is ∙ ap owner e ∙ h.0)), apart_owned owner p o other xs is ne h.1)

-- lists of unlike owners, the second apart from all of the first's owner
pub distinct_join : (owner : Place → Owner) (o : Owner) (xs ys : List Place) → OwnedBy owner o xs → ((p : Place) → owner p ≡ o → IsApart p ys) → IsDistinct xs → IsDistinct ys → IsDistinct (xs ++ ys)
distinct_join owner o [] ys own apart h g = g
distinct_join owner o (x ∷ xs) ys own apart h g = (apart_join x xs ys h.0 (apart x own.0), distinct_join owner o xs ys own.1 apart h.1 g)

taken_join : (c : Content) (xs ys : List Place) → AreReadAndTaken c xs → AreReadAndTaken c ys → AreReadAndTaken c (xs ++ ys)
taken_join c [] ys h g = g
taken_join c (x ∷ xs) ys h g = (h.0, h.1, taken_join c xs ys h.2 g)

off_join : (xs ys : List Place) → AreOff18 xs → AreOff18 ys → AreOff18 (xs ++ ys)
off_join [] ys h g = g
off_join (x ∷ xs) ys h g = (h.0, off_join xs ys h.1 g)

taken_front : (c : Content) (xs ys : List Place) → AreReadAndTaken c (xs ++ ys) → AreReadAndTaken c xs
taken_front c [] ys h = tt
taken_front c (x ∷ xs) ys h = (h.0, h.1, taken_front c xs ys h.2)

taken_back : (c : Content) (xs ys : List Place) → AreReadAndTaken c (xs ++ ys) → AreReadAndTaken c ys
taken_back c [] ys h = h
taken_back c (x ∷ xs) ys h = taken_back c xs ys h.2

off_front : (xs ys : List Place) → AreOff18 (xs ++ ys) → AreOff18 xs
off_front [] ys h = tt
off_front (x ∷ xs) ys h = (h.0, off_front xs ys h.1)

off_back : (xs ys : List Place) → AreOff18 (xs ++ ys) → AreOff18 ys
off_back [] ys h = h
off_back (x ∷ xs) ys h = off_back xs ys h.1

-- ---- from owners to the list

module _ (tracks : ℕ) (c : Content) (l : Layout) (s : Sound tracks c l) where
  chain_taken : (o : Owner) (a : Place) (xs : List Place) → o ≢ Nobody → Chain tracks c a xs → OwnedBy l.owner o xs → AreReadAndTaken c xs
  chain_taken o a [] some h own = tt
  chain_taken o a (x ∷ xs) some h own = (h.2, taken_of tracks c l s x o h.1 own.0 some, chain_taken o (link (bytes_at c x)) xs some h.3 own.1)

  sides_taken : (o : Owner) (width n : ℕ) (xs : List Place) → o ≢ Nobody → Numbered tracks c width n xs → OwnedBy l.owner o xs → AreReadAndTaken c xs
  sides_taken o width n [] some h own = tt
  sides_taken o width n (x ∷ xs) some h own = (h.1, taken_of tracks c l s x o h.0 own.0 some, sides_taken o width (n + 1) xs some h.4 own.1)

  on_owned : (xs : List Place) → OwnedBy l.owner Directory xs → AreOn18 xs
  on_owned [] own = tt
  on_owned (x ∷ xs) own = (s.owned.on_18 x own.0, on_owned xs own.1)

  data_off : (n : ℕ) (xs : List Place) → OwnedBy l.owner (DataOf n) xs → AreOff18 xs
  data_off n [] own = tt
  data_off n (x ∷ xs) own = ((λ e. (s.owned.off_18 x e n).0 own.0), data_off n xs own.1)

  side_off : (n : ℕ) (xs : List Place) → OwnedBy l.owner (SideOf n) xs → AreOff18 xs
  side_off n [] own = tt
  side_off n (x ∷ xs) own = ((λ e. (s.owned.off_18 x e n).1 own.0), side_off n xs own.1)

  -- no file's from n on
  abbrev IsBefore : ℕ → Owner → Type 0
  IsBefore n o = (m : ℕ) → n ≤ m → (o ≢ DataOf m) × (o ≢ SideOf m)

  apart_files : (p : Place) (o : Owner) (n k : ℕ) → n + k ≤ slot_count l → l.owner p ≡ o → IsBefore n o → IsApart p (blocks_in (blocks_from tracks c l s n k))
  unfolding blocks_from
  apart_files p o n zero room is before = tt
  apart_files p o n (suc k) room is before =
      let lt : n < slot_count l = omega (arith, room) in
      apart_join p (l.files n).data_blocks ((l.files n).sides ++ blocks_in (blocks_from tracks c l s (n + 1) k))
      (apart_owned l.owner p o (DataOf n) (l.files n).data_blocks is (before n (omega arith)).0 (s.owned.blocks n lt))
      (apart_join p (l.files n).sides (blocks_in (blocks_from tracks c l s (n + 1) k))
      (apart_owned l.owner p o (SideOf n) (l.files n).sides is (before n (omega arith)).1 (s.owned.sides n lt))
      (apart_files p o (n + 1) k (omega (arith, room)) is (λ m h. before m (omega (arith, h)))))

  data_before : (n m : ℕ) → n + 1 ≤ m → (DataOf n ≢ DataOf m) × (DataOf n ≢ SideOf m)
  data_before n m h = ((λ e. let same : n ≡ m = cc in absurd (omega (arith, same, h))), (λ e. absurd (cc)))

  side_before : (n m : ℕ) → n + 1 ≤ m → (SideOf n ≢ DataOf m) × (SideOf n ≢ SideOf m)
  side_before n m h = ((λ e. absurd (cc)), (λ e. let same : n ≡ m = cc in absurd (omega (arith, same, h))))

  -- what is known of the files from n on
  pub record AreFiles (xs : List Place) : Type 0 where
    pub distinct : IsDistinct xs
    pub taken : AreReadAndTaken c xs
    pub off : AreOff18 xs

  data_right : (closed relative : Bool) (n : ℕ) (e : List ℕ) (b : Blocks) → LiesAs closed relative tracks c e b → OwnedBy l.owner (DataOf n) b.data_blocks → IsDistinct b.data_blocks × AreReadAndTaken c b.data_blocks
  data_right false r n e b h own = subst (λ (x : Blocks). IsDistinct x.data_blocks × AreReadAndTaken c x.data_blocks) (sym h) (tt, tt)
  data_right true false n e b h own = (chain_is_distinct tracks c (first_block e) b.data_blocks h.0, chain_taken (DataOf n) (first_block e) b.data_blocks (λ z. absurd (cc)) h.0 own)
  data_right true true n e b h own = (chain_is_distinct tracks c (first_block e) b.data_blocks h.0, chain_taken (DataOf n) (first_block e) b.data_blocks (λ z. absurd (cc)) h.0 own)

  sides_right : (closed relative : Bool) (n : ℕ) (e : List ℕ) (b : Blocks) → LiesAs closed relative tracks c e b → OwnedBy l.owner (SideOf n) b.sides → IsDistinct b.sides × AreReadAndTaken c b.sides
  sides_right false r n e b h own = subst (λ (x : Blocks). IsDistinct x.sides × AreReadAndTaken c x.sides) (sym h) (tt, tt)
  sides_right true false n e b h own = subst (λ (x : List Place). IsDistinct x × AreReadAndTaken c x) (sym h.1) (tt, tt)
  sides_right true true n e b h own = (sides_distinct tracks c (width_of e) 0 b.sides h.1.numbered, sides_taken (SideOf n) (width_of e) 0 b.sides (λ z. absurd (cc)) h.1.numbered own)

  files_right : (n k : ℕ) → n + k ≤ slot_count l → AreFiles (blocks_in (blocks_from tracks c l s n k))
  unfolding blocks_from
  files_right n zero room = record { distinct = tt; taken = tt; off = tt }
  files_right n (suc k) room =
      let lt : n < slot_count l = omega (arith, room) in
      let e = entry_at c l.directory n in
      let chained = data_right (is_closed e) (is_relative e) n e (l.files n) (s.lies n lt) (s.owned.blocks n lt) in
      let sides = sides_right (is_closed e) (is_relative e) n e (l.files n) (s.lies n lt) (s.owned.sides n lt) in
      let more = blocks_in (blocks_from tracks c l s (n + 1) k) in
      let rest = files_right (n + 1) k (omega (arith, room)) in
      let afterwards = distinct_join l.owner (SideOf n) (l.files n).sides more (s.owned.sides n lt) (λ p is. apart_files p (SideOf n) (n + 1) k (omega (arith, room)) is (λ m h. side_before n m h)) sides.0 rest.distinct in
      record {
        distinct = distinct_join l.owner (DataOf n) (l.files n).data_blocks ((l.files n).sides ++ more) (s.owned.blocks n lt)
            (λ p is. apart_join p (l.files n).sides more (apart_owned l.owner p (DataOf n) (SideOf n) (l.files n).sides is (λ z. absurd (cc)) (s.owned.sides n lt))
            (apart_files p (DataOf n) (n + 1) k (omega (arith, room)) is (λ m h. data_before n m h))) chained.0 afterwards;
        taken = taken_join c (l.files n).data_blocks ((l.files n).sides ++ more) chained.1 (taken_join c (l.files n).sides more sides.1 rest.taken);
        off = off_join (l.files n).data_blocks ((l.files n).sides ++ more) (data_off n (l.files n).data_blocks (s.owned.blocks n lt)) (off_join (l.files n).sides more (side_off n (l.files n).sides (s.owned.sides n lt)) rest.off);
      }

  same_some : {x y : List ℕ} → Some x ≡ Some y → x ≡ y
  same_some e = cc

  files_lie : (n : ℕ) (es : List (List ℕ)) → n + length es ≤ slot_count l → ((i : ℕ) → i < length es → slice_get es i ≡ Some (entry_at c l.directory (n + i)))
      → FilesLie tracks c es (blocks_from tracks c l s n (length es))
  unfolding blocks_from
  files_lie n [] room at = tt
  files_lie n (e ∷ es) room at =
      let lt : n < slot_count l = omega (arith, room) in
      let first : n + 0 ≡ n = omega arith in
      let is : e ≡ entry_at c l.directory n = same_some (at 0 (omega arith)) ∙ ap (entry_at c l.directory) first in (
        subst (λ (x : List ℕ). type_byte x % 16 < 5) (sym is) (s.kinds n lt),
        subst (λ (x : List ℕ). Lies tracks c x (l.files n)) (sym is) (s.lies n lt),
        files_lie (n + 1) es (omega (arith, room)) (λ i h. let next : n + suc i ≡ (n + 1) + i = omega arith in at (suc i) (omega (arith, h)) ∙ ap (λ k. Some (entry_at c l.directory k)) next),
      )

  map_before : (n m : ℕ) → n ≤ m → (TheMap ≢ DataOf m) × (TheMap ≢ SideOf m)
  map_before n m h = ((λ e. absurd (cc)), (λ e. absurd (cc)))

  directory_before : (n m : ℕ) → n ≤ m → (Directory ≢ DataOf m) × (Directory ≢ SideOf m)
  directory_before n m h = ((λ e. absurd (cc)), (λ e. absurd (cc)))

  pub sound_plain : 18 ≤ tracks → IsPlainlySound tracks c
  sound_plain wide =
      let count = length (all_entries c l.directory) in
      let room : 0 + count ≤ slot_count l = omega (arith, entries_length c l.directory) in
      let files = files_right 0 count room in
      let has_head : Has tracks directory_head = (omega arith, wide, omega arith) in
      let more = blocks_in (blocks_from tracks c l s 0 count) in
      record {
        writable = s.writable;
        counted = s.counted;
        directory = l.directory;
        files = blocks_from tracks c l s 0 count;
        chain = s.directory;
        lie = files_lie 0 (all_entries c l.directory) room
            (λ i h. let same : i ≡ 0 + i = omega arith in nth_entry c l.directory i (omega (arith, h, entries_length c l.directory)) ∙ ap (λ k. Some (entry_at c l.directory k)) same);
        distinct = (
          apart_join directory_head l.directory more (apart_owned l.owner directory_head TheMap Directory l.directory s.owned.map (λ z. absurd (cc)) s.owned.directory)
              (apart_files directory_head TheMap 0 count room s.owned.map (λ m h. map_before 0 m h)),
          distinct_join l.owner Directory l.directory more s.owned.directory (λ p is. apart_files p Directory 0 count room is (λ m h. directory_before 0 m h))
              (chain_is_distinct tracks c first_directory l.directory s.directory) files.distinct,
        );
        taken = (
          s.map_reads,
          taken_of tracks c l s directory_head TheMap has_head s.owned.map (λ z. absurd (cc)),
          taken_join c l.directory more (chain_taken Directory first_directory l.directory (λ z. absurd (cc)) s.directory s.owned.directory) files.taken,
        );
        on_18 = on_owned l.directory s.owned.directory;
        off_18 = files.off;
      }

-- ---- from the list to what is claimed once

abbrev Walked : Part → ℕ → Content → (Place → Bool) → Place → List Place → List Place → Type 0
Walked part tracks c claimed a xs ys = (after : Place → Bool) × ClaimsChain part tracks c claimed a xs after × AllUnclaimed after ys × IsDistinct ys

abbrev AreInside : Part → ℕ → List Place → Type 0
AreInside part tracks [] = Unit {0}
AreInside part tracks (p ∷ rest) = (is_inside part tracks p ≡ true) × AreInside part tracks rest

on_inside : (tracks : ℕ) (c : Content) (a : Place) (xs : List Place) → Chain tracks c a xs → AreOn18 xs → AreInside OfDirectory tracks xs
on_inside tracks c a [] h on = tt
on_inside tracks c a (x ∷ xs) h on = (rw (has_true tracks x h.1, eq-eqb x.track 18 on.0) refl, on_inside tracks c (link (bytes_at c x)) xs h.3 on.1)

in_file : (tracks : ℕ) (p : Place) → Has tracks p → (p.track ≡ 18 → ⊥) → is_inside OfFile tracks p ≡ true
in_file tracks p has off = elim (bool_cases (p.track == 18)) [
  | inl e ↦ absurd (off (eqb-true p.track 18 e))
  | inr e ↦ rw (has_true tracks p has, e) refl
]

off_inside : (tracks : ℕ) (c : Content) (a : Place) (xs : List Place) → Chain tracks c a xs → AreOff18 xs → AreInside OfFile tracks xs
off_inside tracks c a [] h off = tt
off_inside tracks c a (x ∷ xs) h off = (in_file tracks x h.1 off.0, off_inside tracks c (link (bytes_at c x)) xs h.3 off.1)

walk : (part : Part) (tracks : ℕ) (c : Content) (claimed : Place → Bool) (a : Place) (xs ys : List Place) → Chain tracks c a xs → AreInside part tracks xs → AreReadAndTaken c (xs ++ ys)
    → AllUnclaimed claimed (xs ++ ys) → IsDistinct (xs ++ ys) → Walked part tracks c claimed a xs ys
walk part tracks c claimed a [] ys h inside taken fresh distinct = (claimed, (h, refl), fresh, distinct)
walk part tracks c claimed a (b ∷ xs) ys h inside taken fresh distinct =
    let right = none_wrong part tracks c claimed b inside.0 fresh.0 (cell_reads (c b) h.2) taken.1 in
    let rest = walk part tracks c (with_bit claimed b true) (link (bytes_at c b)) xs ys h.3 inside.1 taken.2 (still_unclaimed claimed b (xs ++ ys) distinct.0 fresh.1) distinct.1 in
    (rest.0, (h.0, right, rest.1), rest.2, rest.3)

abbrev Listed : ℕ → Content → (Place → Bool) → List Place → List Place → Type 0
Listed tracks c claimed xs ys = (after : Place → Bool) × ClaimsEach OfFile tracks c claimed xs after × AllUnclaimed after ys × IsDistinct ys

walk_sides : (tracks : ℕ) (c : Content) (claimed : Place → Bool) (width n : ℕ) (xs ys : List Place) → Numbered tracks c width n xs → AreOff18 xs → AreReadAndTaken c (xs ++ ys)
    → AllUnclaimed claimed (xs ++ ys) → IsDistinct (xs ++ ys) → Listed tracks c claimed xs ys
walk_sides tracks c claimed width n [] ys h off taken fresh distinct = (claimed, refl, fresh, distinct)
walk_sides tracks c claimed width n (b ∷ xs) ys h off taken fresh distinct =
    let right = none_wrong OfFile tracks c claimed b (in_file tracks b h.0 off.0) fresh.0 (cell_reads (c b) h.1) taken.1 in
    let rest = walk_sides tracks c (with_bit claimed b true) width (n + 1) xs ys h.4 off.1 taken.2 (still_unclaimed claimed b (xs ++ ys) distinct.0 fresh.1) distinct.1 in
    (rest.0, (right, rest.1), rest.2, rest.3)

abbrev SlotWalked : Bool → Bool → ℕ → Content → (Place → Bool) → List ℕ → Blocks → List Place → Type 0
SlotWalked closed relative tracks c claimed e b ys = (after : Place → Bool) × ClaimsAs closed relative tracks c claimed e b after × AllUnclaimed after ys × IsDistinct ys

slot_walk : (closed relative : Bool) (tracks : ℕ) (c : Content) (claimed : Place → Bool) (e : List ℕ) (b : Blocks) (ys : List Place) → LiesAs closed relative tracks c e b
    → AreReadAndTaken c (b.data_blocks ++ (b.sides ++ ys)) → AreOff18 (b.data_blocks ++ (b.sides ++ ys)) → AllUnclaimed claimed (b.data_blocks ++ (b.sides ++ ys)) → IsDistinct (b.data_blocks ++ (b.sides ++ ys))
    → SlotWalked closed relative tracks c claimed e b ys
slot_walk false r tracks c claimed e b ys h taken off fresh distinct = (
  claimed,
  (h, refl),
  subst (λ (x : Blocks). AllUnclaimed claimed (x.data_blocks ++ (x.sides ++ ys))) h fresh,
  subst (λ (x : Blocks). IsDistinct (x.data_blocks ++ (x.sides ++ ys))) h distinct,
)
slot_walk true false tracks c claimed e b ys h taken off fresh distinct =
    let d = walk OfFile tracks c claimed (first_block e) b.data_blocks (b.sides ++ ys) h.0 (off_inside tracks c (first_block e) b.data_blocks h.0 (off_front b.data_blocks (b.sides ++ ys) off)) taken fresh distinct in
    (d.0, (d.1, h.1), subst (λ (x : List Place). AllUnclaimed d.0 (x ++ ys)) h.1 d.2, subst (λ (x : List Place). IsDistinct (x ++ ys)) h.1 d.3)
slot_walk true true tracks c claimed e b ys h taken off fresh distinct =
    let d = walk OfFile tracks c claimed (first_block e) b.data_blocks (b.sides ++ ys) h.0 (off_inside tracks c (first_block e) b.data_blocks h.0 (off_front b.data_blocks (b.sides ++ ys) off)) taken fresh distinct in
    let t = walk_sides tracks c d.0 (width_of e) 0 b.sides ys h.1.numbered (off_front b.sides ys (off_back b.data_blocks (b.sides ++ ys) off)) (taken_back c b.data_blocks (b.sides ++ ys) taken) d.2 d.3 in
    (t.0, (d.0, d.1, t.1, h.1), t.2, t.3)

slots_walk : (tracks : ℕ) (c : Content) (claimed : Place → Bool) (es : List (List ℕ)) (bs : List Blocks) → FilesLie tracks c es bs → AreReadAndTaken c (blocks_in bs) → AreOff18 (blocks_in bs)
    → AllUnclaimed claimed (blocks_in bs) → IsDistinct (blocks_in bs) → (after : Place → Bool) × ClaimsSlots tracks c claimed es bs after
slots_walk tracks c claimed [] [] h taken off fresh distinct = (claimed, refl)
slots_walk tracks c claimed [] (b ∷ bs) h taken off fresh distinct = absurd h
slots_walk tracks c claimed (e ∷ es) [] h taken off fresh distinct = absurd h
slots_walk tracks c claimed (e ∷ es) (b ∷ bs) h taken off fresh distinct =
    let one = slot_walk (is_closed e) (is_relative e) tracks c claimed e b (blocks_in bs) h.1 taken off fresh distinct in
    let rest = slots_walk tracks c one.0 es bs h.2 (taken_back c b.sides (blocks_in bs) (taken_back c b.data_blocks (b.sides ++ blocks_in bs) taken))
    (off_back b.sides (blocks_in bs) (off_back b.data_blocks (b.sides ++ blocks_in bs) off)) one.2 one.3 in
    (rest.0, (one.0, (h.0, one.1), rest.1))

-- only 18/0 is claimed at first
head_fresh : (xs : List Place) → IsApart directory_head xs → AllUnclaimed head_claimed xs
head_fresh [] h = tt
head_fresh (x ∷ xs) h = (rw (places_apart directory_head x h.0) refl, head_fresh xs h.1)

pub plain_claimed : (tracks : ℕ) (c : Content) → IsPlainlySound tracks c → IsClaimedOnce tracks c
plain_claimed tracks c k =
    let d = walk OfDirectory tracks c head_claimed first_directory k.directory (blocks_in k.files) k.chain (on_inside tracks c first_directory k.directory k.chain k.on_18) k.taken.2
    (head_fresh (k.directory ++ blocks_in k.files) k.distinct.0) k.distinct.1 in
    let slots = slots_walk tracks c d.0 (all_entries c k.directory) k.files k.lie (taken_back c k.directory (blocks_in k.files) k.taken.2) k.off_18 d.2 d.3 in
    record {
      writable = k.writable;
      map = record { reads = k.taken.0; taken = k.taken.1; counted = λ t some few. eq-eqb _ _ (k.counted t some few) };
      directory = k.directory;
      files = k.files;
      middle = d.0;
      after = slots.0;
      directory_claimed = d.1;
      files_claimed = slots.1;
    }

-- THE LIST SAYS THE SAME AS THE OWNERS
pub plain_sound : (tracks : ℕ) (c : Content) → IsPlainlySound tracks c → (l : Layout) × Sound tracks c l
plain_sound tracks c k = claimed_sound tracks c (plain_claimed tracks c k)
