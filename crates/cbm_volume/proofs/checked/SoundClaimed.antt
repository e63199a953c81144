-- On a sound disk each sector is claimed once: what is claimed has an owner that came before.
use Rattle.std.proofs.Common.{◌≡◌, ◌≢◌, ◌⊎◌, ℕ, zero, suc, ◌+◌, ◌<◌, ◌≤◌, List, [], ◌∷◌, length, Bool, true, false, Some, None, Ok, Err, refl, sym, ap, ◌∙◌, subst, arith, inl, inr}
use Rattle.std.specs.Prelude.{slice_get, slice_index, if◌then◌else◌, ◌==◌, ◌%◌, IsOk}
use Rattle.cbm_medium.specs.Place.{Place, Has, has, is_place, directory_head}
use Rattle.cbm_medium.specs.Content.{Cell, Content}
use Rattle.cbm_medium.specs.Links.{Chain, bytes_at, link, IsApart}
use Rattle.cbm_medium.proofs.Walks.{has_true, bool_cases}
use Rattle.cbm_medium.proofs.Places.{same_place, places_apart}
use Rattle.std.proofs.lemmas.Bool.{eq-eqb, eqb-true}
use Rattle.cbm_bam.specs.Map.{map_of, is_free_in, with_bit}
use Rattle.cbm_relfile.specs.SideSectors.{Numbered}
use Rattle.cbm_directory.specs.Entries.{type_byte, is_closed, is_relative, first_block, first_directory, entry_at, width_of}
use Rattle.cbm_directory.specs.Slots.{all_entries}
use Rattle.cbm_volume.specs.Blocks.{Blocks, LiesAs}
use Rattle.cbm_volume.specs.Layouts.{Owner, Nobody, TheMap, Directory, DataOf, SideOf, Layout, OwnedBy, Sound, slot_count}
use Rattle.cbm_volume.specs.check.Claims.{wrong_at, is_inside, reads, ClaimsChain}
use Rattle.cbm_volume.specs.check.SideLists.{ClaimsEach}
use Rattle.cbm_volume.specs.Plain.{IsDistinct}
use Rattle.cbm_volume.proofs.checked.Claimed.{head_claimed, ClaimsAs, ClaimsSlots, IsClaimedOnce}
use Rattle.cbm_volume.specs.declared.check.unsound.Part.{Part}
use Rattle.cbm_volume.specs.declared.check.unsound.Part.TheVariants.{OfDirectory, OfFile}
use Rattle.cbm_volume.proofs.layouts.Chained.{chain_distinct}
use Rattle.cbm_volume.proofs.layouts.Releases.{apart_by_index}
use Rattle.cbm_volume.proofs.layouts.Listing.{entries_length, nth_entry}

-- ---- lists of sectors

-- none of these is claimed
abbrev pub AllUnclaimed : (Place → Bool) → List Place → Type 0
AllUnclaimed claimed [] = Unit {0}
AllUnclaimed claimed (x ∷ xs) = (claimed x ≡ false) × AllUnclaimed claimed xs

pub still_unclaimed : (claimed : Place → Bool) (b : Place) (xs : List Place) → IsApart b xs → AllUnclaimed claimed xs → AllUnclaimed (with_bit claimed b true) xs
still_unclaimed claimed b [] apart h = tt
still_unclaimed claimed b (x ∷ xs) apart h = (rw (places_apart b x apart.0) h.0, still_unclaimed claimed b xs apart.1 h.1)

pub chain_is_distinct : (tracks : ℕ) (c : Content) (a : Place) (xs : List Place) → Chain tracks c a xs → IsDistinct xs
chain_is_distinct tracks c a [] h = tt
chain_is_distinct tracks c a (x ∷ xs) h = (
  apart_by_index x xs directory_head (λ j k e. let z = chain_distinct tracks c a (x ∷ xs) (suc j) 0 directory_head h (omega arith) (omega arith) e in omega arith),
  chain_is_distinct tracks c (link (bytes_at c x)) xs h.3,
)

apart_numbered : (tracks : ℕ) (c : Content) (width n m : ℕ) (a : Place) (xs : List Place) → slice_index (bytes_at c a) 2 ≡ n → n < m → Numbered tracks c width m xs → IsApart a xs
apart_numbered tracks c width n m a [] e lt h = tt
apart_numbered tracks c width n m a (x ∷ xs) e lt h = (
  (λ same. let z : n ≡ m = sym e ∙ ap (λ (p : Place). slice_index (bytes_at c p) 2) same ∙ h.2 in absurd (omega (arith, z, lt))),
  apart_numbered tracks c width n (m + 1) a xs e (omega (arith, lt)) h.4,
)

pub sides_distinct : (tracks : ℕ) (c : Content) (width n : ℕ) (xs : List Place) → Numbered tracks c width n xs → IsDistinct xs
sides_distinct tracks c width n [] h = tt
sides_distinct tracks c width n (x ∷ xs) h = (apart_numbered tracks c width n (n + 1) x xs h.2 (omega arith) h.4, sides_distinct tracks c width (n + 1) xs h.4)

unclaimed_by : (claimed : Place → Bool) (owner : Place → Owner) (o : Owner) (xs : List Place) → ((p : Place) → claimed p ≡ true → owner p ≡ o → ⊥) → OwnedBy owner o xs → AllUnclaimed claimed xs
unclaimed_by claimed owner o [] none h = tt
unclaimed_by claimed owner o (x ∷ xs) none h = (
  (elim (bool_cases (claimed x)) [ inl e ↦ absurd (none x e h.0) | inr e ↦ e ]),
  unclaimed_by claimed owner o xs none h.1,
)

pub none_wrong : (part : Part) (tracks : ℕ) (c : Content) (claimed : Place → Bool) (p : Place) → is_inside part tracks p ≡ true → claimed p ≡ false → reads (c p) ≡ true → is_free_in (map_of c) p ≡ false
    → wrong_at part tracks c claimed p ≡ None
none_wrong part tracks c claimed p i j k l = rw (i, j, k, l) refl

pub cell_reads : (cell : Cell) → IsOk cell → reads cell ≡ true
cell_reads (Ok bytes) h = refl
cell_reads (Err code) h = absurd (cc)

-- what a bit more says of a sector
marked_cases : (claimed : Place → Bool) (b p : Place) → with_bit claimed b true p ≡ true → (b ≡ p) ⊎ (claimed p ≡ true)
marked_cases claimed b p h = by_test (is_place b p) refl h
  where
    by_test : (x : Bool) → is_place b p ≡ x → (if x then true else claimed p) ≡ true → (b ≡ p) ⊎ (claimed p ≡ true)
    by_test true e g = inl (same_place b p e)
    by_test false e g = inr g

module _ (tracks : ℕ) (c : Content) (l : Layout) (s : Sound tracks c l) where
  pub taken_of : (p : Place) (o : Owner) → Has tracks p → l.owner p ≡ o → o ≢ Nobody → is_free_in (map_of c) p ≡ false
  taken_of p o has is some = elim (bool_cases (is_free_in (map_of c) p)) [
    | inl e ↦ absurd (some (sym is ∙ s.free p has e))
    | inr e ↦ e
  ]

  -- these sectors were claimed, beside those before
  pub record After (claimed : Place → Bool) (o : Owner) (after : Place → Bool) : Type 0 where
    pub known : (p : Place) → after p ≡ true → (claimed p ≡ true) ⊎ (l.owner p ≡ o)

  known_more : (claimed : Place → Bool) (b : Place) (o : Owner) (after : Place → Bool) → l.owner b ≡ o → After (with_bit claimed b true) o after → After claimed o after
  known_more claimed b o after is h = record {
    known = λ p e. elim (h.known p e) [
      | inl m ↦ elim (marked_cases claimed b p m) [ inl same ↦ inr (ap l.owner (sym same) ∙ is) | inr old ↦ inl old ]
      | inr own ↦ inr own
    ];
  }

  chain_claims : (part : Part) (o : Owner) (claimed : Place → Bool) (a : Place) (xs : List Place) → o ≢ Nobody → ((p : Place) → Has tracks p → l.owner p ≡ o → is_inside part tracks p ≡ true)
      → Chain tracks c a xs → OwnedBy l.owner o xs → IsDistinct xs → AllUnclaimed claimed xs → (after : Place → Bool) × ClaimsChain part tracks c claimed a xs after × After claimed o after
  chain_claims part o claimed a [] some fit h own distinct fresh = (claimed, (h, refl), record { known = λ p e. inl e })
  chain_claims part o claimed a (b ∷ xs) some fit h own distinct fresh =
      let right = none_wrong part tracks c claimed b (fit b h.1 own.0) fresh.0 (cell_reads (c b) h.2) (taken_of b o h.1 own.0 some) in
      let rest = chain_claims part o (with_bit claimed b true) (link (bytes_at c b)) xs some fit h.3 own.1 distinct.1 (still_unclaimed claimed b xs distinct.0 fresh.1) in
      (rest.0, (h.0, right, rest.1), known_more claimed b o rest.0 own.0 rest.2)

  sides_claims : (o : Owner) (claimed : Place → Bool) (width n : ℕ) (xs : List Place) → o ≢ Nobody → ((p : Place) → Has tracks p → l.owner p ≡ o → is_inside OfFile tracks p ≡ true)
      → Numbered tracks c width n xs → OwnedBy l.owner o xs → IsDistinct xs → AllUnclaimed claimed xs → (after : Place → Bool) × ClaimsEach OfFile tracks c claimed xs after × After claimed o after
  sides_claims o claimed width n [] some fit h own distinct fresh = (claimed, refl, record { known = λ p e. inl e })
  sides_claims o claimed width n (b ∷ xs) some fit h own distinct fresh =
      let right = none_wrong OfFile tracks c claimed b (fit b h.0 own.0) fresh.0 (cell_reads (c b) h.1) (taken_of b o h.0 own.0 some) in
      let rest = sides_claims o (with_bit claimed b true) width (n + 1) xs some fit h.4 own.1 distinct.1 (still_unclaimed claimed b xs distinct.0 fresh.1) in
      (rest.0, (right, rest.1), known_more claimed b o rest.0 own.0 rest.2)

  in_directory : (p : Place) → Has tracks p → l.owner p ≡ Directory → is_inside OfDirectory tracks p ≡ true
  in_directory p has is = rw (has_true tracks p has, eq-eqb p.track 18 (s.owned.on_18 p is)) refl

  in_file : (p : Place) → Has tracks p → (p.track ≡ 18 → ⊥) → is_inside OfFile tracks p ≡ true
  in_file p has off = elim (bool_cases (p.track == 18)) [
    | inl e ↦ absurd (off (eqb-true p.track 18 e))
    | inr e ↦ rw (has_true tracks p has, e) refl
  ]

  in_data : (n : ℕ) (p : Place) → Has tracks p → l.owner p ≡ DataOf n → is_inside OfFile tracks p ≡ true
  in_data n p has is = in_file p has (λ e. (s.owned.off_18 p e n).0 is)

  in_sides : (n : ℕ) (p : Place) → Has tracks p → l.owner p ≡ SideOf n → is_inside OfFile tracks p ≡ true
  in_sides n p has is = in_file p has (λ e. (s.owned.off_18 p e n).1 is)

  -- ---- what was claimed before slot n

  abbrev Past : ℕ → Owner → Type 0
  Past n o = (o ≡ TheMap) ⊎ ((o ≡ Directory) ⊎ ((m : ℕ) × (m < n) × ((o ≡ DataOf m) ⊎ (o ≡ SideOf m))))

  abbrev ArePast : ℕ → (Place → Bool) → Type 0
  ArePast n claimed = (p : Place) → claimed p ≡ true → Past n (l.owner p)

  past_data : (n : ℕ) (o : Owner) → Past n o → o ≡ DataOf n → ⊥
  past_data n o (inl e) h = (let z = sym e ∙ h in absurd (cc))
  past_data n o (inr (inl e)) h = (let z = sym e ∙ h in absurd (cc))
  past_data n o (inr (inr (m, lt, inl e))) h = (let z : DataOf m ≡ DataOf n = sym e ∙ h in let same : m ≡ n = cc in absurd (omega (arith, same, lt)))
  past_data n o (inr (inr (m, lt, inr e))) h = (let z = sym e ∙ h in absurd (cc))

  past_side : (n : ℕ) (o : Owner) → Past n o → o ≡ SideOf n → ⊥
  past_side n o (inl e) h = (let z = sym e ∙ h in absurd (cc))
  past_side n o (inr (inl e)) h = (let z = sym e ∙ h in absurd (cc))
  past_side n o (inr (inr (m, lt, inl e))) h = (let z = sym e ∙ h in absurd (cc))
  past_side n o (inr (inr (m, lt, inr e))) h = (let z : SideOf m ≡ SideOf n = sym e ∙ h in let same : m ≡ n = cc in absurd (omega (arith, same, lt)))

  past_more : (n : ℕ) (o : Owner) → Past n o → Past (n + 1) o
  past_more n o (inl e) = inl e
  past_more n o (inr (inl e)) = inr (inl e)
  past_more n o (inr (inr (m, lt, e))) = inr (inr (m, omega (arith, lt), e))

  after_data : (n : ℕ) (claimed after : Place → Bool) → ArePast n claimed → After claimed (DataOf n) after → ArePast (n + 1) after
  after_data n claimed after past h p e = elim (h.known p e) [
    | inl old ↦ past_more n (l.owner p) (past p old)
    | inr own ↦ inr (inr (n, omega arith, inl own))
  ]

  after_sides : (n : ℕ) (claimed after : Place → Bool) → ArePast (n + 1) claimed → After claimed (SideOf n) after → ArePast (n + 1) after
  after_sides n claimed after past h p e = elim (h.known p e) [
    | inl old ↦ past p old
    | inr own ↦ inr (inr (n, omega arith, inr own))
  ]

  side_no_data : (n : ℕ) → SideOf n ≡ DataOf n → ⊥
  side_no_data n h = absurd (cc)

  slot_claims : (closed relative : Bool) (n : ℕ) (claimed : Place → Bool) (e : List ℕ) (b : Blocks) → ArePast n claimed → OwnedBy l.owner (DataOf n) b.data_blocks → OwnedBy l.owner (SideOf n) b.sides
      → LiesAs closed relative tracks c e b → (after : Place → Bool) × ClaimsAs closed relative tracks c claimed e b after × ArePast (n + 1) after
  slot_claims false r n claimed e b past own sides h = (claimed, (h, refl), λ p m. past_more n (l.owner p) (past p m))
  slot_claims true false n claimed e b past own sides h =
      let d = chain_claims OfFile (DataOf n) claimed (first_block e) b.data_blocks (λ z. absurd (cc)) (in_data n) h.0 own (chain_is_distinct tracks c (first_block e) b.data_blocks h.0)
      (unclaimed_by claimed l.owner (DataOf n) b.data_blocks (λ p m is. past_data n (l.owner p) (past p m) is) own) in
      (d.0, (d.1, h.1), after_data n claimed d.0 past d.2)
  slot_claims true true n claimed e b past own sides h =
      let d = chain_claims OfFile (DataOf n) claimed (first_block e) b.data_blocks (λ z. absurd (cc)) (in_data n) h.0 own (chain_is_distinct tracks c (first_block e) b.data_blocks h.0)
      (unclaimed_by claimed l.owner (DataOf n) b.data_blocks (λ p m is. past_data n (l.owner p) (past p m) is) own) in
      let fresh = unclaimed_by d.0 l.owner (SideOf n) b.sides (λ p m is. elim (d.2.known p m) [
        | inl old ↦ past_side n (l.owner p) (past p old) is
        | inr was ↦ side_no_data n (sym is ∙ was)
      ]) sides in
      let t = sides_claims (SideOf n) d.0 (width_of e) 0 b.sides (λ z. absurd (cc)) (in_sides n) h.1.numbered sides (sides_distinct tracks c (width_of e) 0 b.sides h.1.numbered) fresh in
      (t.0, (d.0, d.1, t.1, h.1), after_sides n d.0 t.0 (after_data n claimed d.0 past d.2) t.2)

  -- the blocks of so many slots from n on
  unfoldable pub blocks_from : ℕ → ℕ → List Blocks
  blocks_from n zero = []
  blocks_from n (suc k) = l.files n ∷ blocks_from (n + 1) k

  same_some : {x y : List ℕ} → Some x ≡ Some y → x ≡ y
  same_some e = cc

  slots_claims : (n : ℕ) (es : List (List ℕ)) (claimed : Place → Bool) → ArePast n claimed → n + length es ≤ slot_count l
      → ((i : ℕ) → i < length es → slice_get es i ≡ Some (entry_at c l.directory (n + i))) → (after : Place → Bool) × ClaimsSlots tracks c claimed es (blocks_from n (length es)) after
  unfolding blocks_from
  slots_claims n [] claimed past room at = (claimed, refl)
  slots_claims n (e ∷ es) claimed past room at =
      let lt : n < slot_count l = omega (arith, room) in
      let first : n + 0 ≡ n = omega arith in
      let is : e ≡ entry_at c l.directory n = same_some (at 0 (omega arith)) ∙ ap (entry_at c l.directory) first in
      let kind = subst (λ (x : List ℕ). type_byte x % 16 < 5) (sym is) (s.kinds n lt) in
      let lies = subst (λ (x : List ℕ). LiesAs (is_closed x) (is_relative x) tracks c x (l.files n)) (sym is) (s.lies n lt) in
      let one = slot_claims (is_closed e) (is_relative e) n claimed e (l.files n) past (s.owned.blocks n lt) (s.owned.sides n lt) lies in
      let rest = slots_claims (n + 1) es one.0 one.2 (omega (arith, room)) (λ i h. let next : n + suc i ≡ (n + 1) + i = omega arith in at (suc i) (omega (arith, h)) ∙ ap (λ k. Some (entry_at c l.directory k)) next) in
      (rest.0, (one.0, (kind, one.1), rest.1))

  head_owned : (p : Place) → head_claimed p ≡ true → l.owner p ≡ TheMap
  head_owned p h = elim (marked_cases (λ _. false) directory_head p h) [
    | inl same ↦ ap l.owner (sym same) ∙ s.owned.map
    | inr none ↦ absurd (cc)
  ]

  -- ON A SOUND DISK EACH SECTOR IS CLAIMED ONCE
  pub sound_claimed : 18 ≤ tracks → IsClaimedOnce tracks c
  sound_claimed wide =
      let has_head : Has tracks directory_head = (omega arith, wide, omega arith) in
      let d = chain_claims OfDirectory Directory head_claimed first_directory l.directory (λ z. absurd (cc)) in_directory s.directory s.owned.directory (chain_is_distinct tracks c first_directory l.directory s.directory)
      (unclaimed_by head_claimed l.owner Directory l.directory (λ p m is. let z = sym (head_owned p m) ∙ is in absurd (cc)) s.owned.directory) in
      let past : ArePast 0 d.0 = λ p m. elim (d.2.known p m) [ inl old ↦ inl (head_owned p old) | inr own ↦ inr (inl own) ] in
      let slots = slots_claims 0 (all_entries c l.directory) d.0 past (omega (arith, entries_length c l.directory))
      (λ i h. let same : i ≡ 0 + i = omega arith in nth_entry c l.directory i (omega (arith, h, entries_length c l.directory)) ∙ ap (λ k. Some (entry_at c l.directory k)) same) in
      record {
        writable = s.writable;
        map = record {
          reads = s.map_reads;
          taken = taken_of directory_head TheMap has_head s.owned.map (λ z. absurd (cc));
          counted = λ t some few. eq-eqb _ _ (s.counted t some few);
        };
        directory = l.directory;
        files = blocks_from 0 (length (all_entries c l.directory));
        middle = d.0;
        after = slots.0;
        directory_claimed = d.1;
        files_claimed = slots.1;
      }
