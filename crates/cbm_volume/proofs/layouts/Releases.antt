-- Clearing an entry, and giving a chain's blocks back in one write of the map.
use Rattle.std.proofs.Common.{◌≡◌, ◌≢◌, ◌⊎◌, ℕ, suc, ◌+◌, ◌%◌, ◌<◌, ◌≤◌, List, [], ◌∷◌, length, get_or, Bool, true, false, refl, sym, ap, subst, ◌∙◌, arith, inl, inr, Option, Some, None}
use Rattle.std.specs.Prelude.{if◌then◌else◌}
use Rattle.std.proofs.lemmas.Bool.{cases_eq, eq-eqb}
use Rattle.cbm_medium.specs.Place.{Place, directory_head, Has, sector_count}
use Rattle.cbm_medium.specs.Content.{Content}
use Rattle.cbm_medium.specs.Links.{bytes_at, link, follow, Chain, IsApart}
use Rattle.cbm_medium.specs.Seen.{Seen}
use Rattle.cbm_file.specs.Files.{Disk, File, with_slot}
use Rattle.cbm_bam.specs.Map.{Frees, is_free_in, free_in, tally, IsMapped, with_bit, with_freed, map_of, Remaps}
use Rattle.cbm_directory.specs.Entries.{type_byte, bit_of, is_relative, first_block, sector_of, Enters}
use Rattle.cbm_volume.specs.SeenDisks.{seen_tracks}
use Rattle.cbm_volume.specs.Led.{FreesChain}
use Rattle.cbm_volume.specs.Blocks.{Blocks, no_blocks, Lies, LiesAs, file_of}
use Rattle.cbm_volume.specs.Layouts.{Owner, Nobody, TheMap, Directory, DataOf, SideOf, OwnedBy, Layout, IsOwned, slot_count, Sound, Describes, HasLayout, own}
use Rattle.cbm_medium.proofs.Places.{place_decide}
use Rattle.cbm_volume.proofs.layouts.Frames.{owned_same}
use Rattle.cbm_volume.proofs.layouts.Chained.{chain_distinct}
use Rattle.cbm_bam.proofs.Counts.{bit_there, bit_elsewhere, tally_same, AreTaken, free_released}
use Rattle.cbm_volume.proofs.layouts.Remaps.{with_map, with_owner, with_counts, sound_remap, describes_remap}
use Rattle.cbm_volume.proofs.layouts.OneSlot.{with_file}
use Rattle.cbm_volume.proofs.layouts.Steps.{stands_entry, extends_itself, own_there, own_elsewhere}

-- ---- an entry is cleared: its type byte is 0

pub stands_clear : (tracks : ℕ) (c c' : Content) (l : Layout) (d : Disk) (n : ℕ) (p : Place) (body : List ℕ) → HasLayout tracks c l d → n < slot_count l → p ≡ sector_of l.directory n
    → Enters c c' p (n % 8) body → type_byte body ≡ 0 → HasLayout tracks c' (with_file l n no_blocks l.owner) (with_slot d n None)
stands_clear tracks c c' l d n p body st k at e z =
    let entry : List ℕ = body in
    let lies : Lies tracks c entry no_blocks = subst (λ (x : Bool). LiesAs x (is_relative entry) tracks c entry no_blocks) (sym (ap (λ (x : ℕ). bit_of x 7) z)) refl in
    subst (λ (x : Option File). HasLayout tracks c' (with_file l n no_blocks l.owner) (with_slot d n x))
    (ap (λ (x : Bool). if x then None else Some (file_of [] entry no_blocks)) (eq-eqb (type_byte entry) 0 z))
    (stands_entry tracks c c' l d n p body no_blocks l.owner st k at e (subst (λ (x : ℕ). x % 16 < 5) (sym z) (omega arith)) lies (extends_itself l n st.sound.owned) tt tt st.sound.free)

-- ---- lists of sectors

pub apart_by_index : (p : Place) (xs : List Place) (d : Place) → ((j : ℕ) → j < length xs → get_or xs j d ≢ p) → IsApart p xs
apart_by_index p [] d h = tt
apart_by_index p (x ∷ xs) d h = (λ e. h 0 (omega arith) (sym e), apart_by_index p xs d (λ j k. h (suc j) (omega arith)))

pub freed_other : (f : Place → Bool) (p : Place) (xs : List Place) → IsApart p xs → with_freed f xs p ≡ f p
freed_other f p [] h = refl
freed_other f p (x ∷ xs) h = bit_elsewhere (with_freed f xs) x p true (λ e. h.0 (sym e)) ∙ freed_other f p xs h.1

-- the owners when these sectors are nobody's
abbrev pub disowned : (Place → Owner) → List Place → Place → Owner
disowned owner [] = owner
disowned owner (x ∷ xs) = own (disowned owner xs) x Nobody

pub disowned_keeps : (owner : Place → Owner) (o from : Owner) (xs : List Place) (q : Place) → from ≢ o → OwnedBy owner from xs → owner q ≡ o → disowned owner xs q ≡ o
disowned_keeps owner o from [] q ne w e = e
disowned_keeps owner o from (x ∷ xs) q ne w e = own_elsewhere (disowned owner xs) x q Nobody (λ z. ne (sym w.0 ∙ ap owner z ∙ e)) ∙ disowned_keeps owner o from xs q ne w.1 e

-- who owns a sector then owned it before, or it is nobody's
pub disowned_was : (owner : Place → Owner) (xs : List Place) (q : Place) → (disowned owner xs q ≡ Nobody) ⊎ (disowned owner xs q ≡ owner q)
disowned_was owner [] q = inr refl
disowned_was owner (x ∷ xs) q = elim (place_decide x q) [
  | inl e ↦ inl (ap (disowned owner (x ∷ xs)) (sym e) ∙ own_there (disowned owner xs) x Nobody)
  | inr ne ↦ (elim (disowned_was owner xs q) [ inl a ↦ inl (own_elsewhere (disowned owner xs) x q Nobody ne ∙ a) | inr b ↦ inr (own_elsewhere (disowned owner xs) x q Nobody ne ∙ b) ])
]

pub freed_nobody : (f : Place → Bool) (owner : Place → Owner) (xs : List Place) (q : Place) → (f q ≡ true → owner q ≡ Nobody) → with_freed f xs q ≡ true → disowned owner xs q ≡ Nobody
freed_nobody f owner [] q h e = h e
freed_nobody f owner (x ∷ xs) q h e = elim (place_decide x q) [
  | inl z ↦ ap (disowned owner (x ∷ xs)) (sym z) ∙ own_there (disowned owner xs) x Nobody
  | inr ne ↦ own_elsewhere (disowned owner xs) x q Nobody ne ∙ freed_nobody f owner xs q h (sym (bit_elsewhere (with_freed f xs) x q true ne) ∙ e)
]

-- what is owned is not free
pub owned_taken : (tracks : ℕ) (c : Content) (l : Layout) (p : Place) → Sound tracks c l → Has tracks p → l.owner p ≢ Nobody → is_free_in (map_of c) p ≡ false
owned_taken tracks c l p s h ne = go (is_free_in (map_of c) p) refl
  where
    go : (b : Bool) → is_free_in (map_of c) p ≡ b → is_free_in (map_of c) p ≡ false
    go true e = absurd (ne (s.free p h e))
    go false e = e

-- the blocks of a chain are taken, and distinct
pub chain_taken : (tracks : ℕ) (c c0 : Content) (l : Layout) (o : Owner) → Sound tracks c l → o ≢ Nobody → ((p : Place) → l.owner p ≡ o → p.track ≢ 18) → (a : Place) (xs : List Place) → Chain tracks c0 a xs → OwnedBy l.owner o xs
    → AreTaken tracks (is_free_in (map_of c)) xs
chain_taken tracks c c0 l o s ne off a [] h w = tt
chain_taken tracks c c0 l o s ne off a (x ∷ xs) h w =
    let apart : IsApart x xs = apart_by_index x xs directory_head (λ j k e. let z = chain_distinct tracks c0 a (x ∷ xs) (suc j) 0 directory_head h (omega arith) (omega arith) e in omega arith) in (
      h.1,
      off x w.0,
      freed_other (is_free_in (map_of c)) x xs apart ∙ owned_taken tracks c l x s h.1 (λ e. ne (sym w.0 ∙ e)),
      chain_taken tracks c c0 l o s ne off (link (bytes_at c0 x)) xs h.3 w.1,
    )

-- (d) THE BLOCKS OF A FILE THAT WAS CLEARED ARE FREE AGAIN
pub stands_release : (tracks : ℕ) (c c' : Content) (l : Layout) (d : Disk) (n : ℕ) (xs : List Place) → HasLayout tracks c l d → 18 ≤ tracks → l.files n ≡ no_blocks → OwnedBy l.owner (DataOf n) xs → AreTaken tracks (is_free_in (map_of c)) xs
    → Remaps tracks c c' (with_freed (is_free_in (map_of c)) xs) → HasLayout tracks c' (with_owner l (disowned l.owner xs)) (record d { free = d.free + length xs })
stands_release tracks c c' l d n xs st few none own_xs t r =
    let owner : Place → Owner = disowned l.owner xs in
    let free : Place → Bool = with_freed (is_free_in (map_of c)) xs in
    let w : IsOwned (with_owner l owner) = record {
      map = disowned_keeps l.owner TheMap (DataOf n) xs directory_head (λ z. (cc)) own_xs st.sound.owned.map;
      directory = owned_same l.owner owner Directory l.directory (λ p. disowned_keeps l.owner Directory (DataOf n) xs p (λ z. (cc)) own_xs) st.sound.owned.directory;
      blocks = λ m k. elim (cases_eq m n) [
        | inl e ↦ subst (λ (b : Blocks). OwnedBy owner (DataOf m) b.data_blocks) (sym (ap l.files e ∙ none)) tt
        | inr ne ↦ owned_same l.owner owner (DataOf m) (l.files m).data_blocks (λ p. disowned_keeps l.owner (DataOf m) (DataOf n) xs p (λ z. let y : n ≡ m = cc in ne (sym y)) own_xs) (st.sound.owned.blocks m k)
      ];
      sides = λ m k. owned_same l.owner owner (SideOf m) (l.files m).sides (λ p. disowned_keeps l.owner (SideOf m) (DataOf n) xs p (λ z. (cc)) own_xs) (st.sound.owned.sides m k);
      on_18 = λ p e. elim (disowned_was l.owner xs p) [ inl a ↦ absurd (let z = sym a ∙ e in (cc)) | inr b ↦ st.sound.owned.on_18 p (sym b ∙ e) ];
      off_18 = λ p t18 m. elim (disowned_was l.owner xs p) [
        | inl a ↦ (λ e. (let z = sym a ∙ e in (cc)), λ e. (let z = sym a ∙ e in (cc)))
        | inr b ↦ (λ e. (st.sound.owned.off_18 p t18 m).0 (sym b ∙ e), λ e. (st.sound.owned.off_18 p t18 m).1 (sym b ∙ e))
      ];
    } in
    let room : tally (is_free_in r.map) 18 19 ≡ tally (is_free_in (map_of c)) 18 19 =
    tally_same (is_free_in r.map) (is_free_in (map_of c)) 18 19 (λ i j. r.mapped.bits (record { track = 18; sector = i }) (omega arith, few, j) ∙ freed_other (is_free_in (map_of c)) (record { track = 18; sector = i }) xs (off_apart (record { track = 18; sector = i }) refl xs t)) in
    let more : free_in tracks r.map ≡ free_in tracks (map_of c) + length xs = free_released tracks (map_of c) r.map xs st.sound.counted r.mapped t in
    let d' : with_counts tracks d r.map ≡ record d { free = d.free + length xs } = λ i. record d { room = (room ∙ sym st.describes.room) i; free = (more ∙ ap (λ (x : ℕ). x + length xs) (sym st.describes.free)) i } in
    record {
      sound = subst (λ (x : Content). Sound tracks x (with_owner l owner)) (sym r.written) (sound_remap tracks c l r.map free owner st.sound r.mapped w (λ q h e. freed_nobody (is_free_in (map_of c)) l.owner xs q (st.sound.free q h) e));
      describes = subst (λ (x : Content). Describes tracks x (with_owner l owner) (record d { free = d.free + length xs })) (sym r.written)
          (subst (λ (x : Disk). Describes tracks (with_map c r.map) (with_owner l owner) x) d' (describes_remap tracks c l d r.map free owner st.sound st.describes r.mapped));
    }
  where
    off_apart : (p : Place) → p.track ≡ 18 → (ys : List Place) → AreTaken tracks (is_free_in (map_of c)) ys → IsApart p ys
    off_apart p e [] h = tt
    off_apart p e (y ∷ ys) h = (λ z. h.1 (ap (λ (x : Place). x.track) (sym z) ∙ e), off_apart p e ys h.3)

-- ---- a map in which one block after another was given back

mapped_itself : (tracks : ℕ) (map : List ℕ) → IsMapped tracks map map (is_free_in map)
mapped_itself tracks map = record { length = refl; bits = λ p h. refl; counted = λ c. c; spare = λ p h. refl; outside = λ i o. refl }

mapped_then : (tracks : ℕ) (a b c : List ℕ) (f g : Place → Bool) → IsMapped tracks a b f → IsMapped tracks b c g → IsMapped tracks a c g
mapped_then tracks a b c f g m k = record { length = k.length ∙ m.length; bits = k.bits; counted = λ x. k.counted (m.counted x); spare = λ p h. k.spare p h ∙ m.spare p h; outside = λ i o. k.outside i o ∙ m.outside i o }

mapped_as : (tracks : ℕ) (a b : List ℕ) (f g : Place → Bool) → ((p : Place) → Has tracks p → f p ≡ g p) → IsMapped tracks a b f → IsMapped tracks a b g
mapped_as tracks a b f g e m = record { length = m.length; bits = λ p h. m.bits p h ∙ e p h; counted = m.counted; spare = m.spare; outside = m.outside }

freed_as : (f g : Place → Bool) (xs : List Place) (q : Place) → f q ≡ g q → with_freed f xs q ≡ with_freed g xs q
freed_as f g [] q e = e
freed_as f g (x ∷ xs) q e = elim (place_decide x q) [
  | inl z ↦ subst (λ (y : Place). with_freed f (x ∷ xs) y ≡ with_freed g (x ∷ xs) y) z (bit_there (with_freed f xs) x true ∙ sym (bit_there (with_freed g xs) x true))
  | inr ne ↦ bit_elsewhere (with_freed f xs) x q true ne ∙ freed_as f g xs q e ∙ sym (bit_elsewhere (with_freed g xs) x q true ne)
]

-- the order does not matter
freed_first : (f : Place → Bool) (b : Place) (xs : List Place) (q : Place) → with_freed (with_bit f b true) xs q ≡ with_bit (with_freed f xs) b true q
freed_first f b [] q = refl
freed_first f b (x ∷ xs) q = elim (place_decide x q) [
  | inl z ↦ subst (λ (y : Place). with_freed (with_bit f b true) (x ∷ xs) y ≡ with_bit (with_freed f (x ∷ xs)) b true y) z (bit_there (with_freed (with_bit f b true) xs) x true ∙ sym (both (place_decide b x)))
  | inr ne ↦ bit_elsewhere (with_freed (with_bit f b true) xs) x q true ne ∙ freed_first f b xs q ∙ (elim (place_decide b q) [
    | inl z ↦ subst (λ (y : Place). with_bit (with_freed f xs) b true y ≡ with_bit (with_freed f (x ∷ xs)) b true y) z (bit_there (with_freed f xs) b true ∙ sym (bit_there (with_freed f (x ∷ xs)) b true))
    | inr far ↦ bit_elsewhere (with_freed f xs) b q true far ∙ sym (bit_elsewhere (with_freed f xs) x q true ne) ∙ sym (bit_elsewhere (with_freed f (x ∷ xs)) b q true far)
  ])
]
  where
    both : (b ≡ x) ⊎ (b ≢ x) → with_bit (with_freed f (x ∷ xs)) b true x ≡ true
    both (inl e) = ap (with_bit (with_freed f (x ∷ xs)) b true) (sym e) ∙ bit_there (with_freed f (x ∷ xs)) b true
    both (inr ne) = bit_elsewhere (with_freed f (x ∷ xs)) b x true ne ∙ bit_there (with_freed f xs) x true

pub frees_mapped : (tracks : ℕ) (map new : List ℕ) (xs : List Place) → Frees tracks map xs new → IsMapped tracks map new (with_freed (is_free_in map) xs)
frees_mapped tracks map new [] h = subst (λ (x : List ℕ). IsMapped tracks map x (is_free_in map)) (sym h) (mapped_itself tracks map)
frees_mapped tracks map new (b ∷ rest) h =
    let again : IsMapped tracks h.0 new (with_freed (is_free_in h.0) rest) = frees_mapped tracks h.0 new rest h.2 in
    mapped_as tracks map new (with_freed (is_free_in h.0) rest) (with_freed (is_free_in map) (b ∷ rest))
    (λ p k. freed_as (is_free_in h.0) (with_bit (is_free_in map) b true) rest p (h.1.mapped.bits p k) ∙ freed_first (is_free_in map) b rest p)
    (mapped_then tracks map h.0 new (with_bit (is_free_in map) b true) (with_freed (is_free_in h.0) rest) h.1.mapped again)

-- ---- the chain of an entry

-- a chain comes to its end, and its blocks were given back
abbrev pub FreesFrom : ℕ → Content → Place → List ℕ → List ℕ → Type 0
FreesFrom k c p map freed = ((follow k c (sector_count k) p).trouble ≡ None) × Frees k map (follow k c (sector_count k) p).blocks freed

-- it is the chain that the entry had
pub chain_given : (inside old : Seen) (k : ℕ) (p : Place) (entry map freed : List ℕ) → inside ≡ old → k ≡ seen_tracks old → p ≡ first_block entry → FreesFrom k inside.content p map freed → FreesChain (seen_tracks old) old.content entry map freed
chain_given inside old k p entry map freed same size at h =
    let here : FreesFrom (seen_tracks old) old.content (first_block entry) map freed = subst (λ (q : Place). FreesFrom (seen_tracks old) old.content q map freed) at
    (subst (λ (s : Seen). FreesFrom (seen_tracks old) s.content p map freed) same (subst (λ (m : ℕ). FreesFrom m inside.content p map freed) size h)) in
    record { whole = here.0; given = here.1 }
