-- A file is scratched: its entry is cleared, then its blocks and its side sectors are given back in one write.
use Rattle.std.proofs.Common.{◌≡◌, ◌≢◌, ℕ, ◌+◌, ◌%◌, ◌<◌, List, [], ◌∷◌, ◌++◌, Bool, true, false, refl, sym, ap, subst, ◌∙◌, arith, inl, inr, Option, Some, None}
use Rattle.std.specs.Prelude.{if◌then◌else◌}
use Rattle.std.proofs.lemmas.Bool.{eq-eqb}
use Rattle.cbm_medium.specs.Place.{Place}
use Rattle.cbm_medium.specs.Content.{Content}
use Rattle.cbm_medium.specs.Links.{bytes_at, link, Chain}
use Rattle.cbm_file.specs.Files.{Disk, File, with_slot}
use Rattle.cbm_bam.specs.Map.{is_free_in, map_of}
use Rattle.cbm_bam.proofs.Counts.{AreTaken}
use Rattle.cbm_relfile.specs.SideSectors.{AllHave, Numbered}
use Rattle.cbm_directory.specs.Entries.{type_byte, bit_of, is_relative, width_of, first_block, sector_of, Enters}
use Rattle.cbm_volume.specs.Blocks.{Blocks, no_blocks, Lies, LiesAs, file_of}
use Rattle.cbm_volume.specs.Layouts.{Owner, Nobody, DataOf, SideOf, OwnedBy, Layout, slot_count, Sound, HasLayout, Extends}
use Rattle.cbm_volume.specs.Plain.{IsDistinct}
use Rattle.cbm_volume.proofs.written.Finishes.{own_all, own_all_was, own_all_keeps, own_all_there, AllOff, all_off_18}
use Rattle.cbm_volume.proofs.layouts.Frames.{owned_same}
use Rattle.cbm_volume.proofs.layouts.OneSlot.{with_file}
use Rattle.cbm_volume.proofs.checked.PlainSound.{distinct_join, apart_owned}
use Rattle.cbm_volume.proofs.layouts.Releases.{freed_other, owned_taken}
use Rattle.cbm_volume.proofs.checked.SoundClaimed.{chain_is_distinct, sides_distinct}
use Rattle.cbm_volume.proofs.layouts.Steps.{stands_entry}

chain_have : (tracks : ℕ) (c : Content) (a : Place) (xs : List Place) → Chain tracks c a xs → AllHave tracks xs
chain_have tracks c a [] h = tt
chain_have tracks c a (x ∷ xs) h = (h.1, chain_have tracks c (link (bytes_at c x)) xs h.3)

sides_have : (tracks : ℕ) (c : Content) (width n : ℕ) (xs : List Place) → Numbered tracks c width n xs → AllHave tracks xs
sides_have tracks c width n [] h = tt
sides_have tracks c width n (x ∷ xs) h = (h.0, sides_have tracks c width (n + 1) xs h.4)

have_join : (tracks : ℕ) (xs ys : List Place) → AllHave tracks xs → AllHave tracks ys → AllHave tracks (xs ++ ys)
have_join tracks [] ys h k = k
have_join tracks (x ∷ xs) ys h k = (h.0, have_join tracks xs ys h.1 k)

owned_join : (owner : Place → Owner) (o : Owner) (xs ys : List Place) → OwnedBy owner o xs → OwnedBy owner o ys → OwnedBy owner o (xs ++ ys)
owned_join owner o [] ys h k = k
owned_join owner o (x ∷ xs) ys h k = (h.0, owned_join owner o xs ys h.1 k)

-- distinct sectors of one file are taken
taken_of : (tracks : ℕ) (c : Content) (l : Layout) (n : ℕ) (xs : List Place) → Sound tracks c l → AllHave tracks xs → IsDistinct xs → OwnedBy l.owner (DataOf n) xs → AreTaken tracks (is_free_in (map_of c)) xs
taken_of tracks c l n [] s h d w = tt
taken_of tracks c l n (x ∷ xs) s h d w = (
  h.0,
  (λ t. (s.owned.off_18 x t n).0 w.0),
  freed_other (is_free_in (map_of c)) x xs d.0 ∙ owned_taken tracks c l x s h.0 (λ e. (let z = sym w.0 ∙ e in (cc))),
  taken_of tracks c l n xs s h.1 d.1 w.1,
)

sides_off : (tracks : ℕ) (c : Content) (l : Layout) (n : ℕ) (xs : List Place) → Sound tracks c l → OwnedBy l.owner (SideOf n) xs → AllOff xs
sides_off tracks c l n [] s w = tt
sides_off tracks c l n (x ∷ xs) s w = ((λ t. (s.owned.off_18 x t n).1 w.0), sides_off tracks c l n xs s w.1)

-- the side sectors go to the blocks of the slot
extends_sides : (tracks : ℕ) (c : Content) (l : Layout) (n : ℕ) (xs : List Place) → Sound tracks c l → OwnedBy l.owner (SideOf n) xs → Extends l n (own_all l.owner xs (DataOf n))
extends_sides tracks c l n xs s h = record {
  keeps = λ q o k e. own_all_keeps l.owner (SideOf n) (DataOf n) o xs q h (λ z. k.not_side (sym z)) e;
  on_18 = λ q e. elim (own_all_was l.owner xs (DataOf n) q) [ inl a ↦ absurd (let z = sym a ∙ e in (cc)) | inr b ↦ s.owned.on_18 q (sym b ∙ e) ];
  off_18 = λ q t m. (λ e. (s.owned.off_18 q t m).0 (all_off_18 l.owner xs (DataOf n) (DataOf m) q (sides_off tracks c l n xs s h) t e), λ e. (s.owned.off_18 q t m).1 (all_off_18 l.owner xs (DataOf n) (SideOf m) q (sides_off tracks c l n xs s h) t e));
}

all_kept : (owner : Place → Owner) (xs : List Place) (o : Owner) (q : Place) → owner q ≡ o → own_all owner xs o q ≡ o
all_kept owner xs o q e = elim (own_all_was owner xs o q) [ inl a ↦ a | inr b ↦ b ∙ e ]

-- ---- the entry is cleared

-- the owners when the side sectors of a slot are counted among its blocks
abbrev pub gathered : Layout → ℕ → Place → Owner
gathered l n = own_all l.owner (l.files n).sides (DataOf n)

-- all sectors of a slot's file
abbrev pub all_blocks : Blocks → List Place
all_blocks b = b.data_blocks ++ b.sides

-- what was no side sector of the slot keeps its owner
pub gathered_keeps : (tracks : ℕ) (c : Content) (l : Layout) (n : ℕ) (o : Owner) (q : Place) → Sound tracks c l → n < slot_count l → SideOf n ≢ o → l.owner q ≡ o → gathered l n q ≡ o
gathered_keeps tracks c l n o q s k ne e = own_all_keeps l.owner (SideOf n) (DataOf n) o (l.files n).sides q (s.owned.sides n k) ne e

pub stands_cleared : (tracks : ℕ) (c c1 : Content) (l : Layout) (d : Disk) (n : ℕ) (p : Place) (body : List ℕ) → HasLayout tracks c l d → n < slot_count l → p ≡ sector_of l.directory n → Enters c c1 p (n % 8) body → type_byte body ≡ 0
    → HasLayout tracks c1 (with_file l n no_blocks (gathered l n)) (with_slot d n None)
stands_cleared tracks c c1 l d n p body st k at e z =
    let lies : Lies tracks c body no_blocks = subst (λ (x : Bool). LiesAs x (is_relative body) tracks c body no_blocks) (sym (ap (λ (x : ℕ). bit_of x 7) z)) refl in
    subst (λ (x : Option File). HasLayout tracks c1 (with_file l n no_blocks (gathered l n)) (with_slot d n x))
    (ap (λ (x : Bool). if x then None else Some (file_of [] body no_blocks)) (eq-eqb (type_byte body) 0 z))
    (stands_entry tracks c c1 l d n p body no_blocks (gathered l n) st k at e (subst (λ (x : ℕ). x % 16 < 5) (sym z) (omega arith)) lies (extends_sides tracks c l n (l.files n).sides st.sound (st.sound.owned.sides n k)) tt tt
    (λ q h f. gathered_keeps tracks c l n Nobody q st.sound k (λ y. (cc)) (st.sound.free q h f)))

-- ---- what is given back

-- the sectors of a closed file, with or without records
pub record LiesClosed (tracks : ℕ) (c : Content) (e : List ℕ) (b : Blocks) : Type 0 where
  pub chain : Chain tracks c (first_block e) b.data_blocks
  pub sides_are : AllHave tracks b.sides
  pub distinct : IsDistinct b.sides

pub lies_closed : (r : Bool) (tracks : ℕ) (c : Content) (e : List ℕ) (b : Blocks) → LiesAs true r tracks c e b → LiesClosed tracks c e b
lies_closed true tracks c e b h = record {
  chain = h.0;
  sides_are = sides_have tracks c (width_of e) 0 b.sides h.1.numbered;
  distinct = sides_distinct tracks c (width_of e) 0 b.sides h.1.numbered;
}
lies_closed false tracks c e b h = record {
  chain = h.0;
  sides_are = subst (λ (xs : List Place). AllHave tracks xs) (sym h.1) tt;
  distinct = subst (λ (xs : List Place). IsDistinct xs) (sym h.1) tt;
}

pub gathered_owned : (tracks : ℕ) (c : Content) (l : Layout) (n : ℕ) → Sound tracks c l → n < slot_count l → OwnedBy (gathered l n) (DataOf n) (all_blocks (l.files n))
gathered_owned tracks c l n s k =
    let b : Blocks = l.files n in
    owned_join (gathered l n) (DataOf n) b.data_blocks b.sides
    (owned_same l.owner (gathered l n) (DataOf n) b.data_blocks (λ q h. all_kept l.owner b.sides (DataOf n) q h) (s.owned.blocks n k)) (own_all_there l.owner b.sides (DataOf n))

pub gathered_taken : (tracks : ℕ) (c c1 : Content) (l : Layout) (d1 : Disk) (n : ℕ) (e : List ℕ) → Sound tracks c l → n < slot_count l → LiesClosed tracks c e (l.files n) → HasLayout tracks c1 (with_file l n no_blocks (gathered l n)) d1
    → AreTaken tracks (is_free_in (map_of c1)) (all_blocks (l.files n))
gathered_taken tracks c c1 l d1 n e s k lies st =
    let b : Blocks = l.files n in
    let distinct : IsDistinct (all_blocks b) = distinct_join l.owner (DataOf n) b.data_blocks b.sides (s.owned.blocks n k) (λ q h. apart_owned l.owner q (DataOf n) (SideOf n) b.sides h (λ y. (cc)) (s.owned.sides n k))
    (chain_is_distinct tracks c (first_block e) b.data_blocks lies.chain) lies.distinct in
    let have : AllHave tracks (all_blocks b) = have_join tracks b.data_blocks b.sides (chain_have tracks c (first_block e) b.data_blocks lies.chain) lies.sides_are in
    taken_of tracks c1 (with_file l n no_blocks (gathered l n)) n (all_blocks b) st.sound have distinct (gathered_owned tracks c l n s k)
