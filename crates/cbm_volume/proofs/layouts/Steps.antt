-- What each kind of sector write does to the disk. A call is a list of these, so what stands at each of its exits is a chain of them.
use Rattle.std.proofs.Common.{◌≡◌, ◌≢◌, ℕ, suc, ◌-◌, ◌%◌, ◌<◌, ◌≤◌, List, Bool, true, false, refl, sym, ap, subst, ◌∙◌, arith, inl, inr}
use Rattle.std.proofs.lemmas.Bool.{cases_eq}
use Rattle.cbm_medium.specs.Place.{Place, directory_head, Has}
use Rattle.cbm_medium.specs.Content.{Content, written}
use Rattle.cbm_medium.specs.Links.{bytes_at}
use Rattle.cbm_file.specs.Files.{Disk, with_slot}
use Rattle.cbm_bam.specs.Map.{is_free_in, free_in, tally, IsMapped, with_bit, map_of, Claims}
use Rattle.cbm_directory.specs.Entries.{HasEntry, type_byte, sector_of, Enters}
use Rattle.cbm_volume.specs.Blocks.{Blocks, Lies, slot_of}
use Rattle.cbm_volume.specs.Layouts.{Owner, Nobody, TheMap, Directory, DataOf, SideOf, is_loose, OwnedBy, Layout, IsOwned, with_blocks, slot_count, Sound, Describes, HasLayout, Extends, IsElse, own}
use Rattle.cbm_medium.proofs.Places.{place_decide, place_is_itself, places_apart}
use Rattle.cbm_volume.proofs.layouts.Frames.{owned_same}
use Rattle.cbm_volume.proofs.layouts.Loose.{sound_loose, describes_loose}
use Rattle.cbm_bam.proofs.Counts.{bit_there, bit_elsewhere, tally_other, tally_same, free_claimed}
use Rattle.cbm_volume.proofs.layouts.Remaps.{with_map, with_counts, sound_remap, describes_remap, map_is}
use Rattle.cbm_volume.proofs.layouts.OneSlot.{with_file, with_sector, blocks_here, blocks_other, sound_entry, describes_entry}

-- ---- a sector that is no part of the disk

pub stands_loose : (tracks : ℕ) (c c' : Content) (l : Layout) (d : Disk) (p : Place) (bytes : List ℕ) → HasLayout tracks c l d → is_loose (l.owner p) ≡ true → c' ≡ written c p bytes → HasLayout tracks c' l d
stands_loose tracks c c' l d p bytes s h e = subst (λ (x : Content). HasLayout tracks x l d) (sym e)
    (record { sound = sound_loose tracks c l p bytes s.sound h; describes = describes_loose tracks c l d p bytes s.sound s.describes h })

-- ---- a claim

abbrev pub one_less : Disk → Disk
one_less d = record d { free = d.free - 1 }

-- a block that was claimed, and is nobody's yet
pub record IsTaken (tracks : ℕ) (c : Content) (l : Layout) (p : Place) : Type 0 where
  pub has : Has tracks p
  pub off_18 : p.track ≢ 18
  pub nobody : l.owner p ≡ Nobody
  pub taken : is_free_in (map_of c) p ≡ false

pub bit_implies : (f : Place → Bool) (p q : Place) → with_bit f p false q ≡ true → f q ≡ true
bit_implies f p q h = elim (place_decide p q) [
  | inl e ↦ absurd (let z = sym (bit_there f p false) ∙ ap (with_bit f p false) e ∙ h in (cc))
  | inr ne ↦ sym (bit_elsewhere f p q false ne) ∙ h
]

pub record Claimed (tracks : ℕ) (c c' : Content) (l : Layout) (d : Disk) (p : Place) : Type 0 where
  pub stands : HasLayout tracks c' l (one_less d)
  pub taken : IsTaken tracks c' l p
  pub some_free : 0 < d.free

pub stands_claim : (tracks : ℕ) (c c' : Content) (l : Layout) (d : Disk) (p : Place) → HasLayout tracks c l d → 18 ≤ tracks → Claims tracks c c' p → Claimed tracks c c' l d p
stands_claim tracks c c' l d p s few k =
    let map : List ℕ = k.remaps.map in
    let free : Place → Bool = with_bit (is_free_in (map_of c)) p false in
    let m : IsMapped tracks (map_of c) map free = k.remaps.mapped in
    let less : free_in tracks (map_of c) ≡ suc (free_in tracks map) = free_claimed tracks (map_of c) map p s.sound.counted (record { has = k.has; was_free = k.was_free; mapped = m; counts = k.counts }) k.off_18 in
    let room : tally (is_free_in map) 18 19 ≡ tally (is_free_in (map_of c)) 18 19 =
    tally_same (is_free_in map) free 18 19 (λ i j. m.bits (record { track = 18; sector = i }) (omega arith, few, j)) ∙ tally_other (is_free_in (map_of c)) p false 18 19 (λ e. k.off_18 (sym e)) in
    let d' : with_counts tracks d map ≡ one_less d = λ i. record d { room = (room ∙ sym s.describes.room) i; free = (let e : free_in tracks map ≡ d.free - 1 = omega (arith, s.describes.free) in e) i } in
    record {
      stands = record {
        sound = subst (λ (x : Content). Sound tracks x l) (sym k.remaps.written) (sound_remap tracks c l map free l.owner s.sound m s.sound.owned (λ q h e. s.sound.free q h (bit_implies (is_free_in (map_of c)) p q e)));
        describes = subst (λ (x : Content). Describes tracks x l (one_less d)) (sym k.remaps.written)
            (subst (λ (x : Disk). Describes tracks (with_map c map) l x) d' (describes_remap tracks c l d map free l.owner s.sound s.describes m));
      };
      taken = record {
        has = k.has;
        off_18 = k.off_18;
        nobody = s.sound.free p k.has k.was_free;
        taken = ap (λ (x : Content). is_free_in (map_of x) p) k.remaps.written ∙ ap (λ (x : List ℕ). is_free_in x p) (map_is c map) ∙ m.bits p k.has ∙ bit_there (is_free_in (map_of c)) p false;
      };
      some_free = omega (arith, s.describes.free);
    }

-- ---- an entry

pub else_map : (n : ℕ) → IsElse n TheMap
else_map n = record { part = refl; not_data = λ e. (cc); not_side = λ e. (cc) }

pub else_directory : (n : ℕ) → IsElse n Directory
else_directory n = record { part = refl; not_data = λ e. (cc); not_side = λ e. (cc) }

pub else_data : (n m : ℕ) → m ≢ n → IsElse n (DataOf m)
else_data n m ne = record { part = refl; not_data = λ e. (let f : m ≡ n = cc in ne f); not_side = λ e. (cc) }

pub else_side : (n m : ℕ) → m ≢ n → IsElse n (SideOf m)
else_side n m ne = record { part = refl; not_data = λ e. (cc); not_side = λ e. (let f : m ≡ n = cc in ne f) }

pub extend_owned : (l : Layout) (n : ℕ) (b : Blocks) (owner : Place → Owner) → IsOwned l → Extends l n owner → OwnedBy owner (DataOf n) b.data_blocks → OwnedBy owner (SideOf n) b.sides → IsOwned (with_file l n b owner)
extend_owned l n b owner w x blocks sides = record {
  map = x.keeps directory_head TheMap (else_map n) w.map;
  directory = owned_same l.owner owner Directory l.directory (λ p. x.keeps p Directory (else_directory n)) w.directory;
  blocks = λ m k. elim (cases_eq m n) [
    | inl e ↦ subst (λ (i : ℕ). OwnedBy owner (DataOf i) (with_blocks l.files n b i).data_blocks) (sym e) (subst (λ (y : Blocks). OwnedBy owner (DataOf n) y.data_blocks) (sym (blocks_here l.files n b)) blocks)
    | inr ne ↦ subst (λ (y : Blocks). OwnedBy owner (DataOf m) y.data_blocks) (sym (blocks_other l.files n m b ne)) (owned_same l.owner owner (DataOf m) (l.files m).data_blocks (λ p. x.keeps p (DataOf m) (else_data n m ne)) (w.blocks m k))
  ];
  sides = λ m k. elim (cases_eq m n) [
    | inl e ↦ subst (λ (i : ℕ). OwnedBy owner (SideOf i) (with_blocks l.files n b i).sides) (sym e) (subst (λ (y : Blocks). OwnedBy owner (SideOf n) y.sides) (sym (blocks_here l.files n b)) sides)
    | inr ne ↦ subst (λ (y : Blocks). OwnedBy owner (SideOf m) y.sides) (sym (blocks_other l.files n m b ne)) (owned_same l.owner owner (SideOf m) (l.files m).sides (λ p. x.keeps p (SideOf m) (else_side n m ne)) (w.sides m k))
  ];
  on_18 = x.on_18;
  off_18 = x.off_18;
}

pub extends_itself : (l : Layout) (n : ℕ) → IsOwned l → Extends l n l.owner
extends_itself l n w = record { keeps = λ p o k e. e; on_18 = w.on_18; off_18 = w.off_18 }

pub own_there : (owner : Place → Owner) (p : Place) (o : Owner) → own owner p o p ≡ o
own_there owner p o = rw place_is_itself

pub own_elsewhere : (owner : Place → Owner) (p q : Place) (o : Owner) → p ≢ q → own owner p o q ≡ owner q
own_elsewhere owner p q o ne = let e = places_apart p q ne in rw e

-- a sector that is no part of the disk goes to a file
pub extends_own : (l : Layout) (p : Place) (n : ℕ) → IsOwned l → is_loose (l.owner p) ≡ true → p.track ≢ 18 → Extends l n (own l.owner p (DataOf n))
extends_own l p n w h off = record {
  keeps = λ q o k e. elim (place_decide p q) [
    | inl s ↦ absurd (let z = ap is_loose (sym e ∙ ap l.owner (sym s)) ∙ h in let f = k.part in (cc))
    | inr ne ↦ own_elsewhere l.owner p q (DataOf n) ne ∙ e
  ];
  on_18 = λ q e. elim (place_decide p q) [
    | inl s ↦ absurd (let z = sym (own_there l.owner p (DataOf n)) ∙ ap (own l.owner p (DataOf n)) s ∙ e in (cc))
    | inr ne ↦ w.on_18 q (sym (own_elsewhere l.owner p q (DataOf n) ne) ∙ e)
  ];
  off_18 = λ q t m. elim (place_decide p q) [
    | inl s ↦ absurd (off (ap (λ (x : Place). x.track) s ∙ t))
    | inr ne ↦ (λ e. (w.off_18 q t m).0 (sym (own_elsewhere l.owner p q (DataOf n) ne) ∙ e), λ e. (w.off_18 q t m).1 (sym (own_elsewhere l.owner p q (DataOf n) ne) ∙ e))
  ];
}

pub stands_entry : (tracks : ℕ) (c c' : Content) (l : Layout) (d : Disk) (n : ℕ) (p : Place) (body : List ℕ) (b : Blocks) (owner : Place → Owner) → HasLayout tracks c l d → n < slot_count l → p ≡ sector_of l.directory n
    → Enters c c' p (n % 8) body → type_byte body % 16 < 5 → Lies tracks c body b
    → Extends l n owner → OwnedBy owner (DataOf n) b.data_blocks → OwnedBy owner (SideOf n) b.sides → ((q : Place) → Has tracks q → is_free_in (map_of c) q ≡ true → owner q ≡ Nobody)
    → HasLayout tracks c' (with_file l n b owner) (with_slot d n (slot_of c body b))
stands_entry tracks c c' l d n p body b owner s k at e t lie x blocks sides f =
    let w : IsOwned (with_file l n b owner) = extend_owned l n b owner s.sound.owned x blocks sides in
    let h : HasEntry (bytes_at c (sector_of l.directory n)) e.sector (n % 8) body = subst (λ (y : Place). HasEntry (bytes_at c y) e.sector (n % 8) body) at e.has in
    let new : c' ≡ with_sector c l n e.sector = e.written ∙ ap (λ (y : Place). written c y e.sector) at in
    subst (λ (y : Content). HasLayout tracks y (with_file l n b owner) (with_slot d n (slot_of c body b))) (sym new)
    (record {
      sound = sound_entry tracks c l n e.sector body b owner s.sound k h t lie w f;
      describes = describes_entry tracks c l d n e.sector body b owner s.sound s.describes k h w;
    })
