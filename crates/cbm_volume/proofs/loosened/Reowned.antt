-- A sector that no part of the disk has, and no channel, is nobody's in some layout.
use Rattle.std.proofs.Common.{◌≡◌, ◌≢◌, ℕ, ◌<◌, List, [], ◌∷◌, length, false, sym, ap, subst, ◌∙◌, arith, inl, inr}
use Rattle.cbm_medium.specs.Place.{Place, directory_head}
use Rattle.cbm_medium.specs.Content.{Content, written}
use Rattle.cbm_medium.specs.Links.{IsApart}
use Rattle.cbm_medium.proofs.Places.{place_decide, written_elsewhere}
use Rattle.cbm_file.specs.Files.{Disk}
use Rattle.cbm_bam.specs.Map.{geometry_of, geometry_in}
use Rattle.cbm_chain.specs.Writing.{Part}
use Rattle.cbm_volume.specs.Blocks.{Blocks}
use Rattle.cbm_volume.specs.Layouts.{Owner, Nobody, Directory, DataOf, SideOf, Writer, OwnedBy, Layout, slot_count, Sound, HasLayout, own}
use Rattle.cbm_volume.specs.Writers.{Use, Idle, Reads, Relates, Writes, IsUsed, HoldsAt, Holds, HoldsNow}
use Rattle.cbm_volume.specs.check.WholeDisk.{ClaimsDisk}
use Rattle.cbm_volume.specs.Loose.{IsSpared}
use Rattle.cbm_volume.proofs.layouts.Remaps.{with_owner}
use Rattle.cbm_volume.proofs.layouts.Settled.{same_directory, same_files}
use Rattle.cbm_volume.proofs.layouts.Steps.{own_there, own_elsewhere}
use Rattle.cbm_volume.proofs.checked.CheckedSound.{checked_once}
use Rattle.cbm_volume.proofs.checked.ClaimedSound.{laid_out, layout_of}
use Rattle.cbm_volume.proofs.opened.Growing.{written_loose}
use Rattle.cbm_volume.proofs.written.Finishing.{few_blocks}

-- the layout in which the sector is nobody's
abbrev pub let_go : Layout → Place → Layout
let_go l p = with_owner l (own l.owner p Nobody)

-- sectors that are owned in a layout where this one is nobody's are others
pub others : (owner : Place → Owner) (o : Owner) (p : Place) (xs : List Place) → owner p ≡ Nobody → Nobody ≢ o → OwnedBy owner o xs → IsApart p xs
others owner o p [] none ne h = tt
others owner o p (q ∷ xs) none ne h = (λ e. ne (sym none ∙ ap owner e ∙ h.0), others owner o p xs none ne h.1)

-- others keep their owner
pub apart_owned : (owner : Place → Owner) (o : Owner) (p : Place) (xs : List Place) → IsApart p xs → OwnedBy owner o xs → OwnedBy (own owner p Nobody) o xs
apart_owned owner o p [] a h = tt
apart_owned owner o p (q ∷ xs) a h = (own_elsewhere owner p q Nobody a.0 ∙ h.0, apart_owned owner o p xs a.1 h.1)

module _ (tracks : ℕ) (c : Content) (l k : Layout) (p : Place) (s : Sound tracks c l) (t : Sound tracks c k) (none : k.owner p ≡ Nobody) where
  back : (q : Place) (o : Owner) → Nobody ≢ o → own l.owner p Nobody q ≡ o → l.owner q ≡ o
  back q o ne e = elim (place_decide p q) [
    | inl z ↦ absurd (ne (sym (own_there l.owner p Nobody) ∙ ap (own l.owner p Nobody) z ∙ e))
    | inr apart ↦ sym (own_elsewhere l.owner p q Nobody apart) ∙ e
  ]

  pub not_head : p ≢ directory_head
  not_head e = (let z = sym none ∙ ap k.owner e ∙ t.owned.map in absurd (cc))

  slots : (n : ℕ) → n < slot_count l → n < slot_count k
  slots n h = omega (arith, h, ap length (same_directory tracks c l k s t))

  pub sound_let_go : Sound tracks c (let_go l p)
  sound_let_go = record {
    owned = record {
      map = own_elsewhere l.owner p directory_head Nobody not_head ∙ s.owned.map;
      directory = apart_owned l.owner Directory p l.directory (subst (IsApart p) (sym (same_directory tracks c l k s t)) (others k.owner Directory p k.directory none (λ e. (cc)) t.owned.directory)) s.owned.directory;
      blocks = λ n h. apart_owned l.owner (DataOf n) p (l.files n).data_blocks (subst (λ (b : Blocks). IsApart p b.data_blocks) (sym (same_files tracks c l k n s t h)) (others k.owner (DataOf n) p (k.files n).data_blocks none (λ e. (cc)) (t.owned.blocks n (slots n h)))) (s.owned.blocks n h);
      sides = λ n h. apart_owned l.owner (SideOf n) p (l.files n).sides (subst (λ (b : Blocks). IsApart p b.sides) (sym (same_files tracks c l k n s t h)) (others k.owner (SideOf n) p (k.files n).sides none (λ e. (cc)) (t.owned.sides n (slots n h)))) (s.owned.sides n h);
      on_18 = λ q e. s.owned.on_18 q (back q Directory (λ z. (cc)) e);
      off_18 = λ q e n. (λ z. (s.owned.off_18 q e n).0 (back q (DataOf n) (λ y. (cc)) z), λ z. (s.owned.off_18 q e n).1 (back q (SideOf n) (λ y. (cc)) z));
    };
    writable = s.writable;
    map_reads = s.map_reads;
    directory = s.directory;
    kinds = s.kinds;
    lies = s.lies;
    free = λ q h e. elim (place_decide p q) [
      | inl z ↦ sym (ap (own l.owner p Nobody) z) ∙ own_there l.owner p Nobody
      | inr apart ↦ own_elsewhere l.owner p q Nobody apart ∙ s.free q h e
    ];
    counted = s.counted;
  }

-- a channel's use doesn't need it
used_let_go : (medium : ℕ) (c : Content) (l : Layout) (d : Disk) (p : Place) (ch : ℕ) (u : Use) → Sound (geometry_of medium c) c l → IsSpared c p u → IsUsed (geometry_of medium c) c l d ch u → IsUsed (geometry_of medium c) c (let_go l p) d ch u
used_let_go medium c l d p ch Idle s a h = tt
used_let_go medium c l d p ch (Relates slot) s a h = record { there = h.there; file = h.file; in_slot = h.in_slot; closed = h.closed; relative = h.relative }
used_let_go medium c l d p ch (Reads slot r left) s a h = record {
  blocks = h.blocks;
  followed = h.followed;
  all = h.all;
  owned = apart_owned l.owner (DataOf slot) p h.blocks (a h.blocks h.followed) h.owned;
  there = h.there;
  file = h.file;
  in_slot = h.in_slot;
}
used_let_go medium c l d p ch (Writes w bytes n) s a h = record {
  places = h.places;
  owned = apart_owned l.owner (Writer ch) p h.places (a h.places h.wrote
      (omega (arith, few_blocks medium c l ch h.places s (subst (λ (t : ℕ). Part t c h.places) h.same_tracks h.wrote.part) h.owned))) h.owned;
  wrote = h.wrote;
  number = h.number;
  same_tracks = h.same_tracks;
  there = h.there;
  file = h.file;
  in_slot = h.in_slot;
  closed = h.closed;
  plain = h.plain;
  begun = h.begun;
}

-- in this layout the sector is nobody's
pub record IsLetGo (medium : ℕ) (c : Content) (d : Disk) (uses : ℕ → Use) (p : Place) : Type 0 where
  pub layout : Layout
  pub so : HoldsAt (geometry_of medium c) c layout d uses
  pub nobody : layout.owner p ≡ Nobody

-- SO IS ONE THAT THE CHECK DOESN'T MEET, AND NO CHANNEL HAS
pub gone : (medium : ℕ) (c : Content) (d : Disk) (uses : ℕ → Use) (p : Place) → HoldsNow medium c d uses
    → (k : ClaimsDisk (geometry_of medium c) c) → k.after p ≡ false → ((ch : ℕ) → IsSpared c p (uses ch)) → IsLetGo medium c d uses p
gone medium c d uses p h k apart spared =
    let tracks : ℕ = geometry_of medium c in
    let once = checked_once tracks c k in
    let laid = laid_out tracks c once.0 in
    let none = laid.fresh p (ap (λ f. f p) once.1 ∙ apart) in
    let l : Layout = h.layout in
    let other : Layout = layout_of once.0.directory once.0.files laid.owner in
    let was = h.so.stands.describes in
    let st : HasLayout tracks c (let_go l p) d = record {
      sound = sound_let_go tracks c l other p h.so.stands.sound laid.sound none;
      describes = record { title = was.title; mark = was.mark; size = was.size; slots = was.slots; total = was.total; room = was.room; free = was.free };
    } in
    record {
      layout = let_go l p;
      so = record { stands = st; each = λ ch. used_let_go medium c l d p ch (uses ch) h.so.stands.sound (spared ch) (h.so.each ch); alone = h.so.alone };
      nobody = own_there l.owner p Nobody;
    }

-- what is nobody's isn't the map's sector
pub no_head : (tracks : ℕ) (c : Content) (l : Layout) (p : Place) → Sound tracks c l → l.owner p ≡ Nobody → p ≢ directory_head
no_head tracks c l p s none e = let z = sym none ∙ ap l.owner e ∙ s.owned.map in absurd (cc)

-- A WRITE TO IT leaves the disk and its channels as they are
pub written_unclaimed : (medium : ℕ) (c c' : Content) (d : Disk) (uses : ℕ → Use) (p : Place) (bytes : List ℕ) → c' ≡ written c p bytes → IsLetGo medium c d uses p → HoldsNow medium c' d uses
written_unclaimed medium c c' d uses p bytes e g =
    let tracks : ℕ = geometry_of medium c in
    let same : geometry_of medium c' ≡ tracks = ap (geometry_in medium) (ap (λ (x : Content). x directory_head) e ∙ written_elsewhere c p directory_head bytes (no_head tracks c g.layout p g.so.stands.sound g.nobody)) in
    subst (λ (t : ℕ). Holds t c' d uses) (sym same) (record { layout = g.layout; so = written_loose tracks c c' g.layout d uses p bytes g.so g.nobody e })
