-- A relative file grows: after each write the medium holds a disk on which all channels go on, and only the slot's file is another.
use Rattle.std.proofs.Common.{◌≡◌, ◌≢◌, ℕ, ◌+◌, ◌-◌, ◌<◌, List, ◌++◌, length, true, false, Some, None, refl, sym, ap, subst, ◌∙◌, arith, inl, inr}
use Rattle.std.specs.Prelude.{◌==◌, replicate}
use Rattle.std.proofs.lemmas.Bool.{cases_eq, eq-eqb, ne_eqb}
use Rattle.std.proofs.lemmas.List.{get_or-set_same}
use Rattle.cbm_medium.specs.Place.{Place, directory_head}
use Rattle.cbm_medium.specs.Content.{Cell, Content, written}
use Rattle.cbm_medium.specs.Links.{or_nothing}
use Rattle.cbm_medium.specs.Seen.{Seen}
use Rattle.cbm_medium.specs.declared.fault.Trouble.{Trouble}
use Rattle.cbm_medium.proofs.Places.{written_elsewhere}
use Rattle.cbm_file.specs.declared.file_type.FileType.TheVariants.{Rel}
use Rattle.cbm_file.specs.Types.{is_same_type}
use Rattle.cbm_file.specs.Files.{Disk, File, Records, file_at}
use Rattle.cbm_file.specs.Records.{fresh_record}
use Rattle.cbm_bam.specs.Map.{geometry_of, is_free_in, Claims}
use Rattle.cbm_volume.specs.Layouts.{Owner, Nobody, Directory, DataOf, SideOf, Writer, is_loose, Layout, slot_count, Sound, HasLayout}
use Rattle.cbm_volume.specs.Writers.{Use, Relates, IsRelating, IsUsed, uses_slot, writes_slot, HoldsAt, HoldsNow}
use Rattle.cbm_volume.specs.RecordWrites.{HasRecordsOpen}
use Rattle.cbm_volume.specs.Growth.{IsGrowthCut}
use Rattle.cbm_volume.specs.Growing.{disk_with, IsAside, LeavesAside, IsGrowthStopped}
use Rattle.cbm_volume.specs.Opens.{IsHindered}
use Rattle.cbm_volume.proofs.written.Closing.{other_slot}
use Rattle.cbm_volume.proofs.layouts.Steps.{IsTaken, Claimed, stands_claim, stands_loose}
use Rattle.cbm_volume.proofs.written.Storing.{few, geometry_claimed, geometry_elsewhere}
use Rattle.cbm_volume.proofs.layouts.Writers.{Spares, used_kept, written_keeps}

-- ---- what is left alone

pub aside_same : (n : ℕ) (c : Content) (l : Layout) → LeavesAside n c l c l
aside_same n c l o a p h = (refl, h)

-- one write after another
pub aside_then : (n : ℕ) (c c' c'' : Content) (l l' l'' : Layout) → LeavesAside n c l c' l' → LeavesAside n c' l' c'' l'' → LeavesAside n c l c'' l''
aside_then n c c' c'' l l' l'' f g o a p h = let one = f o a p h in let two = g o a p one.1 in (two.0 ∙ one.0, two.1)

-- a sector is written that is no such part
pub aside_written : (n : ℕ) (c c' : Content) (l : Layout) (p : Place) (bytes : List ℕ) → c' ≡ written c p bytes → ((o : Owner) → IsAside n o → l.owner p ≢ o) → LeavesAside n c l c' l
aside_written n c c' l p bytes e ne o a q h = (written_keeps c c' p bytes l.owner o e (ne o a) q h, h)

pub aside_directory : (n : ℕ) → IsAside n Directory
aside_directory n = record { not_nobody = λ z. (cc); not_map = λ z. (cc); not_data = λ z. (cc); not_side = λ z. (cc) }

aside_writer : (n ch : ℕ) → IsAside n (Writer ch)
aside_writer n ch = record { not_nobody = λ z. (cc); not_map = λ z. (cc); not_data = λ z. (cc); not_side = λ z. (cc) }

pub aside_data : (n m : ℕ) → m ≢ n → IsAside n (DataOf m)
aside_data n m ne = record { not_nobody = λ z. (cc); not_map = λ z. (cc); not_data = λ z. (let y : m ≡ n = cc in ne y); not_side = λ z. (cc) }

pub aside_side : (n m : ℕ) → m ≢ n → IsAside n (SideOf m)
aside_side n m ne = record { not_nobody = λ z. (cc); not_map = λ z. (cc); not_data = λ z. (cc); not_side = λ z. (let y : m ≡ n = cc in ne y) }

apart_from : (a b : ℕ) → (a == b) ≡ false → a ≢ b
apart_from a b e z = let y = sym (eq-eqb a b z) ∙ e in cc

-- ---- all channels go on

pub holds_aside : (tracks : ℕ) (c c' : Content) (l l' : Layout) (d d' : Disk) (n : ℕ) (f : File) (uses : ℕ → Use) (ch : ℕ) → HoldsAt tracks c l d uses → uses ch ≡ Relates n → HasLayout tracks c' l' d' → file_at d' n ≡ Some f → f.closed ≡ true → is_same_type Rel f.kind ≡ true
    → slot_count l' ≡ slot_count l → LeavesAside n c l c' l' → ((m : ℕ) → (m == n) ≡ false → file_at d' m ≡ file_at d m) → HoldsAt tracks c' l' d' uses
holds_aside tracks c c' l l' d d' n f uses ch h relates st at closed kind count aside slots = record {
  stands = st;
  each = λ m. elim (cases_eq m ch) [
    | inl e ↦ subst (λ (i : ℕ). IsUsed tracks c' l' d' i (uses i)) (sym e) (subst (λ (u : Use). IsUsed tracks c' l' d' ch u) (sym relates) here)
    | inr ne ↦ used_kept tracks c c' l l' d d' (λ k. false) (λ k. k == n) m (uses m) spares refl (λ k g. other m ne k g) (h.each m)
  ];
  alone = h.alone;
}
  where
    was : IsRelating l d n
    was = subst (λ (u : Use). IsUsed tracks c l d ch u) relates (h.each ch)

    here : IsRelating l' d' n
    here = record { there = omega (arith, was.there, count); file = f; in_slot = at; closed = closed; relative = kind }

    other : (m : ℕ) → m ≢ ch → (k : ℕ) → uses_slot k (uses m) ≡ true → (k == n) ≡ false
    other m ne k g = elim (cases_eq k n) [
      | inl e ↦ absurd (ne (sym (h.alone ch m n (ap (writes_slot n) relates ∙ eq-eqb n n refl) (ap (λ (i : ℕ). uses_slot i (uses m)) (sym e) ∙ g))))
      | inr apart ↦ ne_eqb k n apart
    ]

    spares : Spares c c' l l' d d' (λ k. false) (λ k. k == n)
    spares = record {
      writers = λ k e p w. (aside (Writer k) (aside_writer n k) p w).0;
      writers_own = λ k p e w. (aside (Writer k) (aside_writer n k) p w).1;
      files = λ k e p w. (aside (DataOf k) (aside_data n k (apart_from k n e)) p w).0;
      files_own = λ k p e w. (aside (DataOf k) (aside_data n k (apart_from k n e)) p w).1;
      more = omega (arith, count);
      slots = λ k e. slots k e;
    }

-- ---- the disk on its way

-- THE MEDIUM HOLDS A DISK ON THE WAY: the slot's file has these records in so many blocks and side sectors, and so many blocks are free
pub record Stage (medium : ℕ) (c0 : Content) (l0 : Layout) (d : Disk) (uses : ℕ → Use) (n : ℕ) (f : File) (w : ℕ) (c : Content) (l : Layout) (rs1 : List (List ℕ)) (b1 s1 free : ℕ) : Type 0 where
  pub holds : HoldsAt (geometry_of medium c0) c l (disk_with d n f w rs1 b1 s1 free) uses
  pub same : geometry_of medium c ≡ geometry_of medium c0
  pub count : slot_count l ≡ slot_count l0
  pub aside : LeavesAside n c0 l0 c l

-- a block is claimed, and nobody's yet
pub record StageClaimed (medium : ℕ) (c0 : Content) (l0 : Layout) (d : Disk) (uses : ℕ → Use) (n : ℕ) (f : File) (w : ℕ) (c : Content) (l : Layout) (rs1 : List (List ℕ)) (b1 s1 free : ℕ) (q : Place) : Type 0 where
  pub stage : Stage medium c0 l0 d uses n f w c l rs1 b1 s1 free
  pub taken : IsTaken (geometry_of medium c0) c l q

module _ (medium : ℕ) (c0 : Content) (d : Disk) (uses : ℕ → Use) (n w b s : ℕ) (rs : List (List ℕ)) (o : HasRecordsOpen medium c0 d uses n w b s rs) where
  abbrev pub tracks : ℕ
  tracks = geometry_of medium c0

  abbrev pub layout0 : Layout
  layout0 = o.holds.layout

  abbrev pub At : Content → Layout → List (List ℕ) → ℕ → ℕ → ℕ → Type 0
  At c l rs1 b1 s1 free = Stage medium c0 o.holds.layout d uses n o.file w c l rs1 b1 s1 free

  relating : IsRelating layout0 d n
  relating = subst (λ (u : Use). IsUsed tracks c0 layout0 d o.channel u) o.relates (o.holds.so.each o.channel)

  is_file : relating.file ≡ o.file
  is_file = let z = sym relating.in_slot ∙ o.in_slot in (cc)

  pub file_closed : o.file.closed ≡ true
  file_closed = ap (λ (f : File). f.closed) (sym is_file) ∙ relating.closed

  pub file_relative : is_same_type Rel o.file.kind ≡ true
  file_relative = ap (λ (f : File). is_same_type Rel f.kind) (sym is_file) ∙ relating.relative

  pub slot_there : n < length d.slots
  slot_there = omega (arith, relating.there, o.holds.so.stands.describes.size)

  pub file_there : (rs1 : List (List ℕ)) (b1 s1 free : ℕ) → file_at (disk_with d n o.file w rs1 b1 s1 free) n ≡ Some (record o.file { held = b1 + s1; body = Records w rs1 b1 s1 })
  file_there rs1 b1 s1 free = get_or-set_same d.slots n (Some (record o.file { held = b1 + s1; body = Records w rs1 b1 s1 })) None slot_there

  -- A WRITE GOES ON FROM ONE STAGE TO ANOTHER
  pub go_on : (c c' : Content) (l l' : Layout) (rs1 rs2 : List (List ℕ)) (b1 s1 free b2 s2 free2 : ℕ) → At c l rs1 b1 s1 free → HasLayout tracks c' l' (disk_with d n o.file w rs2 b2 s2 free2) → slot_count l' ≡ slot_count l → LeavesAside n c l c' l' → geometry_of medium c' ≡ geometry_of medium c
      → At c' l' rs2 b2 s2 free2
  go_on c c' l l' rs1 rs2 b1 s1 free b2 s2 free2 h st count aside same = record {
    holds = holds_aside tracks c c' l l' (disk_with d n o.file w rs1 b1 s1 free) (disk_with d n o.file w rs2 b2 s2 free2) n (record o.file { held = b2 + s2; body = Records w rs2 b2 s2 }) uses o.channel h.holds o.relates st
        (file_there rs2 b2 s2 free2) file_closed file_relative count aside
        (λ m e. other_slot d n m (Some (record o.file { held = b2 + s2; body = Records w rs2 b2 s2 })) e ∙ sym (other_slot d n m (Some (record o.file { held = b1 + s1; body = Records w rs1 b1 s1 })) e));
    same = same ∙ h.same;
    count = count ∙ h.count;
    aside = aside_then n c0 c c' layout0 l l' h.aside aside;
  }

  -- a block is claimed
  pub claimed : (c c' : Content) (l : Layout) (rs1 : List (List ℕ)) (b1 s1 free : ℕ) (q : Place) → At c l rs1 b1 s1 free → Claims tracks c c' q → StageClaimed medium c0 layout0 d uses n o.file w c' l rs1 b1 s1 (free - 1) q
  claimed c c' l rs1 b1 s1 free q h k =
      let claim : Claimed tracks c c' l (disk_with d n o.file w rs1 b1 s1 free) q = stands_claim tracks c c' l (disk_with d n o.file w rs1 b1 s1 free) q h.holds.stands (few medium c0) k in
      let same : geometry_of medium c' ≡ geometry_of medium c = geometry_claimed medium c c' l q (subst (λ (t : ℕ). Sound t c l) (sym h.same) h.holds.stands.sound) (subst (λ (t : ℕ). Claims t c c' q) (sym h.same) k) in
      record {
        stage = go_on c c' l l rs1 rs1 b1 s1 free b1 s1 (free - 1) h claim.stands refl
            (aside_written n c c' l directory_head k.remaps.map k.remaps.written (λ x a z. a.not_map (sym z ∙ h.holds.stands.sound.owned.map))) same;
        taken = claim.taken;
      }

  -- and written
  pub claimed_written : (c c' : Content) (l : Layout) (rs1 : List (List ℕ)) (b1 s1 free : ℕ) (q p : Place) (bytes : List ℕ) → StageClaimed medium c0 layout0 d uses n o.file w c l rs1 b1 s1 free q → l.owner p ≡ Nobody → c' ≡ written c p bytes
      → StageClaimed medium c0 layout0 d uses n o.file w c' l rs1 b1 s1 free q
  claimed_written c c' l rs1 b1 s1 free q p bytes h nobody e =
      let apart : p ≢ directory_head = λ z. (let y = sym nobody ∙ ap l.owner z ∙ h.stage.holds.stands.sound.owned.map in (cc)) in
      let head : c' directory_head ≡ c directory_head = ap (λ (x : Content). x directory_head) e ∙ written_elsewhere c p directory_head bytes apart in
      record {
        stage = go_on c c' l l rs1 rs1 b1 s1 free b1 s1 free h.stage (stands_loose tracks c c' l (disk_with d n o.file w rs1 b1 s1 free) p bytes h.stage.holds.stands (ap is_loose nobody) e) refl
            (aside_written n c c' l p bytes e (λ x a z. a.not_nobody (sym z ∙ nobody))) (geometry_elsewhere medium c c' head);
        taken = record {
          has = h.taken.has;
          off_18 = h.taken.off_18;
          nobody = h.taken.nobody;
          taken = ap (λ (m : Cell). is_free_in (or_nothing m) q) head ∙ h.taken.taken;
        };
      }

-- a stop at a stage
pub cut_of : (old new : Seen) (c0 : Content) (d : Disk) (uses : ℕ → Use) (n w : ℕ) (f : File) (rs : List (List ℕ)) (l0 : Layout) (c : Content) (l : Layout) (j b1 s1 free : ℕ) (t : Trouble) → file_at d n ≡ Some f
    → Stage old.tracks c0 l0 d uses n f w c l (rs ++ replicate j (fresh_record w)) b1 s1 free → new.content ≡ c → IsHindered old new t → IsGrowthCut old new d uses n w rs t
cut_of old new c0 d uses n w f rs l0 c l j b1 s1 free t at h e cause = record {
  file = f;
  in_slot = at;
  so_far = j;
  blocks = b1;
  sides = s1;
  shown = f.shown;
  free = free;
  holds = subst (λ (x : Content). HoldsNow old.tracks x (disk_with d n f w (rs ++ replicate j (fresh_record w)) b1 s1 free) uses) (sym e)
      (record { layout = l; so = subst (λ (t : ℕ). HoldsAt t c l (disk_with d n f w (rs ++ replicate j (fresh_record w)) b1 s1 free) uses) (sym h.same) h.holds });
  cause = cause;
}

-- and all else is as it was
pub stop_of : (old new : Seen) (c0 : Content) (d : Disk) (uses : ℕ → Use) (n w : ℕ) (f : File) (rs : List (List ℕ)) (l0 : Layout) (c : Content) (l : Layout) (j b1 s1 free : ℕ) (t : Trouble) → file_at d n ≡ Some f
    → Stage old.tracks c0 l0 d uses n f w c l (rs ++ replicate j (fresh_record w)) b1 s1 free → new.content ≡ c → IsHindered old new t → IsGrowthStopped old new c0 l0 d uses n w rs t
stop_of old new c0 d uses n w f rs l0 c l j b1 s1 free t at h e cause =
    (cut_of old new c0 d uses n w f rs l0 c l j b1 s1 free t at h e cause, λ x a p own. ap (λ (y : Content). y p) e ∙ (h.aside x a p own).0)
