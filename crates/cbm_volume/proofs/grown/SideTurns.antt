-- A new side sector that a file gets: it is claimed and written, put into the list of each of the others, and last into that of the first.
use Rattle.std.proofs.Common.{Bool, ◌≡◌, ◌≢◌, ℕ, zero, suc, ◌+◌, ◌-◌, ◌*◌, ◌<◌, List, [], ◌∷◌, ◌++◌, length, drop, get_or, Some, Ok, refl, sym, ap, subst, ◌∙◌, arith}
use Rattle.std.proofs.lemmas.List.{get_or-drop, length-append}
use Rattle.cbm_medium.specs.Place.{Place, directory_head}
use Rattle.cbm_medium.specs.Content.{Cell, Content, written}
use Rattle.cbm_medium.specs.Links.{bytes_at, or_nothing, IsApart}
use Rattle.cbm_medium.proofs.Places.{written_there, written_elsewhere}
use Rattle.cbm_file.specs.Files.{Disk, File, Records, with_slot}
use Rattle.cbm_bam.specs.Map.{geometry_of, is_free_in, Claims}
use Rattle.cbm_chain.specs.Data.{chain_bytes}
use Rattle.cbm_directory.specs.Entries.{entry_at, first_side, width_of}
use Rattle.cbm_relfile.specs.Growing.{ListsSide, IsSideLinked}
use Rattle.cbm_relfile.specs.SideSectors.{named_in, sides_listed, listed_side}
use Rattle.cbm_volume.specs.Blocks.{Blocks, slot_of, slices}
use Rattle.cbm_volume.specs.Growing.{disk_with, IsListed, LeavesAside}
use Rattle.cbm_volume.specs.Layouts.{Nobody, TheMap, Directory, DataOf, SideOf, OwnedBy, Layout, slot_count, HasLayout, own}
use Rattle.cbm_volume.specs.RecordWrites.{HasRecordsOpen}
use Rattle.cbm_volume.specs.Writers.{Use}
use Rattle.cbm_volume.proofs.layouts.Frames.{Keeps, bytes_kept, owned_nth}
use Rattle.cbm_volume.proofs.grown.GrowingLists.{side_is}
use Rattle.cbm_volume.proofs.grown.GrowingSteps.{Stage, StageClaimed, go_on, claimed, claimed_written, aside_directory, aside_then, aside_written, file_there}
use Rattle.cbm_volume.proofs.grown.GrowingTurns.{FileLies, lies_at, slot_in, is_not, owners_apart, map_data, map_side, nobody_data, nobody_side, disk_again}
use Rattle.cbm_volume.proofs.layouts.Loose.{entry_kept}
use Rattle.cbm_volume.proofs.layouts.OneSlot.{with_file, blocks_here}
use Rattle.cbm_volume.proofs.checked.SoundClaimed.{sides_distinct}
use Rattle.cbm_volume.proofs.layouts.Steps.{IsTaken, own_elsewhere}
use Rattle.cbm_volume.proofs.relative.Added.{sided}
use Rattle.cbm_volume.proofs.relative.Copied.{Copied, stands_copied}
use Rattle.cbm_volume.proofs.relative.GrownFile.{with_records, slot_grown}
use Rattle.cbm_volume.proofs.relative.Named.{named_same, named_push}
use Rattle.cbm_volume.proofs.relative.OneBlock.{listed_kept}
use Rattle.cbm_volume.proofs.written.Storing.{geometry_elsewhere}
use Rattle.cbm_volume.proofs.layouts.Writers.{written_keeps, keeps_then}
use Rattle.cbm_volume.specs.Plain.{IsDistinct}

pub side_is_no_map : (n : ℕ) → SideOf n ≢ TheMap
side_is_no_map n = λ z. (cc)

pub side_is_no_data : (n : ℕ) → SideOf n ≢ DataOf n
side_is_no_data n = λ z. (cc)

-- ---- the bytes

-- a side sector whose list of side sectors has one more
pub record SideLinked (old new : List ℕ) : Type 0 where
  pub number : get_or new 2 0 ≡ get_or old 2 0
  pub width : get_or new 3 0 ≡ get_or old 3 0
  pub blocks : named_in 120 (drop 16 new) ≡ named_in 120 (drop 16 old)

pub side_linked : {follows : Bool} (old new : List ℕ) (k : ℕ) (t : Place) → ListsSide old k t follows new → SideLinked old new
side_linked old new k t h = record {
  number = h.front 2 (omega arith) (omega arith);
  width = h.front 3 (omega arith) (omega arith);
  blocks = named_same 120 (drop 16 new) (drop 16 old) (λ i l. get_or-drop 16 new i 0 ∙ h.back (16 + i) (omega arith) ∙ sym (get_or-drop 16 old i 0));
}

pub sides_more : {follows : Bool} (old new : List ℕ) (k : ℕ) (t : Place) → ListsSide old k t follows new → k < 6 → t.track ≢ 0 → length (sides_listed old) ≡ k → sides_listed new ≡ sides_listed old ++ t ∷ []
sides_more old new k t h few some size = named_push 6 k (drop 4 old) (drop 4 new) t size few some
    (λ i l. get_or-drop 4 new i 0 ∙ h.front (4 + i) (omega arith) (omega (arith, l)) ∙ sym (get_or-drop 4 old i 0))
    (get_or-drop 4 new (2 * k) 0 ∙ h.track)
    (get_or-drop 4 new (2 * k + 1) 0 ∙ (let e : 4 + (2 * k + 1) ≡ 5 + 2 * k = omega arith in ap (λ (i : ℕ). get_or new i 0) e) ∙ h.sector)
    (λ l. get_or-drop 4 new (2 * k + 2) 0 ∙ (let e : 4 + (2 * k + 2) ≡ 6 + 2 * k = omega arith in ap (λ (i : ℕ). get_or new i 0) e) ∙ h.last (omega (arith, l)))

-- no side sector stands twice
pub apart_first : (ss : List Place) (i : ℕ) (d : Place) → IsDistinct ss → 0 < i → i < length ss → get_or ss i d ≢ get_or ss 0 d
apart_first [] i d h some l = absurd (omega (arith, l))
apart_first (s ∷ ss) zero d h some l = absurd (omega (arith, some))
apart_first (s ∷ ss) (suc i) d h some l = by_list ss i h.0 (omega (arith, l))
  where
    by_list : (xs : List Place) (j : ℕ) → IsApart s xs → j < length xs → get_or xs j d ≢ s
    by_list [] j a m = absurd (omega (arith, m))
    by_list (x ∷ xs) zero a m = λ e. a.0 (sym e)
    by_list (x ∷ xs) (suc j) a m = by_list xs j a.1 (omega (arith, m))

-- ---- the turn

-- A NEW SIDE SECTOR WAITS: it is written, and the file's side sectors don't list it yet, so it is nobody's. What held before is c.
pub record SideWaits (medium : ℕ) (c0 : Content) (l0 : Layout) (d : Disk) (uses : ℕ → Use) (n : ℕ) (f : File) (w : ℕ) (c c' : Content) (l : Layout) (rs1 : List (List ℕ)) (b1 s1 free : ℕ) (t : Place) (side : List ℕ) : Type 0 where
  pub stage : Stage medium c0 l0 d uses n f w c' l rs1 b1 s1 free
  pub taken : IsTaken (geometry_of medium c0) c' l t
  pub holds : c' t ≡ Ok side
  pub entry : entry_at c' l.directory n ≡ entry_at c l.directory n
  pub data_kept : Keeps c c' l.owner (DataOf n)
  pub listed : (xs : List Place) → IsListed c (l.files n).sides xs → IsListed c' (l.files n).sides xs

-- The first side sector is written with one side sector more in its list.
pub record FirstLinked (c c' : Content) (l : Layout) (n : ℕ) (t : Place) : Type 0 where
  pub more : List ℕ
  pub owned : l.owner (first_side (entry_at c l.directory n)) ≡ SideOf n
  pub number : get_or more 2 0 ≡ get_or (bytes_at c (first_side (entry_at c l.directory n))) 2 0
  pub width : get_or more 3 0 ≡ get_or (bytes_at c (first_side (entry_at c l.directory n))) 3 0
  pub list : sides_listed more ≡ (l.files n).sides ++ t ∷ []
  pub blocks : named_in 120 (drop 16 more) ≡ named_in 120 (drop 16 (bytes_at c (first_side (entry_at c l.directory n))))
  pub write : c' ≡ written c (first_side (entry_at c l.directory n)) more

-- The file has it: its data blocks hold the same bytes.
pub record SideJoined (medium : ℕ) (c0 : Content) (l0 : Layout) (d : Disk) (uses : ℕ → Use) (n : ℕ) (f : File) (w : ℕ) (c c' : Content) (l l' : Layout) (rs1 : List (List ℕ)) (b1 s1 free : ℕ) : Type 0 where
  pub stage : Stage medium c0 l0 d uses n f w c' l' rs1 b1 s1 free
  pub entry : entry_at c' l.directory n ≡ entry_at c l.directory n
  pub bytes : chain_bytes c' (l.files n).data_blocks ≡ chain_bytes c (l.files n).data_blocks

module _ (medium : ℕ) (c0 : Content) (d : Disk) (uses : ℕ → Use) (n w b s : ℕ) (rs : List (List ℕ)) (o : HasRecordsOpen medium c0 d uses n w b s rs) where
  abbrev tracks : ℕ
  tracks = geometry_of medium c0

  -- a stage of the call, at which the file has these records
  abbrev At : Content → Layout → List (List ℕ) → ℕ → ℕ → ℕ → Type 0
  At c l rs1 b1 s1 free = Stage medium c0 o.holds.layout d uses n o.file w c l rs1 b1 s1 free

  -- THE NEW SIDE SECTOR IS CLAIMED AND WRITTEN
  pub side_waits : (c one c' : Content) (l : Layout) (rs1 : List (List ℕ)) (b1 s1 free : ℕ) (t : Place) (side : List ℕ) → At c l rs1 b1 s1 free → Claims tracks c one t → c' ≡ written one t side
      → SideWaits medium c0 o.holds.layout d uses n o.file w c c' l rs1 b1 s1 (free - 1) t side
  side_waits c one c' l rs1 b1 s1 free t side at0 claims wrote =
      let there : n < slot_count l = slot_in medium c0 d uses n w b s rs o c l rs1 b1 s1 free at0 in
      let first : StageClaimed medium c0 o.holds.layout d uses n o.file w one l rs1 b1 s1 (free - 1) t = claimed medium c0 d uses n w b s rs o c one l rs1 b1 s1 free t at0 claims in
      let two : StageClaimed medium c0 o.holds.layout d uses n o.file w c' l rs1 b1 s1 (free - 1) t = claimed_written medium c0 d uses n w b s rs o one c' l rs1 b1 s1 (free - 1) t t side first first.taken.nobody wrote in
      let map : l.owner directory_head ≡ TheMap = at0.holds.stands.sound.owned.map in
      let data1 : Keeps c one l.owner (DataOf n) = written_keeps c one directory_head claims.remaps.map l.owner (DataOf n) claims.remaps.written (is_not (l.owner directory_head) TheMap (DataOf n) map (map_data n)) in
      let data2 : Keeps one c' l.owner (DataOf n) = written_keeps one c' t side l.owner (DataOf n) wrote (is_not (l.owner t) Nobody (DataOf n) first.taken.nobody (nobody_data n)) in
      let side1 : Keeps c one l.owner (SideOf n) = written_keeps c one directory_head claims.remaps.map l.owner (SideOf n) claims.remaps.written (is_not (l.owner directory_head) TheMap (SideOf n) map (map_side n)) in
      let side2 : Keeps one c' l.owner (SideOf n) = written_keeps one c' t side l.owner (SideOf n) wrote (is_not (l.owner t) Nobody (SideOf n) first.taken.nobody (nobody_side n)) in
      let aside : LeavesAside n c l c' l = aside_then n c one c' l l l (aside_written n c one l directory_head claims.remaps.map claims.remaps.written (λ y a z. a.not_map (sym z ∙ map)))
      (aside_written n one c' l t side wrote (λ y a z. a.not_nobody (sym z ∙ first.taken.nobody))) in
      record {
        stage = two.stage;
        taken = two.taken;
        holds = ap (λ (y : Content). y t) wrote ∙ written_there one t side;
        entry = entry_kept c c' l at0.holds.stands.sound.owned (λ p y. (aside Directory (aside_directory n) p y).0) n there;
        data_kept = keeps_then c one c' l.owner (DataOf n) data1 data2;
        listed = λ xs h. listed_kept c c' l.owner (SideOf n) (keeps_then c one c' l.owner (SideOf n) side1 side2) (l.files n).sides xs (at0.holds.stands.sound.owned.sides n there) h;
      }

  -- A SIDE SECTOR BUT THE FIRST GETS IT INTO ITS LIST
  pub side_still_waits : (c c' : Content) (l : Layout) (rs1 : List (List ℕ)) (b1 s1 free i : ℕ) (t : Place) (head side : List ℕ) → At c l rs1 b1 s1 free → IsTaken tracks c l t → c t ≡ Ok side → c (first_side (entry_at c l.directory n)) ≡ Ok head → 0 < i → i < s1
      → IsSideLinked c c' (listed_side head i) i s1 t → SideWaits medium c0 o.holds.layout d uses n o.file w c c' (with_file l n (l.files n) l.owner) rs1 b1 s1 free t side
  side_still_waits c c' l rs1 b1 s1 free i t head side at0 taken waits first some few k =
      let x : Blocks = l.files n in
      let e : List ℕ = entry_at c l.directory n in
      let there : n < slot_count l = slot_in medium c0 d uses n w b s rs o c l rs1 b1 s1 free at0 in
      let lies : FileLies tracks c l n w rs1 b1 s1 = lies_at medium c0 d uses n w b s rs o c l rs1 b1 s1 free at0 in
      let p : Place = listed_side head i in
      let room : i < length x.sides = omega (arith, few, lies.sides) in
      let is : get_or x.sides i directory_head ≡ p = (side_is medium c0 d uses n w b s rs o c l rs1 b1 s1 free i head at0 first room).0 in
      let owned : l.owner p ≡ SideOf n = ap l.owner (sym is) ∙ owned_nth l.owner (SideOf n) x.sides i directory_head (at0.holds.stands.sound.owned.sides n there) room in
      let apart : p ≢ first_side e = λ z. apart_first x.sides i directory_head (sides_distinct tracks c (width_of e) 0 x.sides lies.records.numbered) some room (is ∙ z ∙ sym (ap (λ (ys : List Place). get_or ys 0 directory_head) lies.records.first.1)) in
      let was : bytes_at c p ≡ k.side = ap or_nothing k.reads in
      let bytes : SideLinked k.side k.more = side_linked k.side k.more s1 t k.lists in
      let copy : Copied tracks c c' l (disk_with d n o.file w rs1 b1 s1 free) n = stands_copied tracks c c' l (disk_with d n o.file w rs1 b1 s1 free) n p k.more at0.holds.stands there (record {
        closed = lies.closed;
        relative = lies.relative;
        owned = owned;
        not_first = apart;
        number = bytes.number ∙ ap (λ (ys : List ℕ). get_or ys 2 0) (sym was);
        length_kept = bytes.width ∙ ap (λ (ys : List ℕ). get_or ys 3 0) (sym was);
        blocks_kept = bytes.blocks ∙ ap (λ (ys : List ℕ). named_in 120 (drop 16 ys)) (sym was);
        written = k.written;
      }) in
      let l2 : Layout = with_file l n x l.owner in
      let head_kept : c' directory_head ≡ c directory_head = ap (λ (y : Content). y directory_head) k.written ∙ written_elsewhere c p directory_head k.more (owners_apart l.owner p directory_head (SideOf n) TheMap owned at0.holds.stands.sound.owned.map (side_is_no_map n)) in
      let aside : LeavesAside n c l c' l = aside_written n c c' l p k.more k.written (λ y a z. a.not_side (sym z ∙ owned)) in
      let here : l2.files n ≡ x = blocks_here l.files n x in
      let t_apart : p ≢ t = owners_apart l.owner p t (SideOf n) Nobody owned taken.nobody (λ z. nobody_side n (sym z)) in
      record {
        stage = go_on medium c0 d uses n w b s rs o c c' l l2 rs1 rs1 b1 s1 free b1 s1 free at0 copy.stands refl aside (geometry_elsewhere medium c c' head_kept);
        taken = record { has = taken.has; off_18 = taken.off_18; nobody = taken.nobody; taken = ap (λ (y : Cell). is_free_in (or_nothing y) t) head_kept ∙ taken.taken };
        holds = ap (λ (y : Content). y t) k.written ∙ written_elsewhere c p t k.more t_apart ∙ waits;
        entry = entry_kept c c' l at0.holds.stands.sound.owned (λ y z. (aside Directory (aside_directory n) y z).0) n there;
        data_kept = written_keeps c c' p k.more l.owner (DataOf n) k.written (is_not (l.owner p) (SideOf n) (DataOf n) owned (side_is_no_data n));
        listed = λ xs h. subst (λ (y : Blocks). IsListed c' y.sides xs) (sym here) (copy.listed xs (subst (λ (y : Blocks). IsListed c y.sides xs) here h));
      }

  -- THE FIRST SIDE SECTOR GETS IT INTO ITS LIST
  pub first_linked : (c c' : Content) (l : Layout) (rs1 : List (List ℕ)) (b1 s1 free : ℕ) (t : Place) (head : List ℕ) → At c l rs1 b1 s1 free → t.track ≢ 0 → c (first_side (entry_at c l.directory n)) ≡ Ok head → s1 < 6
      → IsSideLinked c c' (listed_side head 0) 0 s1 t → FirstLinked c c' l n t
  first_linked c c' l rs1 b1 s1 free t head at0 some first few k =
      let x : Blocks = l.files n in
      let there : n < slot_count l = slot_in medium c0 d uses n w b s rs o c l rs1 b1 s1 free at0 in
      let lies : FileLies tracks c l n w rs1 b1 s1 = lies_at medium c0 d uses n w b s rs o c l rs1 b1 s1 free at0 in
      let f : Place = first_side (entry_at c l.directory n) in
      let room : 0 < length x.sides = omega (arith, ap (λ (ys : List Place). length ys) lies.records.first.1) in
      let p_is : listed_side head 0 ≡ f = sym (side_is medium c0 d uses n w b s rs o c l rs1 b1 s1 free 0 head at0 first room).0 ∙ ap (λ (ys : List Place). get_or ys 0 directory_head) lies.records.first.1 in
      let was : bytes_at c f ≡ k.side = ap or_nothing (ap c (sym p_is) ∙ k.reads) in
      let bytes : SideLinked k.side k.more = side_linked k.side k.more s1 t k.lists in
      let old_sides : sides_listed k.side ≡ x.sides = ap sides_listed (sym was) ∙ sym lies.records.listed in
      record {
        more = k.more;
        owned = (subst (λ (ys : List Place). OwnedBy l.owner (SideOf n) ys) lies.records.first.1 (at0.holds.stands.sound.owned.sides n there)).0;
        number = bytes.number ∙ ap (λ (ys : List ℕ). get_or ys 2 0) (sym was);
        width = bytes.width ∙ ap (λ (ys : List ℕ). get_or ys 3 0) (sym was);
        list = sides_more k.side k.more s1 t k.lists few some (ap (λ (ys : List Place). length ys) old_sides ∙ sym lies.sides) ∙ ap (λ (ys : List Place). ys ++ t ∷ []) old_sides;
        blocks = bytes.blocks ∙ ap (λ (ys : List ℕ). named_in 120 (drop 16 ys)) (sym was);
        write = k.written ∙ ap (λ (y : Place). written c y k.more) p_is;
      }

  -- and the file has it
  pub side_joined : (c c' : Content) (l : Layout) (rs1 : List (List ℕ)) (b1 s1 free : ℕ) (t : Place) → At c l rs1 b1 s1 free → l.owner t ≡ Nobody → (k : FirstLinked c c' l n t)
      → HasLayout tracks c' (with_file l n (sided (l.files n) t) (own l.owner t (SideOf n))) (with_slot (disk_with d n o.file w rs1 b1 s1 free) n (slot_of c' (entry_at c l.directory n) (sided (l.files n) t)))
      → SideJoined medium c0 o.holds.layout d uses n o.file w c c' l (with_file l n (sided (l.files n) t) (own l.owner t (SideOf n))) rs1 b1 (s1 + 1) free
  side_joined c c' l rs1 b1 s1 free t at0 nobody k add =
      let x : Blocks = l.files n in
      let e : List ℕ = entry_at c l.directory n in
      let f : Place = first_side e in
      let there : n < slot_count l = slot_in medium c0 d uses n w b s rs o c l rs1 b1 s1 free at0 in
      let lies : FileLies tracks c l n w rs1 b1 s1 = lies_at medium c0 d uses n w b s rs o c l rs1 b1 s1 free at0 in
      let f1 : File = record o.file { held = b1 + s1; body = Records w rs1 b1 s1 } in
      let l3 : Layout = with_file l n (sided x t) (own l.owner t (SideOf n)) in
      let data_kept : Keeps c c' l.owner (DataOf n) = written_keeps c c' f k.more l.owner (DataOf n) k.write (is_not (l.owner f) (SideOf n) (DataOf n) k.owned (side_is_no_data n)) in
      let same_bytes : chain_bytes c' x.data_blocks ≡ chain_bytes c x.data_blocks = bytes_kept c c' l.owner (DataOf n) data_kept x.data_blocks (at0.holds.stands.sound.owned.blocks n there) in
      let list : slices (length (chain_bytes c' x.data_blocks)) w (chain_bytes c' x.data_blocks) ≡ rs1 = ap (λ (ys : List ℕ). slices (length ys) w ys) same_bytes ∙ sym lies.list in
      let slot = slot_grown c c' e x (sided x t) f1 w b1 s1 rs1 rs1 (sym (file_there medium c0 d uses n w b s rs o rs1 b1 s1 free) ∙ at0.holds.stands.describes.slots n there) refl
      (ap (λ (m : ℕ). slices (length (chain_bytes c' x.data_blocks)) m (chain_bytes c' x.data_blocks)) (sym lies.width) ∙ list) in
      let sides_size : length (x.sides ++ t ∷ []) ≡ s1 + 1 = omega (arith, length-append x.sides (t ∷ []), lies.sides) in
      let f3 : File = record o.file { held = b1 + (s1 + 1); body = Records w rs1 b1 (s1 + 1) } in
      let file3 : with_records f1 w rs1 (sided x t) ≡ f3 = λ i. record o.file { held = sym lies.blocks i + sides_size i; body = Records w rs1 (sym lies.blocks i) (sides_size i) } in
      let disk3 : with_slot (disk_with d n o.file w rs1 b1 s1 free) n (slot_of c' e (sided x t)) ≡ disk_with d n o.file w rs1 b1 (s1 + 1) free = ap (with_slot (disk_with d n o.file w rs1 b1 s1 free) n) (slot ∙ ap Some file3) ∙ disk_again d n o.file w rs1 rs1 b1 s1 free b1 (s1 + 1) in
      let head_kept : c' directory_head ≡ c directory_head = ap (λ (y : Content). y directory_head) k.write ∙ written_elsewhere c f directory_head k.more (owners_apart l.owner f directory_head (SideOf n) TheMap k.owned at0.holds.stands.sound.owned.map (side_is_no_map n)) in
      let aside : LeavesAside n c l c' l3 = λ y a z h. (
        written_keeps c c' f k.more l.owner y k.write (λ u. a.not_side (sym u ∙ k.owned)) z h,
        own_elsewhere l.owner t z (SideOf n) (λ u. a.not_nobody (sym h ∙ ap l.owner (sym u) ∙ nobody)) ∙ h,
      ) in
      record {
        stage = go_on medium c0 d uses n w b s rs o c c' l l3 rs1 rs1 b1 s1 free b1 (s1 + 1) free at0 (subst (λ (y : Disk). HasLayout tracks c' l3 y) disk3 add) refl aside (geometry_elsewhere medium c c' head_kept);
        entry = entry_kept c c' l at0.holds.stands.sound.owned (λ y z. (aside Directory (aside_directory n) y z).0) n there;
        bytes = same_bytes;
      }
