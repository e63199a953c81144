-- The second half of a turn: a side sector that has room lists the new block; and what is left where a write of a turn was refused.
use Rattle.std.proofs.Common.{◌≡◌, ◌≢◌, ◌⊎◌, ℕ, ◌+◌, ◌-◌, ◌*◌, ◌/◌, ◌%◌, ◌<◌, ◌≤◌, List, [], ◌∷◌, ◌++◌, length, drop, get_or, Some, Ok, Err, IsOk, refl, sym, ap, subst, ◌∙◌, arith, inl, inr}
use Rattle.std.specs.Prelude.{replicate}
use Rattle.std.proofs.lemmas.List.{get_or-drop, get_or_at}
use Rattle.cbm_medium.specs.Place.{Place, Has, directory_head}
use Rattle.cbm_medium.specs.Content.{Cell, Content}
use Rattle.cbm_medium.specs.Links.{bytes_at, or_nothing}
use Rattle.cbm_medium.specs.Seen.{Seen}
use Rattle.cbm_medium.specs.declared.fault.Trouble.{Trouble}
use Rattle.cbm_medium.proofs.Places.{written_elsewhere}
use Rattle.cbm_file.specs.Files.{Disk, Records, with_slot}
use Rattle.cbm_file.specs.Records.{fresh_record}
use Rattle.cbm_bam.specs.Map.{geometry_of}
use Rattle.cbm_bam.specs.Causes.{HasCause}
use Rattle.cbm_chain.specs.Data.{chain_bytes}
use Rattle.cbm_directory.specs.Entries.{entry_at, first_block, first_side, width_of}
use Rattle.cbm_relfile.specs.Changing.{IsWriteRefused}
use Rattle.cbm_relfile.specs.Growing.{ListsMore, IsBlockListed, IsListStopped, IsBegun, IsLengthenStopped}
use Rattle.cbm_relfile.specs.Records.{Relative}
use Rattle.cbm_relfile.specs.SideSectors.{named_in, sides_listed, listed_side}
use Rattle.cbm_relfile.proofs.Lengthened.{IsSide, named_nth, numbered_nth}
use Rattle.cbm_volume.specs.Blocks.{Blocks}
use Rattle.cbm_volume.specs.Growth.{filled_up, IsGrowthCut}
use Rattle.cbm_volume.specs.Growing.{disk_with, listed_by, IsListed, LeavesAside, HasGrown, HasLonger, IsGrowthStopped}
use Rattle.cbm_volume.specs.Layouts.{Nobody, TheMap, Directory, DataOf, SideOf, Layout, slot_count, Sound}
use Rattle.cbm_volume.specs.Opens.{IsHindered}
use Rattle.cbm_volume.specs.RecordWrites.{HasRecordsOpen}
use Rattle.cbm_volume.specs.Writers.{Use, HoldsNow}
use Rattle.cbm_volume.proofs.layouts.Chained.{chain_has, chain_reads}
use Rattle.cbm_volume.proofs.layouts.Frames.{Keeps, bytes_kept, owned_nth}
use Rattle.cbm_volume.proofs.grown.GrowingSteps.{Stage, go_on, claimed, claimed_written, stop_of, aside_directory, aside_written}
use Rattle.cbm_volume.proofs.grown.GrowingTurns.{FileLies, lies_at, slot_in, is_not, owners_apart}
use Rattle.cbm_volume.proofs.layouts.Loose.{entry_kept}
use Rattle.cbm_volume.proofs.layouts.OneSlot.{with_file, blocks_here}
use Rattle.cbm_volume.proofs.layouts.Refusals.{write_hindered, sector_hindered, hindered_since}
use Rattle.cbm_volume.proofs.relative.Named.{named_same, named_push, listed_nth}
use Rattle.cbm_volume.proofs.relative.Sides.{Pushed, stands_pushed}
use Rattle.cbm_volume.proofs.written.Storing.{geometry_elsewhere}
use Rattle.cbm_volume.proofs.layouts.Writers.{written_keeps}

side_map : (n : ℕ) → SideOf n ≢ TheMap
side_map n = λ z. (cc)

side_data : (n : ℕ) → SideOf n ≢ DataOf n
side_data n = λ z. (cc)

-- ---- the bytes of a side sector that lists one more

pub record SideMore (old : List ℕ) (q : Place) (new : List ℕ) : Type 0 where
  pub number : get_or new 2 0 ≡ get_or old 2 0
  pub width : get_or new 3 0 ≡ get_or old 3 0
  pub sides : sides_listed new ≡ sides_listed old
  pub blocks : named_in 120 (drop 16 new) ≡ named_in 120 (drop 16 old) ++ q ∷ []

pub side_more : (old new : List ℕ) (k : ℕ) (q : Place) → ListsMore old k q new → k < 120 → q.track ≢ 0 → length (named_in 120 (drop 16 old)) ≡ k → SideMore old q new
side_more old new k q h few some size = record {
  number = h.front 2 (omega arith) (omega arith);
  width = h.front 3 (omega arith) (omega arith);
  sides = named_same 6 (drop 4 new) (drop 4 old) (λ i l. get_or-drop 4 new i 0 ∙ h.front (4 + i) (omega arith) (omega (arith, l)) ∙ sym (get_or-drop 4 old i 0));
  blocks = named_push 120 k (drop 16 old) (drop 16 new) q size few some
      (λ i l. get_or-drop 16 new i 0 ∙ h.front (16 + i) (omega arith) (omega (arith, l)) ∙ sym (get_or-drop 16 old i 0))
      (get_or-drop 16 new (2 * k) 0 ∙ h.track)
      (get_or-drop 16 new (2 * k + 1) 0 ∙ (let e : 16 + (2 * k + 1) ≡ 17 + 2 * k = omega arith in ap (λ (i : ℕ). get_or new i 0) e) ∙ h.sector)
      (λ l. get_or-drop 16 new (2 * k + 2) 0 ∙ h.zeros (16 + (2 * k + 2)) (omega arith));
}

module _ (medium : ℕ) (c0 : Content) (d : Disk) (uses : ℕ → Use) (n w b s : ℕ) (rs : List (List ℕ)) (o : HasRecordsOpen medium c0 d uses n w b s rs) where
  abbrev pub tracks : ℕ
  tracks = geometry_of medium c0

  abbrev pub At : Content → Layout → List (List ℕ) → ℕ → ℕ → ℕ → Type 0
  At c l rs1 b1 s1 free = Stage medium c0 o.holds.layout d uses n o.file w c l rs1 b1 s1 free

  pub longer_stage : (r : Relative) (c : Content) (b1 s1 : ℕ) (q : Place) → (g : HasLonger medium c0 d uses n w b s rs o r c b1 s1 q) → At c g.layout (filled_up w (b1 + 1) rs) (b1 + 1) s1 (d.free - (b1 + 1 + s1 - (b + s)))
  longer_stage r c b1 s1 q g = record { holds = g.holds; same = g.same; count = g.count; aside = g.aside }

  -- the side sector of a number, as the code finds it
  pub side_is : (c : Content) (l : Layout) (rs1 : List (List ℕ)) (b1 s1 free i : ℕ) (head : List ℕ) → At c l rs1 b1 s1 free → c (first_side (entry_at c l.directory n)) ≡ Ok head → i < length (l.files n).sides
      → (get_or (l.files n).sides i directory_head ≡ listed_side head i) × IsSide tracks c (width_of (entry_at c l.directory n)) i (listed_side head i)
  side_is c l rs1 b1 s1 free i head h holds few =
      let lies : FileLies tracks c l n w rs1 b1 s1 = lies_at medium c0 d uses n w b s rs o c l rs1 b1 s1 free h in
      let sides : (l.files n).sides ≡ sides_listed head = lies.records.listed ∙ ap (λ (x : Cell). sides_listed (or_nothing x)) holds in
      let is : get_or (l.files n).sides i directory_head ≡ listed_side head i = ap (λ (ys : List Place). get_or ys i directory_head) sides
      ∙ named_nth 6 4 i head directory_head (omega (arith, few, ap (λ (ys : List Place). length ys) sides)) in
      let at = numbered_nth tracks c (width_of (entry_at c l.directory n)) 0 (l.files n).sides i directory_head lies.records.numbered few in
      (is, record { has = subst (λ (p : Place). Has tracks p) is at.has; reads = subst (λ (p : Place). IsOk (c p)) is at.reads })

  -- ---- THE NEW BLOCK IS LISTED
  pub turn_listed : (r : Relative) (c c' : Content) (b1 s1 : ℕ) (q : Place) (head : List ℕ) → HasLonger medium c0 d uses n w b s rs o r c b1 s1 q → b1 < 120 * s1 → c r.side ≡ Ok head → q.track ≢ 0
      → IsBlockListed c c' (listed_side head (b1 / 120)) (b1 % 120) q → HasGrown medium c0 d uses n w b s rs o r c' (b1 + 1) s1 q
  turn_listed r c c' b1 s1 q head g room holds some k =
      let l : Layout = g.layout in
      let x : Blocks = l.files n in
      let rs2 : List (List ℕ) = filled_up w (b1 + 1) rs in
      let free : ℕ = d.free - (b1 + 1 + s1 - (b + s)) in
      let at0 : At c l rs2 (b1 + 1) s1 free = longer_stage r c b1 s1 q g in
      let there : n < slot_count l = slot_in medium c0 d uses n w b s rs o c l rs2 (b1 + 1) s1 free at0 in
      let lies : FileLies tracks c l n w rs2 (b1 + 1) s1 = lies_at medium c0 d uses n w b s rs o c l rs2 (b1 + 1) s1 free at0 in
      let few : length g.blocks < 120 * length x.sides = omega (arith, room, g.number, lies.sides) in
      let nth : length g.blocks / 120 ≡ b1 / 120 = ap (λ (m : ℕ). m / 120) g.number in
      let t : Place = listed_side head (b1 / 120) in
      let first : c (first_side (entry_at c l.directory n)) ≡ Ok head = ap (λ (y : Relative). c y.side) (sym g.file) ∙ holds in
      let side = side_is c l rs2 (b1 + 1) s1 free (b1 / 120) head at0 first (omega (arith, room, lies.sides)) in
      let which : t ≡ get_or x.sides (length g.blocks / 120) directory_head = sym (ap (λ (i : ℕ). get_or x.sides i directory_head) nth ∙ side.0) in
      let owned : l.owner t ≡ SideOf n = ap l.owner (sym side.0) ∙ owned_nth l.owner (SideOf n) x.sides (b1 / 120) directory_head (at0.holds.stands.sound.owned.sides n there) (omega (arith, room, lies.sides)) in
      let was : bytes_at c t ≡ k.side = ap or_nothing k.reads in
      let size : length (named_in 120 (drop 16 k.side)) ≡ b1 % 120 = ap (λ (ys : List ℕ). length (named_in 120 (drop 16 ys))) (sym was) ∙ ap (λ (p : Place). length (listed_by c p)) which ∙ listed_nth c x.sides g.blocks directory_head g.listed few ∙ ap (λ (m : ℕ). m % 120) g.number in
      let more : SideMore k.side q k.more = side_more k.side k.more (b1 % 120) q k.lists (omega arith) some size in
      let push : Pushed tracks c' l (disk_with d n o.file w rs2 (b1 + 1) s1 free) n = stands_pushed tracks c c' l (disk_with d n o.file w rs2 (b1 + 1) s1 free) n g.blocks q t k.more at0.holds.stands there (record {
        closed = lies.closed;
        relative = lies.relative;
        blocks = g.all;
        listed = g.listed;
        room = few;
        side = which;
        number = more.number ∙ ap (λ (ys : List ℕ). get_or ys 2 0) (sym was);
        length_kept = more.width ∙ ap (λ (ys : List ℕ). get_or ys 3 0) (sym was);
        list = more.sides ∙ ap (λ (ys : List ℕ). sides_listed ys) (sym was);
        more = more.blocks ∙ ap (λ (ys : List ℕ). named_in 120 (drop 16 ys) ++ q ∷ []) (sym was);
        written = k.written;
      }) in
      let l2 : Layout = with_file l n x l.owner in
      let head_kept : c' directory_head ≡ c directory_head = ap (λ (y : Content). y directory_head) k.written ∙ written_elsewhere c t directory_head k.more (owners_apart l.owner t directory_head (SideOf n) TheMap owned at0.holds.stands.sound.owned.map (side_map n)) in
      let data_kept : Keeps c c' l.owner (DataOf n) = written_keeps c c' t k.more l.owner (DataOf n) k.written (is_not (l.owner t) (SideOf n) (DataOf n) owned (side_data n)) in
      let aside : LeavesAside n c l c' l = aside_written n c c' l t k.more k.written (λ y a z. a.not_side (sym z ∙ owned)) in
      let at1 : At c' l2 rs2 (b1 + 1) s1 free = go_on medium c0 d uses n w b s rs o c c' l l2 rs2 rs2 (b1 + 1) s1 free (b1 + 1) s1 free at0 push.stands refl aside (geometry_elsewhere medium c c' head_kept) in
      let here : l2.files n ≡ x = blocks_here l.files n x in
      let entry : entry_at c' l.directory n ≡ entry_at c l.directory n = entry_kept c c' l at0.holds.stands.sound.owned (λ p y. (aside Directory (aside_directory n) p y).0) n there in
      let index : b1 + 1 - 1 ≡ length g.blocks = omega (arith, g.number) in
      record {
        layout = l2;
        holds = at1.holds;
        same = at1.same;
        count = at1.count;
        file = g.file ∙ ap (λ (e : List ℕ). record { first = first_block e; side = first_side e; width = w }) (sym entry);
        listed = subst (λ (y : Blocks). IsListed c' y.sides y.data_blocks) (sym here) push.listed;
        full = ap (λ (y : Blocks). length (chain_bytes c' y.data_blocks)) here ∙ ap (λ (ys : List ℕ). length ys) (bytes_kept c c' l.owner (DataOf n) data_kept x.data_blocks (at0.holds.stands.sound.owned.blocks n there)) ∙ g.full;
        last_is = (λ i. get_or (here i).data_blocks (index i) directory_head) ∙ ap (λ (ys : List Place). get_or ys (length g.blocks) directory_head) g.all ∙ get_or_at g.blocks q [] directory_head (length g.blocks) refl;
        more = (omega (arith, g.more.0), g.more.1);
        aside = at1.aside;
      }

-- ---- a write of a turn was refused

-- what was begun: the same disk, with a block less that is free or not
record BegunStage (medium : ℕ) (c0 : Content) (d : Disk) (uses : ℕ → Use) (n w b s : ℕ) (rs : List (List ℕ)) (o : HasRecordsOpen medium c0 d uses n w b s rs) (c c' : Content) (l : Layout) (rs1 : List (List ℕ)) (b1 s1 : ℕ) : Type 0 where
  pub free : ℕ
  pub stage : Stage medium c0 o.holds.layout d uses n o.file w c' l rs1 b1 s1 free
  pub kept : (p : Place) → l.owner p ≢ TheMap → l.owner p ≢ Nobody → c' p ≡ c p

begun_stage : (medium : ℕ) (c0 : Content) (d : Disk) (uses : ℕ → Use) (n w b s : ℕ) (rs : List (List ℕ)) (o : HasRecordsOpen medium c0 d uses n w b s rs) (c c' : Content) (l : Layout) (rs1 : List (List ℕ)) (b1 s1 free : ℕ)
    → Stage medium c0 o.holds.layout d uses n o.file w c l rs1 b1 s1 free → IsBegun (geometry_of medium c0) c c' → BegunStage medium c0 d uses n w b s rs o c c' l rs1 b1 s1
begun_stage medium c0 d uses n w b s rs o c c' l rs1 b1 s1 free h (inl e) =
    record { free = free; stage = subst (λ (x : Content). Stage medium c0 o.holds.layout d uses n o.file w x l rs1 b1 s1 free) (sym e) h; kept = λ p nm ne. ap (λ (x : Content). x p) e }
begun_stage medium c0 d uses n w b s rs o c c' l rs1 b1 s1 free h (inr (q, one, k, inl e)) =
    let st = claimed medium c0 d uses n w b s rs o c one l rs1 b1 s1 free q h k in
    record {
      free = free - 1;
      stage = subst (λ (x : Content). Stage medium c0 o.holds.layout d uses n o.file w x l rs1 b1 s1 (free - 1)) (sym e) st.stage;
      kept = λ p nm ne. ap (λ (x : Content). x p) (e ∙ k.remaps.written) ∙ written_elsewhere c directory_head p k.remaps.map (λ z. nm (ap l.owner (sym z) ∙ h.holds.stands.sound.owned.map));
    }
begun_stage medium c0 d uses n w b s rs o c c' l rs1 b1 s1 free h (inr (q, one, k, inr (bytes, e))) =
    let st = claimed medium c0 d uses n w b s rs o c one l rs1 b1 s1 free q h k in
    let after = claimed_written medium c0 d uses n w b s rs o one c' l rs1 b1 s1 (free - 1) q q bytes st st.taken.nobody e in
    record {
      free = free - 1;
      stage = after.stage;
      kept = λ p nm ne. ap (λ (x : Content). x p) e ∙ written_elsewhere one q p bytes (λ z. ne (ap l.owner (sym z) ∙ st.taken.nobody))
          ∙ ap (λ (x : Content). x p) k.remaps.written ∙ written_elsewhere c directory_head p k.remaps.map (λ z. nm (ap l.owner (sym z) ∙ h.holds.stands.sound.owned.map));
    }

refused_hindered : (size : ℕ) (mid new : Seen) (l : Layout) (t : Trouble) → Sound size mid.content l → IsWriteRefused size mid new t.code → IsHindered mid new t
refused_hindered size mid new l t s (inl (p, has, refused)) = write_hindered size mid new l p t s has (inl refused)
refused_hindered size mid new l t s (inr failed) = inr failed

-- A CLAIM OR A WRITE AFTER IT WAS REFUSED, at a sector of the file that reads
pub begun_cut : (old new : Seen) (c0 : Content) (d : Disk) (uses : ℕ → Use) (n w b s : ℕ) (rs : List (List ℕ)) (o : HasRecordsOpen old.tracks c0 d uses n w b s rs) (l : Layout) (j b1 s1 free : ℕ) (p : Place) (t : Trouble)
    → Stage old.tracks c0 o.holds.layout d uses n o.file w old.content l (rs ++ replicate j (fresh_record w)) b1 s1 free → l.owner p ≢ TheMap → l.owner p ≢ Nobody → IsOk (old.content p) → IsLengthenStopped (geometry_of old.tracks c0) old new p t.code → IsGrowthStopped old new c0 o.holds.layout d uses n w rs t
begun_cut old new c0 d uses n w b s rs o l j b1 s1 free p t h nm ne reads k =
    let mid : BegunStage old.tracks c0 d uses n w b s rs o old.content k.mid.content l (rs ++ replicate j (fresh_record w)) b1 s1 = begun_stage old.tracks c0 d uses n w b s rs o old.content k.mid.content l (rs ++ replicate j (fresh_record w)) b1 s1 free h k.before in
    let ok : IsOk (k.mid.content p) = subst (λ (x : Cell). IsOk x) (sym (mid.kept p nm ne)) reads in
    stop_of old new c0 d uses n w o.file rs o.holds.layout k.mid.content l j b1 s1 mid.free t o.in_slot mid.stage k.same (hindered_since old k.mid new t k.protected k.counted (by_cause mid.stage.holds.stands.sound ok k.cause))
  where
    by_cause : Sound (geometry_of old.tracks c0) k.mid.content l → IsOk (k.mid.content p) → (k.mid.content p ≡ Err t.code) ⊎ (HasCause k.mid new directory_head t.code ⊎ IsWriteRefused (geometry_of old.tracks c0) k.mid new t.code) → IsHindered k.mid new t
    by_cause snd ok (inl e) = absurd (let z = subst (λ (x : Cell). IsOk x) e ok in (cc))
    by_cause snd ok (inr (inl hc)) = sector_hindered k.mid new directory_head t snd.map_reads hc
    by_cause snd ok (inr (inr x)) = refused_hindered (geometry_of old.tracks c0) k.mid new l t snd x

-- a write of a side sector was refused
pub list_cut : (old new : Seen) (c0 : Content) (d : Disk) (uses : ℕ → Use) (n w b s : ℕ) (rs : List (List ℕ)) (o : HasRecordsOpen old.tracks c0 d uses n w b s rs) (l : Layout) (j b1 s1 free : ℕ) (t : Trouble)
    → Stage old.tracks c0 o.holds.layout d uses n o.file w old.content l (rs ++ replicate j (fresh_record w)) b1 s1 free → IsListStopped (geometry_of old.tracks c0) old new t.code → IsGrowthStopped old new c0 o.holds.layout d uses n w rs t
list_cut old new c0 d uses n w b s rs o l j b1 s1 free t h k =
    stop_of old new c0 d uses n w o.file rs o.holds.layout old.content l j b1 s1 free t o.in_slot h k.0 (refused_hindered (geometry_of old.tracks c0) old new l t h.holds.stands.sound k.1)

-- what cuts a later part of a growth cuts the growth
pub cut_later : (old mid new : Seen) (d : Disk) (uses : ℕ → Use) (n w : ℕ) (rs : List (List ℕ)) (t : Trouble) → mid.tracks ≡ old.tracks → mid.protected ≡ old.protected → old.failures ≤ mid.failures → IsGrowthCut mid new d uses n w rs t → IsGrowthCut old new d uses n w rs t
cut_later old mid new d uses n w rs t same protected counted k = record {
  file = k.file;
  in_slot = k.in_slot;
  so_far = k.so_far;
  blocks = k.blocks;
  sides = k.sides;
  shown = k.shown;
  free = k.free;
  holds = subst (λ (x : ℕ). HoldsNow x new.content (record (with_slot d n (Some (record k.file { shown = k.shown; held = k.blocks + k.sides; body = Records w (rs ++ replicate k.so_far (fresh_record w)) k.blocks k.sides }))) { free = k.free }) uses) same k.holds;
  cause = hindered_since old mid new t protected counted k.cause;
}

-- the same of a stop
pub stop_later : (old mid new : Seen) (c0 : Content) (l0 : Layout) (d : Disk) (uses : ℕ → Use) (n w : ℕ) (rs : List (List ℕ)) (t : Trouble) → mid.tracks ≡ old.tracks → mid.protected ≡ old.protected → old.failures ≤ mid.failures
    → IsGrowthStopped mid new c0 l0 d uses n w rs t → IsGrowthStopped old new c0 l0 d uses n w rs t
stop_later old mid new c0 l0 d uses n w rs t same protected counted k = (cut_later old mid new d uses n w rs t same protected counted k.0, k.1)

-- ---- what the calls of a turn answer

-- the last block of a file is one of the disk, and reads
pub record LastBlock (size : ℕ) (c : Content) (l : Layout) (n : ℕ) (p : Place) : Type 0 where
  pub has : Has size p
  pub off_18 : p.track ≢ 18
  pub reads : IsOk (c p)
  pub owned : l.owner p ≡ DataOf n

pub nth_block : (size : ℕ) (c : Content) (l : Layout) (n w : ℕ) (rs : List (List ℕ)) (b s i : ℕ) (p : Place) → Sound size c l → n < slot_count l → FileLies size c l n w rs b s → i < length (l.files n).data_blocks → get_or (l.files n).data_blocks i directory_head ≡ p → LastBlock size c l n p
nth_block size c l n w rs b s i p snd there lies few e =
    let owned : l.owner p ≡ DataOf n = ap l.owner (sym e) ∙ owned_nth l.owner (DataOf n) (l.files n).data_blocks i directory_head (snd.owned.blocks n there) few in
    record {
      has = subst (λ (x : Place). Has size x) e (chain_has size c (first_block (entry_at c l.directory n)) (l.files n).data_blocks i directory_head lies.chain few);
      off_18 = λ z. (snd.owned.off_18 p z n).0 owned;
      reads = subst (λ (x : Place). IsOk (c x)) e (chain_reads size c (first_block (entry_at c l.directory n)) (l.files n).data_blocks i directory_head lies.chain few);
      owned = owned;
    }
