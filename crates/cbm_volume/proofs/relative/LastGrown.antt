-- The last data block of a file with open records is filled up: the medium holds the disk on which the file has grown so far.
use Rattle.std.proofs.Common.{◌≡◌, ◌≢◌, ◌⊎◌, ℕ, ◌+◌, ◌-◌, ◌*◌, ◌/◌, ◌<◌, ◌≤◌, List, ◌++◌, length, set, Bool, true, false, Some, None, Ok, Err, Result, refl, sym, ap, subst, ◌∙◌, arith, inl, inr, IsOk}
use Rattle.std.specs.Prelude.{◌&&◌, ◌==◌, MatchResult, replicate, if◌then◌else◌}
use Rattle.std.proofs.lemmas.Bool.{cases_eq}
use Rattle.std.proofs.lemmas.List.{append-nil, set-get_or, set-set}
use mathlib.Core.Path.{fun_ext}
use Rattle.cbm_medium.specs.Place.{Place, directory_head, sector_count}
use Rattle.cbm_medium.specs.Content.{Content, written}
use Rattle.cbm_medium.specs.Links.{Chain}
use Rattle.cbm_medium.specs.Seen.{Seen}
use Rattle.cbm_medium.specs.declared.fault.Trouble.{Trouble}
use Rattle.cbm_file.specs.Files.{Disk, File, Records, file_at, with_slot}
use Rattle.cbm_file.specs.Records.{record_count, fresh_record}
use Rattle.cbm_bam.specs.Map.{geometry_of}
use Rattle.cbm_chain.specs.Data.{chain_bytes}
use Rattle.cbm_relfile.specs.Records.{AllWhole, IsLaid, Relative}
use Rattle.cbm_relfile.specs.Changing.{IsWriteRefused}
use Rattle.cbm_relfile.specs.Filling.{fresh_begin, IsTailFilled, IsEndFilled, IsFilledUp, IsFillStopped}
use Rattle.cbm_relfile.proofs.Filled.{begins_late}
use Rattle.cbm_relfile.proofs.Positions.{chain_least, chain_most}
use Rattle.cbm_directory.specs.Entries.{entry_at, first_block, first_side, is_closed, is_relative, type_byte, width_of}
use Rattle.cbm_volume.specs.Blocks.{Blocks, Lies, HasRecords, file_of, slot_of, slices}
use Rattle.cbm_volume.specs.Layouts.{Owner, TheMap, Directory, DataOf, SideOf, Layout, slot_count, with_blocks, HasLayout}
use Rattle.cbm_volume.specs.Writers.{Use, HoldsAt}
use Rattle.cbm_volume.specs.RecordWrites.{HasRecordsOpen}
use Rattle.cbm_volume.specs.Growth.{filled_up, IsGrowthCut}
use Rattle.cbm_volume.specs.Growing.{IsListed, disk_with, LeavesAside, HasGrown}
use Rattle.cbm_volume.specs.Opens.{IsHindered}
use Rattle.cbm_volume.proofs.layouts.Frames.{Keeps, owned_nth, records_kept}
use Rattle.cbm_volume.proofs.grown.GrowingSteps.{Stage, go_on, slot_there, file_there, aside_written, cut_of}
use Rattle.cbm_volume.proofs.layouts.Lengths.{file_length}
use Rattle.cbm_volume.proofs.layouts.Listing.{geometry_size, body_of}
use Rattle.cbm_volume.proofs.layouts.Loose.{entry_kept}
use Rattle.cbm_volume.proofs.layouts.OneSlot.{with_file, blocks_here, blocks_other}
use Rattle.cbm_volume.proofs.records_made.RecordsPut.{HasBlocks, has_blocks, inside_only}
use Rattle.cbm_volume.specs.RecordFaults.{relative_of}
use Rattle.cbm_volume.proofs.held.RecordsRead.{IsBody, is_body, both, lies_so}
use Rattle.cbm_volume.proofs.layouts.Refusals.{write_hindered}
use Rattle.cbm_volume.proofs.layouts.Steps.{extends_itself}
use Rattle.cbm_volume.proofs.written.Storing.{geometry_elsewhere}
use Rattle.cbm_volume.proofs.layouts.Writers.{keeps_then}
use Rattle.cbm_volume.proofs.relative.FilledUp.{slices_count, filled_records, same_records}
use Rattle.cbm_volume.proofs.relative.GrownFile.{with_records, slot_grown}
use Rattle.cbm_volume.proofs.relative.Inside.{stands_inside}
use Rattle.cbm_volume.proofs.relative.LastFilled.{nth, TailDone, tail_done, end_done}
use Rattle.cbm_volume.proofs.relative.Longer as longer
use Rattle.cbm_volume.proofs.relative.OneBlock.{listed_kept}

-- ---- the file in the slot

-- what lies in a slot with records
pub record LiesInSlot (tracks : ℕ) (c : Content) (l : Layout) (n : ℕ) (f : File) (w b s : ℕ) (rs : List (List ℕ)) : Type 0 where
  pub closed : is_closed (entry_at c l.directory n) ≡ true
  pub relative : is_relative (entry_at c l.directory n) ≡ true
  pub width : w ≡ width_of (entry_at c l.directory n)
  pub records : slices (length (chain_bytes c (l.files n).data_blocks)) w (chain_bytes c (l.files n).data_blocks) ≡ rs
  pub chain : Chain tracks c (first_block (entry_at c l.directory n)) (l.files n).data_blocks
  pub has : HasRecords tracks c (entry_at c l.directory n) (l.files n)
  pub blocks : HasBlocks f (l.files n) b s

pub lies_in_slot : (tracks : ℕ) (c : Content) (l : Layout) (d : Disk) (n : ℕ) (f : File) (w b s : ℕ) (rs : List (List ℕ)) → HasLayout tracks c l d → n < slot_count l → file_at d n ≡ Some f → f.body ≡ Records w rs b s → LiesInSlot tracks c l n f w b s rs
lies_in_slot tracks c l d n f w b s rs st there at is =
    let e : List ℕ = entry_at c l.directory n in
    let x : Blocks = l.files n in
    let bytes : List ℕ = chain_bytes c x.data_blocks in
    let file : f ≡ file_of bytes e x = not_empty (type_byte e == 0) f (file_of bytes e x) (sym at ∙ st.describes.slots n there) in
    let body : IsBody (is_closed e && is_relative e) bytes e w rs = is_body (is_closed e && is_relative e) bytes e x w b s rs (sym (body_of bytes e x) ∙ ap (λ (y : File). y.body) (sym file) ∙ is) in
    let kind = both (is_closed e) (is_relative e) body.relative in
    let lies = lies_so (is_closed e) (is_relative e) tracks c e x kind.0 kind.1 (st.sound.lies n there) in
    record {
      closed = kind.0;
      relative = kind.1;
      width = body.width;
      records = ap (λ (m : ℕ). slices (length bytes) m bytes) body.width ∙ sym body.records;
      chain = lies.0;
      has = lies.1;
      blocks = has_blocks bytes e x f w b s rs (sym (st.describes.slots n there) ∙ at) is;
    }
  where
    not_empty : (t : Bool) (y z : File) → Some y ≡ (if t then None else Some z) → y ≡ z
    not_empty true y z h = absurd (cc)
    not_empty false y z h = cc

-- the layout with the blocks that a slot has is the same
same_layout : (l : Layout) (n : ℕ) → with_file l n (l.files n) l.owner ≡ l
same_layout l n = (λ i. record l { files = fun_ext by_slot i })
  where
    by_slot : (m : ℕ) → with_blocks l.files n (l.files n) m ≡ l.files m
    by_slot m = elim (cases_eq m n) [
      | inl e ↦ subst (λ (k : ℕ). with_blocks l.files n (l.files n) k ≡ l.files k) (sym e) (blocks_here l.files n (l.files n))
      | inr ne ↦ blocks_other l.files n m (l.files n) ne
    ]

-- A DATA BLOCK OF A FILE IS WRITTEN, and its blocks are still a chain
stands_chained : (tracks : ℕ) (c c' : Content) (l : Layout) (d : Disk) (n i : ℕ) (new : List ℕ) → HasLayout tracks c l d → n < slot_count l → is_closed (entry_at c l.directory n) ≡ true → is_relative (entry_at c l.directory n) ≡ true
    → i < length (l.files n).data_blocks → c' ≡ written c (nth (l.files n).data_blocks i) new → Chain tracks c' (first_block (entry_at c l.directory n)) (l.files n).data_blocks
    → HasLayout tracks c' l (with_slot d n (slot_of c' (entry_at c l.directory n) (l.files n)))
stands_chained tracks c c' l d n i new s k closed relative there e chain =
    let entry : List ℕ = entry_at c l.directory n in
    let b : Blocks = l.files n in
    let p : Place = nth b.data_blocks i in
    let was : longer.LiesRelative tracks c entry b = longer.lies_open (is_closed entry) (is_relative entry) tracks c entry b closed relative (s.sound.lies n k) in
    let owned : l.owner p ≡ DataOf n = owned_nth l.owner (DataOf n) b.data_blocks i directory_head (s.sound.owned.blocks n k) there in
    let keep : Keeps c c' l.owner (SideOf n) = inside_only c c' l.owner n p new owned e (SideOf n) (λ z. (cc)) in
    let lies : Lies tracks c' entry b = longer.lies_so (is_closed entry) (is_relative entry) tracks c' entry b closed relative
    (record { chain = chain; records = records_kept tracks c c' l.owner (SideOf n) entry b keep (s.sound.owned.sides n k) was.records }) in
    subst (λ (m : Layout). HasLayout tracks c' m (with_slot d n (slot_of c' entry b))) (same_layout l n)
    (stands_inside tracks c c' l d n p new b l.owner s k (inl owned) e lies (extends_itself l n s.sound.owned) (s.sound.owned.blocks n k) (s.sound.owned.sides n k) s.sound.free)

-- ---- the steps

module _ (medium : ℕ) (c0 : Content) (d : Disk) (uses : ℕ → Use) (n w b s : ℕ) (rs : List (List ℕ)) (o : HasRecordsOpen medium c0 d uses n w b s rs) where
  abbrev pub tracks : ℕ
  tracks = geometry_of medium c0

  abbrev pub l0 : Layout
  l0 = o.holds.layout

  abbrev pub xs : List Place
  xs = (o.holds.layout.files n).data_blocks

  abbrev pub Now : Content → List (List ℕ) → Type 0
  Now c rs1 = Stage medium c0 o.holds.layout d uses n o.file w c o.holds.layout rs1 b s d.free

  pub in_layout : n < slot_count l0
  in_layout = (let room = slot_there medium c0 d uses n w b s rs o in omega (arith, room, o.holds.so.stands.describes.size))

  pub lies : LiesInSlot tracks c0 l0 n o.file w b s rs
  lies = lies_in_slot tracks c0 l0 d n o.file w b s rs o.holds.so.stands in_layout o.in_slot o.body

  -- the call begins at the disk as it is
  pub same_disk : disk_with d n o.file w rs b s d.free ≡ d
  same_disk =
      let held : o.file.held ≡ b + s = lies.blocks.held ∙ (λ j. sym lies.blocks.blocks j + sym lies.blocks.sides j) in
      (λ i. with_slot d n (Some (record o.file { held = sym held i; body = sym o.body i })))
      ∙ ap (with_slot d n) (sym o.in_slot)
      ∙ (λ i. record d { slots = set-get_or d.slots n None i })

  pub begins : Now c0 rs
  begins = record {
    holds = subst (λ (x : Disk). HoldsAt tracks c0 l0 x uses) (sym same_disk) o.holds.so;
    same = refl;
    count = refl;
    aside = λ a h p e. (refl, e);
  }

  -- the entry is as it was
  pub entry_stays : (c : Content) (rs1 : List (List ℕ)) → Now c rs1 → entry_at c l0.directory n ≡ entry_at c0 l0.directory n
  entry_stays c rs1 h = entry_kept c0 c l0 o.holds.so.stands.sound.owned (λ p e. (h.aside Directory (record { not_nobody = λ z. (cc); not_map = λ z. (cc); not_data = λ z. (cc); not_side = λ z. (cc) }) p e).0) n in_layout

  -- a stage, and that only data blocks of the file were written
  pub record Refilled (c : Content) (rs1 : List (List ℕ)) : Type 0 where
    pub stage : Now c rs1
    pub keeps : (x : Owner) → x ≢ DataOf n → Keeps c0 c l0.owner x

  pub refilled_none : Refilled c0 rs
  refilled_none = record { stage = begins; keeps = λ x ne p e. refl }

  -- ONE OF ITS BLOCKS IS WRITTEN, and its blocks are still a chain
  pub refill : (c c' : Content) (rs1 rs2 : List (List ℕ)) (i : ℕ) (new : List ℕ) → Refilled c rs1 → i < length xs → c' ≡ written c (nth xs i) new → Chain tracks c' (first_block (entry_at c0 l0.directory n)) xs
      → slices (length (chain_bytes c' xs)) w (chain_bytes c' xs) ≡ rs2 → Refilled c' rs2
  refill c c' rs1 rs2 i new h there e chain sl =
      let d1 : Disk = disk_with d n o.file w rs1 b s d.free in
      let f1 : File = record o.file { held = b + s; body = Records w rs1 b s } in
      let st : HasLayout tracks c l0 d1 = h.stage.holds.stands in
      let entry : List ℕ = entry_at c l0.directory n in
      let same : entry ≡ entry_at c0 l0.directory n = entry_stays c rs1 h.stage in
      let at = file_there medium c0 d uses n w b s rs o rs1 b s d.free in
      let was = lies_in_slot tracks c l0 d1 n f1 w b s rs1 st in_layout at refl in
      let p : Place = nth xs i in
      let owned : l0.owner p ≡ DataOf n = owned_nth l0.owner (DataOf n) xs i directory_head (st.sound.owned.blocks n in_layout) there in
      let now = stands_chained tracks c c' l0 d1 n i new st in_layout was.closed was.relative there e (subst (λ (y : List ℕ). Chain tracks c' (first_block y) xs) (sym same) chain) in
      let file : slot_of c' entry (l0.files n) ≡ Some (with_records f1 w rs2 (l0.files n)) = slot_grown c c' entry (l0.files n) (l0.files n) f1 w b s rs1 rs2 (sym at ∙ st.describes.slots n in_layout) refl
      (ap (λ (m : ℕ). slices (length (chain_bytes c' xs)) m (chain_bytes c' xs)) (sym was.width) ∙ sl) in
      let disk : with_slot d1 n (slot_of c' entry (l0.files n)) ≡ disk_with d n o.file w rs2 b s d.free =
      ap (with_slot d1 n) file
      ∙ (λ j. record d { slots = set-set d.slots n (Some f1) (Some (with_records f1 w rs2 (l0.files n))) j; free = d.free })
      ∙ (λ j. record d { slots = set d.slots n (Some (record o.file { held = sym lies.blocks.blocks j + sym lies.blocks.sides j; body = Records w rs2 (sym lies.blocks.blocks j) (sym lies.blocks.sides j) })); free = d.free }) in
      let only : (x : Owner) → x ≢ DataOf n → Keeps c c' l0.owner x = inside_only c c' l0.owner n p new owned e in
      let head : c' directory_head ≡ c directory_head = only TheMap (λ z. (cc)) directory_head st.sound.owned.map in
      record {
        stage = go_on medium c0 d uses n w b s rs o c c' l0 l0 rs1 rs2 b s d.free b s d.free h.stage (subst (λ (x : Disk). HasLayout tracks c' l0 x) disk now) refl
            (aside_written n c c' l0 p new e (λ x a z. a.not_data (sym z ∙ owned))) (geometry_elsewhere medium c c' head);
        keeps = λ x ne. keeps_then c0 c c' l0.owner x (h.keeps x ne) (only x ne);
      }

  -- ---- the file's end is filled up

  module _ (whole : AllWhole c0) where
    abbrev pub from : ℕ
    from = fresh_begin w (length (chain_bytes c0 xs))

    some_width : 1 ≤ w
    some_width = subst (λ (m : ℕ). 1 ≤ m) (sym lies.width) lies.has.some_width

    late : 254 * (length xs - 2) ≤ from
    late = (let most : w ≤ 254 = subst (λ (m : ℕ). m ≤ 254) (sym lies.width) lies.has.width in
        let least = chain_least tracks c0 (first_block (entry_at c0 l0.directory n)) xs whole lies.chain in
        let near = begins_late w (length (chain_bytes c0 xs)) some_width in
        omega (arith, most, least, near.1))

    -- the block before the last one is written, where fresh records begin in it
    pub tail_refilled : (c : Content) → IsTailFilled c0 c xs w from → Refilled c rs × TailDone tracks c0 c (first_block (entry_at c0 l0.directory n)) xs w from
    tail_refilled c t =
        let done = tail_done tracks c0 c (first_block (entry_at c0 l0.directory n)) xs w from whole lies.chain lies.has.some_block late t in
        (by_case t done, done)
      where
        by_case : IsTailFilled c0 c xs w from → TailDone tracks c0 c (first_block (entry_at c0 l0.directory n)) xs w from → Refilled c rs
        by_case (inl (far, same)) done = subst (λ (x : Content). Refilled x rs) (sym same) refilled_none
        by_case (inr (near, r)) done =
            refill c0 c rs rs (length xs - 2) r.new refilled_none (omega (arith, lies.has.some_block, near)) r.written done.chain
            (same_records w (chain_bytes c0 xs) (chain_bytes c xs) some_width done.size done.front ∙ lies.records)

    most_bytes : length (chain_bytes c0 xs) ≤ 254 * length xs
    most_bytes = chain_most tracks c0 (first_block (entry_at c0 l0.directory n)) xs whole lies.chain

    -- THE LAST BLOCK IS FULL
    pub record Full (c : Content) : Type 0 where
      pub now : Refilled c (filled_up w b rs)
      pub size : length (chain_bytes c xs) ≡ 254 * b

    pub end_refilled : (c : Content) → IsEndFilled c0 c xs w from → Full c
    end_refilled c e =
        let tail = tail_refilled e.mid e.tail in
        let early : from ≤ length (chain_bytes c0 xs) = (begins_late w (length (chain_bytes c0 xs)) some_width).0 in
        let done = end_done tracks c0 e.mid c (first_block (entry_at c0 l0.directory n)) xs w from whole lies.chain lies.has.some_block early tail.1 e.last in
        let records = filled_records w (length xs) (chain_bytes c0 xs) (chain_bytes c xs) some_width most_bytes done.size done.front done.fresh in
        record {
          now = refill e.mid c rs (filled_up w b rs) (length xs - 1) e.last.new tail.0 (omega (arith, lies.has.some_block)) e.last.written done.chain
              (records ∙ (λ i. lies.records i ++ replicate (record_count w (sym lies.blocks.blocks i) - length (lies.records i)) (fresh_record w)));
          size = done.size ∙ ap (λ (m : ℕ). 254 * m) (sym lies.blocks.blocks);
        }

    -- it was so
    pub was_full : (c : Content) → length (chain_bytes c0 xs) ≡ 254 * length xs → c ≡ c0 → Full c
    was_full c long same =
        let count : length rs ≡ record_count w b = sym (ap length lies.records) ∙ slices_count (length (chain_bytes c0 xs)) w (chain_bytes c0 xs) some_width (omega arith) ∙ (λ i. long i / w) ∙ (λ i. 254 * sym lies.blocks.blocks i / w) in
        let none : record_count w b - length rs ≡ 0 = omega (arith, count) in
        let all : filled_up w b rs ≡ rs = ap (λ (m : ℕ). rs ++ replicate m (fresh_record w)) none ∙ append-nil rs in
        record {
          now = subst (λ (x : Content). Refilled x (filled_up w b rs)) (sym same) (subst (λ (ys : List (List ℕ)). Refilled c0 ys) (sym all) refilled_none);
          size = ap (λ (x : Content). length (chain_bytes x xs)) same ∙ long ∙ ap (λ (m : ℕ). 254 * m) (sym lies.blocks.blocks);
        }

    pub filled_full : (c : Content) → IsFilledUp c0 c xs w → Full c
    filled_full c (inl (long, same)) = was_full c long same
    filled_full c (inr (short, e)) = end_refilled c e

    -- THE FILE HAS GROWN to the end of its last block
    pub has_grown : (c : Content) (r : Relative) (last : Place) → r ≡ record { first = first_block (entry_at c0 l0.directory n); side = first_side (entry_at c0 l0.directory n); width = w } → IsListed c0 (l0.files n).sides xs
        → last ≡ nth xs (b - 1) → Full c → HasGrown medium c0 d uses n w b s rs o r c b s last
    has_grown c r last is listed at f =
        let same = entry_stays c (filled_up w b rs) f.now.stage in
        let none : d.free ≡ d.free - (b + s - (b + s)) = omega arith in
        record {
          layout = l0;
          holds = subst (λ (m : ℕ). HoldsAt tracks c l0 (disk_with d n o.file w (filled_up w b rs) b s m) uses) none f.now.stage.holds;
          same = f.now.stage.same;
          count = refl;
          file = is ∙ (λ i. record { first = first_block (sym same i); side = first_side (sym same i); width = w });
          listed = listed_kept c0 c l0.owner (SideOf n) (f.now.keeps (SideOf n) (λ z. (cc))) (l0.files n).sides xs (o.holds.so.stands.sound.owned.sides n in_layout) listed;
          full = f.size;
          last_is = sym at;
          more = (omega arith, omega arith);
          aside = f.now.stage.aside;
        }

-- ---- the clauses of the call

module _ (old new : Seen) (d : Disk) (uses : ℕ → Use) (n w b s : ℕ) (rs : List (List ℕ)) (o : HasRecordsOpen old.tracks old.content d uses n w b s rs) (whole : AllWhole old.content) where
  abbrev blocks : List Place
  blocks = (o.holds.layout.files n).data_blocks

  is_hindered : (t : Trouble) → IsWriteRefused (geometry_of old.tracks old.content) old new t.code → IsHindered old new t
  is_hindered t (inl (at, has, refused)) = write_hindered (geometry_of old.tracks old.content) old new o.holds.layout at t o.holds.so.stands.sound has (inl refused)
  is_hindered t (inr failed) = inr failed

  so_far : (code : ℕ) → IsFillStopped (geometry_of old.tracks old.content) old new blocks w code → Refilled old.tracks old.content d uses n w b s rs o new.content rs
  so_far code h = by_so_far h.so_far
    where
      by_so_far : (new.content ≡ old.content) ⊎ IsTailFilled old.content new.content blocks w (fresh_begin w (length (chain_bytes old.content blocks))) → Refilled old.tracks old.content d uses n w b s rs o new.content rs
      by_so_far (inl same) = subst (λ (x : Content). Refilled old.tracks old.content d uses n w b s rs o x rs) (sym same) (refilled_none old.tracks old.content d uses n w b s rs o)
      by_so_far (inr t) = (tail_refilled old.tracks old.content d uses n w b s rs o whole new.content t).0

  abbrev pub Fills : Result Place Trouble → Type 0
  Fills r = MatchResult r (λ at. (at ≡ nth blocks (b - 1)) × IsFilledUp old.content new.content blocks w) (λ t. IsFillStopped (geometry_of old.tracks old.content) old new blocks w t.code)

  pub fills_means : (file : Relative) (r : Result Place Trouble) → file ≡ record { first = first_block (entry_at old.content o.holds.layout.directory n); side = first_side (entry_at old.content o.holds.layout.directory n); width = w }
      → IsListed old.content (o.holds.layout.files n).sides blocks → Fills r
      → MatchResult r (λ at. HasGrown old.tracks old.content d uses n w b s rs o file new.content b s at) (IsGrowthCut old new d uses n w rs)
  fills_means file (Ok at) is listed h =
      has_grown old.tracks old.content d uses n w b s rs o whole new.content file at is listed h.0 (filled_full old.tracks old.content d uses n w b s rs o whole new.content h.1)
  fills_means file (Err t) is listed h =
      let done = so_far t.code h in
      cut_of old new old.content d uses n w o.file rs o.holds.layout new.content o.holds.layout 0 b s d.free t o.in_slot
      (subst (λ (ys : List (List ℕ)). Stage old.tracks old.content o.holds.layout d uses n o.file w new.content o.holds.layout ys b s d.free) (sym (append-nil rs)) done.stage) refl (is_hindered t h.cause)

  -- all but the file is as it was
  pub fills_aside : (r : Result Place Trouble) → Fills r → LeavesAside n old.content o.holds.layout new.content o.holds.layout
  fills_aside (Ok at) h = (filled_full old.tracks old.content d uses n w b s rs o whole new.content h.1).now.stage.aside
  fills_aside (Err t) h = (so_far t.code h).stage.aside

  -- the file lies where the call looks for it
  pub slot_laid : (geometry : ℕ) (file : Relative) → geometry ≡ geometry_of old.tracks old.content
      → file ≡ record { first = first_block (entry_at old.content o.holds.layout.directory n); side = first_side (entry_at old.content o.holds.layout.directory n); width = w }
      → IsLaid geometry old.content file blocks (o.holds.layout.files n).sides × (length blocks ≤ sector_count geometry) × (length blocks ≡ b)
  slot_laid geometry file same is =
      let tracks : ℕ = geometry_of old.tracks old.content in
      let l : Layout = o.holds.layout in
      let here = lies old.tracks old.content d uses n w b s rs o in
      let file_is : file ≡ relative_of (entry_at old.content l.directory n) = is ∙ (λ i. record { first = first_block (entry_at old.content l.directory n); side = first_side (entry_at old.content l.directory n); width = here.width i }) in
      let so : IsLaid tracks old.content (relative_of (entry_at old.content l.directory n)) blocks (l.files n).sides = record {
        chain = here.chain;
        some_block = here.has.some_block;
        some_width = here.has.some_width;
        most_width = here.has.width;
        first_side = here.has.first;
        listed = here.has.listed;
        numbered = here.has.numbered;
        joined = here.has.joined;
      } in
      let there : n < slot_count l = (let room = slot_there old.tracks old.content d uses n w b s rs o in omega (arith, room, o.holds.so.stands.describes.size)) in
      let short : length blocks ≤ sector_count tracks = file_length tracks old.content l n (first_block (entry_at old.content l.directory n)) blocks (geometry_size old.tracks old.content) o.holds.so.stands.sound here.chain (o.holds.so.stands.sound.owned.blocks n there) in (
        subst (λ (t : ℕ). IsLaid t old.content file blocks (l.files n).sides) (sym same) (subst (λ (y : Relative). IsLaid tracks old.content y blocks (l.files n).sides) (sym file_is) so),
        subst (λ (t : ℕ). length blocks ≤ sector_count t) (sym same) short,
        sym here.blocks.blocks,
      )

  -- its clauses, of that file
  pub fills_laid : (geometry : ℕ) (file : Relative) (r : Result Place Trouble) → geometry ≡ geometry_of old.tracks old.content
      → file ≡ record { first = first_block (entry_at old.content o.holds.layout.directory n); side = first_side (entry_at old.content o.holds.layout.directory n); width = w }
      → ((xs ss : List Place) → AllWhole old.content → IsLaid geometry old.content file xs ss → length xs ≤ sector_count geometry → length xs ≡ b
      → MatchResult r (λ at. (at ≡ nth xs (b - 1)) × IsFilledUp old.content new.content xs file.width) (λ t. IsFillStopped geometry old new xs file.width t.code))
      → Fills r
  fills_laid geometry file r same is laid =
      let f = slot_laid geometry file same is in
      let h = laid blocks (o.holds.layout.files n).sides whole f.0 f.1 f.2 in
      subst (λ (m : ℕ). MatchResult r (λ at. (at ≡ nth blocks (b - 1)) × IsFilledUp old.content new.content blocks m) (λ t. IsFillStopped (geometry_of old.tracks old.content) old new blocks m t.code)) (ap (λ (y : Relative). y.width) is)
      (subst (λ (u : ℕ). MatchResult r (λ at. (at ≡ nth blocks (b - 1)) × IsFilledUp old.content new.content blocks file.width) (λ t. IsFillStopped u old new blocks file.width t.code)) same h)

  pub fills_none : (geometry : ℕ) (file : Relative) (r : Result Place Trouble) → geometry ≡ geometry_of old.tracks old.content
      → file ≡ record { first = first_block (entry_at old.content o.holds.layout.directory n); side = first_side (entry_at old.content o.holds.layout.directory n); width = w }
      → ((xs ss : List Place) → AllWhole old.content → IsLaid geometry old.content file xs ss → length xs ≤ sector_count geometry → length xs ≡ b → length (chain_bytes old.content xs) ≡ 254 * b → IsOk r × (new.content ≡ old.content))
      → length (chain_bytes old.content blocks) ≡ 254 * b → IsOk r × (new.content ≡ old.content)
  fills_none geometry file r same is full all =
      let f = slot_laid geometry file same is in
      full blocks (o.holds.layout.files n).sides whole f.0 f.1 f.2 all
