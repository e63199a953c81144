-- A record is written in place: the disk has it, and all channels go on.
use Rattle.std.proofs.Common.{◌≡◌, ◌≢◌, ◌⊎◌, ℕ, zero, suc, ◌+◌, ◌-◌, ◌*◌, ◌/◌, ◌<◌, ◌≤◌, List, [], ◌∷◌, ◌++◌, length, take, drop, set, get_or, Bool, true, false, Option, Some, None, Result, Ok, Err, IsOk, refl, sym, ap, subst, ◌∙◌, arith, inl, inr}
use Rattle.std.specs.Prelude.{if◌then◌else◌, ◌&&◌, ◌==◌}
use Rattle.std.proofs.lemmas.Bool.{cases_eq, cases_lt, eq-eqb, ne_eqb}
use Rattle.std.proofs.lemmas.List.{get_or-set_same, get_or-set_other, length-set, length-append, length-take-le, length-drop, take-append-drop, drop-append-le, drop-drop, append_assoc, set-get_or}
use Rattle.std.proofs.Math.Nat.{suc-mul}
use Rattle.cbm_medium.specs.Place.{Place, directory_head, sector_count}
use Rattle.cbm_medium.specs.Content.{Cell, Content, IsWhole, written}
use Rattle.cbm_medium.proofs.Places.{place_decide, written_there, written_elsewhere}
use Rattle.cbm_file.specs.declared.file_type.FileType.TheVariants.{Rel}
use Rattle.cbm_file.specs.Types.{is_same_type}
use Rattle.cbm_file.specs.Files.{Body, Disk, File, Records, file_at, with_slot}
use Rattle.cbm_file.specs.Records.{with_body}
use Rattle.cbm_bam.specs.Map.{geometry_of}
use Rattle.cbm_directory.specs.Entries.{is_closed, is_relative, width_of}
use Rattle.cbm_volume.specs.Blocks.{Blocks, body_as, file_of, slot_with}
use Rattle.cbm_volume.specs.Layouts.{Owner, TheMap, Directory, DataOf, SideOf, Writer, Layout, slot_count, Sound, HasLayout}
use Rattle.cbm_volume.specs.Staying.{LeavesClosed}
use Rattle.cbm_volume.specs.Writers.{Use, Relates, IsRelating, IsUsed, uses_slot, writes_slot, HoldsAt, Holds, HoldsNow}
use Rattle.cbm_volume.specs.RecordWrites.{HasRecordsOpen, OfRecords, new_record, with_record, IsRecordPut, IsRecordCut}
use Rattle.cbm_volume.specs.Holding.{HoldsDisk}
use Rattle.cbm_volume.specs.Opens.{IsHindered}
use Rattle.cbm_volume.proofs.layouts.Refusals.{write_hindered}
use Rattle.cbm_volume.proofs.written.Closing.{some_file, other_slot}
use Rattle.cbm_volume.proofs.layouts.Frames.{Keeps, owned_nth}
use Rattle.cbm_volume.proofs.layouts.Settled.{disk_settled}
use Rattle.cbm_volume.proofs.layouts.Staying.{entries_kept, leaves_others}
use Rattle.cbm_volume.proofs.written.Storing.{geometry_elsewhere}
use Rattle.cbm_volume.proofs.layouts.Writers.{Spares, used_kept, written_keeps, keeps_then}
use Rattle.std.specs.Prelude.{is_some, option_map, slice_get, IfOk, IfSome, MatchResult}
use Rattle.cbm_medium.specs.Seen.{Seen}
use Rattle.cbm_medium.specs.declared.fault.Trouble.{Trouble}
use Rattle.std.proofs.lemmas.Option.{slice_get-get_or, slice_get_past}
use Rattle.cbm_medium.specs.Links.{Chain, link, bytes_at, or_nothing}
use Rattle.cbm_file.specs.Records.{record_at, with_bytes}
use Rattle.cbm_chain.specs.Data.{data_of, chain_bytes}
use Rattle.cbm_relfile.specs.Records.{AllWhole, IsLaid, Relative, record_in, put_into, front_written, IsRewritten}
use Rattle.cbm_relfile.specs.Changing.{record_bytes, LiesFrom, IsChangedIfThere, IsHalfRewritten, IsWriteRefused, IsChangeStopped}
use Rattle.cbm_relfile.proofs.Changed.{with_bytes_length}
use Rattle.cbm_relfile.proofs.Positions.{record_there, whole_bytes, full_length}
use Rattle.cbm_directory.specs.Entries.{entry_at, first_block}
use Rattle.cbm_directory.specs.Slots.{Answers, directory_of}
use Rattle.cbm_volume.specs.Blocks.{slices}
use Rattle.cbm_volume.proofs.layouts.OneSlot.{with_file}
use Rattle.cbm_volume.proofs.layouts.Lengths.{file_length}
use Rattle.cbm_volume.specs.RecordFaults.{relative_of}
use Rattle.cbm_volume.proofs.held.RecordsRead.{records_lie, both, no_slot}
use Rattle.cbm_volume.proofs.layouts.Listing.{geometry_size, slot_shown}
use Rattle.cbm_volume.proofs.held.Slices.{record_slice}
use Rattle.cbm_volume.proofs.relative.Crossing.{Crossed, stands_crossed}
use Rattle.cbm_volume.proofs.relative.Put.{put_length, slices_put}
use Rattle.cbm_volume.proofs.relative.Rewritten.{stands_put}
use Rattle.cbm_volume.proofs.relative.GrownFile.{with_records, slot_grown}

-- ---- the file in the slot

-- how many blocks and side sectors it has
pub record HasBlocks (f : File) (x : Blocks) (b s : ℕ) : Type 0 where
  pub held : f.held ≡ length x.data_blocks + length x.sides
  pub blocks : b ≡ length x.data_blocks
  pub sides : s ≡ length x.sides

pub has_blocks : (bytes e : List ℕ) (x : Blocks) (f : File) (w b s : ℕ) (rs : List (List ℕ)) → slot_with bytes e x ≡ Some f → f.body ≡ Records w rs b s → HasBlocks f x b s
unfolding file_of
has_blocks bytes e x f w b s rs at is =
    let file = (some_file bytes e x f at).1 in
    by_kind (is_closed e && is_relative e) (ap (λ (y : File). y.held) (sym file)) (ap (λ (y : File). y.body) file ∙ is)
  where
    by_kind : (r : Bool) → f.held ≡ length x.data_blocks + length x.sides → body_as r bytes e x ≡ Records w rs b s → HasBlocks f x b s
    by_kind true h g = record { held = h; blocks = cc; sides = cc }
    by_kind false h g = absurd (cc)

-- the disk with other records of the file, in the same blocks
pub same_disk : (d : Disk) (n : ℕ) (f : File) (x : Blocks) (w b s : ℕ) (rs : List (List ℕ)) → file_at d n ≡ Some f → HasBlocks f x b s → with_slot d n (Some (with_records f w rs x)) ≡ with_body d n (Records w rs b s)
same_disk d n f x w b s rs at h =
    (λ i. with_slot d n (Some (record f { held = sym h.held i; body = Records w rs (sym h.blocks i) (sym h.sides i) })))
    ∙ sym (ap (λ (o : Option File). elim o [ None ↦ d | Some g ↦ with_slot d n (Some (record g { body = Records w rs b s })) ]) at)

-- ---- the channels

-- ALL CHANNELS GO ON where data blocks of a slot with open records are written
pub holds_inside : (tracks : ℕ) (c c' : Content) (l l' : Layout) (d : Disk) (n : ℕ) (f : File) (uses : ℕ → Use) (ch : ℕ) → HoldsAt tracks c l d uses → uses ch ≡ Relates n → n < length d.slots → HasLayout tracks c' l' (with_slot d n (Some f)) → f.closed ≡ true
    → is_same_type Rel f.kind ≡ true → slot_count l ≤ slot_count l' → ((o : Owner) → o ≢ DataOf n → Keeps c c' l.owner o) → ((o : Owner) (q : Place) → o ≢ DataOf n → l.owner q ≡ o → l'.owner q ≡ o)
    → HoldsAt tracks c' l' (with_slot d n (Some f)) uses
holds_inside tracks c c' l l' d n f uses ch h relates room st closed kind more keeps own = record {
  stands = st;
  each = λ m. elim (cases_eq m ch) [
    | inl e ↦ subst (λ (i : ℕ). IsUsed tracks c' l' (with_slot d n (Some f)) i (uses i)) (sym e) (subst (λ (u : Use). IsUsed tracks c' l' (with_slot d n (Some f)) ch u) (sym relates) here)
    | inr ne ↦ used_kept tracks c c' l l' d (with_slot d n (Some f)) (λ k. false) (λ k. k == n) m (uses m) spares refl (λ k g. other m ne k g) (h.each m)
  ];
  alone = h.alone;
}
  where
    was : IsRelating l d n
    was = subst (λ (u : Use). IsUsed tracks c l d ch u) relates (h.each ch)

    here : IsRelating l' (with_slot d n (Some f)) n
    here = record { there = omega (arith, was.there, more); file = f; in_slot = get_or-set_same d.slots n (Some f) None room; closed = closed; relative = kind }

    other : (m : ℕ) → m ≢ ch → (k : ℕ) → uses_slot k (uses m) ≡ true → (k == n) ≡ false
    other m ne k g = elim (cases_eq k n) [
      | inl e ↦ absurd (ne (sym (h.alone ch m n (ap (writes_slot n) relates ∙ eq-eqb n n refl) (ap (λ (i : ℕ). uses_slot i (uses m)) (sym e) ∙ g))))
      | inr apart ↦ ne_eqb k n apart
    ]

    data_apart : (k : ℕ) → (k == n) ≡ false → DataOf k ≢ DataOf n
    data_apart k e z = let y : k ≡ n = cc in (let w = sym (eq-eqb k n y) ∙ e in (cc))

    spares : Spares c c' l l' d (with_slot d n (Some f)) (λ k. false) (λ k. k == n)
    spares = record {
      writers = λ k o. keeps (Writer k) (λ z. (cc));
      writers_own = λ k q o. own (Writer k) q (λ z. (cc));
      files = λ k e. keeps (DataOf k) (data_apart k e);
      files_own = λ k q e. own (DataOf k) q (data_apart k e);
      more = more;
      slots = λ k e. other_slot d n k (Some f) e;
    }

-- the sectors of all other closed files are as they were
pub untouched_but : (tracks : ℕ) (c c' : Content) (k : Layout) (n : ℕ) → Sound tracks c k → ((o : Owner) → o ≢ DataOf n → Keeps c c' k.owner o) → LeavesClosed tracks c c' (λ m. m == n) (λ m. m == n)
untouched_but tracks c c' k n t keeps =
    leaves_others tracks c c' k n t (λ m ne. (keeps (DataOf m) (λ z. (let y : m ≡ n = cc in ne y)), keeps (SideOf m) (λ z. (cc)))) (entries_kept k c c' (λ m. m == n) t.owned (keeps Directory (λ z. (cc))))

-- the map isn't written
pub same_size : (medium : ℕ) (c c' : Content) (l : Layout) (n : ℕ) → l.owner directory_head ≡ TheMap → ((o : Owner) → o ≢ DataOf n → Keeps c c' l.owner o) → geometry_of medium c' ≡ geometry_of medium c
same_size medium c c' l n map keeps = geometry_elsewhere medium c c' (keeps TheMap (λ z. (cc)) directory_head map)

-- ---- the bytes of the record

-- what is known where a record of an open file is written
pub record IsWrittenAt (tracks : ℕ) (c : Content) (l : Layout) (d : Disk) (n : ℕ) (f : File) (w b s : ℕ) (rs : List (List ℕ)) (entry : List ℕ) : Type 0 where
  pub stands : HasLayout tracks c l d
  pub whole : AllWhole c
  pub there : n < slot_count l
  pub entry_is : entry ≡ entry_at c l.directory n
  pub in_slot : file_at d n ≡ Some f
  pub body : f.body ≡ Records w rs b s
  pub closed : is_closed (entry_at c l.directory n) ≡ true
  pub relative : is_relative (entry_at c l.directory n) ≡ true
  pub chain : Chain tracks c (first_block (entry_at c l.directory n)) (l.files n).data_blocks
  pub some : 1 ≤ width_of (entry_at c l.directory n)
  pub most : width_of (entry_at c l.directory n) ≤ 254
  pub width : w ≡ width_of (entry_at c l.directory n)
  pub records : slices (length (chain_bytes c (l.files n).data_blocks)) (width_of (entry_at c l.directory n)) (chain_bytes c (l.files n).data_blocks) ≡ rs
  pub laid : IsLaid tracks c (relative_of entry) (l.files n).data_blocks (l.files n).sides
  pub short : length (l.files n).data_blocks ≤ sector_count tracks

pub written_at : (tracks : ℕ) (c : Content) (l : Layout) (d : Disk) (n : ℕ) (entry : List ℕ) (f : File) (w b s : ℕ) (rs : List (List ℕ)) → (tracks ≡ 35) ⊎ (tracks ≡ 40) → AllWhole c → HasLayout tracks c l d → Answers (directory_of tracks c) n (Ok (Some entry))
    → file_at d n ≡ Some f → f.body ≡ Records w rs b s → IsWrittenAt tracks c l d n f w b s rs entry
written_at tracks c l d n entry f w b s rs size whole st a at is =
    let so = records_lie tracks c l d n entry f w b s rs st a at is in
    let kind = both (is_closed (entry_at c l.directory n)) (is_relative (entry_at c l.directory n)) so.body.relative in
    record {
      stands = st;
      whole = whole;
      there = so.there;
      entry_is = so.entry_is;
      in_slot = at;
      body = is;
      closed = kind.0;
      relative = kind.1;
      chain = so.chain;
      some = so.records.some_width;
      most = so.records.width;
      width = so.body.width;
      records = sym so.body.records;
      laid = subst (λ (y : List ℕ). IsLaid tracks c (relative_of y) (l.files n).data_blocks (l.files n).sides) (sym so.entry_is) (record {
        chain = so.chain;
        some_block = so.records.some_block;
        some_width = so.records.some_width;
        most_width = so.records.width;
        first_side = so.records.first;
        listed = so.records.listed;
        numbered = so.records.numbered;
        joined = so.records.joined;
      });
      short = file_length tracks c l n (first_block (entry_at c l.directory n)) (l.files n).data_blocks size st.sound so.chain (st.sound.owned.blocks n so.there);
    }

-- a record of the file is one of its list
pub record_in_list : (tracks : ℕ) (c : Content) (l : Layout) (d : Disk) (n : ℕ) (f : File) (w b s k : ℕ) (rs : List (List ℕ)) (entry : List ℕ) → IsWrittenAt tracks c l d n f w b s rs entry → 1 ≤ k
    → record_in w (chain_bytes c (l.files n).data_blocks) k ≡ record_at (Records w rs b s) k
record_in_list tracks c l d n f w b s k rs entry g some =
    let bytes : List ℕ = chain_bytes c (l.files n).data_blocks in
    let e : List ℕ = entry_at c l.directory n in
    ap (λ (x : ℕ). record_in x bytes k) g.width
    ∙ sym (record_slice (width_of e) bytes k g.some some)
    ∙ ap (λ (ys : List (List ℕ)). slice_get ys (k - 1)) g.records
    ∙ sym (by_number k some)
  where
    by_number : (m : ℕ) → 1 ≤ m → record_at (Records w rs b s) m ≡ slice_get rs (m - 1)
    by_number m h = ap (λ (t : Bool). if t then None else slice_get rs (m - 1)) (ne_eqb m 0 (λ z. omega (arith, h, z)))

-- the bytes of a record that is there
pub bytes_there : (tracks : ℕ) (c : Content) (l : Layout) (d : Disk) (n : ℕ) (f : File) (w b s k : ℕ) (rs : List (List ℕ)) (entry : List ℕ) → IsWrittenAt tracks c l d n f w b s rs entry → 1 ≤ k
    → k * w ≤ length (chain_bytes c (l.files n).data_blocks) → (is_some (record_at (Records w rs b s) k) ≡ true) × (record_bytes w (chain_bytes c (l.files n).data_blocks) k ≡ get_or rs (k - 1) []) × (k - 1 < length rs)
bytes_there tracks c l d n f w b s k rs entry g some long =
    let bytes : List ℕ = chain_bytes c (l.files n).data_blocks in
    let here : Some (record_bytes w bytes k) ≡ record_at (Records w rs b s) k = sym (record_there w bytes k some long) ∙ record_in_list tracks c l d n f w b s k rs entry g some in
    let listed : Some (record_bytes w bytes k) ≡ slice_get rs (k - 1) = here ∙ by_number k some in
    let so = by_length (cases_lt (k - 1) (length rs)) listed in
    (ap is_some (sym here), so.0, so.1)
  where
    by_number : (m : ℕ) → 1 ≤ m → record_at (Records w rs b s) m ≡ slice_get rs (m - 1)
    by_number m h = ap (λ (t : Bool). if t then None else slice_get rs (m - 1)) (ne_eqb m 0 (λ z. omega (arith, h, z)))

    by_length : (k - 1 < length rs) ⊎ (length rs ≤ k - 1) → Some (record_bytes w (chain_bytes c (l.files n).data_blocks) k) ≡ slice_get rs (k - 1)
        → (record_bytes w (chain_bytes c (l.files n).data_blocks) k ≡ get_or rs (k - 1) []) × (k - 1 < length rs)
    by_length (inl h) e = ((let z = e ∙ slice_get-get_or rs (k - 1) [] h in (cc)), h)
    by_length (inr h) e = absurd (let z = e ∙ slice_get_past rs (k - 1) h in (cc))

-- ---- in one block

-- what stands after a write of the record: the disk with other bytes in its place, in a layout with the same owners
pub record Over (tracks : ℕ) (c' : Content) (l : Layout) (d : Disk) (n : ℕ) (f : File) (w k : ℕ) (rs : List (List ℕ)) (rec : List ℕ) : Type 0 where
  pub layout : Layout
  pub owner : layout.owner ≡ l.owner
  pub count : slot_count layout ≡ slot_count l
  pub stands : HasLayout tracks c' layout (with_slot d n (Some (with_records f w (set rs (k - 1) rec) (l.files n))))

pub in_one_block : (tracks : ℕ) (c c' : Content) (l : Layout) (d : Disk) (n : ℕ) (f : File) (w b s k : ℕ) (rs : List (List ℕ)) (entry : List ℕ) (at : Place) (sector rec : List ℕ) (place : ℕ) → IsWrittenAt tracks c l d n f w b s rs entry → 1 ≤ k
    → LiesFrom c (l.files n).data_blocks w k at sector place → length rec ≡ w → place + length rec ≤ length (data_of sector) → c' ≡ written c at (put_into sector (2 + place) rec) → Over tracks c' l d n f w k rs rec
in_one_block tracks c c' l d n f w b s k rs entry at sector rec place g some lies size fits e =
    let x : ℕ = width_of (entry_at c l.directory n) in
    let i : ℕ = (k - 1) * w / 254 in
    let kk : suc (k - 1) * w ≡ k * w = (let z : suc (k - 1) ≡ k = omega (arith, some) in ap (λ (m : ℕ). m * w) z) in
    let done = stands_put tracks c c' l d n i place (k - 1) sector rec f w b s rs g.stands g.there g.records (record {
      whole = g.whole;
      in_slot = g.in_slot;
      body = g.body;
      closed = g.closed;
      relative = g.relative;
      width = omega (arith, g.some);
      size = size ∙ g.width;
      position = ap (λ (m : ℕ). (k - 1) * m) (sym g.width) ∙ omega (arith, lies.place_is);
      there = subst (λ (m : ℕ). m ≤ length (chain_bytes c (l.files n).data_blocks)) (sym kk ∙ ap (λ (m : ℕ). suc (k - 1) * m) g.width) lies.whole;
      block = lies.block;
      holds = ap c (sym lies.at_is) ∙ lies.holds;
      fits = fits;
      written = e ∙ ap (λ (p : Place). written c p (put_into sector (2 + place) rec)) lies.at_is;
    }) in
    record { layout = with_file l n (l.files n) l.owner; owner = refl; count = refl; stands = done.stands }

-- ---- over two blocks

-- the block after one that a record doesn't end in
pub record NextBlock (tracks : ℕ) (c : Content) (blocks : List Place) (i : ℕ) (sector : List ℕ) : Type 0 where
  pub there : suc i < length blocks
  pub is : get_or blocks (suc i) directory_head ≡ link sector
  pub full : length (data_of sector) ≡ 254

next_block : (tracks : ℕ) (c : Content) (a : Place) (blocks : List Place) (i : ℕ) (at : Place) (sector : List ℕ) → AllWhole c → Chain tracks c a blocks → i < length blocks → at ≡ get_or blocks i directory_head → c at ≡ Ok sector
    → 254 * i + length (data_of sector) < length (chain_bytes c blocks) → NextBlock tracks c blocks i sector
next_block tracks c a [] i at sector whole h l is holds long = absurd (omega (arith, l))
next_block tracks c a (x ∷ []) (suc i) at sector whole h l is holds long = absurd (omega (arith, l))
next_block tracks c a (x ∷ []) zero at sector whole h l is holds long =
    let bytes : bytes_at c x ≡ sector = ap or_nothing (ap c (sym is) ∙ holds) in
    absurd (omega (arith, long, length-append (data_of (bytes_at c x)) [], ap length (ap data_of bytes)))
next_block tracks c a (x ∷ y ∷ rest) zero at sector whole h l is holds long =
    let bytes : bytes_at c x ≡ sector = ap or_nothing (ap c (sym is) ∙ holds) in
    record {
      there = omega arith;
      is = sym h.3.0 ∙ ap link bytes;
      full = ap length (ap data_of (sym bytes)) ∙ full_length (bytes_at c x) (whole_bytes c x whole h.2) (λ z. (let t = ap (λ (p : Place). p.track) h.3.0 in omega (arith, z, t, h.3.1.0)));
    }
next_block tracks c a (x ∷ y ∷ rest) (suc i) at sector whole h l is holds long =
    let full : length (data_of (bytes_at c x)) ≡ 254 = full_length (bytes_at c x) (whole_bytes c x whole h.2) (λ z. (let t = ap (λ (p : Place). p.track) h.3.0 in omega (arith, z, t, h.3.1.0))) in
    let more = next_block tracks c (link (bytes_at c x)) (y ∷ rest) i at sector whole h.3 (omega (arith, l)) is holds (omega (arith, long, full, length-append (data_of (bytes_at c x)) (chain_bytes c (y ∷ rest)))) in
    record { there = omega (arith, more.there); is = more.is; full = more.full }

-- a whole sector is written
pub whole_written : (c : Content) (p : Place) (bytes : List ℕ) → AllWhole c → length bytes ≡ 256 → AllWhole (written c p bytes)
whole_written c p bytes whole size q = elim (place_decide p q) [
  | inl e ↦ subst (λ (x : Cell). IsWhole x) (sym (ap (written c p bytes) (sym e) ∙ written_there c p bytes)) size
  | inr ne ↦ subst (λ (x : Cell). IsWhole x) (sym (written_elsewhere c p q bytes ne)) (whole q)
]

pub over_two_blocks : (tracks : ℕ) (c c' : Content) (l : Layout) (d : Disk) (n : ℕ) (f : File) (w b s k : ℕ) (rs : List (List ℕ)) (entry : List ℕ) (at : Place) (sector more rec : List ℕ) (place : ℕ) → IsWrittenAt tracks c l d n f w b s rs entry → 1 ≤ k
    → LiesFrom c (l.files n).data_blocks w k at sector place → length rec ≡ w → length (data_of sector) < place + length rec → c (link sector) ≡ Ok more → place + length rec ≤ 254 + length (data_of more)
    → c' ≡ written (front_written c at sector place rec) (link sector) (put_into more 2 (drop (254 - place) rec))
    → Crossed tracks c (front_written c at sector place rec) c' l d n ((k - 1) * w / 254) (k - 1) sector place (take (254 - place) rec) (drop (254 - place) rec) f w rs
over_two_blocks tracks c c' l d n f w b s k rs entry at sector more rec place g some lies size short holds fits e =
    let x : ℕ = width_of (entry_at c l.directory n) in
    let i : ℕ = (k - 1) * w / 254 in
    let kk : suc (k - 1) * w ≡ k * w = (let z : suc (k - 1) ≡ k = omega (arith, some) in ap (λ (m : ℕ). m * w) z) in
    let pos : (k - 1) * w ≡ 254 * i + place = omega (arith, lies.place_is) in
    let long : 254 * i + length (data_of sector) < length (chain_bytes c (l.files n).data_blocks) = omega (arith, short, pos, lies.whole, size, sym kk, suc-mul (k - 1) w) in
    let next = next_block tracks c (first_block (entry_at c l.directory n)) (l.files n).data_blocks i at sector g.whole g.chain lies.block lies.at_is lies.holds long in
    let here : place < 254 = omega (arith, lies.place_is) in
    let ys : List ℕ = take (254 - place) rec in
    let zs : List ℕ = drop (254 - place) rec in
    let front : length ys ≡ 254 - place = length-take-le (254 - place) rec (omega (arith, short, next.full)) in
    let back : length zs ≡ length rec - (254 - place) = length-drop (254 - place) rec in
    let both_parts : ys ++ zs ≡ rec = take-append-drop (254 - place) rec in
    let sector_size : length sector ≡ 256 = sym (ap length (ap or_nothing lies.holds)) ∙ whole_bytes c at g.whole (subst (λ (y : Cell). IsOk y) (sym lies.holds) refl) in
    stands_crossed tracks c (front_written c at sector place rec) c' l d n i place (k - 1) sector more ys zs f w b s rs g.stands g.there g.records (record {
      whole = g.whole;
      whole_between = whole_written c at (put_into sector (2 + place) ys) g.whole (put_length sector (2 + place) ys (omega (arith, sector_size, front)) ∙ sector_size);
      in_slot = g.in_slot;
      body = g.body;
      closed = g.closed;
      relative = g.relative;
      width = omega (arith, g.some);
      size = ap length both_parts ∙ size ∙ g.width;
      position = ap (λ (m : ℕ). (k - 1) * m) (sym g.width) ∙ pos;
      there = subst (λ (m : ℕ). m ≤ length (chain_bytes c (l.files n).data_blocks)) (sym kk ∙ ap (λ (m : ℕ). suc (k - 1) * m) g.width) lies.whole;
      blocks = next.there;
      holds = ap c (sym lies.at_is) ∙ lies.holds;
      holds_next = ap c next.is ∙ holds;
      seam = omega (arith, front, here);
      full = next.full;
      fits = omega (arith, back, fits, here);
      first = ap (λ (p : Place). written c p (put_into sector (2 + place) ys)) lies.at_is;
      second = e ∙ ap (λ (p : Place). written (front_written c at sector place rec) p (put_into more 2 zs)) (sym next.is);
    })

-- THE RECORD IS WRITTEN, in one block or over two
pub record_over : (tracks : ℕ) (c c' : Content) (l : Layout) (d : Disk) (n : ℕ) (f : File) (w b s k : ℕ) (rs : List (List ℕ)) (entry : List ℕ) (at : Place) (sector rec : List ℕ) (place : ℕ) → IsWrittenAt tracks c l d n f w b s rs entry → 1 ≤ k
    → LiesFrom c (l.files n).data_blocks w k at sector place → length rec ≡ w → IsRewritten c c' at sector place rec → Over tracks c' l d n f w k rs rec
record_over tracks c c' l d n f w b s k rs entry at sector rec place g some lies size (inl (fits, e)) =
    in_one_block tracks c c' l d n f w b s k rs entry at sector rec place g some lies size fits e
record_over tracks c c' l d n f w b s k rs entry at sector rec place g some lies size (inr (more, short, holds, fits, e)) =
    let x = over_two_blocks tracks c c' l d n f w b s k rs entry at sector more rec place g some lies size short holds fits e in
    record {
      layout = x.layout;
      owner = x.same_owner;
      count = x.same_count;
      stands = subst (λ (ys : List ℕ). HasLayout tracks c' x.layout (with_slot d n (Some (with_records f w (set rs (k - 1) ys) (l.files n))))) (take-append-drop (254 - place) rec) x.stands;
    }

-- the sectors of all else are as they were
pub inside_only : (c c' : Content) (owner : Place → Owner) (n : ℕ) (at : Place) (bytes : List ℕ) → owner at ≡ DataOf n → c' ≡ written c at bytes → (o : Owner) → o ≢ DataOf n → Keeps c c' owner o
inside_only c c' owner n at bytes own e o ne = written_keeps c c' at bytes owner o e (λ z. ne (sym z ∙ own))

-- ---- a stop between the two writes

-- a part of a stretch that is put, and after it what was there
part_put : (xs : List ℕ) (a w : ℕ) (ys : List ℕ) → a + w ≤ length xs → length ys ≤ w → put_into xs a ys ≡ put_into xs a (ys ++ drop (length ys) (take w (drop a xs)))
part_put xs a w ys room few =
    let zs : List ℕ = drop (length ys) (take w (drop a xs)) in
    let long : length (take w (drop a xs)) ≡ w = length-take-le w (drop a xs) (omega (arith, room, length-drop a xs)) in
    let size : length zs ≡ w - length ys = length-drop (length ys) (take w (drop a xs)) ∙ ap (λ (m : ℕ). m - length ys) long in
    let rest : zs ++ drop (a + w) xs ≡ drop (a + length ys) xs =
    (λ i. zs ++ sym (drop-drop w a xs) i)
    ∙ sym (drop-append-le (length ys) (take w (drop a xs)) (drop w (drop a xs)) (omega (arith, long, few)))
    ∙ ap (drop (length ys)) (take-append-drop w (drop a xs))
    ∙ drop-drop (length ys) a xs in
    let all : a + length (ys ++ zs) ≡ a + w = omega (arith, length-append ys zs, size, few) in
    sym (ap (λ (us : List ℕ). take a xs ++ us) (append_assoc ys zs (drop (a + length (ys ++ zs)) xs) ∙ (λ i. ys ++ (zs ++ drop (all i) xs)) ∙ ap (λ (us : List ℕ). ys ++ us) rest))

-- THE RECORD HAS A BEGINNING OF ITS NEW BYTES after the first of two writes
pub half_over : (tracks : ℕ) (c m : Content) (l : Layout) (d : Disk) (n : ℕ) (f : File) (w b s k : ℕ) (rs : List (List ℕ)) (entry : List ℕ) (at : Place) (sector rec : List ℕ) (place : ℕ) → IsWrittenAt tracks c l d n f w b s rs entry → 1 ≤ k
    → LiesFrom c (l.files n).data_blocks w k at sector place → length rec ≡ w → IsHalfRewritten c m at sector place rec → Over tracks m l d n f w k rs (take (254 - place) rec ++ drop (254 - place) (get_or rs (k - 1) []))
half_over tracks c m l d n f w b s k rs entry at sector rec place g some lies size (more, short, holds, fits, e) =
    let x : Blocks = l.files n in
    let en : List ℕ = entry_at c l.directory n in
    let we : ℕ = width_of en in
    let bytes : List ℕ = chain_bytes c x.data_blocks in
    let ys : List ℕ = take (254 - place) rec in
    let i : ℕ = (k - 1) * w / 254 in
    let old : List ℕ = get_or rs (k - 1) [] in
    let half : Content = front_written c at sector place rec in
    let crossed = over_two_blocks tracks c (written half (link sector) (put_into more 2 (drop (254 - place) rec))) l d n f w b s k rs entry at sector more rec place g some lies size short holds fits refl in
    let kk : suc (k - 1) * w ≡ k * w = (let z : suc (k - 1) ≡ k = omega (arith, some) in ap (λ (u : ℕ). u * w) z) in
    let pos : (k - 1) * w ≡ 254 * i + place = omega (arith, lies.place_is) in
    let room : (k - 1) * w + w ≤ length bytes = omega (arith, lies.whole, sym kk, suc-mul (k - 1) w) in
    let full : length (data_of sector) ≡ 254 = (next_block tracks c (first_block en) x.data_blocks i at sector g.whole g.chain lies.block lies.at_is lies.holds (omega (arith, short, pos, room, size))).full in
    let front : length ys ≡ 254 - place = length-take-le (254 - place) rec (omega (arith, short, full)) in
    let few : length ys ≤ w = omega (arith, front, short, full, size) in
    let was : take w (drop ((k - 1) * w) bytes) ≡ old = (bytes_there tracks c l d n f w b s k rs entry g some lies.whole).1 in
    let part : List ℕ = ys ++ drop (254 - place) old in
    let put_part : put_into bytes ((k - 1) * w) ys ≡ put_into bytes ((k - 1) * w) part = part_put bytes ((k - 1) * w) w ys room few ∙ (λ j. put_into bytes ((k - 1) * w) (ys ++ drop (front j) (was j))) in
    let old_size : length old ≡ w = sym (ap length was) ∙ length-take-le w (drop ((k - 1) * w) bytes) (omega (arith, room, length-drop ((k - 1) * w) bytes)) in
    let part_size : length part ≡ w = omega (arith, length-append ys (drop (254 - place) old), front, length-drop (254 - place) old, old_size, few) in
    let chain : chain_bytes half x.data_blocks ≡ put_into bytes ((k - 1) * w) part = crossed.bytes_between ∙ ap (λ (o : ℕ). put_into bytes o ys) (sym pos) ∙ put_part in
    let same_length : length (put_into bytes ((k - 1) * w) part) ≡ length bytes = put_length bytes ((k - 1) * w) part (omega (arith, room, part_size)) in
    let records : slices (length (chain_bytes half x.data_blocks)) we (chain_bytes half x.data_blocks) ≡ set rs (k - 1) part =
    (λ j. slices (length (chain j)) we (chain j))
    ∙ (λ j. slices (same_length j) we (put_into bytes ((k - 1) * g.width j) part))
    ∙ slices_put (length bytes) we bytes (k - 1) part (omega (arith, g.some)) (part_size ∙ g.width) (subst (λ (u : ℕ). suc (k - 1) * u ≤ length bytes) g.width (omega (arith, room, suc-mul (k - 1) w))) (omega arith)
    ∙ ap (λ (us : List (List ℕ)). set us (k - 1) part) g.records in
    let file = slot_grown c half en x x f w b s rs (set rs (k - 1) part) (sym g.in_slot ∙ g.stands.describes.slots n g.there) g.body records in
    subst (λ (y : Content). Over tracks y l d n f w k rs part) (sym e) (record {
      layout = with_file l n x l.owner;
      owner = refl;
      count = refl;
      stands = subst (λ (o : Option File). HasLayout tracks half (with_file l n x l.owner) (with_slot d n o)) file crossed.between;
    })

-- ---- the clauses of the call, over plain values

-- the disk has it, and all channels go on
over_holds : (medium : ℕ) (c c' : Content) (d : Disk) (uses : ℕ → Use) (n w b s k : ℕ) (rs : List (List ℕ)) (rec entry : List ℕ) (o : HasRecordsOpen medium c d uses n w b s rs)
    → IsWrittenAt (geometry_of medium c) c o.holds.layout d n o.file w b s rs entry → Over (geometry_of medium c) c' o.holds.layout d n o.file w k rs rec
    → ((q : Owner) → q ≢ DataOf n → Keeps c c' o.holds.layout.owner q) → HoldsNow medium c' (with_record d n w rs b s k rec) uses
over_holds medium c c' d uses n w b s k rs rec entry o g over keeps =
    let tracks : ℕ = geometry_of medium c in
    let l : Layout = o.holds.layout in
    let e : List ℕ = entry_at c l.directory n in
    let x : Blocks = l.files n in
    let at : slot_with (chain_bytes c x.data_blocks) e x ≡ Some o.file = sym (g.stands.describes.slots n g.there) ∙ o.in_slot in
    let blocks = has_blocks (chain_bytes c x.data_blocks) e x o.file w b s rs at o.body in
    let relating : IsRelating l d n = subst (λ (u : Use). IsUsed tracks c l d o.channel u) o.relates (o.holds.so.each o.channel) in
    let same : relating.file ≡ o.file = (let z = sym relating.in_slot ∙ o.in_slot in (cc)) in
    let f2 : File = with_records o.file w (set rs (k - 1) rec) x in
    let h = holds_inside tracks c c' l over.layout d n f2 uses o.channel o.holds.so o.relates (omega (arith, g.there, g.stands.describes.size)) over.stands
    (ap (λ (y : File). y.closed) (sym same) ∙ relating.closed) (ap (λ (y : File). is_same_type Rel y.kind) (sym same) ∙ relating.relative)
    (omega (arith, over.count)) keeps (λ q p ne w2. ap (λ (own : Place → Owner). own p) over.owner ∙ w2) in
    subst (λ (t : ℕ). Holds t c' (with_record d n w rs b s k rec) uses) (sym (same_size medium c c' l n g.stands.sound.owned.map keeps))
    (record { layout = over.layout; so = subst (λ (y : Disk). HoldsAt tracks c' over.layout y uses) (same_disk d n o.file x w b s (set rs (k - 1) rec) o.in_slot blocks) h })

-- the owner of the block in which the record lies, and of the next one
block_owner : (tracks : ℕ) (c : Content) (l : Layout) (d : Disk) (n : ℕ) (f : File) (w b s k : ℕ) (rs : List (List ℕ)) (entry : List ℕ) (at : Place) (sector : List ℕ) (place : ℕ) → IsWrittenAt tracks c l d n f w b s rs entry
    → LiesFrom c (l.files n).data_blocks w k at sector place → l.owner at ≡ DataOf n
block_owner tracks c l d n f w b s k rs entry at sector place g lies =
    ap l.owner lies.at_is ∙ owned_nth l.owner (DataOf n) (l.files n).data_blocks ((k - 1) * w / 254) directory_head (g.stands.sound.owned.blocks n g.there) lies.block

half_keeps : (c m : Content) (owner : Place → Owner) (n : ℕ) (at : Place) (sector rec : List ℕ) (place : ℕ) → owner at ≡ DataOf n → IsHalfRewritten c m at sector place rec → (o : Owner) → o ≢ DataOf n → Keeps c m owner o
half_keeps c m owner n at sector rec place own (more, short, holds, fits, e) = inside_only c m owner n at (put_into sector (2 + place) (take (254 - place) rec)) own e

rewritten_keeps : (tracks : ℕ) (c c' : Content) (l : Layout) (d : Disk) (n : ℕ) (f : File) (w b s k : ℕ) (rs : List (List ℕ)) (entry : List ℕ) (at : Place) (sector rec : List ℕ) (place : ℕ) → IsWrittenAt tracks c l d n f w b s rs entry → 1 ≤ k
    → LiesFrom c (l.files n).data_blocks w k at sector place → length rec ≡ w → IsRewritten c c' at sector place rec → (o : Owner) → o ≢ DataOf n → Keeps c c' l.owner o
rewritten_keeps tracks c c' l d n f w b s k rs entry at sector rec place g some lies size (inl (fits, e)) o ne =
    inside_only c c' l.owner n at (put_into sector (2 + place) rec) (block_owner tracks c l d n f w b s k rs entry at sector place g lies) e o ne
rewritten_keeps tracks c c' l d n f w b s k rs entry at sector rec place g some lies size (inr (more, short, holds, fits, e)) o ne =
    let half : Content = front_written c at sector place rec in
    let pos : (k - 1) * w ≡ 254 * ((k - 1) * w / 254) + place = omega (arith, lies.place_is) in
    let kk : suc (k - 1) * w ≡ k * w = (let z : suc (k - 1) ≡ k = omega (arith, some) in ap (λ (u : ℕ). u * w) z) in
    let next = next_block tracks c (first_block (entry_at c l.directory n)) (l.files n).data_blocks ((k - 1) * w / 254) at sector g.whole g.chain lies.block lies.at_is lies.holds (omega (arith, short, pos, lies.whole, size, sym kk, suc-mul (k - 1) w)) in
    let own_next : l.owner (link sector) ≡ DataOf n = ap l.owner (sym next.is) ∙ owned_nth l.owner (DataOf n) (l.files n).data_blocks (suc ((k - 1) * w / 254)) directory_head (g.stands.sound.owned.blocks n g.there) next.there in
    keeps_then c half c' l.owner o (inside_only c half l.owner n at (put_into sector (2 + place) (take (254 - place) rec)) (block_owner tracks c l d n f w b s k rs entry at sector place g lies) refl o ne)
    (inside_only half c' l.owner n (link sector) (put_into more 2 (drop (254 - place) rec)) own_next e o ne)

-- the same bytes are no change
no_change : (medium : ℕ) (c c' : Content) (d : Disk) (uses : ℕ → Use) (n w b s k : ℕ) (rs : List (List ℕ)) (o : HasRecordsOpen medium c d uses n w b s rs) → c' ≡ c → k - 1 < length rs → HoldsNow medium c' (with_record d n w rs b s k (get_or rs (k - 1) [])) uses
no_change medium c c' d uses n w b s k rs o e room =
    let same : d ≡ with_record d n w rs b s k (get_or rs (k - 1) []) =
    (λ i. record d { slots = sym (set-get_or d.slots n None) i })
    ∙ ap (with_slot d n) o.in_slot
    ∙ (λ i. with_slot d n (Some (record o.file { body = (o.body ∙ ap (λ (ys : List (List ℕ)). Records w ys b s) (sym (set-get_or rs (k - 1) []))) i })))
    ∙ sym (ap (λ (x : Option File). elim x [ None ↦ d | Some g ↦ with_slot d n (Some (record g { body = Records w (set rs (k - 1) (get_or rs (k - 1) [])) b s })) ]) o.in_slot) in
    subst (λ (y : Disk). HoldsNow medium c' y uses) same (subst (λ (x : Content). HoldsNow medium x d uses) (sym e) o.holds)

-- an element but the one that is set
get_elsewhere : (xs : List (List ℕ)) (i j : ℕ) (y : List ℕ) → j ≢ i → slice_get (set xs i y) j ≡ slice_get xs j
get_elsewhere xs i j y ne = elim (cases_lt j (length xs)) [
  | inl l ↦ slice_get-get_or (set xs i y) j [] (omega (arith, l, length-set xs i y)) ∙ ap Some (get_or-set_other xs i j y [] ne) ∙ sym (slice_get-get_or xs j [] l)
  | inr past ↦ slice_get_past (set xs i y) j (omega (arith, past, length-set xs i y)) ∙ sym (slice_get_past xs j past)
]

-- what the write of a record does, by what it does to the file's chain
module _ (old new : Seen) (d : Disk) (uses : ℕ → Use) (n w b s k p : ℕ) (rs : List (List ℕ)) (bytes entry : List ℕ) (o : HasRecordsOpen old.tracks old.content d uses n w b s rs)
    (g : IsWrittenAt (geometry_of old.tracks old.content) old.content o.holds.layout d n o.file w b s rs entry) (some : 1 ≤ k) (first : 1 ≤ p) (most : p ≤ w) where
  abbrev pub tracks : ℕ
  tracks = geometry_of old.tracks old.content

  abbrev pub blocks : List Place
  blocks = (o.holds.layout.files n).data_blocks

  abbrev pub rec : List ℕ
  rec = with_bytes w (record_bytes w (chain_bytes old.content blocks) k) p bytes

  size : length rec ≡ w
  size = with_bytes_length w (record_bytes w (chain_bytes old.content blocks) k) p bytes first most

  is_new : k * w ≤ length (chain_bytes old.content blocks) → rec ≡ new_record w rs k p bytes
  is_new long = ap (λ (ys : List ℕ). with_bytes w ys p bytes) (bytes_there tracks old.content o.holds.layout d n o.file w b s k rs entry g some long).1

  pub put_ok : (q : Option Bool) → IsChangedIfThere old.content new.content blocks w k p bytes q → IsRecordPut old.tracks old.content new.content d uses n w b s rs k p bytes q
  put_ok None (absent, same) = (sym (record_in_list tracks old.content o.holds.layout d n o.file w b s k rs entry g some) ∙ absent, same)
  put_ok (Some cut) h =
      let there = bytes_there tracks old.content o.holds.layout d n o.file w b s k rs entry g some h.lies.whole in
      let over = record_over tracks old.content new.content o.holds.layout d n o.file w b s k rs entry h.at h.sector rec h.place g some h.lies size h.rewritten in
      let keeps = rewritten_keeps tracks old.content new.content o.holds.layout d n o.file w b s k rs entry h.at h.sector rec h.place g some h.lies size h.rewritten in
      (there.0, h.cut_is, subst (λ (ys : List ℕ). HoldsNow old.tracks new.content (with_record d n w rs b s k ys) uses) (is_new h.lies.whole) (over_holds old.tracks old.content new.content d uses n w b s k rs rec entry o g over keeps))

  pub put_stopped : (t : Trouble) → IsChangeStopped tracks old new blocks w k p bytes t.code → IsRecordCut old new d uses n w b s rs k p bytes t
  put_stopped t h =
      let there = bytes_there tracks old.content o.holds.layout d n o.file w b s k rs entry g some h.lies.whole in
      let cause : IsHindered old new t = by_cause h.cause in
      by_so_far h.so_far there cause
    where
      by_cause : IsWriteRefused tracks old new t.code → IsHindered old new t
      by_cause (inl (at, has, refused)) = write_hindered tracks old new o.holds.layout at t g.stands.sound has (inl refused)
      by_cause (inr failed) = inr failed

      by_so_far : (new.content ≡ old.content) ⊎ IsHalfRewritten old.content new.content h.at h.sector h.place rec
          → (is_some (record_at (Records w rs b s) k) ≡ true) × (record_bytes w (chain_bytes old.content blocks) k ≡ get_or rs (k - 1) []) × (k - 1 < length rs) → IsHindered old new t → IsRecordCut old new d uses n w b s rs k p bytes t
      by_so_far (inl same) there cause = record {
        there = there.0;
        so_far = 0;
        holds = no_change old.tracks old.content new.content d uses n w b s k rs o same there.2;
        cause = cause;
      }
      by_so_far (inr half) there cause =
          let over = half_over tracks old.content new.content o.holds.layout d n o.file w b s k rs entry h.at h.sector rec h.place g some h.lies size half in
          let own = block_owner tracks old.content o.holds.layout d n o.file w b s k rs entry h.at h.sector h.place g h.lies in
          record {
            there = there.0;
            so_far = 254 - h.place;
            holds = subst (λ (ys : List ℕ). HoldsNow old.tracks new.content (with_record d n w rs b s k (take (254 - h.place) ys ++ drop (254 - h.place) (get_or rs (k - 1) []))) uses) (is_new h.lies.whole)
                (over_holds old.tracks old.content new.content d uses n w b s k rs (take (254 - h.place) rec ++ drop (254 - h.place) (get_or rs (k - 1) [])) entry o g over
                (half_keeps old.content new.content o.holds.layout.owner n h.at h.sector rec h.place own half));
            cause = cause;
          }

  -- the sectors of all else are as they were
  keeps_ok : (q : Option Bool) → IsChangedIfThere old.content new.content blocks w k p bytes q → (x : Owner) → x ≢ DataOf n → Keeps old.content new.content o.holds.layout.owner x
  keeps_ok None (absent, same) x ne = λ q h. ap (λ (y : Content). y q) same
  keeps_ok (Some cut) h x ne = rewritten_keeps tracks old.content new.content o.holds.layout d n o.file w b s k rs entry h.at h.sector rec h.place g some h.lies size h.rewritten x ne

  keeps_stopped : (code : ℕ) → IsChangeStopped tracks old new blocks w k p bytes code → (x : Owner) → x ≢ DataOf n → Keeps old.content new.content o.holds.layout.owner x
  keeps_stopped code h = by_so_far h.so_far
    where
      by_so_far : (new.content ≡ old.content) ⊎ IsHalfRewritten old.content new.content h.at h.sector h.place rec → (x : Owner) → x ≢ DataOf n → Keeps old.content new.content o.holds.layout.owner x
      by_so_far (inl same) x ne = λ q z. ap (λ (y : Content). y q) same
      by_so_far (inr half) x ne = half_keeps old.content new.content o.holds.layout.owner n h.at h.sector rec h.place (block_owner tracks old.content o.holds.layout d n o.file w b s k rs entry h.at h.sector h.place g h.lies) half x ne

  -- the clauses of the call
  pub put_means : {A : Type 0} (cut : A → Bool) (r : Result (Option A) Trouble) → MatchResult r (λ q. IsChangedIfThere old.content new.content blocks w k p bytes (option_map cut q)) (λ t. IsChangeStopped tracks old new blocks w k p bytes t.code)
      → MatchResult r (λ q. IsRecordPut old.tracks old.content new.content d uses n w b s rs k p bytes (option_map cut q)) (IsRecordCut old new d uses n w b s rs k p bytes)
  put_means cut (Ok q) h = put_ok (option_map cut q) h
  put_means cut (Err t) h = put_stopped t h

  pub put_untouched : {A : Type 0} (cut : A → Bool) (r : Result (Option A) Trouble) → MatchResult r (λ q. IsChangedIfThere old.content new.content blocks w k p bytes (option_map cut q)) (λ t. IsChangeStopped tracks old new blocks w k p bytes t.code) → LeavesClosed tracks old.content new.content (λ m. m == n) (λ m. m == n)
  put_untouched cut (Ok q) h = untouched_but tracks old.content new.content o.holds.layout n g.stands.sound (keeps_ok (option_map cut q) h)
  put_untouched cut (Err t) h = untouched_but tracks old.content new.content o.holds.layout n g.stands.sound (keeps_stopped t.code h)

  -- where the file lies, as the call is told it
  lies_there : (geometry : ℕ) (file : Relative) → geometry ≡ tracks → file ≡ relative_of entry → IsLaid geometry old.content file blocks (o.holds.layout.files n).sides
  lies_there geometry file same is =
      subst (λ (t : ℕ). IsLaid t old.content file blocks (o.holds.layout.files n).sides) (sym same) (subst (λ (y : Relative). IsLaid tracks old.content y blocks (o.holds.layout.files n).sides) (sym is) g.laid)

  width_there : (file : Relative) → file ≡ relative_of entry → file.width ≡ w
  width_there file is = ap (λ (y : Relative). y.width) is ∙ ap width_of g.entry_is ∙ sym g.width

  pub laid_means : {A : Type 0} (cut : A → Bool) (geometry : ℕ) (file : Relative) (r : Result (Option A) Trouble) → geometry ≡ tracks → file ≡ relative_of entry
      → ((xs ss : List Place) → AllWhole old.content → IsLaid geometry old.content file xs ss → length xs ≤ sector_count geometry
      → MatchResult r (λ q. IsChangedIfThere old.content new.content xs file.width k p bytes (option_map cut q)) (λ t. IsChangeStopped geometry old new xs file.width k p bytes t.code))
      → MatchResult r (λ q. IsChangedIfThere old.content new.content blocks w k p bytes (option_map cut q)) (λ t. IsChangeStopped tracks old new blocks w k p bytes t.code)
  laid_means cut geometry file r same is laid =
      let here = laid blocks (o.holds.layout.files n).sides g.whole (lies_there geometry file same is) (subst (λ (t : ℕ). length blocks ≤ sector_count t) (sym same) g.short) in
      subst (λ (m : ℕ). MatchResult r (λ q. IsChangedIfThere old.content new.content blocks m k p bytes (option_map cut q)) (λ t. IsChangeStopped tracks old new blocks m k p bytes t.code)) (width_there file is)
      (subst (λ (u : ℕ). MatchResult r (λ q. IsChangedIfThere old.content new.content blocks file.width k p bytes (option_map cut q)) (λ t. IsChangeStopped u old new blocks file.width k p bytes t.code)) same here)

  -- the file's records are those of the disk that was made of it
  records_put : (cut : Bool) (e : Disk) (f : File) (w2 b2 s2 : ℕ) (rs2 : List (List ℕ)) → new.tracks ≡ old.tracks → IsRecordPut old.tracks old.content new.content d uses n w b s rs k p bytes (Some cut) → HoldsDisk new.tracks new.content e → file_at e n ≡ Some f
      → f.body ≡ Records w2 rs2 b2 s2 → rs2 ≡ set rs (k - 1) (new_record w rs k p bytes)
  records_put cut e f w2 b2 s2 rs2 same there holds at is =
      let body : Body = Records w (set rs (k - 1) (new_record w rs k p bytes)) b s in
      let file : File = record o.file { body = body } in
      let was : HoldsDisk old.tracks new.content e = subst (λ (t : ℕ). HoldsDisk t new.content e) same holds in
      let disk : e ≡ with_body d n body = disk_settled (geometry_of old.tracks new.content) new.content was.layout there.2.layout e (with_body d n body) was.stands there.2.so.stands in
      let set_in : with_body d n body ≡ with_slot d n (Some file) = ap (λ (x : Option File). elim x [ None ↦ d | Some y ↦ with_slot d n (Some (record y { body = body })) ]) o.in_slot in
      let here : file_at e n ≡ Some file = ap (λ (x : Disk). file_at x n) (disk ∙ set_in) ∙ get_or-set_same d.slots n (Some file) None (omega (arith, g.there, g.stands.describes.size)) in
      let same_file : f ≡ file = (let z = sym at ∙ here in (cc)) in
      let bodies : Records w2 rs2 b2 s2 ≡ body = sym is ∙ ap (λ (y : File). y.body) same_file in
      cc

  -- THE RECORD AFTER IT is what it was
  next_stays : (cut : Bool) (e : Disk) (f : File) (w2 b2 s2 : ℕ) (rs2 : List (List ℕ)) → new.tracks ≡ old.tracks → IsRecordPut old.tracks old.content new.content d uses n w b s rs k p bytes (Some cut) → HoldsDisk new.tracks new.content e → file_at e n ≡ Some f
      → f.body ≡ Records w2 rs2 b2 s2 → record_in w (chain_bytes old.content blocks) (k + 1) ≡ slice_get rs2 k
  next_stays cut e f w2 b2 s2 rs2 same there holds at is =
      record_in_list tracks old.content o.holds.layout d n o.file w b s (k + 1) rs entry g (omega arith)
      ∙ ap (λ (t : Bool). if t then None else slice_get rs (k + 1 - 1)) (ne_eqb (k + 1) 0 (λ z. omega (arith, z)))
      ∙ (let m : k + 1 - 1 ≡ k = omega arith in ap (slice_get rs) m)
      ∙ sym (get_elsewhere rs (k - 1) k (new_record w rs k p bytes) (λ z. omega (arith, z, some)))
      ∙ ap (λ (ys : List (List ℕ)). slice_get ys k) (sym (records_put cut e f w2 b2 s2 rs2 same there holds at is))

  pub next_means : {A : Type 0} (cut : A → Bool) (Q : A → Option (List ℕ) → Type 0) (geometry : ℕ) (file : Relative) (r : Result (Option A) Trouble) → new.tracks ≡ old.tracks → geometry ≡ tracks → file ≡ relative_of entry
      → MatchResult r (λ q. IsRecordPut old.tracks old.content new.content d uses n w b s rs k p bytes (option_map cut q)) (IsRecordCut old new d uses n w b s rs k p bytes)
      → ((xs ss : List Place) → AllWhole old.content → IsLaid geometry old.content file xs ss → length xs ≤ sector_count geometry → IfOk r (λ q. IfSome q (λ y. Q y (record_in file.width (chain_bytes old.content xs) (k + 1)))))
      → IfOk r (λ q. IfSome q (λ y. OfRecords new n (λ found. Q y (slice_get found k))))
  next_means {A} cut Q geometry file r tracks_same same is there next =
      by_answer r there (next blocks (o.holds.layout.files n).sides g.whole (lies_there geometry file same is) (subst (λ (t : ℕ). length blocks ≤ sector_count t) (sym same) g.short))
    where
      by_answer : (q : Result (Option A) Trouble) → MatchResult q (λ x. IsRecordPut old.tracks old.content new.content d uses n w b s rs k p bytes (option_map cut x)) (IsRecordCut old new d uses n w b s rs k p bytes)
          → IfOk q (λ x. IfSome x (λ y. Q y (record_in file.width (chain_bytes old.content blocks) (k + 1)))) → IfOk q (λ x. IfSome x (λ y. OfRecords new n (λ found. Q y (slice_get found k))))
      by_answer (Err t) put_into h = tt
      by_answer (Ok None) put_into h = tt
      by_answer (Ok (Some y)) put_into h = λ e f w2 b2 s2 rs2 holds at body.
          subst (Q y) (ap (λ (m : ℕ). record_in m (chain_bytes old.content blocks) (k + 1)) (width_there file is) ∙ next_stays (cut y) e f w2 b2 s2 rs2 tracks_same put_into holds at body) h

-- where the records are that a channel has open
pub open_at : (medium geometry : ℕ) (c : Content) (d : Disk) (uses : ℕ → Use) (n w b s : ℕ) (rs : List (List ℕ)) (o : HasRecordsOpen medium c d uses n w b s rs) (found : Option (List ℕ)) (entry : List ℕ) → AllWhole c → geometry ≡ geometry_of medium c → found ≡ Some entry
    → Answers (directory_of geometry c) n (Ok found) → IsWrittenAt (geometry_of medium c) c o.holds.layout d n o.file w b s rs entry
open_at medium geometry c d uses n w b s rs o found entry whole same is answers =
    written_at (geometry_of medium c) c o.holds.layout d n entry o.file w b s rs (geometry_size medium c) whole o.holds.so.stands
    (subst (λ (x : Option (List ℕ)). Answers (directory_of (geometry_of medium c) c) n (Ok x)) is (subst (λ (t : ℕ). Answers (directory_of t c) n (Ok found)) same answers)) o.in_slot o.body

pub open_there : (medium geometry : ℕ) (c : Content) (d : Disk) (uses : ℕ → Use) (n w b s : ℕ) (rs : List (List ℕ)) (o : HasRecordsOpen medium c d uses n w b s rs) (found : Option (List ℕ)) → geometry ≡ geometry_of medium c → found ≡ None
    → Answers (directory_of geometry c) n (Ok found) → ⊥
open_there medium geometry c d uses n w b s rs o found same is answers =
    no_slot d n o.file o.in_slot (slot_shown (geometry_of medium c) c o.holds.layout d n (Ok None) o.holds.so.stands
    (subst (λ (x : Option (List ℕ)). Answers (directory_of (geometry_of medium c) c) n (Ok x)) is (subst (λ (t : ℕ). Answers (directory_of t c) n (Ok found)) same answers)))

-- a record has 1 to 254 bytes, and the position is one of them
pub bad_place : (size width w p : ℕ) → size ≡ width → 1 ≤ width → width ≤ 254 → w ≡ width → p ≤ w → (size ≡ 0) ⊎ (((size ≢ 0) × (size ≡ 255)) ⊎ ((size ≢ 0) × (size ≢ 255) × (size < p))) → ⊥
bad_place size width w p e some most same few (inl z) = omega (arith, e, some, z)
bad_place size width w p e some most same few (inr (inl (x, z))) = omega (arith, e, most, z)
bad_place size width w p e some most same few (inr (inr (x, y, z))) = omega (arith, e, same, few, z)
