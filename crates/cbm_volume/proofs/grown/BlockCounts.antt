-- An entry tells another number of blocks, of a relative file that a channel has open: all else is as it was.
use Rattle.std.proofs.Common.{◌≡◌, ◌≢◌, ℕ, ◌+◌, ◌*◌, ◌%◌, ◌<◌, length, arith, List, Bool, true, false, refl, sym, ap, subst, ◌∙◌, inl, inr, Option, Some, None, Result, Ok, Err}
use Rattle.std.specs.Prelude.{◌==◌, ◌&&◌, OnOk, OnErr, IfErr, MatchResult}
use Rattle.std.proofs.lemmas.Bool.{cases_eq, eq-eqb}
use Rattle.std.proofs.lemmas.List.{get_or-set_same, set-set}
use Rattle.cbm_medium.specs.Place.{Place, directory_head}
use Rattle.cbm_medium.specs.Content.{Content}
use Rattle.cbm_medium.specs.Seen.{Seen}
use Rattle.cbm_medium.specs.Links.{Chain}
use Rattle.cbm_medium.specs.declared.fault.Trouble.{Trouble}
use Rattle.cbm_medium.proofs.Places.{written_elsewhere}
use Rattle.cbm_file.specs.Padding.{before_filler}
use Rattle.cbm_file.specs.declared.file_type.FileType.TheVariants.{Rel}
use Rattle.cbm_file.specs.Types.{is_same_type}
use Rattle.cbm_file.specs.Files.{File, Disk, Records, file_at, with_slot}
use Rattle.cbm_file.specs.Records.{with_sized_body}
use Rattle.cbm_bam.specs.Map.{geometry_of}
use Rattle.cbm_bam.specs.Causes.{HasCause}
use Rattle.cbm_chain.specs.Data.{chain_bytes}
use Rattle.cbm_directory.specs.Entries.{Enters, first_directory, type_byte, bit_of, type_of_number, is_closed, is_relative, name_in, entry_at, sector_of}
use Rattle.cbm_directory.specs.EntryChanges.{IsCountedAs}
use Rattle.cbm_directory.specs.Slots.{Answers, directory_of}
use Rattle.cbm_volume.specs.Blocks.{Blocks, Lies, LiesAs, body_as, file_of, slot_with, slot_of}
use Rattle.cbm_volume.specs.Holding.{EntryStandsAt}
use Rattle.cbm_volume.specs.Layouts.{Owner, Directory, Layout, slot_count, Sound, HasLayout}
use Rattle.cbm_volume.specs.Writers.{Use, Relates, IsRelating, IsUsed, uses_slot, writes_slot, HoldsAt, Holds, HoldsNow}
use Rattle.cbm_volume.specs.RecordWrites.{HasRecordsOpen}
use Rattle.cbm_volume.specs.Growing.{disk_with}
use Rattle.cbm_volume.specs.Opens.{IsHindered}
use Rattle.cbm_volume.proofs.layouts.Frames.{Keeps, lies_alike}
use Rattle.cbm_volume.proofs.layouts.Loose.{sector_owned}
use Rattle.cbm_volume.proofs.layouts.OneSlot.{with_file}
use Rattle.cbm_volume.proofs.layouts.Steps.{stands_entry, extends_itself}
use Rattle.cbm_volume.proofs.layouts.Listing.{entry_found, slot_shown}
use Rattle.cbm_volume.proofs.layouts.Writers.{written_keeps}
use Rattle.cbm_volume.proofs.written.Storing.{geometry_elsewhere}
use Rattle.cbm_volume.proofs.written.Closing.{some_file}
use Rattle.cbm_volume.proofs.held.RecordsRead.{no_slot}
use Rattle.cbm_volume.proofs.written.Sparing.{EntryPut}
use Rattle.cbm_volume.proofs.layouts.Staying.{KeepsEntries, entries_same, kept_exempt}
use Rattle.cbm_volume.proofs.changed.Renames.{same_body, used_on, named_hindered}

-- it is the same file but for the number of blocks that is shown
counted_file : (bytes old new : List ℕ) (blocks : ℕ) (b : Blocks) (f : File) → IsCountedAs old new blocks → slot_with bytes old b ≡ Some f → slot_with bytes new b ≡ Some (record f { shown = blocks })
unfolding file_of name_in
counted_file bytes old new blocks b f says s =
    let was = some_file bytes old b f s in
    let t : type_byte new ≡ type_byte old = says.typed in
    let some : (type_byte new == 0) ≡ false = ap (λ (n : ℕ). n == 0) t ∙ was.0 in
    let k : type_of_number (type_byte new % 16) ≡ f.kind = ap (λ (n : ℕ). type_of_number (n % 16)) t ∙ ap (λ (x : File). x.kind) was.1 in
    let c : is_closed new ≡ f.closed = ap (λ (n : ℕ). bit_of n 7) t ∙ ap (λ (x : File). x.closed) was.1 in
    let lo : bit_of (type_byte new) 6 ≡ f.locked = ap (λ (n : ℕ). bit_of n 6) t ∙ ap (λ (x : File). x.locked) was.1 in
    let na : name_in new ≡ f.name = ap before_filler says.named ∙ ap (λ (x : File). x.name) was.1 in
    let he : length b.data_blocks + length b.sides ≡ f.held = ap (λ (x : File). x.held) was.1 in
    let y : body_as (is_closed new && is_relative new) bytes new b ≡ f.body = ap (λ (n : ℕ). body_as (bit_of n 7 && (n % 16 == 4)) bytes new b) t
    ∙ same_body (is_closed old && is_relative old) bytes old new b says.long ∙ ap (λ (x : File). x.body) was.1 in
    let z : slot_with bytes new b ≡ Some (file_of bytes new b) = rw some refl in
    z ∙ (λ i. Some (record { kind = k i; closed = c i; locked = lo i; name = na i; shown = says.shown i; held = he i; body = y i }))

-- ---- the step

told_over : (tracks : ℕ) (c c2 : Content) (l : Layout) (d : Disk) (uses : ℕ → Use) (n ch blocks : ℕ) (body : List ℕ) (f : File) → HoldsAt tracks c l d uses → uses ch ≡ Relates n → file_at d n ≡ Some f → n < slot_count l
    → Enters c c2 (sector_of l.directory n) (n % 8) body → IsCountedAs (entry_at c l.directory n) body blocks
    → HoldsAt tracks c2 (with_file l n (l.files n) l.owner) (with_slot d n (Some (record f { shown = blocks }))) uses
told_over tracks c c2 l d uses n ch blocks body f h relates at k enters says =
    let old : List ℕ = entry_at c l.directory n in
    let b : Blocks = l.files n in
    let sound : Sound tracks c l = h.stands.sound in
    let t : type_byte body ≡ type_byte old = says.typed in
    let file : slot_of c body b ≡ Some f2 = counted_file (chain_bytes c b.data_blocks) old body blocks b f says (sym (h.stands.describes.slots n k) ∙ at) in
    let lies : Lies tracks c body b = subst (λ (x : ℕ). LiesAs (bit_of x 7) (x % 16 == 4) tracks c body b) (sym t) (lies_alike (is_closed old) (is_relative old) tracks c old body b (sym says.begins) (sym says.lists) (sym says.long) (sound.lies n k)) in
    let kind : type_byte body % 16 < 5 = subst (λ (x : ℕ). x % 16 < 5) (sym t) (sound.kinds n k) in
    let stands : HasLayout tracks c2 l2 (with_slot d n (Some f2)) = subst (λ (x : Option File). HasLayout tracks c2 l2 (with_slot d n x)) file
    (stands_entry tracks c c2 l d n (sector_of l.directory n) body b l.owner h.stands k refl enters kind lies (extends_itself l n sound.owned) (sound.owned.blocks n k) (sound.owned.sides n k) sound.free) in
    let keeps : (o : Owner) → Directory ≢ o → Keeps c c2 l.owner o = λ o ne. written_keeps c c2 (sector_of l.directory n) enters.sector l.owner o enters.written (λ y. ne (sym (sector_owned l sound.owned n k) ∙ y)) in
    record {
      stands = stands;
      each = λ m. elim (cases_eq m ch) [
        | inl e ↦ subst (λ (i : ℕ). IsUsed tracks c2 l2 (with_slot d n (Some f2)) i (uses i)) (sym e) (subst (λ (u : Use). IsUsed tracks c2 l2 (with_slot d n (Some f2)) ch u) (sym relates) here)
        | inr ne ↦ used_on tracks c c2 l d n m f2 (uses m) room keeps (unwritten m ne (writes_slot n (uses m)) refl) (h.each m)
      ];
      alone = h.alone;
    }
  where
    f2 : File
    f2 = record f { shown = blocks }

    l2 : Layout
    l2 = with_file l n (l.files n) l.owner

    room : n < length d.slots
    room = omega (arith, k, h.stands.describes.size)

    was : IsRelating l d n
    was = subst (λ (u : Use). IsUsed tracks c l d ch u) relates (h.each ch)

    same : was.file ≡ f
    same = let z = sym was.in_slot ∙ at in (cc)

    here : IsRelating l2 (with_slot d n (Some f2)) n
    here = record {
      there = was.there;
      file = f2;
      in_slot = get_or-set_same d.slots n (Some f2) None room;
      closed = ap (λ (x : File). x.closed) (sym same) ∙ was.closed;
      relative = subst (λ (x : File). is_same_type Rel x.kind ≡ true) same was.relative;
    }

    unwritten : (m : ℕ) → m ≢ ch → (x : Bool) → writes_slot n (uses m) ≡ x → writes_slot n (uses m) ≡ false
    unwritten m ne true e = absurd (ne (h.alone m ch n e (ap (uses_slot n) relates ∙ eq-eqb n n refl)))
    unwritten m ne false e = e

-- ---- the clauses of the call, over plain values

-- the disk with another number of blocks in the slot's entry
abbrev pub recounted : Disk → ℕ → File → ℕ → Disk
recounted d n f blocks = with_slot d n (Some (record f { shown = blocks }))

pub told : (medium : ℕ) (old new : Seen) (n blocks : ℕ) (entry body : List ℕ) (r : Result (Unit {0}) Trouble) → IsCountedAs entry body blocks → EntryStandsAt medium old.content n entry → EntryPut (geometry_of medium old.content) old.content new.content n body r
    → OnErr r (new.content ≡ old.content)
    → ((directory : List Place) → Chain (geometry_of medium old.content) old.content first_directory directory → n < 8 * length directory → IfErr r (λ t. HasCause old new (sector_of directory n) t.code))
    → (d : Disk) (uses : ℕ → Use) (ch : ℕ) (f : File) → HoldsNow medium old.content d uses → uses ch ≡ Relates n → file_at d n ≡ Some f
    → MatchResult r (λ x. HoldsNow medium new.content (recounted d n f blocks) uses) (λ t. (new.content ≡ old.content) × IsHindered old new t)
told medium old new n blocks entry body r says stands put err cause d uses ch f h relates at = by_result r (put h.layout.directory sound.directory found.0) err (named_hindered medium old new n entry r stands cause d uses h)
  where
    tracks : ℕ
    tracks = geometry_of medium old.content

    sound : Sound tracks old.content h.layout
    sound = h.so.stands.sound

    found : (n < slot_count h.layout) × (entry ≡ entry_at old.content h.layout.directory n)
    found = entry_found tracks old.content h.layout n entry sound stands

    same : Enters old.content new.content (sector_of h.layout.directory n) (n % 8) body → geometry_of medium new.content ≡ tracks
    same e =
        let apart : sector_of h.layout.directory n ≢ directory_head = λ k. (let z = sym (sector_owned h.layout sound.owned n found.0) ∙ ap h.layout.owner k ∙ sound.owned.map in (cc)) in
        geometry_elsewhere medium old.content new.content (ap (λ (x : Content). x directory_head) e.written ∙ written_elsewhere old.content (sector_of h.layout.directory n) directory_head e.sector apart)

    by_result : (r : Result (Unit {0}) Trouble) → OnOk r (Enters old.content new.content (sector_of h.layout.directory n) (n % 8) body) → OnErr r (new.content ≡ old.content) → IfErr r (IsHindered old new)
        → MatchResult r (λ x. HoldsNow medium new.content (recounted d n f blocks) uses) (λ t. (new.content ≡ old.content) × IsHindered old new t)
    by_result (Ok x) e s t = subst (λ (k : ℕ). Holds k new.content (recounted d n f blocks) uses) (sym (same e)) (record {
      layout = _;
      so = told_over tracks old.content new.content h.layout d uses n ch blocks body f h.so relates at found.0 e (subst (λ (x : List ℕ). IsCountedAs x body blocks) found.1 says);
    })
    by_result (Err x) e s t = (s, t)

-- only the directory is written
pub told_elsewhere : (medium : ℕ) (c c2 : Content) (n : ℕ) (entry body : List ℕ) (r : Result (Unit {0}) Trouble) → EntryStandsAt medium c n entry → EntryPut (geometry_of medium c) c c2 n body r → OnErr r (c2 ≡ c) → (d : Disk) (uses : ℕ → Use) (h : HoldsNow medium c d uses)
    → (p : Place) → h.layout.owner p ≢ Directory → c2 p ≡ c p
told_elsewhere medium c c2 n entry body r stands put err d uses h p ne = by_result r (put h.layout.directory h.so.stands.sound.directory found.0) err
  where
    found : (n < slot_count h.layout) × (entry ≡ entry_at c h.layout.directory n)
    found = entry_found (geometry_of medium c) c h.layout n entry h.so.stands.sound stands

    by_result : (r : Result (Unit {0}) Trouble) → OnOk r (Enters c c2 (sector_of h.layout.directory n) (n % 8) body) → OnErr r (c2 ≡ c) → c2 p ≡ c p
    by_result (Ok x) e s = written_keeps c c2 (sector_of h.layout.directory n) e.sector h.layout.owner (h.layout.owner p) e.written (λ y. ne (sym y ∙ sector_owned h.layout h.so.stands.sound.owned n found.0)) p refl
    by_result (Err x) e s = ap (λ (y : Content). y p) s

-- and of that the slot's entry
pub told_entries : (medium : ℕ) (c c2 : Content) (n : ℕ) (entry body : List ℕ) (r : Result (Unit {0}) Trouble) → EntryStandsAt medium c n entry → EntryPut (geometry_of medium c) c c2 n body r → OnErr r (c2 ≡ c) → (d : Disk) (uses : ℕ → Use) (h : HoldsNow medium c d uses)
    → KeepsEntries h.layout c c2 (λ m. m == n)
told_entries medium c c2 n entry body r stands put err d uses h = by_result r (put h.layout.directory h.so.stands.sound.directory found.0) err
  where
    found : (n < slot_count h.layout) × (entry ≡ entry_at c h.layout.directory n)
    found = entry_found (geometry_of medium c) c h.layout n entry h.so.stands.sound stands

    by_result : (r : Result (Unit {0}) Trouble) → OnOk r (Enters c c2 (sector_of h.layout.directory n) (n % 8) body) → OnErr r (c2 ≡ c) → KeepsEntries h.layout c c2 (λ m. m == n)
    by_result (Ok x) e s = (kept_exempt (geometry_of medium c) h.layout c c c2 n body h.so.stands.sound found.0 e).entries
    by_result (Err x) e s = entries_same h.layout c c2 (λ m. m == n) s

-- the slot is there
pub told_there : (medium geometry : ℕ) (c : Content) (d : Disk) (uses : ℕ → Use) (n : ℕ) (f : File) (found : Option (List ℕ)) → HoldsNow medium c d uses → file_at d n ≡ Some f → geometry ≡ geometry_of medium c → None ≡ found → Answers (directory_of geometry c) n (Ok found) → ⊥
told_there medium geometry c d uses n f found h at same none answers =
    no_slot d n f at (slot_shown (geometry_of medium c) c h.layout d n (Ok None) h.so.stands
    (subst (λ (x : Option (List ℕ)). Answers (directory_of (geometry_of medium c) c) n (Ok x)) (sym none) (subst (λ (t : ℕ). Answers (directory_of t c) n (Ok found)) same answers)))

pub told_at : (medium geometry : ℕ) (c : Content) (n : ℕ) (entry : List ℕ) (found : Option (List ℕ)) → geometry ≡ geometry_of medium c → Some entry ≡ found → Answers (directory_of geometry c) n (Ok found) → EntryStandsAt medium c n entry
told_at medium geometry c n entry found same is answers =
    subst (λ (x : Option (List ℕ)). Answers (directory_of (geometry_of medium c) c) n (Ok x)) (sym is) (subst (λ (t : ℕ). Answers (directory_of t c) n (Ok found)) same answers)

-- THE ENTRY OF A FILE THAT HAS GROWN tells its blocks: the disk is the one that a growth gives
pub grown_disk : (medium : ℕ) (c0 : Content) (d : Disk) (uses : ℕ → Use) (n w b s : ℕ) (rs : List (List ℕ)) (o : HasRecordsOpen medium c0 d uses n w b s rs) (rs1 : List (List ℕ)) (b1 s1 free : ℕ)
    → recounted (disk_with d n o.file w rs1 b1 s1 free) n (record o.file { held = b1 + s1; body = Records w rs1 b1 s1 }) (b1 + s1) ≡ record (with_sized_body d n (b1 + s1) (Records w rs1 b1 s1)) { free = free }
grown_disk medium c0 d uses n w b s rs o rs1 b1 s1 free =
    let f1 : File = record o.file { held = b1 + s1; body = Records w rs1 b1 s1 } in
    (λ j. record d { slots = set-set d.slots n (Some f1) (Some (record f1 { shown = b1 + s1 })) j; free = free })
    ∙ sym (ap (λ (x : Option File). record (elim x [ None ↦ d | Some f ↦ with_slot d n (Some (record f { shown = b1 + s1; held = b1 + s1; body = Records w rs1 b1 s1 })) ]) { free = free }) o.in_slot)
