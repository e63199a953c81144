-- RENAME: an entry gets another name, and its file stays where it lies.
use Rattle.std.proofs.Common.{◌≡◌, ◌≢◌, ℕ, ◌+◌, ◌*◌, ◌%◌, ◌<◌, length, arith, List, Bool, true, false, IsOk, refl, sym, ap, subst, ◌∙◌, inl, inr, Option, Some, None, Result, Ok, Err}
use Rattle.std.specs.Prelude.{◌==◌, ◌&&◌, OnOk, OnErr, IfErr, slice_index}
use Rattle.std.proofs.lemmas.Bool.{cases_eq, ne_eqb}
use Rattle.std.proofs.lemmas.List.{get_or-set_same}
use Rattle.cbm_medium.specs.Place.{Place, directory_head}
use Rattle.cbm_medium.specs.Content.{Content}
use Rattle.cbm_medium.specs.Seen.{Seen}
use Rattle.cbm_medium.specs.Links.{Chain}
use Rattle.cbm_medium.specs.declared.fault.Trouble.{Trouble}
use Rattle.cbm_medium.proofs.Places.{written_elsewhere}
use Rattle.cbm_file.specs.Padding.{before_filler}
use Rattle.cbm_file.specs.Files.{Records, File, Disk, file_at, with_slot}
use Rattle.cbm_bam.specs.Map.{geometry_of}
use Rattle.cbm_bam.specs.Causes.{HasCause}
use Rattle.cbm_chain.specs.Data.{chain_bytes}
use Rattle.cbm_directory.specs.Entries.{Enters, EntersLed, first_directory, type_byte, bit_of, type_of_number, is_closed, is_relative, width_of, entry_at, sector_of}
use Rattle.cbm_directory.specs.EntryChanges.{IsRenamedAs, renamed_entry}
use Rattle.cbm_directory.specs.Slots.{Answers}
use Rattle.cbm_volume.specs.Blocks.{Blocks, Lies, LiesAs, slices, body_as, file_of, slot_with, slot_of}
use Rattle.cbm_volume.specs.Holding.{EntryStandsAt}
use Rattle.cbm_volume.specs.Layouts.{Owner, Directory, DataOf, Writer, Layout, slot_count, Sound, HasLayout}
use Rattle.cbm_volume.specs.Staying.{LeavesClosed}
use Rattle.cbm_volume.specs.SeenDisks.{seen_tracks, seen_directory}
use Rattle.cbm_volume.specs.Led.{RenamesLed}
use Rattle.cbm_volume.specs.Writers.{Use, Idle, Reads, Relates, Writes, IsReading, IsUsed, writes_slot, HoldsAt, Holds, HoldsNow}
use Rattle.cbm_volume.specs.Opens.{IsUnwritten, IsHindered}
use Rattle.cbm_volume.proofs.layouts.Frames.{Keeps, lies_alike}
use Rattle.cbm_volume.proofs.layouts.Loose.{sector_owned}
use Rattle.cbm_volume.proofs.layouts.OneSlot.{with_file}
use Rattle.cbm_volume.proofs.layouts.Steps.{stands_entry, extends_itself}
use Rattle.cbm_volume.proofs.layouts.Listing.{entry_found}
use Rattle.cbm_volume.proofs.layouts.Writers.{reading_kept, writing_kept, written_keeps}
use Rattle.cbm_volume.proofs.written.Storing.{geometry_elsewhere}
use Rattle.cbm_volume.proofs.written.Closing.{other_slot, some_file}
use Rattle.cbm_volume.proofs.layouts.Refusals.{sector_hindered, sector_reads}
use Rattle.cbm_volume.proofs.written.Sparing.{EntryPut, same_untouched}
use Rattle.cbm_volume.proofs.layouts.Staying.{LeadsAlike, kept_entered, leaves_in}

-- ---- the entry under another name

renamed_alike : (old new name : List ℕ) → IsRenamedAs old new name → LeadsAlike old new
renamed_alike old new name says =
    let t : slice_index old 1 ≡ slice_index new 1 = sym (says.before 1 (omega arith)) in
    let s : slice_index old 2 ≡ slice_index new 2 = sym (says.before 2 (omega arith)) in
    let u : slice_index old 19 ≡ slice_index new 19 = sym (says.afterwards 19 (omega arith)) in
    let v : slice_index old 20 ≡ slice_index new 20 = sym (says.afterwards 20 (omega arith)) in
    record {
      closed = ap (λ (n : ℕ). bit_of n 7) (says.before 0 (omega arith));
      relative = ap (λ (n : ℕ). n % 16 == 4) (says.before 0 (omega arith));
      first = λ i. record { track = t i; sector = s i };
      side = λ i. record { track = u i; sector = v i };
      width = sym (says.afterwards 21 (omega arith));
    }

lies_named : (x y : Bool) (tracks : ℕ) (c : Content) (old new name : List ℕ) (b : Blocks) → IsRenamedAs old new name → LiesAs x y tracks c old b → LiesAs x y tracks c new b
lies_named x y tracks c old new name b says h =
    let a : LeadsAlike old new = renamed_alike old new name says in
    lies_alike x y tracks c old new b a.first a.side a.width h

pub same_body : (x : Bool) (bytes old new : List ℕ) (b : Blocks) → width_of new ≡ width_of old → body_as x bytes new b ≡ body_as x bytes old b
same_body true bytes old new b w = ap (λ (n : ℕ). Records n (slices (length bytes) n bytes) (length b.data_blocks) (length b.sides)) w
same_body false bytes old new b w = refl

-- it is the same file but for its name
named_file : (bytes old new name : List ℕ) (b : Blocks) (f : File) → IsRenamedAs old new name → slot_with bytes old b ≡ Some f → slot_with bytes new b ≡ Some (record f { name = before_filler name })
unfolding file_of
named_file bytes old new name b f says s =
    let was = some_file bytes old b f s in
    let t : type_byte new ≡ type_byte old = says.before 0 (omega arith) in
    let width : width_of new ≡ width_of old = says.afterwards 21 (omega arith) in
    let some : (type_byte new == 0) ≡ false = ap (λ (n : ℕ). n == 0) t ∙ was.0 in
    let k : type_of_number (type_byte new % 16) ≡ f.kind = ap (λ (n : ℕ). type_of_number (n % 16)) t ∙ ap (λ (x : File). x.kind) was.1 in
    let c : is_closed new ≡ f.closed = ap (λ (n : ℕ). bit_of n 7) t ∙ ap (λ (x : File). x.closed) was.1 in
    let lo : bit_of (type_byte new) 6 ≡ f.locked = ap (λ (n : ℕ). bit_of n 6) t ∙ ap (λ (x : File). x.locked) was.1 in
    let sh : slice_index new 28 + 256 * slice_index new 29 ≡ f.shown = omega (arith, says.afterwards 28 (omega arith), says.afterwards 29 (omega arith), ap (λ (x : File). x.shown) was.1) in
    let he : length b.data_blocks + length b.sides ≡ f.held = ap (λ (x : File). x.held) was.1 in
    let y : body_as (is_closed new && is_relative new) bytes new b ≡ f.body = ap (λ (n : ℕ). body_as (bit_of n 7 && (n % 16 == 4)) bytes new b) t
    ∙ same_body (is_closed old && is_relative old) bytes old new b width ∙ ap (λ (x : File). x.body) was.1 in
    let z : slot_with bytes new b ≡ Some (file_of bytes new b) = rw some refl in
    z ∙ (λ i. Some (record { kind = k i; closed = c i; locked = lo i; name = says.named i; shown = sh i; held = he i; body = y i }))

-- ---- the channels

still_there : (d : Disk) (n m : ℕ) (f was : File) → n < length d.slots → file_at d m ≡ Some was → (g : File) × (file_at (with_slot d n (Some f)) m ≡ Some g)
still_there d n m f was room e = elim (cases_eq m n) [
  | inl same ↦ (f, ap (λ (i : ℕ). file_at (with_slot d n (Some f)) i) same ∙ get_or-set_same d.slots n (Some f) None room)
  | inr ne ↦ (was, other_slot d n m (Some f) (ne_eqb m n ne) ∙ e)
]

-- a channel that doesn't write the slot goes on, also where it reads it
pub used_on : (tracks : ℕ) (c c2 : Content) (l : Layout) (d : Disk) (n ch : ℕ) (f : File) (u : Use) → n < length d.slots → ((o : Owner) → Directory ≢ o → Keeps c c2 l.owner o) → writes_slot n u ≡ false
    → IsUsed tracks c l d ch u → IsUsed tracks c2 (with_file l n (l.files n) l.owner) (with_slot d n (Some f)) ch u
used_on tracks c c2 l d n ch f Idle room keeps spared h = tt
used_on tracks c c2 l d n ch f (Reads slot r left) room keeps spared h =
    let l2 : Layout = with_file l n (l.files n) l.owner in
    let k : IsReading tracks c2 l2 d slot r left = reading_kept tracks c c2 l l2 d d slot r left (keeps (DataOf slot) (λ z. (cc))) (λ p e. e) (omega arith) refl h in
    let now = still_there d n slot f k.file room k.in_slot in
    record { blocks = k.blocks; followed = k.followed; all = k.all; owned = k.owned; there = k.there; file = now.0; in_slot = now.1 }
used_on tracks c c2 l d n ch f (Relates slot) room keeps spared h = record {
  there = h.there;
  file = h.file;
  in_slot = other_slot d n slot (Some f) spared ∙ h.in_slot;
  closed = h.closed;
  relative = h.relative;
}
used_on tracks c c2 l d n ch f (Writes w bytes blocks) room keeps spared h =
    writing_kept tracks c c2 l (with_file l n (l.files n) l.owner) d (with_slot d n (Some f)) ch w bytes blocks (keeps (Writer ch) (λ z. (cc))) (λ p e. e) (omega arith) (other_slot d n w.slot (Some f) spared) h

-- ---- the step

named_over : (tracks : ℕ) (c c2 : Content) (l : Layout) (d : Disk) (uses : ℕ → Use) (n : ℕ) (body name : List ℕ) (f : File) → HoldsAt tracks c l d uses → file_at d n ≡ Some f → IsUnwritten uses n → n < slot_count l
    → Enters c c2 (sector_of l.directory n) (n % 8) body → IsRenamedAs (entry_at c l.directory n) body name
    → HoldsAt tracks c2 (with_file l n (l.files n) l.owner) (with_slot d n (Some (record f { name = before_filler name }))) uses
named_over tracks c c2 l d uses n body name f h at unwritten k enters says =
    let old : List ℕ = entry_at c l.directory n in
    let b : Blocks = l.files n in
    let f2 : File = record f { name = before_filler name } in
    let sound : Sound tracks c l = h.stands.sound in
    let t : type_byte body ≡ type_byte old = says.before 0 (omega arith) in
    let file : slot_of c body b ≡ Some f2 = named_file (chain_bytes c b.data_blocks) old body name b f says (sym (h.stands.describes.slots n k) ∙ at) in
    let lies : Lies tracks c body b = subst (λ (x : ℕ). LiesAs (bit_of x 7) (x % 16 == 4) tracks c body b) (sym t) (lies_named (is_closed old) (is_relative old) tracks c old body name b says (sound.lies n k)) in
    let kind : type_byte body % 16 < 5 = subst (λ (x : ℕ). x % 16 < 5) (sym t) (sound.kinds n k) in
    let stands : HasLayout tracks c2 (with_file l n b l.owner) (with_slot d n (Some f2)) = subst (λ (x : Option File). HasLayout tracks c2 (with_file l n b l.owner) (with_slot d n x)) file
    (stands_entry tracks c c2 l d n (sector_of l.directory n) body b l.owner h.stands k refl enters kind lies (extends_itself l n sound.owned) (sound.owned.blocks n k) (sound.owned.sides n k) sound.free) in
    let keeps : (o : Owner) → Directory ≢ o → Keeps c c2 l.owner o = λ o ne. written_keeps c c2 (sector_of l.directory n) enters.sector l.owner o enters.written (λ y. ne (sym (sector_owned l sound.owned n k) ∙ y)) in
    record {
      stands = stands;
      each = λ m. used_on tracks c c2 l d n m f2 (uses m) (omega (arith, k, h.stands.describes.size)) keeps (unwritten m) (h.each m);
      alone = h.alone;
    }

-- ---- the clauses of the call, over plain values

-- THE FILE HAS THE NAME, and all channels go on
pub named : (medium : ℕ) (c c2 : Content) (n : ℕ) (entry body name : List ℕ) (r : Result (Unit {0}) Trouble) → IsRenamedAs entry body name → EntryStandsAt medium c n entry → EntryPut (geometry_of medium c) c c2 n body r
    → (d : Disk) (uses : ℕ → Use) (f : File) → HoldsNow medium c d uses → file_at d n ≡ Some f → IsUnwritten uses n → OnOk r (HoldsNow medium c2 (with_slot d n (Some (record f { name = before_filler name }))) uses)
named medium c c2 n entry body name r says stands put d uses f h at unwritten = by_result r (put h.layout.directory sound.directory found.0)
  where
    tracks : ℕ
    tracks = geometry_of medium c

    sound : Sound tracks c h.layout
    sound = h.so.stands.sound

    found : (n < slot_count h.layout) × (entry ≡ entry_at c h.layout.directory n)
    found = entry_found tracks c h.layout n entry sound stands

    d2 : Disk
    d2 = with_slot d n (Some (record f { name = before_filler name }))

    same : Enters c c2 (sector_of h.layout.directory n) (n % 8) body → geometry_of medium c2 ≡ tracks
    same e =
        let apart : sector_of h.layout.directory n ≢ directory_head = λ k. (let z = sym (sector_owned h.layout sound.owned n found.0) ∙ ap h.layout.owner k ∙ sound.owned.map in (cc)) in
        geometry_elsewhere medium c c2 (ap (λ (x : Content). x directory_head) e.written ∙ written_elsewhere c (sector_of h.layout.directory n) directory_head e.sector apart)

    by_result : (r : Result (Unit {0}) Trouble) → OnOk r (Enters c c2 (sector_of h.layout.directory n) (n % 8) body) → OnOk r (HoldsNow medium c2 d2 uses)
    by_result (Ok x) e = subst (λ (k : ℕ). Holds k c2 d2 uses) (sym (same e)) (record {
      layout = _;
      so = named_over tracks c c2 h.layout d uses n body name f h.so at unwritten found.0 e (subst (λ (x : List ℕ). IsRenamedAs x body name) found.1 says);
    })
    by_result (Err t) e = tt

-- the sector of the entry reads, so only the medium as a whole refuses it
pub named_hindered : (medium : ℕ) (old new : Seen) (n : ℕ) (entry : List ℕ) (r : Result (Unit {0}) Trouble) → EntryStandsAt medium old.content n entry
    → ((directory : List Place) → Chain (geometry_of medium old.content) old.content first_directory directory → n < 8 * length directory → IfErr r (λ t. HasCause old new (sector_of directory n) t.code))
    → (d : Disk) (uses : ℕ → Use) → HoldsNow medium old.content d uses → IfErr r (IsHindered old new)
named_hindered medium old new n entry r stands cause d uses h = by_result r (cause h.layout.directory h.so.stands.sound.directory there)
  where
    there : n < slot_count h.layout
    there = (entry_found (geometry_of medium old.content) old.content h.layout n entry h.so.stands.sound stands).0

    reads : IsOk (old.content (sector_of h.layout.directory n))
    reads = sector_reads (geometry_of medium old.content) old.content h.layout.directory n h.so.stands.sound.directory there

    by_result : (r : Result (Unit {0}) Trouble) → IfErr r (λ t. HasCause old new (sector_of h.layout.directory n) t.code) → IfErr r (IsHindered old new)
    by_result (Ok x) k = tt
    by_result (Err t) k = sector_hindered old new (sector_of h.layout.directory n) t reads k

-- all closed files stay in place, the one of another name too
pub named_untouched : (medium : ℕ) (c c2 : Content) (n : ℕ) (entry body name : List ℕ) (r : Result (Unit {0}) Trouble) → IsRenamedAs entry body name → EntryStandsAt medium c n entry → EntryPut (geometry_of medium c) c c2 n body r → OnErr r (c2 ≡ c)
    → (d : Disk) (uses : ℕ → Use) → HoldsNow medium c d uses → LeavesClosed (geometry_of medium c) c c2 (λ m. false) (λ m. false)
named_untouched medium c c2 n entry body name (Ok x) says stands put same d uses h =
    let sound : Sound (geometry_of medium c) c h.layout = h.so.stands.sound in
    let found = entry_found (geometry_of medium c) c h.layout n entry sound stands in
    leaves_in (geometry_of medium c) c c2 h.layout (λ m. false) sound
    (kept_entered (geometry_of medium c) h.layout c c c2 n body (λ m. false) sound found.0 (put h.layout.directory sound.directory found.0)
    (λ e z. renamed_alike (entry_at c h.layout.directory n) body name (subst (λ (x : List ℕ). IsRenamedAs x body name) found.1 says)))
named_untouched medium c c2 n entry body name (Err t) says stands put same d uses h = same_untouched (geometry_of medium c) c c2 h.layout (λ m. false) h.so.stands.sound same

-- an Ok says that the entry that was found has the name, where the directory leads
pub named_led : (old new : Seen) (n : ℕ) (entry name : List ℕ) (r : Result (Unit {0}) Trouble) → Answers (seen_directory old) n (Ok (Some entry))
    → OnOk r (EntersLed (seen_tracks old) old.content new.content n (renamed_entry entry name)) → OnOk r (RenamesLed old new n name)
named_led old new n entry name (Ok x) found put = inr (entry, found, put)
named_led old new n entry name (Err t) found put = tt
