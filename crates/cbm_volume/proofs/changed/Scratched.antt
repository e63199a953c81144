-- SCRATCH of a slot: what the medium holds after each of its steps.
use Rattle.std.proofs.Common.{◌≡◌, ◌≢◌, ℕ, ◌+◌, ◌*◌, ◌%◌, ◌<◌, ◌≤◌, ◌++◌, length, arith, List, [], ◌∷◌, Bool, true, false, IsOk, refl, sym, ap, subst, ◌∙◌, inl, inr, Option, Some, None, Result, Ok, Err, IfErr, IsErrAnd}
use Rattle.std.proofs.lemmas.List.{length-append}
use Rattle.std.specs.Prelude.{◌⊎◌, ◌==◌, if◌then◌else◌, OnOk, OnErr, MatchBool}
use Rattle.cbm_medium.specs.Place.{Place, directory_head, sector_count}
use Rattle.cbm_medium.specs.Content.{Cell, Content, written}
use Rattle.cbm_medium.specs.Links.{or_nothing, Chain}
use Rattle.cbm_medium.specs.Seen.{Seen, write_refusal, HasFailed}
use Rattle.cbm_medium.specs.declared.fault.Trouble.{Trouble}
use Rattle.cbm_medium.proofs.Places.{written_elsewhere}
use Rattle.cbm_file.specs.Files.{File, Disk, blocks_held, file_at, with_slot}
use Rattle.cbm_file.specs.Changes.{scratched_in, scratched}
use Rattle.cbm_bam.specs.Map.{geometry_of, is_free_in, with_freed, map_of, IsMapped, Remaps, Frees}
use Rattle.cbm_bam.specs.Causes.{HasCause}
use Rattle.cbm_bam.proofs.Counts.{AreTaken}
use Rattle.cbm_chain.specs.Data.{chain_bytes}
use Rattle.cbm_directory.specs.Entries.{Enters, first_directory, is_closed, is_relative, type_byte, first_block, entry_at, sector_of}
use Rattle.cbm_directory.specs.EntryChanges.{cleared_entry, Clears, ClearsLed}
use Rattle.cbm_directory.specs.Slots.{Answers, directory_of}
use Rattle.cbm_volume.specs.Blocks.{Blocks, LiesAs, no_blocks, file_of}
use Rattle.cbm_volume.specs.Layouts.{DataOf, OwnedBy, Layout, slot_count, Sound, HasLayout}
use Rattle.cbm_volume.specs.SeenDisks.{seen_tracks, seen_directory}
use Rattle.cbm_volume.specs.Led.{IsFileWhole, FreesFile, RemapsFreed, ScratchesLed, ScratchStopped}
use Rattle.cbm_volume.specs.Staying.{LeavesClosed}
use Rattle.cbm_volume.specs.Opens.{IsUnused, IsHindered}
use Rattle.cbm_volume.specs.Writers.{Use, HoldsAt, Holds, HoldsNow, known, Stopped}
use Rattle.cbm_volume.proofs.written.Closing.{some_file}
use Rattle.cbm_volume.proofs.layouts.Hindered.{has_head, entry_hindered, handed_on}
use Rattle.cbm_volume.proofs.layouts.Lengths.{file_length}
use Rattle.cbm_volume.proofs.layouts.Listing.{entry_found, slot_shown, geometry_size}
use Rattle.cbm_volume.proofs.layouts.Loose.{sector_owned}
use Rattle.cbm_volume.proofs.layouts.OneSlot.{with_file}
use Rattle.cbm_volume.proofs.layouts.Refusals.{write_hindered, hindered_since}
use Rattle.cbm_volume.proofs.layouts.Releases.{frees_mapped}
use Rattle.cbm_volume.proofs.relative.Scratched.{all_blocks, gathered, gathered_owned, gathered_taken, lies_closed}
use Rattle.cbm_volume.proofs.opened.ReplacementBegun.{slot_within}
use Rattle.cbm_volume.proofs.written.Replacements.{geometry_remapped}
use Rattle.cbm_volume.proofs.changed.Scratching.{cleared_over, scratched_over}
use Rattle.cbm_volume.proofs.layouts.Staying.{KeepsClosed, kept_same, kept_then, kept_mapped, kept_exempt, leaves_in}
use Rattle.cbm_volume.proofs.written.Sparing.{same_untouched}
use Rattle.cbm_volume.proofs.written.Storing.{few, geometry_elsewhere}

-- ---- the entry

cleared_type : (e : List ℕ) → type_byte (cleared_entry e) ≡ 0
cleared_type [] = refl
cleared_type (x ∷ e) = refl

-- the entry of this slot was cleared, where the directory is
abbrev pub EntryCleared : ℕ → Content → Content → ℕ → Result (Unit {0}) Trouble → Type 0
EntryCleared tracks c c1 n r = (directory : List Place) → Chain tracks c first_directory directory → n < 8 * length directory → OnOk r (Clears c c1 (sector_of directory n) (n % 8))

-- the slot of a file is one of the directory's
slot_there : (medium : ℕ) (c : Content) (d : Disk) (uses : ℕ → Use) (n : ℕ) (f : File) (h : HoldsNow medium c d uses) → file_at d n ≡ Some f → n < slot_count h.layout
slot_there medium c d uses n f h some = omega (arith, slot_within d n f some, h.so.stands.describes.size)

-- what stands when the slot is empty
pub record IsCleared (medium : ℕ) (c c1 : Content) (l : Layout) (d : Disk) (uses : ℕ → Use) (n : ℕ) : Type 0 where
  pub holds : HoldsAt (geometry_of medium c) c1 (with_file l n no_blocks (gathered l n)) (with_slot d n None) uses
  pub same_map : c1 directory_head ≡ c directory_head
  pub same : geometry_of medium c1 ≡ geometry_of medium c

is_cleared : (medium : ℕ) (c c1 : Content) (d : Disk) (uses : ℕ → Use) (n : ℕ) (f : File) (h : HoldsNow medium c d uses) → file_at d n ≡ Some f → IsUnused uses n → EntryCleared (geometry_of medium c) c c1 n (Ok tt) → IsCleared medium c c1 h.layout d uses n
is_cleared medium c c1 d uses n f h some unused put =
    let l : Layout = h.layout in
    let there : n < slot_count l = slot_there medium c d uses n f h some in
    let enters : Enters c c1 (sector_of l.directory n) (n % 8) (cleared_entry (entry_at c l.directory n)) = put l.directory h.so.stands.sound.directory there in
    let apart : sector_of l.directory n ≢ directory_head = λ k. (let z = sym (sector_owned l h.so.stands.sound.owned n there) ∙ ap l.owner k ∙ h.so.stands.sound.owned.map in (cc)) in
    let same_map : c1 directory_head ≡ c directory_head = ap (λ (x : Content). x directory_head) enters.written ∙ written_elsewhere c (sector_of l.directory n) directory_head enters.sector apart in
    record {
      holds = cleared_over (geometry_of medium c) c c1 l d uses n (cleared_entry (entry_at c l.directory n)) h.so there unused enters (cleared_type (entry_at c l.directory n));
      same_map = same_map;
      same = geometry_elsewhere medium c c1 same_map;
    }

-- the entry that was read is the one of the slot's file
found_closed : (medium : ℕ) (c : Content) (d : Disk) (uses : ℕ → Use) (n : ℕ) (f : File) (entry : List ℕ) → HoldsNow medium c d uses → file_at d n ≡ Some f → Answers (directory_of (geometry_of medium c) c) n (Ok (Some entry)) → f.closed ≡ is_closed entry
unfolding file_of
found_closed medium c d uses n f entry h some found =
    let l : Layout = h.layout in
    let at = entry_found (geometry_of medium c) c l n entry h.so.stands.sound found in
    let s = some_file (chain_bytes c (l.files n).data_blocks) (entry_at c l.directory n) (l.files n) f (sym (h.so.stands.describes.slots n at.0) ∙ some) in
    sym (ap (λ (x : File). x.closed) s.1) ∙ ap is_closed (sym at.1)

-- ---- the clauses of the call, over plain values

abbrev pub Scratches : ℕ → Content → Content → ℕ → Result (Unit {0}) Trouble → Type 0
Scratches medium c c' n r = (d : Disk) (uses : ℕ → Use) (f : File) → HoldsNow medium c d uses → file_at d n ≡ Some f → IsUnused uses n → OnOk r (HoldsNow medium c' (scratched d n) uses)

abbrev pub Stops : ℕ → Content → Content → ℕ → Result (Unit {0}) Trouble → Type 0
Stops medium c c' n r = (d : Disk) (uses : ℕ → Use) (f : File) → HoldsNow medium c d uses → file_at d n ≡ Some f → IsUnused uses n → OnErr r (Stopped medium c' d (scratched d n) uses)

abbrev pub Hinders : Seen → Seen → ℕ → Result (Unit {0}) Trouble → Type 0
Hinders old new n r = (d : Disk) (uses : ℕ → Use) (f : File) → HoldsNow old.tracks old.content d uses → file_at d n ≡ Some f → IsUnused uses n → IfErr r (IsHindered old new)

abbrev pub Spares : ℕ → Content → Content → ℕ → Type 0
Spares medium c c' n = (d : Disk) (uses : ℕ → Use) (f : File) → HoldsNow medium c d uses → file_at d n ≡ Some f → IsUnused uses n → LeavesClosed (geometry_of medium c) c c' (λ m. false) (λ m. m == n)

-- ---- what can't be on a sound disk

no_error : (medium : ℕ) (c : Content) (d : Disk) (uses : ℕ → Use) (n : ℕ) (t : Trouble) → HoldsNow medium c d uses → Answers (directory_of (geometry_of medium c) c) n (Err t) → ⊥
no_error medium c d uses n t h a = slot_shown (geometry_of medium c) c h.layout d n (Err t) h.so.stands a

no_end : (medium : ℕ) (c : Content) (d : Disk) (uses : ℕ → Use) (n : ℕ) (f : File) → HoldsNow medium c d uses → file_at d n ≡ Some f → Answers (directory_of (geometry_of medium c) c) n (Ok None) → ⊥
no_end medium c d uses n f h some a = omega (arith, slot_shown (geometry_of medium c) c h.layout d n (Ok None) h.so.stands a, slot_within d n f some)

no_fault : (medium : ℕ) (c : Content) (d : Disk) (uses : ℕ → Use) (code : ℕ) → HoldsNow medium c d uses → c directory_head ≡ Err code → ⊥
no_fault medium c d uses code h z = (let y = subst (λ (x : Cell). IsOk x) z h.so.stands.sound.map_reads in (cc))

-- the closed file of the slot, with or without records
record IsThere (tracks : ℕ) (c : Content) (l : Layout) (n : ℕ) (f : File) : Type 0 where
  lies : LiesAs true (is_relative (entry_at c l.directory n)) tracks c (entry_at c l.directory n) (l.files n)
  held : f.held ≡ length (all_blocks (l.files n))

file_there : (tracks : ℕ) (c : Content) (l : Layout) (d : Disk) (n : ℕ) (f : File) → HasLayout tracks c l d → n < slot_count l → file_at d n ≡ Some f → f.closed ≡ true → IsThere tracks c l n f
unfolding file_of
file_there tracks c l d n f st k some closed =
    let entry : List ℕ = entry_at c l.directory n in
    let b : Blocks = l.files n in
    let s = some_file (chain_bytes c b.data_blocks) entry b f (sym (st.describes.slots n k) ∙ some) in
    record {
      lies = subst (λ (x : Bool). LiesAs x (is_relative entry) tracks c entry b) (ap (λ (x : File). x.closed) s.1 ∙ closed) (st.sound.lies n k);
      held = sym (ap (λ (x : File). x.held) s.1) ∙ sym (length-append b.data_blocks b.sides);
    }

-- what was said of the sectors of a file of this entry, wherever it lies: they were given back
abbrev pub GivesAll : ℕ → Content → List ℕ → List ℕ → List ℕ → Result (Unit {0}) Trouble → Type 0
GivesAll tracks c entry map freed r = (b : Blocks) → LiesAs true (is_relative entry) tracks c entry b → length b.data_blocks ≤ sector_count tracks → IsOk r × Frees tracks map (b.data_blocks ++ b.sides) freed

given_all : (medium : ℕ) (c : Content) (d : Disk) (uses : ℕ → Use) (n : ℕ) (f : File) (entry map freed : List ℕ) (r : Result (Unit {0}) Trouble) (h : HoldsNow medium c d uses) → file_at d n ≡ Some f
    → Answers (directory_of (geometry_of medium c) c) n (Ok (Some entry)) → is_closed entry ≡ true → GivesAll (geometry_of medium c) c entry map freed r → IsOk r × Frees (geometry_of medium c) map (all_blocks (h.layout.files n)) freed
given_all medium c d uses n f entry map freed r h some found closed all =
    let tracks : ℕ = geometry_of medium c in
    let l : Layout = h.layout in
    let at = entry_found tracks c l n entry h.so.stands.sound found in
    let file : IsThere tracks c l n f = file_there tracks c l d n f h.so.stands at.0 some (found_closed medium c d uses n f entry h some found ∙ closed) in
    let lies = lies_closed (is_relative (entry_at c l.directory n)) tracks c (entry_at c l.directory n) (l.files n) file.lies in
    subst (λ (x : List ℕ). GivesAll tracks c x map freed r) at.1 all (l.files n) file.lies
    (file_length tracks c l n (first_block (entry_at c l.directory n)) (l.files n).data_blocks (geometry_size medium c) h.so.stands.sound lies.chain (h.so.stands.sound.owned.blocks n at.0))

no_break : (medium : ℕ) (c : Content) (d : Disk) (uses : ℕ → Use) (n : ℕ) (f : File) (entry map freed : List ℕ) (t : Trouble) → HoldsNow medium c d uses → file_at d n ≡ Some f
    → Answers (directory_of (geometry_of medium c) c) n (Ok (Some entry)) → is_closed entry ≡ true → GivesAll (geometry_of medium c) c entry map freed (Err t) → ⊥
no_break medium c d uses n f entry map freed t h some found closed all =
    let y = (given_all medium c d uses n f entry map freed (Err t) h some found closed all).0 in cc

pub no_entry : (medium : ℕ) (c c' : Content) (n : ℕ) (t : Trouble) (r : Result (Unit {0}) Trouble) → Answers (directory_of (geometry_of medium c) c) n (Err t) → Stops medium c c' n r
no_entry medium c c' n t r a = λ d uses f h some unused. absurd (no_error medium c d uses n t h a)

pub no_slot : (medium : ℕ) (c c' : Content) (n : ℕ) (o : Option (List ℕ)) (r : Result (Unit {0}) Trouble) → o ≡ None → Answers (directory_of (geometry_of medium c) c) n (Ok o) → Scratches medium c c' n r
no_slot medium c c' n o r z a = λ d uses f h some unused. absurd (no_end medium c d uses n f h some (subst (λ (x : Option (List ℕ)). Answers (directory_of (geometry_of medium c) c) n (Ok x)) z a))

pub no_map : (medium : ℕ) (c c' : Content) (n code : ℕ) (r : Result (Unit {0}) Trouble) → c directory_head ≡ Err code → Stops medium c c' n r
no_map medium c c' n code r z = λ d uses f h some unused. absurd (no_fault medium c d uses code h z)

pub no_chain : (medium : ℕ) (c c' : Content) (n : ℕ) (entry map freed : List ℕ) (t : Trouble) (r : Result (Unit {0}) Trouble) → Answers (directory_of (geometry_of medium c) c) n (Ok (Some entry)) → is_closed entry ≡ true
    → GivesAll (geometry_of medium c) c entry map freed (Err t) → Stops medium c c' n r
no_chain medium c c' n entry map freed t r found closed z = λ d uses f h some unused. absurd (no_break medium c d uses n f entry map freed t h some found closed z)

-- ---- the steps

-- the entry is refused: nothing has changed
pub entry_refused : (medium : ℕ) (c c' : Content) (n : ℕ) (r : Result (Unit {0}) Trouble) → OnErr r (c' ≡ c) → Stops medium c c' n r
entry_refused medium c c' n (Ok x) same = λ d uses f h some unused. tt
entry_refused medium c c' n (Err t) same = λ d uses f h some unused. record { disk = d; holds = subst (λ (x : Content). HoldsNow medium x d uses) (sym same) h; either = λ m. inl refl; total = refl }

-- a file that isn't closed: its entry alone
pub open_scratched : (medium : ℕ) (c c1 : Content) (n : ℕ) (entry : List ℕ) (r : Result (Unit {0}) Trouble) → Answers (directory_of (geometry_of medium c) c) n (Ok (Some entry)) → is_closed entry ≡ false
    → EntryCleared (geometry_of medium c) c c1 n r → Scratches medium c c1 n r
open_scratched medium c c1 n entry (Err t) found open_ put = λ d uses f h some unused. tt
open_scratched medium c c1 n entry (Ok x) found open_ put = λ d uses f h some unused.
    let k : IsCleared medium c c1 h.layout d uses n = is_cleared medium c c1 d uses n f h some unused put in
    let none : blocks_held (Some f) ≡ 0 = ap (λ (b : Bool). if b then f.held else 0) (found_closed medium c d uses n f entry h some found ∙ open_) in
    let free : d.free + blocks_held (Some f) ≡ d.free = omega (arith, none) in
    let disk : scratched d n ≡ with_slot d n None = ap (λ (x : Option File). scratched_in x d n) some ∙ ap (λ (m : ℕ). record (with_slot d n None) { free = m }) free in
    subst (λ (x : Disk). HoldsNow medium c1 x uses) (sym disk) (subst (λ (m : ℕ). Holds m c1 (with_slot d n None) uses) (sym k.same) (record { layout = _; so = k.holds }))

-- what stands when the slot is empty, and when the file's blocks were given back
pub record IsScratched (medium : ℕ) (c1 : Content) (d : Disk) (n : ℕ) (uses : ℕ → Use) (freed : List ℕ) : Type 0 where
  pub holds : HoldsNow medium c1 (with_slot d n None) uses
  pub slots : (m : ℕ) → known (file_at (with_slot d n None) m) ≡ known (file_at (scratched d n) m)
  pub given_back : (c2 : Content) → c2 ≡ written c1 directory_head freed → HoldsNow medium c2 (scratched d n) uses

-- the slot is empty, whoever holds the disk
abbrev pub SlotEmpty : ℕ → Content → Content → ℕ → List ℕ → Type 0
SlotEmpty medium c c1 n freed = (d : Disk) (uses : ℕ → Use) (f : File) → HoldsNow medium c d uses → file_at d n ≡ Some f → IsUnused uses n → IsScratched medium c1 d n uses freed

pub is_scratched : (medium : ℕ) (c c1 : Content) (n : ℕ) (entry map freed : List ℕ) → Answers (directory_of (geometry_of medium c) c) n (Ok (Some entry)) → is_closed entry ≡ true → c directory_head ≡ Ok map
    → GivesAll (geometry_of medium c) c entry map freed (Ok tt) → EntryCleared (geometry_of medium c) c c1 n (Ok tt) → SlotEmpty medium c c1 n freed
is_scratched medium c c1 n entry map freed found closed head given put = λ d uses f h some unused.
    let tracks : ℕ = geometry_of medium c in
    let l : Layout = h.layout in
    let all : List Place = all_blocks (l.files n) in
    let l1 : Layout = with_file l n no_blocks (gathered l n) in
    let d1 : Disk = with_slot d n None in
    let at = entry_found tracks c l n entry h.so.stands.sound found in
    let file : IsThere tracks c l n f = file_there tracks c l d n f h.so.stands at.0 some (found_closed medium c d uses n f entry h some found ∙ closed) in
    let lies = lies_closed (is_relative (entry_at c l.directory n)) tracks c (entry_at c l.directory n) (l.files n) file.lies in
    let k : IsCleared medium c c1 l d uses n = is_cleared medium c c1 d uses n f h some unused put in
    let map_is : map_of c1 ≡ map = ap or_nothing (k.same_map ∙ head) in
    let frees : Frees tracks map all freed = (given_all medium c d uses n f entry map freed (Ok tt) h some found closed given).1 in
    let mapped : IsMapped tracks (map_of c1) freed (with_freed (is_free_in (map_of c1)) all) = subst (λ (x : List ℕ). IsMapped tracks x freed (with_freed (is_free_in x) all)) (sym map_is) (frees_mapped tracks map freed all frees) in
    let held : OwnedBy (gathered l n) (DataOf n) all = gathered_owned tracks c l n h.so.stands.sound at.0 in
    let taken : AreTaken tracks (is_free_in (map_of c1)) all = gathered_taken tracks c c1 l d1 n (entry_at c l.directory n) h.so.stands.sound at.0 lies k.holds.stands in
    let disk : scratched d n ≡ record (with_slot d n None) { free = d.free + length all } =
    ap (λ (x : Option File). scratched_in x d n) some
    ∙ ap (λ (m : ℕ). record (with_slot d n None) { free = d.free + m }) (ap (λ (b : Bool). if b then f.held else 0) (found_closed medium c d uses n f entry h some found ∙ closed) ∙ file.held) in
    record {
      holds = subst (λ (m : ℕ). Holds m c1 d1 uses) (sym k.same) (record { layout = l1; so = k.holds });
      slots = λ m. sym (ap (λ (x : Disk). known (file_at x m)) disk);
      given_back = λ c2 new.
          let r : Remaps tracks c1 c2 (with_freed (is_free_in (map_of c1)) all) = record { map = freed; mapped = mapped; written = new } in
          let at2 = scratched_over tracks c1 c2 l (gathered l n) d1 uses n all (few medium c) k.holds unused held taken r in
          let same2 : geometry_of medium c2 ≡ tracks = geometry_remapped medium c1 c2 l1 (with_freed (is_free_in (map_of c1)) all) (subst (λ (m : ℕ). Sound m c1 l1) (sym k.same) k.holds.stands.sound) (subst (λ (m : ℕ). Remaps m c1 c2 (with_freed (is_free_in (map_of c1)) all)) (sym k.same) r) ∙ k.same in
          subst (λ (m : ℕ). Holds m c2 (scratched d n) uses) (sym same2) (subst (λ (x : Disk). Holds tracks c2 x uses) (sym disk) (record { layout = _; so = at2 }));
    }

pub scratched_ok : (medium : ℕ) (c c1 c2 : Content) (n : ℕ) (freed : List ℕ) (r : Result (Unit {0}) Trouble) → OnOk r (c2 ≡ written c1 directory_head freed) → SlotEmpty medium c c1 n freed → Scratches medium c c2 n r
scratched_ok medium c c1 c2 n freed (Ok x) new done = λ d uses f h some unused. (done d uses f h some unused).given_back c2 new
scratched_ok medium c c1 c2 n freed (Err t) new done = λ d uses f h some unused. tt

pub scratched_stopped : (medium : ℕ) (c c1 c2 : Content) (n : ℕ) (freed : List ℕ) (r : Result (Unit {0}) Trouble) → OnErr r (c2 ≡ c1) → SlotEmpty medium c c1 n freed → Stops medium c c2 n r
scratched_stopped medium c c1 c2 n freed (Ok x) same done = λ d uses f h some unused. tt
scratched_stopped medium c c1 c2 n freed (Err t) same done = λ d uses f h some unused.
    let s : IsScratched medium c1 d n uses freed = done d uses f h some unused in
    record { disk = with_slot d n None; holds = subst (λ (x : Content). HoldsNow medium x (with_slot d n None) uses) (sym same) s.holds; either = λ m. inr (s.slots m); total = refl }

-- ---- why it is refused

pub slot_hindered : (old new : Seen) (n : ℕ) (t : Trouble) (r : Result (Unit {0}) Trouble) → Answers (directory_of (geometry_of old.tracks old.content) old.content) n (Err t) → Hinders old new n r
slot_hindered old new n t r a = λ d uses f h some unused. absurd (no_error old.tracks old.content d uses n t h a)

pub map_hindered : (old new : Seen) (n code : ℕ) (r : Result (Unit {0}) Trouble) → old.content directory_head ≡ Err code → Hinders old new n r
map_hindered old new n code r z = λ d uses f h some unused. absurd (no_fault old.tracks old.content d uses code h z)

pub chain_hindered : (old new : Seen) (n : ℕ) (entry map freed : List ℕ) (t : Trouble) (r : Result (Unit {0}) Trouble) → Answers (directory_of (geometry_of old.tracks old.content) old.content) n (Ok (Some entry)) → is_closed entry ≡ true
    → GivesAll (geometry_of old.tracks old.content) old.content entry map freed (Err t) → Hinders old new n r
chain_hindered old new n entry map freed t r found closed z = λ d uses f h some unused. absurd (no_break old.tracks old.content d uses n f entry map freed t h some found closed z)

-- why an entry isn't cleared, where the directory is
abbrev pub ClearingRefused : Seen → Seen → ℕ → Result (Unit {0}) Trouble → Type 0
ClearingRefused old new n r = (directory : List Place) → Chain (geometry_of old.tracks old.content) old.content first_directory directory → n < 8 * length directory → IfErr r (λ t. HasCause old new (sector_of directory n) t.code)

pub clearing_hindered : (old new : Seen) (n : ℕ) (r : Result (Unit {0}) Trouble) → ClearingRefused old new n r → Hinders old new n r
clearing_hindered old new n (Ok x) cause = λ d uses f h some unused. tt
clearing_hindered old new n (Err t) cause = λ d uses f h some unused.
    let there : n < slot_count h.layout = slot_there old.tracks old.content d uses n f h some in
    entry_hindered (geometry_of old.tracks old.content) old new h.layout n t h.so.stands.sound there (cause h.layout.directory h.so.stands.sound.directory there)

-- an error that is handed on
pub clearing_handed_on : (old new : Seen) (n : ℕ) (t : Trouble) (r : Result (Unit {0}) Trouble) → IsErrAnd r (λ x. x ≡ t) → ClearingRefused old new n (Err t) → Hinders old new n r
clearing_handed_on old new n t r is cause = λ d uses f h some unused. handed_on r t (IsHindered old new) is (clearing_hindered old new n (Err t) cause d uses f h some unused)

pub release_hindered : (old mid new : Seen) (n : ℕ) (freed : List ℕ) (r : Result (Unit {0}) Trouble) → mid.protected ≡ old.protected → old.failures ≤ mid.failures → SlotEmpty old.tracks old.content mid.content n freed
    → IfErr r (λ t. (write_refusal mid directory_head ≡ Some t.code) ⊎ HasFailed mid new) → Hinders old new n r
release_hindered old mid new n freed (Ok x) protected counted done cause = λ d uses f h some unused. tt
release_hindered old mid new n freed (Err t) protected counted done cause = λ d uses f h some unused.
    let s : IsScratched old.tracks mid.content d n uses freed = done d uses f h some unused in
    hindered_since old mid new t protected counted
    (write_hindered (geometry_of old.tracks mid.content) mid new s.holds.layout directory_head t s.holds.so.stands.sound (has_head (geometry_of old.tracks mid.content) (few old.tracks mid.content)) cause)

-- ---- what it leaves alone

pub nothing_written : (medium : ℕ) (c c' : Content) (n : ℕ) → c' ≡ c → Spares medium c c' n
nothing_written medium c c' n e = λ d uses f h some unused. same_untouched (geometry_of medium c) c c' h.layout (λ m. m == n) h.so.stands.sound e

clearing_keeps : (medium : ℕ) (c c1 : Content) (d : Disk) (uses : ℕ → Use) (n : ℕ) (f : File) (r : Result (Unit {0}) Trouble) (h : HoldsNow medium c d uses) → file_at d n ≡ Some f → EntryCleared (geometry_of medium c) c c1 n r → OnErr r (c1 ≡ c) → KeepsClosed h.layout c c1 (λ m. m == n)
clearing_keeps medium c c1 d uses n f (Err t) h some put err = kept_same h.layout c c1 (λ m. m == n) err
clearing_keeps medium c c1 d uses n f (Ok x) h some put err =
    let there : n < slot_count h.layout = slot_there medium c d uses n f h some in
    let enters : Enters c c1 (sector_of h.layout.directory n) (n % 8) (cleared_entry (entry_at c h.layout.directory n)) = put h.layout.directory h.so.stands.sound.directory there in
    kept_exempt (geometry_of medium c) h.layout c c c1 n (cleared_entry (entry_at c h.layout.directory n)) h.so.stands.sound there enters

pub clearing_spared : (medium : ℕ) (c c1 : Content) (n : ℕ) (r : Result (Unit {0}) Trouble) → EntryCleared (geometry_of medium c) c c1 n r → OnErr r (c1 ≡ c) → Spares medium c c1 n
clearing_spared medium c c1 n r put err = λ d uses f h some unused.
    leaves_in (geometry_of medium c) c c1 h.layout (λ m. m == n) h.so.stands.sound (clearing_keeps medium c c1 d uses n f r h some put err)

pub release_spared : (medium : ℕ) (c c1 c2 : Content) (n : ℕ) (freed : List ℕ) (r : Result (Unit {0}) Trouble) → EntryCleared (geometry_of medium c) c c1 n (Ok tt) → OnOk r (c2 ≡ written c1 directory_head freed) → OnErr r (c2 ≡ c1) → Spares medium c c2 n
release_spared medium c c1 c2 n freed r put ok err = λ d uses f h some unused.
    leaves_in (geometry_of medium c) c c2 h.layout (λ m. m == n) h.so.stands.sound
    (kept_then h.layout c c1 c2 (λ m. m == n) (clearing_keeps medium c c1 d uses n f (Ok tt) h some put tt) (by_result h.layout h.so.stands.sound r ok err))
  where
    by_result : (l : Layout) → Sound (geometry_of medium c) c l → (r : Result (Unit {0}) Trouble) → OnOk r (c2 ≡ written c1 directory_head freed) → OnErr r (c2 ≡ c1) → KeepsClosed l c1 c2 (λ m. m == n)
    by_result l sound (Ok x) ok err = kept_mapped l c1 c2 freed (λ m. m == n) sound.owned ok
    by_result l sound (Err t) ok err = kept_same l c1 c2 (λ m. m == n) err

-- ---- on any disk

-- what the map is after it, whether or not the entry was closed
abbrev IsMapAfter : Seen → Content → Content → List ℕ → Bool → Type 0
IsMapAfter old cleared new entry closed = MatchBool closed (RemapsFreed old cleared new (FreesFile (seen_tracks old) old.content entry)) (new ≡ cleared)

-- an Ok says that the entry of a file that was never closed is cleared, where the directory leads
pub open_led : (old new : Seen) (n : ℕ) (entry : List ℕ) (r : Result (Unit {0}) Trouble) → Answers (seen_directory old) n (Ok (Some entry)) → is_closed entry ≡ false
    → OnOk r (ClearsLed (seen_tracks old) old.content new.content n) → OnOk r (ScratchesLed old new n)
open_led old new n entry (Ok x) found unclosed put = inr (entry, found, (new.content, put, subst (IsMapAfter old new.content new.content entry) (sym unclosed) refl))
open_led old new n entry (Err t) found unclosed put = tt

-- and of a closed one, that then its sectors were given back
pub closed_led : (old mid new : Seen) (n : ℕ) (entry map freed : List ℕ) (r : Result (Unit {0}) Trouble) → Answers (seen_directory old) n (Ok (Some entry)) → is_closed entry ≡ true → old.content directory_head ≡ Ok map
    → FreesFile (seen_tracks old) old.content entry map freed → ClearsLed (seen_tracks old) old.content mid.content n → OnOk r (new.content ≡ written mid.content directory_head freed) → OnOk r (ScratchesLed old new n)
closed_led old mid new n entry map freed (Ok x) found closed head given put mapped =
    inr (entry, found, (mid.content, put, subst (IsMapAfter old mid.content new.content entry) (sym closed) (map, freed, head, given, mapped)))
closed_led old mid new n entry map freed (Err t) found closed head given put mapped = tt

-- an Err: nothing has changed
pub stopped_before : (old new : Seen) (n : ℕ) (r : Result (Unit {0}) Trouble) → OnErr r (new.content ≡ old.content) → OnErr r (ScratchStopped old new n)
stopped_before old new n (Ok x) same = tt
stopped_before old new n (Err t) same = inl same

-- or the map alone wasn't written
pub stopped_after : (old mid new : Seen) (n : ℕ) (entry : List ℕ) (r : Result (Unit {0}) Trouble) → Answers (seen_directory old) n (Ok (Some entry)) → is_closed entry ≡ true → IsFileWhole (seen_tracks old) old.content entry
    → ClearsLed (seen_tracks old) old.content mid.content n → OnErr r (new.content ≡ mid.content) → OnErr r (ScratchStopped old new n)
stopped_after old mid new n entry (Ok x) found closed whole put same = tt
stopped_after old mid new n entry (Err t) found closed whole put same = inr (entry, found, closed, whole, subst (λ (x : Content). ClearsLed (seen_tracks old) old.content x n) (sym same) put)
