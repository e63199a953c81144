-- A new relative file as the calls answer it: its room, its entry, and the whole.
use Rattle.std.proofs.Common.{◌≡◌, ℕ, ◌*◌, ◌%◌, ◌<◌, ◌≤◌, length, arith, List, Bool, true, false, sym, ap, subst, ◌∙◌, Some, Result, Ok, Err, IfErr}
use Rattle.std.specs.Prelude.{◌||◌, not, nat_lt, OnOk, OnErr, MatchResult}
use Rattle.std.proofs.lemmas.Bool.{le-ltb}
use Rattle.cbm_medium.specs.Place.{Place}
use Rattle.cbm_medium.specs.Content.{Content}
use Rattle.cbm_medium.specs.Links.{Chain}
use Rattle.cbm_medium.specs.Seen.{Seen}
use Rattle.cbm_medium.specs.declared.fault.Trouble.{Trouble}
use Rattle.cbm_file.specs.declared.file_type.FileType.TheVariants.{Rel}
use Rattle.cbm_file.specs.Padding.{before_filler}
use Rattle.cbm_file.specs.Files.{Disk, empty_from}
use Rattle.cbm_file.specs.Changes.{grown, has_slot}
use Rattle.cbm_file.specs.Records.{with_new_records}
use Rattle.cbm_bam.specs.Map.{geometry_of}
use Rattle.cbm_bam.specs.Causes.{HasCause}
use Rattle.cbm_directory.specs.Entries.{IsClosedAs, Enters, first_directory, sector_of}
use Rattle.cbm_directory.specs.EntryChanges.{IsFreshAs, IsRelativeAs}
use Rattle.cbm_volume.specs.Copies.{less, IsCopyCut}
use Rattle.cbm_volume.specs.Layouts.{Layout}
use Rattle.cbm_volume.specs.NewRecords.{HasNoRoomForRecords, HasTwo, HoldsNew}
use Rattle.cbm_volume.specs.Reaches.{Reached}
use Rattle.cbm_volume.specs.Writers.{Use, Idle, HoldsNow}
use Rattle.cbm_volume.proofs.copied.Making.{same_files_less}
use Rattle.cbm_volume.proofs.opened.OpenedFiles.{empty_at}
use Rattle.cbm_volume.proofs.opened.OpenedSlots.{reached_same}
use Rattle.cbm_volume.proofs.records_made.RecordsMade.{records_over}
use Rattle.cbm_volume.proofs.layouts.Refusals.{sector_hindered, sector_reads}

-- the clause of the part that makes the file, over what the medium shows
abbrev pub MakesRecords : Seen → Seen → List ℕ → ℕ → Result ℕ Trouble → Type 0
MakesRecords old new name w r = (d : Disk) (uses : ℕ → Use) (ch : ℕ) (h : HoldsNow old.tracks old.content d uses) → uses ch ≡ Idle → has_slot d ≡ true → 2 ≤ d.free
    → MatchResult r (λ slot. (empty_from 0 (grown d).slots ≡ Some slot) × Reached old.tracks old.content h.layout new.content (with_new_records d (before_filler name) w) uses) (IsCopyCut old new old.content h.layout d uses)

-- ---- the room

-- too little as counted is too little
pub none_counted : (d : Disk) (blocks : ℕ) (slot : Bool) → blocks ≡ d.free → slot ≡ has_slot d → (nat_lt blocks 2 || not slot) ≡ true → HasNoRoomForRecords d
none_counted d blocks slot f s h = sym (λ i. nat_lt (f i) 2 || not (s i)) ∙ h

-- enough as counted is enough
pub records_room : (d : Disk) (blocks : ℕ) (slot : Bool) → (blocks ≡ d.free) × (slot ≡ has_slot d) → (2 ≤ blocks) × (slot ≡ true) → (has_slot d ≡ true) × (2 ≤ d.free)
records_room d blocks slot means enough = (sym means.1 ∙ enough.1, omega (arith, enough.0, means.0))

-- both can't be
pub room_or_none : (d : Disk) → has_slot d ≡ true → 2 ≤ d.free → HasNoRoomForRecords d → ⊥
room_or_none d slot enough none =
    let n : nat_lt d.free 2 ≡ false = le-ltb d.free 2 enough in
    let some : (nat_lt d.free 2 || not (has_slot d)) ≡ false = rw n (ap not slot) in
    let z = sym some ∙ none in (cc)

-- ---- the entry

-- THE FILE'S ENTRY IS WRITTEN, or refused
pub new_entry_made : (old new : Seen) (geometry : ℕ) (p q : Place) (w n : ℕ) (name : List ℕ) (at : Place) (e0 e1 body : List ℕ) (r : Result (Unit {0}) Trouble) → 1 ≤ w → w ≤ 254
    → IsFreshAs e0 Rel name at → IsClosedAs e0 e1 p 2 → IsRelativeAs e1 body q w
    → ((directory : List Place) → Chain geometry old.content first_directory directory → n < 8 * length directory → OnOk r (Enters old.content new.content (sector_of directory n) (n % 8) body)) → OnErr r (new.content ≡ old.content)
    → ((directory : List Place) → Chain geometry old.content first_directory directory → n < 8 * length directory → IfErr r (λ t. HasCause old new (sector_of directory n) t.code))
    → (c : Content) (l : Layout) (d : Disk) (uses : ℕ → Use) (ch : ℕ) → HasTwo old.tracks c l d uses ch old.content p q → HoldsNew old.content p q w → empty_from 0 (grown d).slots ≡ Some n → geometry ≡ geometry_of old.tracks c
    → MatchResult r (λ x. Reached old.tracks c l new.content (with_new_records d (before_filler name) w) uses) (IsCopyCut old new c l d uses)
new_entry_made old new geometry p q w n name at e0 e1 body r some most fresh_is closes says entered same cause c l d uses ch k holds empty size = by_result r entered same cause
  where
    dir : List Place
    dir = k.reached.layout.directory

    chain : Chain (geometry_of old.tracks c) old.content first_directory dir
    chain = k.reached.so.stands.sound.directory

    here : Chain geometry old.content first_directory dir
    here = subst (λ (m : ℕ). Chain m old.content first_directory dir) (sym size) chain

    there : n < 8 * length dir
    there = omega (arith, (empty_at 0 n (grown d).slots empty).1.0, k.reached.so.stands.describes.size)

    by_result : (r : Result (Unit {0}) Trouble) → ((directory : List Place) → Chain geometry old.content first_directory directory → n < 8 * length directory → OnOk r (Enters old.content new.content (sector_of directory n) (n % 8) body)) → OnErr r (new.content ≡ old.content)
        → ((directory : List Place) → Chain geometry old.content first_directory directory → n < 8 * length directory → IfErr r (λ t. HasCause old new (sector_of directory n) t.code))
        → MatchResult r (λ x. Reached old.tracks c l new.content (with_new_records d (before_filler name) w) uses) (IsCopyCut old new c l d uses)
    by_result (Ok x) entered same cause = records_over old.tracks c l d uses ch old.content new.content p q w n name at e0 e1 body k holds some most empty fresh_is closes says (entered dir here there)
    by_result (Err t) entered same cause = (
      record { disk = less 2 d; reached = reached_same old.tracks c l old.content new.content (less 2 d) uses same k.reached; slots = same_files_less d 2 },
      sector_hindered old new (sector_of dir n) t (sector_reads (geometry_of old.tracks c) old.content dir n chain there) (cause dir here there),
    )
