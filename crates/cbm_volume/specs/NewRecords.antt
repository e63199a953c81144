-- OPEN of a new relative file: too little room for it, and a file that is being made.
use Rattle.std.specs.Prelude.{ℕ, ◌≤◌, ◌≡◌, ◌≢◌, nat_lt, List, true, false, ◌||◌, not, Option, Some, Result, Ok, MatchOption, MatchResult}
use Rattle.cbm_medium.specs.Place.{Place, Has}
use Rattle.cbm_medium.specs.Content.{Content}
use Rattle.cbm_medium.specs.Seen.{Seen}
use Rattle.cbm_medium.specs.declared.fault.Trouble.{Trouble}
use Rattle.cbm_file.specs.Padding.{before_filler}
use Rattle.cbm_file.specs.Files.{Disk, empty_from}
use Rattle.cbm_file.specs.Changes.{has_slot, grown}
use Rattle.cbm_file.specs.Records.{with_new_records}
use Rattle.cbm_bam.specs.Map.{geometry_of}
use Rattle.cbm_relfile.specs.Making.{IsFreshBlock, one_listed, AreClaimed, IsNewRelfile}
use Rattle.cbm_file.specs.declared.file_type.FileType.TheVariants.{Rel}
use Rattle.cbm_directory.specs.Entries.{EntersLed, closed_entry}
use Rattle.cbm_directory.specs.EntryChanges.{fresh_entry, IsRelativeAs}
use Rattle.cbm_directory.specs.Empties.{TakesSlot}
use Rattle.cbm_volume.specs.SeenDisks.{seen_tracks}
use Rattle.cbm_volume.specs.Calls.{OfIdle, IsCall}
use Rattle.cbm_volume.specs.Copies.{less, IsCopyCut, OfVacant}
use Rattle.cbm_volume.specs.Layouts.{Writer, Layout}
use Rattle.cbm_volume.specs.Reaches.{Reached}
use Rattle.cbm_volume.specs.Writers.{Use, Idle, HoldsNow, Stopped}

-- fewer than two blocks are free, or there is no place for the name
abbrev pub HasNoRoomForRecords : Disk → Type 0
HasNoRoomForRecords d = (nat_lt d.free 2 || not (has_slot d)) ≡ true

-- A RELATIVE FILE IS BEING MADE, of a disk and a layout that were before it: a block and a side sector are claimed for it, and no slot
-- has them. The number is one that no channel has.
pub record HasTwo (medium : ℕ) (c : Content) (l : Layout) (d : Disk) (uses : ℕ → Use) (ch : ℕ) (now : Content) (p q : Place) : Type 0 where
  pub idle : uses ch ≡ Idle
  pub reached : Reached medium c l now (less 2 d) uses
  pub block : reached.layout.owner p ≡ Writer ch
  pub side : reached.layout.owner q ≡ Writer ch
  pub apart : p ≢ q
  pub has_block : Has (geometry_of medium c) p
  pub has_side : Has (geometry_of medium c) q
  pub block_off : p.track ≢ 18
  pub side_off : q.track ≢ 18

-- the two sectors hold fresh records, and the list of the one block
pub record HoldsNew (c : Content) (p q : Place) (w : ℕ) : Type 0 where
  pub bytes : List ℕ
  pub fresh : IsFreshBlock w bytes
  pub at_block : c p ≡ Ok bytes
  pub at_side : c q ≡ Ok (one_listed p q w)

-- ---- what the calls leave

-- WHAT OPEN OF A NEW RELATIVE FILE LEAVES of a sound disk: the first empty slot has the file, and is answered; or there is no room for it, and
-- nothing has changed; or a write was refused, and each slot is as before or as after.
abbrev pub OpensNewRecords : Result (Option ℕ) Trouble → Seen → Seen → List ℕ → ℕ → Type 0
OpensNewRecords result old new name width =
    OfIdle old (λ d uses ch. let after = with_new_records d (before_filler name) width in
    IsCall result old new (λ o. MatchOption o (HasNoRoomForRecords d × (new.content ≡ old.content))
    (λ slot. (empty_from 0 (grown d).slots ≡ Some slot) × HoldsNow old.tracks new.content after uses))
    (Stopped old.tracks new.content d after uses) (λ m. false))

-- The file is made where two blocks are free: the first empty slot has it, and is answered; or a write was refused on the way.
abbrev pub MakesRelative : Result ℕ Trouble → Seen → Seen → List ℕ → ℕ → Type 0
MakesRelative result old new name width =
    OfVacant old (λ d uses ch h. 2 ≤ d.free → let after = with_new_records d (before_filler name) width in
    MatchResult result (λ slot. (empty_from 0 (grown d).slots ≡ Some slot) × Reached old.tracks old.content h.layout new.content after uses)
    (IsCopyCut old new old.content h.layout d uses))

-- It begins where two blocks are free, on a disk of so many tracks: the first empty slot is found, and a block and a side sector are claimed.
abbrev pub ClaimsForRecords : Result (ℕ × (Place × Place)) Trouble → Seen → Seen → ℕ → Type 0
ClaimsForRecords result old new geometry =
    OfVacant old (λ d uses ch h. 2 ≤ d.free → geometry ≡ geometry_of old.tracks old.content →
    MatchResult result (λ r. (empty_from 0 (grown d).slots ≡ Some r.0) × HasTwo old.tracks old.content h.layout d uses ch new.content r.1.0 r.1.1)
    (IsCopyCut old new old.content h.layout d uses))

-- Its entry is written into the slot that was found, where its two sectors are: the disk has the file, or the write was refused.
abbrev pub EntersRecords : Result (Unit {0}) Trouble → Seen → Seen → ℕ → Place → Place → List ℕ → ℕ → ℕ → Type 0
EntersRecords result old new geometry block side name width number =
    (c : Content) (l : Layout) (d : Disk) (uses : ℕ → Use) (ch : ℕ) →
    HasTwo old.tracks c l d uses ch old.content block side → HoldsNew old.content block side width →
    empty_from 0 (grown d).slots ≡ Some number → geometry ≡ geometry_of old.tracks c →
    MatchResult result (λ x. Reached old.tracks c l new.content (with_new_records d (before_filler name) width) uses) (IsCopyCut old new c l d uses)

-- ---- on any disk

-- the first empty slot was taken, and then a block and a side sector were claimed
abbrev pub ClaimsLed : ℕ → Content → Content → ℕ × (Place × Place) → Type 0
ClaimsLed tracks old new r = (taken : Content) × TakesSlot tracks old taken (Some r.0) × AreClaimed tracks taken new r.1.0 r.1.1

-- the closed entry of a file that has these two sectors was written into a slot, where the directory leads
abbrev pub EntersRecordsLed : ℕ → Content → Content → Place → Place → List ℕ → ℕ → ℕ → Type 0
EntersRecordsLed tracks old new block side name width slot =
    (entry : List ℕ) × IsRelativeAs (closed_entry (fresh_entry Rel name block) block 2) entry side width × EntersLed tracks old new slot entry

-- A NEW RELATIVE FILE IS MADE ON ANY DISK: a slot and two sectors were taken, the two sectors were written, and then the slot's entry.
abbrev pub NewRecordsLed : Seen → Seen → List ℕ → ℕ → ℕ → Type 0
NewRecordsLed old new name width slot =
    (claimed : Content) × (made : Content) × (block : Place) × (side : Place) × ClaimsLed (seen_tracks old) old.content claimed (slot, (block, side))
    × IsNewRelfile claimed made block side width × EntersRecordsLed (seen_tracks old) made new.content block side name width slot
