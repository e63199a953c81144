-- Where a call that may write leads: to the machine's next state, or it was stopped at a refused write.
use Rattle.std.specs.Prelude.{ℕ, zero, suc, ◌+◌, ◌-◌, ◌≤◌, ◌≡◌, ◌≢◌, ◌⊎◌, ◌==◌, if◌then◌else◌, List, [], ◌∷◌, ◌++◌, take, drop, replicate, slice_index_or, Some, Bool, true, false}
use Rattle.cbm_medium.specs.declared.fault.Trouble.{Trouble}
use Rattle.cbm_medium.specs.Seen.{Seen, Outside, HasFailed, KeepsReadable, formatted_outside}
use Rattle.cbm_volume.specs.Writers.{IsEither}
use Rattle.cbm_machine.specs.Statuses.{trouble_status}
use Rattle.cbm_file.specs.Files.{File, Disk, Records, file_at, with_slot}
use Rattle.cbm_file.specs.Records.{fresh_record, blocks_for, sides_for}
use Rattle.cbm_volume.specs.Growth.{filled_up, with_growth}
use Rattle.cbm_volume.specs.RecordWrites.{new_record, with_record}
use Rattle.cbm_machine.specs.Machines.{Machine, Closed, Stopped, Relative, channel, writes}
use Rattle.cbm_machine.specs.Finding.{body_at}
use Rattle.cbm_machine.specs.Records.{write_record}
use Rattle.cbm_machine.specs.Closing.{put_on, with_some_byte, close_one, channel_numbers, without_text}
use Rattle.cbm_machine.specs.Plans.{open_text}
use Rattle.cbm_machine.specs.Calls.{command, text_for, end_put}
use Rattle.cbm_channel.specs.Standing.{Kept, Stands}

-- A PART OF A CALL WAS STOPPED at a write that the medium refused, on the way from one machine to another. Each slot is as before or
-- as after; the channel is closed, or takes no more bytes for the slot that it wrote; the other channels are as before; and the fault is reported.
pub record IsStopped (ch : ℕ) (before after now : Machine) : Type 0 where
  pub either : (n : ℕ) → IsEither before.disk after.disk now.disk n
  pub same_tracks : now.tracks ≡ before.tracks
  pub same_protection : now.protected ≡ before.protected
  pub own : (channel now ch ≡ Closed) ⊎ ((slot : ℕ) × (channel now ch ≡ Stopped slot) × (writes slot (channel before ch) ≡ true))
  pub others : (k : ℕ) → k ≢ ch → channel now k ≡ channel before k
  pub fault : (t : Trouble) × (now.status ≡ trouble_status t)

-- a part of a call, for a channel, was done; or the medium failed, and it was stopped
abbrev pub Passes : Type 0 → ℕ → (Machine → Machine) → Machine → Machine → Type 0
Passes failed ch part before now = (now ≡ part before) ⊎ (failed × IsStopped ch before (part before) now)

-- The parts of a call one after another, each with its channel. A part was stopped only where the medium failed in it: of what it showed
-- between the parts, its failures count.
abbrev pub PassesAll : Seen → Seen → List (ℕ × (Machine → Machine)) → Machine → Machine → Type 0
PassesAll old new [] before now = (now ≡ before) × (old.failures ≤ new.failures)
PassesAll old new (p ∷ parts) before now =
    (mid : Seen) × (old.failures ≤ mid.failures) × (between : Machine) × Passes (HasFailed old mid) p.0 p.1 before between × PassesAll mid new parts between now

-- WHAT ONE PART MAKES OF THE MEDIUM, on any disk: it refused no write by itself; or it refused one, the part made no other after that, and the
-- status is what the medium answered.
abbrev pub IsFailureCounted : {M : Type 0} → (M → Seen) → Kept M → Kept M → Type 0
IsFailureCounted seen old new =
    ((seen new.medium).failures ≡ (seen old.medium).failures)
    ⊎ ((t : Trouble) × ((seen new.medium).failures ≡ (seen old.medium).failures + 1) × ((seen new.medium).refused ≡ Some t) × (new.told.status ≡ trouble_status t))

-- the same of this many parts, one after another
abbrev pub AreCounted : {M : Type 0} → (M → Seen) → ℕ → Kept M → Kept M → Type 0
AreCounted seen zero old new = (seen new.medium).failures ≡ (seen old.medium).failures
AreCounted {M} seen (suc n) old new = (mid : Kept M) × AreCounted seen n old mid × IsFailureCounted seen mid new

-- one part of a call is done from a machine
abbrev pub WentFrom : {M : Type 0} → (M → Seen) → Kept M → Kept M → ℕ → (Machine → Machine) → Machine → Type 0
WentFrom seen old new ch part m = (now : Machine) × Passes (HasFailed (seen old.medium) (seen new.medium)) ch part m now × Stands seen new now

-- the same from each machine that the drive stood for
abbrev pub Went : {M : Type 0} → (M → Seen) → Kept M → Kept M → ℕ → (Machine → Machine) → Type 0
Went seen old new ch part =
    (m : Machine) → Stands seen old m → WentFrom seen old new ch part m

-- a byte goes to what a channel writes
abbrev pub put_written : ℕ → ℕ → Machine → Machine
put_written ch byte m = put_on ch byte (channel m ch) m

-- a file that has no byte yet gets a return
abbrev pub some_byte_put : ℕ → Machine → Machine
some_byte_put ch m = with_some_byte ch (channel m ch) m

-- the parts of a CLOSE: on 15 those of the channels 0 to 14 in order, and then the text of 15 is dropped
abbrev pub closings_of : List ℕ → List (ℕ × (Machine → Machine))
closings_of [] = []
closings_of (ch ∷ chs) = (ch, close_one ch) ∷ closings_of chs

-- the close of each channel, one after another
abbrev pub closings : List (ℕ × (Machine → Machine))
closings = closings_of channel_numbers

-- what CLOSE of a channel closes: of 15 all channels, and its text goes
abbrev pub closing : ℕ → List (ℕ × (Machine → Machine))
closing ch = if ch == 15 then closings ++ (15, without_text 15) ∷ [] else (ch, close_one ch) ∷ []

-- the parts of an OPEN: on 15 the command, on the others the CLOSE of the channel and then the OPEN itself
abbrev pub opening_parts : ℕ → List ℕ → List (ℕ × (Machine → Machine))
opening_parts ch text = if ch == 15 then (15, command text) ∷ [] else (ch, close_one ch) ∷ (ch, open_text ch text) ∷ []

-- A CALL GOES ON from a machine, part by part, and the drive represents a machine again.
abbrev pub GoesFrom : {M : Type 0} → (M → Seen) → Kept M → Kept M → List (ℕ × (Machine → Machine)) → Machine → Type 0
GoesFrom seen old new parts m = (now : Machine) × PassesAll (seen old.medium) (seen new.medium) parts m now × Stands seen new now

-- the same from each machine that the drive stood for
abbrev pub Goes : {M : Type 0} → (M → Seen) → Kept M → Kept M → List (ℕ × (Machine → Machine)) → Type 0
Goes seen old new parts =
    (m : Machine) → Stands seen old m → GoesFrom seen old new parts m

-- The bytes of the image outside the sectors stay; or, if it may format, they are as a format leaves them.
abbrev pub IsOutsideKept : Bool → Outside → Outside → Type 0
IsOutsideKept false old new = new ≡ old
IsOutsideKept true old new = (new ≡ old) ⊎ (new ≡ formatted_outside old)

-- Tracks and protection of the medium stay, and the bytes outside its sectors, unless it formats; failures are counted, and no sector
-- becomes unreadable.
pub record KeepsMedium (formats : Bool) (old new : Seen) : Type 0 where
  pub tracks : new.tracks ≡ old.tracks
  pub protected : new.protected ≡ old.protected
  pub counted : old.failures ≤ new.failures
  pub readable : KeepsReadable old.content new.content
  pub outside : IsOutsideKept formats old.outside new.outside

-- ---- the end of what is put

-- the record has a beginning of its new bytes, or none
abbrev pub HasBegun : Disk → ℕ → ℕ → ℕ → ℕ → List (List ℕ) → ℕ → ℕ → List ℕ → Disk → Type 0
HasBegun d slot w b s rs k p bytes now = (so_far : ℕ) × (now ≡ with_record d slot w rs b s k (take so_far (new_record w rs k p bytes) ++ drop so_far (slice_index_or rs (k - 1) [])))

-- The file has perhaps fresh records after its own; its entry may still have the old number of blocks, and blocks that were claimed last
-- may be nobody's.
pub record HasBegunToGrow (d : Disk) (slot w : ℕ) (rs : List (List ℕ)) (now : Disk) : Type 0 where
  pub file : File
  pub in_slot : file_at d slot ≡ Some file
  pub so_far : ℕ
  pub blocks : ℕ
  pub sides : ℕ
  pub shown : ℕ
  pub free : ℕ
  pub disk : now ≡ record (with_slot d slot (Some (record file { shown = shown; held = blocks + sides; body = Records w (rs ++ replicate so_far (fresh_record w)) blocks sides }))) { free = free }

-- A WRITE OF A RECORD WAS STOPPED at a write that the medium refused, within the record, or while the file grew for it. All else of the
-- disk is as it was, the channels keep their places, and the fault is reported.
pub record IsRecordStopped (ch : ℕ) (bytes : List ℕ) (before now : Machine) : Type 0 where
  pub slot : ℕ
  pub record_number : ℕ
  pub position : ℕ
  pub place : channel before ch ≡ Relative slot record_number position
  pub width : ℕ
  pub records : List (List ℕ)
  pub blocks : ℕ
  pub sides : ℕ
  pub body : body_at before.disk slot ≡ Records width records blocks sides
  pub disk : HasBegun before.disk slot width blocks sides records record_number position bytes now.disk
      ⊎ (HasBegunToGrow before.disk slot width records now.disk
      ⊎ HasBegun (with_growth before.disk slot width blocks sides records record_number) slot width (blocks_for width blocks record_number) (sides_for sides (blocks_for width blocks record_number)) (filled_up width (blocks_for width blocks record_number) records) record_number position bytes now.disk)
  pub same_channels : now.channels ≡ before.channels
  pub same_tracks : now.tracks ≡ before.tracks
  pub same_protection : now.protected ≡ before.protected
  pub fault : (t : Trouble) × (now.status ≡ trouble_status t)

-- a text for a channel was one write of a record, or it was stopped; and the drive represents a machine again
abbrev pub RecordsFrom : {M : Type 0} → (M → Seen) → Kept M → Kept M → ℕ → List ℕ → Machine → Type 0
RecordsFrom seen old new ch text m =
    (now : Machine) × ((now ≡ write_record ch (channel m ch) text m) ⊎ (HasFailed (seen old.medium) (seen new.medium) × IsRecordStopped ch text m now)) × Stands seen new now

-- the text that was gathered for a channel was carried out; or the medium failed, and a command or the write of a record was stopped
abbrev pub EndsPut : Type 0 → ℕ → Machine → Machine → Type 0
EndsPut failed ch before now = Passes failed ch (end_put ch) before now ⊎ (failed × IsRecordStopped ch (text_for ch before.text) before now)

-- THE END OF WHAT IS PUT GOES ON from a machine, and the drive represents a machine again.
abbrev pub EndsFrom : {M : Type 0} → (M → Seen) → Kept M → Kept M → ℕ → Machine → Type 0
EndsFrom seen old new ch m = (now : Machine) × EndsPut (HasFailed (seen old.medium) (seen new.medium)) ch m now × Stands seen new now
