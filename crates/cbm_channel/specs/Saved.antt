-- What a drive keeps beside its disk, as bytes.
use Rattle.std.specs.Prelude.{ℕ, ◌/◌, ◌%◌, ◌^◌, ◌<◌, ◌≤◌, ◌≡◌, ◌⊎◌, Bool, true, false, is_some, List, [], ◌∷◌, ◌++◌, length, Option, Some, None, IfSome}
use Rattle.std.specs.List.{All, flat_map}
use Rattle.cbm_saved.specs.Numbers.{two}
use Rattle.cbm_saved.specs.Texts.{counted_text}
use Rattle.cbm_medium.specs.Place.{Place, IsOnDisk}
use Rattle.cbm_chain.specs.Reading.{Reading}
use Rattle.cbm_chain.specs.Writing.{State}
use Rattle.cbm_chain.specs.Resuming.{CanRead, CanWrite}
use Rattle.cbm_listing.specs.Listed.{ListedBytes}
use Rattle.cbm_volume.specs.Writers.{Filling}
use Rattle.cbm_machine.specs.Codes.{code_number}
use Rattle.cbm_machine.specs.Statuses.{status_line}
use Rattle.cbm_machine.specs.Told.{ToldStatus}
use Rattle.cbm_channel.specs.declared.channel.Channel.{Channel}
use Rattle.cbm_channel.specs.declared.channel.Channel.TheVariants as code
use Rattle.cbm_channel.specs.declared.on_record.Waiting.{Waiting}
use Rattle.cbm_channel.specs.declared.on_record.Waiting.TheVariants as waits
use Rattle.cbm_channel.specs.Placed.{Placed, record_of}
use Rattle.cbm_channel.specs.Standing.{Kept, FitsTracks, AreFit}

-- 1 for yes, 0 for no
abbrev pub flag_byte : Bool → ℕ
flag_byte true = 1
flag_byte false = 0

-- a place, and two zeros where there is none
abbrev pub saved_place : Option Place → List ℕ
saved_place None = 0 ∷ 0 ∷ []
saved_place (Some p) = p.track ∷ p.sector ∷ []

-- a listing
abbrev pub saved_listing : ListedBytes → List ℕ
saved_listing l = 1 ∷ (two l.taken ++ counted_text l.bytes)

-- a file that is read
abbrev pub saved_file : ℕ → Reading → List ℕ
saved_file slot r = 2 ∷ slot ∷ r.tracks ∷ r.next.track ∷ r.next.sector ∷ (two r.left ++ counted_text r.bytes)

-- the writer of a chain
abbrev pub saved_chain : State → List ℕ
saved_chain s = s.tracks ∷ (saved_place s.first ++ (saved_place s.current ++ (two s.count ++ counted_text s.waiting)))

-- a file that is written, and whether the disk was full
abbrev pub saved_writing : Filling → Bool → List ℕ
saved_writing w full = 3 ∷ w.slot ∷ flag_byte w.replaces ∷ flag_byte full ∷ saved_chain w.chain

-- what waits at a record's place
abbrev pub saved_waiting : Waiting → List ℕ
saved_waiting (waits.Record r) = 0 ∷ counted_text r.items
saved_waiting waits.Absent = 1 ∷ []
saved_waiting waits.Broken = 2 ∷ []

-- a relative file that is open
abbrev pub saved_records : Placed → List ℕ
saved_records r = 5 ∷ r.slot ∷ r.width ∷ r.position ∷ r.number % 256 ∷ r.number / 256 % 256 ∷ r.number / 65536 ∷ saved_waiting r.waiting

-- a channel
abbrev pub saved_channel : Channel → List ℕ
saved_channel code.Closed = 0 ∷ []
saved_channel (code.Listing l) = saved_listing l
saved_channel (code.File slot r) = saved_file slot r
saved_channel (code.Writing w full) = saved_writing w full
saved_channel (code.Stopped slot) = 4 ∷ slot ∷ []
saved_channel (code.Records r) = saved_records r

-- all channels, one after another
abbrev pub saved_channels : List Channel → List ℕ
saved_channels [] = []
saved_channels (c ∷ rest) = saved_channel c ++ saved_channels rest

-- the status, and how much of it was told
abbrev pub saved_told : ToldStatus → List ℕ
saved_told t = code_number t.status.code ∷ t.status.first ∷ t.status.second ∷ t.told ∷ []

-- a text that is gathered with its channel, if one is
abbrev pub saved_gathered : Option (ℕ × List ℕ) → List ℕ
saved_gathered None = 0 ∷ []
saved_gathered (Some t) = 1 ∷ t.0 ∷ counted_text t.1

-- WHAT A DRIVE KEEPS BESIDE ITS DISK, as bytes: the status, the text that is gathered, and the channels
abbrev pub saved_dos : {M : Type 0} → Kept M → List ℕ
saved_dos k = saved_told k.told ++ (saved_gathered k.text ++ saved_channels k.channels)

-- ---- what can be read again

-- a disk has 35 tracks or 40
abbrev pub IsGeometry : ℕ → Type 0
IsGeometry tracks = (tracks ≡ 35) ⊎ (tracks ≡ 40)

-- the record that waits is one of a disk
abbrev pub CanWait : Placed → Type 0
CanWait r = (is_some (record_of r.waiting) ≡ true → r.number < 2 ^ 18) × (r.number < 2 ^ 24)

-- a writer of a chain that a drive may have, whose disk has this many tracks
pub record MayGoOn (most : ℕ) (s : State) : Type 0 where
  pub geometry : IsGeometry s.tracks
  pub few : s.tracks ≤ most
  pub stands : CanWrite s.tracks s.current s.waiting
  pub first : IfSome s.first IsOnDisk
  pub current : IfSome s.current IsOnDisk

-- a channel that a drive may have, whose disk has this many tracks
abbrev pub MayStand : ℕ → Channel → Type 0
MayStand most code.Closed = Unit {0}
MayStand most (code.Listing l) = (length l.bytes ≤ 4672) × (l.taken ≤ length l.bytes)
MayStand most (code.File slot r) = IsGeometry r.tracks × (r.tracks ≤ most) × CanRead r.bytes r.next
MayStand most (code.Writing w full) = MayGoOn most w.chain
MayStand most (code.Stopped slot) = Unit {0}
MayStand most (code.Records r) = CanWait r × IfSome (record_of r.waiting) (λ bytes. length bytes ≤ 254)

-- a gathered text has a byte at least, and no more than 256
abbrev pub IsGathered : Option (ℕ × List ℕ) → Type 0
IsGathered text = IfSome text (λ t. (1 ≤ length t.1) × (length t.1 ≤ 256))

-- WHAT A DRIVE MAY KEEP over a disk of this many tracks
pub record MayBeKept {M : Type 0} (most : ℕ) (k : Kept M) : Type 0 where
  pub count : length k.channels ≡ 15
  pub each : All (MayStand most) k.channels
  pub told : k.told.told < length (status_line k.told.status)
  pub gathered : IsGathered k.text
