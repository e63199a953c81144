-- The drive's code, over the content of its medium, represents a machine.
use Rattle.std.specs.Prelude.{ℕ, ◌≤◌, ◌≡◌, ◌≢◌, ◌⊎◌, Bool, List, [], length, take, drop, slice_index_or, Option, Some, None, option_map}
use Rattle.std.specs.List.{All, AllZip}
use Rattle.cbm_medium.specs.Seen.{Seen}
use Rattle.cbm_medium.specs.Content.{Content}
use Rattle.cbm_chain.specs.Reading.{IsSettled}
use Rattle.cbm_volume.specs.Writers.{Use, Idle, Reads, Relates, Writes, HoldsNow}
use Rattle.cbm_file.specs.Files.{Disk}
use Rattle.cbm_channel.specs.declared.channel.Channel.{Channel}
use Rattle.cbm_channel.specs.declared.channel.Channel.TheVariants as code
use Rattle.cbm_channel.specs.Placed.{Placed, IsOnRecord}
use Rattle.cbm_machine.specs.Machines as machine
use Rattle.cbm_machine.specs.Orderly.{IsOrderly}
use Rattle.cbm_machine.specs.Closing.{forget_text}
use Rattle.cbm_machine.specs.Calls.{text_for}
use Rattle.cbm_machine.specs.Told.{ToldStatus, told_by}

-- what the drive keeps: its medium, fifteen channels, the status, and the text that is gathered with its channel
pub record Kept (M : Type 0) : Type 0 where
  pub medium : M
  pub channels : List Channel
  pub told : ToldStatus
  pub text : Option (ℕ × List ℕ)

-- A channel that reads or writes a file does so on a disk of no more tracks than the medium has; one that reads is one byte ahead.
abbrev pub FitsTracks : ℕ → Channel → Type 0
FitsTracks tracks code.Closed = Unit {0}
FitsTracks tracks (code.Listing l) = Unit {0}
FitsTracks tracks (code.File slot r) = (r.tracks ≤ tracks) × IsSettled r
FitsTracks tracks (code.Writing w full) = w.chain.tracks ≤ tracks
FitsTracks tracks (code.Stopped slot) = Unit {0}
FitsTracks tracks (code.Records r) = Unit {0}

-- there are fifteen channels, and each fits the medium
pub record AreFit (tracks : ℕ) (channels : List Channel) : Type 0 where
  pub count : length channels ≡ 15
  pub each : All (FitsTracks tracks) channels

-- A channel represents the machine's. That the bytes of a file are those which the machine has is said of the use of the disk.
abbrev pub ChannelStands : Channel → machine.Channel → Type 0
ChannelStands code.Closed channel = channel ≡ machine.Closed
ChannelStands (code.Listing l) channel = channel ≡ machine.Reading None (drop l.taken l.bytes)
ChannelStands (code.File slot r) channel = (left : List ℕ) × (channel ≡ machine.Reading (Some slot) left)
ChannelStands (code.Writing w full) channel = (bytes : List ℕ) × (blocks : ℕ) × (channel ≡ machine.Writing w.slot bytes blocks full w.replaces)
ChannelStands (code.Stopped slot) channel = channel ≡ machine.Stopped slot
ChannelStands (code.Records r) channel = channel ≡ machine.Relative r.slot r.number r.position

-- What waits on a channel that has records open is what its place has on the disk.
abbrev pub WaitsFor : Disk → Channel → Type 0
WaitsFor d code.Closed = Unit {0}
WaitsFor d (code.Listing l) = Unit {0}
WaitsFor d (code.File slot r) = Unit {0}
WaitsFor d (code.Writing w full) = Unit {0}
WaitsFor d (code.Stopped slot) = Unit {0}
WaitsFor d (code.Records r) = IsOnRecord d r

-- what is left to be read on a channel of the machine, or was written on it so far: bytes, and blocks
abbrev pub channel_bytes : machine.Channel → List ℕ
channel_bytes machine.Closed = []
channel_bytes (machine.Reading slot left) = left
channel_bytes (machine.Writing slot bytes blocks full replaces) = bytes
channel_bytes (machine.Stopped slot) = []
channel_bytes (machine.Relative slot k p) = []

-- the blocks that a channel has written
abbrev pub channel_blocks : machine.Channel → ℕ
channel_blocks machine.Closed = 0
channel_blocks (machine.Reading slot left) = 0
channel_blocks (machine.Writing slot bytes blocks full replaces) = blocks
channel_blocks (machine.Stopped slot) = 0
channel_blocks (machine.Relative slot k p) = 0

-- What a channel does with the disk, by what the code keeps and what the machine has.
abbrev pub use_of : Channel → machine.Channel → Use
use_of code.Closed channel = Idle
use_of (code.Listing l) channel = Idle
use_of (code.File slot r) channel = Reads slot r (channel_bytes channel)
use_of (code.Writing w full) channel = Writes w (channel_bytes channel) (channel_blocks channel)
use_of (code.Stopped slot) channel = Idle
use_of (code.Records r) channel = Relates r.slot

-- the uses of all channels, by their numbers
abbrev pub uses_of : List Channel → List machine.Channel → ℕ → Use
uses_of xs ys n = use_of (slice_index_or xs n code.Closed) (slice_index_or ys n machine.Closed)

-- all channels but this one are as they were
abbrev pub SameBut : ℕ → List Channel → List Channel → Type 0
SameBut ch old new = (k : ℕ) → k ≢ ch → slice_index_or new k code.Closed ≡ slice_index_or old k code.Closed

-- of a gathered text the first 256 bytes are kept, by which one that is too long is known
abbrev pub kept_text : Option (ℕ × List ℕ) → Option (ℕ × List ℕ)
kept_text text = option_map (λ (t : ℕ × List ℕ). (t.0, take 256 t.1)) text

-- a channel is as it was, but that the place in its records may be another
abbrev pub IsSameFile : Channel → Channel → Type 0
IsSameFile old new = (new ≡ old) ⊎ ((r : Placed) × (s : Placed) × (old ≡ code.Records r) × (new ≡ code.Records s) × (s.slot ≡ r.slot) × (s.width ≡ r.width))

-- so are all channels
abbrev pub HaveSameFiles : List Channel → List Channel → Type 0
HaveSameFiles old new = (k : ℕ) → IsSameFile (slice_index_or old k code.Closed) (slice_index_or new k code.Closed)

-- no text is gathered for the channel
pub record HasNoText (ch : ℕ) (m : machine.Machine) : Type 0 where
  pub none : text_for ch m.text ≡ []
  pub stays : forget_text ch m.text ≡ m.text

-- the text that is gathered for the channel has a byte at least, and this is what is kept of it
pub record HasText (ch : ℕ) (m : machine.Machine) (text : ℕ × List ℕ) : Type 0 where
  pub number : text.0 ≡ ch
  pub kept : text.1 ≡ take 256 (text_for ch m.text)
  pub some : 1 ≤ length text.1

-- The parts of a drive, over a content, represent a machine: the content holds the machine's disk, which all channels use in one
-- layout, and each channel, what is pending on it, what is reported and what is gathered represent the machine's.
pub record StandsBy (c : Content) (tracks : ℕ) (protected : Bool) (channels : List Channel) (told : ToldStatus) (text : Option (ℕ × List ℕ)) (m : machine.Machine) : Type 0 where
  pub holds : HoldsNow tracks c m.disk (uses_of channels m.channels)
  pub orderly : IsOrderly m.disk m.protected m.channels
  pub same_tracks : m.tracks ≡ tracks
  pub same_protection : m.protected ≡ protected
  pub each : AllZip ChannelStands channels m.channels
  pub waits : (k : ℕ) → WaitsFor m.disk (slice_index_or channels k code.Closed)
  pub same_told : told_by m ≡ told
  pub same_text : kept_text m.text ≡ text

-- what a drive keeps represents a machine
abbrev pub Stands : {M : Type 0} → (M → Seen) → Kept M → machine.Machine → Type 0
Stands seen k m = StandsBy (seen k.medium).content (seen k.medium).tracks (seen k.medium).protected k.channels k.told k.text m

-- A CALL LEADS from each machine that the drive stood for to the machine's next state.
abbrev pub Leads : {M : Type 0} → (M → Seen) → Kept M → Kept M → (machine.Machine → machine.Machine) → Type 0
Leads seen old new next = (m : machine.Machine) → Stands seen old m → Stands seen new (next m)
