-- The named-files machine: a disk of files, fifteen channels, the status and the text that is being gathered.
-- Each call of the drive's DOS is a function from a machine to the next one; `peek` is what it has to say.
use Rattle.std.specs.Prelude.{ℕ, ◌+◌, ◌==◌, nat_lt, Bool, true, false, List, replicate, sum_by, slice_index_or, slice_set, Option, Some, None, Result, Ok, Err}
use Rattle.std.specs.List.{list_any}
use Rattle.cbm_file.specs.Files.{Disk}
use Rattle.cbm_machine.specs.declared.code.Code.{Code}
use Rattle.cbm_machine.specs.declared.code.Code.TheVariants.{PowerUp}
use Rattle.cbm_machine.specs.declared.status.Status.{Status}
use Rattle.cbm_machine.specs.Statuses.{plain}

-- A channel from 0 to 14.
pub data Channel : Type 0 where
  Closed : Channel
  -- what is left to be read, and the slot that it comes from: none for a listing
  Reading : (slot : Option ℕ) (left : List ℕ) → Channel
  -- A file being written: its slot, bytes and blocks so far, whether the disk was full, and whether it replaces the file in the slot.
  Writing : (slot : ℕ) (bytes : List ℕ) (blocks : ℕ) (full replaces : Bool) → Channel
  -- A file that was being written when the medium refused a sector: what comes is dropped, and CLOSE leaves its slot as it stands.
  Stopped : (slot : ℕ) → Channel
  -- the slot of a relative file, and the place: a record from 1 on, and a byte of it from 1 on
  Relative : (slot record_number position : ℕ) → Channel

-- The slot of a file that is being written is not closed, that of a file that is being replaced has the old file,
-- and the blocks of what is being written are neither free nor held. So the disk is what the medium means at any moment.
pub record Machine : Type 0 where
  pub disk : Disk
  pub protected : Bool
  pub tracks : ℕ  -- of the medium: 35 or 40
  pub channels : List Channel  -- fifteen
  pub status : Status
  pub told : ℕ  -- how many bytes of the status were taken
  pub text : Option (ℕ × List ℕ)  -- a channel, and the text that is gathered for it

-- at power up
abbrev pub start : Disk → Bool → ℕ → Machine
start disk protected tracks = record {
  disk = disk;
  protected = protected;
  tracks = tracks;
  channels = replicate 15 Closed;
  status = plain PowerUp;
  told = 0;
  text = None;
}

-- the disk with its channels forgotten
abbrev pub disk_at_rest : Machine → Disk
disk_at_rest m = m.disk

-- a new status is reported from its beginning
abbrev pub with_status : Status → Machine → Machine
with_status s m = record m { status = s; told = 0 }

-- a status with no numbers is reported
abbrev pub say : Code → Machine → Machine
say code m = with_status (plain code) m

-- the machine with this disk
abbrev pub with_disk : Disk → Machine → Machine
with_disk d m = record m { disk = d }

-- the machine with this many free blocks
abbrev pub with_free : ℕ → Machine → Machine
with_free n m = record m { disk = record m.disk { free = n } }

-- a channel by its number
abbrev pub channel : Machine → ℕ → Channel
channel m ch = slice_index_or m.channels ch Closed

-- the machine with this channel
abbrev pub with_channel : ℕ → Channel → Machine → Machine
with_channel ch c m = record m { channels = slice_set m.channels ch c }

-- A refusal leaves the machine as it was but for the status.
abbrev pub answered : Machine → Result Machine Code → Machine
answered m (Ok n) = n
answered m (Err code) = say code m

-- ---- what is open

-- the channel is open
abbrev pub is_open : Channel → Bool
is_open Closed = false
is_open (Reading s left) = true
is_open (Writing s bytes blocks full replaces) = true
is_open (Stopped s) = true
is_open (Relative s k p) = true

-- the channel has the slot open
abbrev pub uses : ℕ → Channel → Bool
uses n Closed = false
uses n (Reading None left) = false
uses n (Reading (Some s) left) = s == n
uses n (Writing s bytes blocks full replaces) = s == n
uses n (Stopped s) = s == n
uses n (Relative s k p) = s == n

-- the channel has the slot open for writing
abbrev pub writes : ℕ → Channel → Bool
writes n Closed = false
writes n (Reading s left) = false
writes n (Writing s bytes blocks full replaces) = s == n
writes n (Stopped s) = s == n
writes n (Relative s k p) = s == n

-- the slot is open on some channel
abbrev pub in_use : Machine → ℕ → Bool
in_use m n = list_any (uses n) m.channels

-- the slot is open for writing on some channel
abbrev pub in_writing : Machine → ℕ → Bool
in_writing m n = list_any (writes n) m.channels

-- some channel is open
abbrev pub any_open : Machine → Bool
any_open m = list_any is_open m.channels

-- a relative channel costs two, any other open one costs one
abbrev pub cost : Channel → ℕ
cost Closed = 0
cost (Reading s left) = 1
cost (Writing s bytes blocks full replaces) = 1
cost (Stopped s) = 1
cost (Relative s k p) = 2

-- all open channels cost three at most
abbrev pub most_cost : ℕ
most_cost = 3

-- with this much more the channels would cost more than that
abbrev pub too_many : ℕ → Machine → Bool
too_many n m = nat_lt most_cost (n + sum_by cost m.channels)
