-- A byte that is put on a channel from 0 to 14, and CLOSE: what becomes of the disk and of the channel.
use Rattle.std.specs.Prelude.{ℕ, ◌≡◌, ◌==◌, ◌&&◌, Bool, true, false, List, [], ◌∷◌, ◌++◌, length, if◌then◌else◌}
use Rattle.cbm_file.specs.Files.{Disk, file_at}
use Rattle.cbm_volume.specs.Writers.{needs_block, one_block_less, one_block_more}
use Rattle.cbm_machine.specs.Machines.{Channel, Closed, Reading, Writing, Stopped, Relative}
use Rattle.cbm_channel.specs.declared.channel.Channel as code
use Rattle.cbm_channel.specs.declared.channel.Channel.TheVariants as kept
use Rattle.cbm_machine.specs.Closing.{finish_slot}

-- the byte needs a block, and none is free
abbrev pub finds_none : Disk → Channel → Bool
finds_none d (Writing s bytes blocks full replaces) = needs_block bytes blocks && (d.free == 0)
finds_none d Closed = false
finds_none d (Reading s left) = false
finds_none d (Stopped s) = false
finds_none d (Relative s k p) = false

-- the disk was full before
abbrev pub was_full : Channel → Bool
was_full (Writing s bytes blocks full replaces) = full
was_full Closed = false
was_full (Reading s left) = false
was_full (Stopped s) = false
was_full (Relative s k p) = false

-- the byte is the first for which no block is free
abbrev pub is_lost : Disk → Channel → Bool
is_lost d c = if was_full c then false else finds_none d c

-- the byte is added to what is written
abbrev pub added_to : ℕ → Channel → Channel
added_to byte (Writing s bytes blocks full replaces) = Writing s (bytes ++ byte ∷ []) (one_block_more (needs_block bytes blocks) blocks) full replaces
added_to byte Closed = Closed
added_to byte (Reading s left) = Reading s left
added_to byte (Stopped s) = Stopped s
added_to byte (Relative s k p) = Relative s k p

-- from now on bytes are dropped
abbrev pub filled : Channel → Channel
filled (Writing s bytes blocks full replaces) = Writing s bytes blocks true replaces
filled Closed = Closed
filled (Reading s left) = Reading s left
filled (Stopped s) = Stopped s
filled (Relative s k p) = Relative s k p

-- the disk with a block less, where the byte needs one
abbrev pub less_for : Disk → Channel → Disk
less_for d (Writing s bytes blocks full replaces) = one_block_less (needs_block bytes blocks) d
less_for d Closed = d
less_for d (Reading s left) = d
less_for d (Stopped s) = d
less_for d (Relative s k p) = d

-- THE CHANNEL AND THE DISK after a byte
abbrev pub channel_put : ℕ → Disk → Channel → Channel
channel_put byte d c = if was_full c then c else if finds_none d c then filled c else added_to byte c

abbrev pub disk_put : Disk → Channel → Disk
disk_put d c = if was_full c then d else if finds_none d c then d else less_for d c

-- a file is written that has no byte yet
abbrev pub is_unbegun : Channel → Bool
is_unbegun (Writing s bytes blocks full replaces) = length bytes == 0
is_unbegun Closed = false
is_unbegun (Reading s left) = false
is_unbegun (Stopped s) = false
is_unbegun (Relative s k p) = false

-- THE DISK after CLOSE: the slot of a written file is closed
abbrev pub disk_closed : Disk → Channel → Disk
disk_closed d (Writing s bytes blocks full replaces) = finish_slot (file_at d s) s bytes blocks full replaces d
disk_closed d Closed = d
disk_closed d (Reading s left) = d
disk_closed d (Stopped s) = d
disk_closed d (Relative s k p) = d

-- the channel was written, and takes no more bytes
pub record IsCutOff (new : code.Channel) (old : Channel) : Type 0 where
  pub slot : ℕ
  pub stopped : new ≡ kept.Stopped slot
  pub bytes : List ℕ
  pub blocks : ℕ
  pub full : Bool
  pub replaces : Bool
  pub wrote : old ≡ Writing slot bytes blocks full replaces

-- a file is written on the channel
pub record IsBeingWritten (channel : Channel) : Type 0 where
  pub slot : ℕ
  pub bytes : List ℕ
  pub blocks : ℕ
  pub full : Bool
  pub replaces : Bool
  pub is : channel ≡ Writing slot bytes blocks full replaces
