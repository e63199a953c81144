-- What holds of every machine that a drive represents.
use Rattle.std.specs.Prelude.{ℕ, ◌≤◌, ◌≡◌, ◌==◌, Bool, true, false, List, drop, slice_index_or, Some, None}
use Rattle.cbm_file.specs.Files.{Bytes, Records, File, Disk, file_at}
use Rattle.cbm_machine.specs.Machines.{Channel, Closed, Reading, Writing, Stopped, Relative}

-- The slot has a closed file with bytes, and this is what is left of them.
pub record IsReadFrom (d : Disk) (slot : ℕ) (left : List ℕ) : Type 0 where
  pub file : File
  pub in_slot : file_at d slot ≡ Some file
  pub closed : file.closed ≡ true
  pub bytes : List ℕ
  pub body : file.body ≡ Bytes bytes
  pub taken : ℕ
  pub rest : left ≡ drop taken bytes

-- The slot has a closed file of records, and the place is a byte of a record of that length.
pub record IsPlace (d : Disk) (slot record_number position : ℕ) : Type 0 where
  pub file : File
  pub in_slot : file_at d slot ≡ Some file
  pub closed : file.closed ≡ true
  pub record_length : ℕ
  pub records : List (List ℕ)
  pub blocks : ℕ
  pub sides : ℕ
  pub body : file.body ≡ Records record_length records blocks sides
  pub number : 1 ≤ record_number
  pub inside : (1 ≤ position) × (position ≤ record_length)

-- the channel of a number, closed past the end
abbrev pub channel_in : List Channel → ℕ → Channel
channel_in channels ch = slice_index_or channels ch Closed

-- A channel still uses the slot: one that was stopped does nothing more with it.
abbrev pub still_uses : ℕ → Channel → Bool
still_uses n Closed = false
still_uses n (Reading None left) = false
still_uses n (Reading (Some s) left) = s == n
still_uses n (Writing s bytes blocks full replaces) = s == n
still_uses n (Stopped s) = false
still_uses n (Relative s k p) = s == n

-- it still writes it
abbrev pub still_writes : ℕ → Channel → Bool
still_writes n Closed = false
still_writes n (Reading s left) = false
still_writes n (Writing s bytes blocks full replaces) = s == n
still_writes n (Stopped s) = false
still_writes n (Relative s k p) = s == n

-- THE CHANNELS ARE IN ORDER: a slot that is read is closed and has bytes; one that is written, or has records open, is open on
-- that channel alone; a relative place lies in its record; and no file is written on a protected disk.
pub record IsOrderly (d : Disk) (protected : Bool) (channels : List Channel) : Type 0 where
  pub reading : (ch slot : ℕ) (left : List ℕ) → channel_in channels ch ≡ Reading (Some slot) left → IsReadFrom d slot left
  pub alone : (a b slot : ℕ) → still_writes slot (channel_in channels a) ≡ true → still_uses slot (channel_in channels b) ≡ true → a ≡ b
  pub relative : (ch slot k p : ℕ) → channel_in channels ch ≡ Relative slot k p → IsPlace d slot k p
  pub writable : (ch slot : ℕ) (bytes : List ℕ) (blocks : ℕ) (full replaces : Bool) → channel_in channels ch ≡ Writing slot bytes blocks full replaces
      → protected ≡ false
