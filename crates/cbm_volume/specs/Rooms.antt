-- What a disk has room for, as its map and its directory show it.
use Rattle.std.specs.Prelude.{ℕ, ◌≡◌, ◌⊎◌, ◌||◌, Bool, Some, None, IsOk, find, is_some}
use Rattle.cbm_medium.specs.Place.{directory_head}
use Rattle.cbm_medium.specs.Seen.{Seen}
use Rattle.cbm_medium.specs.declared.fault.Trouble.{Trouble}
use Rattle.cbm_bam.specs.Causes.{IsHeadFault}
use Rattle.cbm_bam.specs.Map.{map_of, is_free_in, number, IsFull}
use Rattle.cbm_bam.specs.Orders.{directory_order}
use Rattle.cbm_directory.specs.Empties.{empty_in, TakesSlot}
use Rattle.cbm_volume.specs.SeenDisks.{seen_tracks, seen_directory}

-- how many blocks are free for files, as the bits of the map count them
abbrev pub free_bits_in : Seen → ℕ
free_bits_in now = number (seen_tracks now) (is_free_in (map_of now.content))

-- a new name has a place: a slot is empty, or track 18 has a free sector
abbrev pub has_name_room : Seen → Bool
has_name_room now = is_some (empty_in 0 (seen_directory now).entries) || is_some (find (is_free_in (map_of now.content)) directory_order)

-- why the room isn't known: 18/0 doesn't read, or the directory breaks off
abbrev pub IsRoomFault : Seen → Trouble → Type 0
IsRoomFault now t = IsHeadFault now.content t ⊎ ((seen_directory now).trouble ≡ Some t)

-- the map reads, and no block is free
abbrev pub HasNoBlock : Seen → Type 0
HasNoBlock now = IsOk (now.content directory_head) × IsFull (seen_tracks now) (map_of now.content)

-- no file finds a place: the map reads, and no block is free or no slot is to be had
abbrev pub FindsNoPlace : Seen → Type 0
FindsNoPlace now = IsOk (now.content directory_head) × ((free_bits_in now ≡ 0) ⊎ TakesSlot (seen_tracks now) now.content now.content None)
