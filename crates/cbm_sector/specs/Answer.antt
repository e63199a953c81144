use Rattle.std.specs.Prelude.{ℕ, ◌≡◌, ◌<◌, ◌≤◌, ◌+◌, List, [], ◌∷◌, ◌++◌, Bool, false, not, ◌&&◌, ◌||◌, ◌==◌, if◌then◌else◌, Option, Some, None, Result, Ok, Err, is_some, length, take, drop, fold, bit_xor, slice_index, slice_index_or}
use Rattle.cbm_gcr.specs.Code.{code}
use Rattle.cbm_medium.specs.Place.{Place}
use Rattle.cbm_medium.specs.Content.{Cell}
use Rattle.cbm_track.specs.Circle.{circle_bit, begins, is_clear, first_below, next_block}
use Rattle.cbm_sector.specs.Decoding.{coded_at}

-- the exclusive or of bytes
abbrev pub xor_of : List ℕ → ℕ
xor_of bytes = fold bit_xor 0 bytes

-- a header's eight bytes are 8, the exclusive or of the next four, sector, track, second and first id byte, and two more
abbrev pub is_header : List ℕ → Bool
is_header v = slice_index v 0 == 8

-- the header names this sector
abbrev pub names : Place → List ℕ → Bool
names a v = is_header v && ((slice_index v 2 == a.sector) && (slice_index v 3 == a.track))

-- the header's checksum is right
abbrev pub is_right : List ℕ → Bool
is_right v = slice_index v 1 == xor_of (take 4 (drop 2 v))

-- the header has this id
abbrev pub has_id : List ℕ → List ℕ → Bool
has_id id v = (slice_index v 4 == slice_index id 1) && (slice_index v 5 == slice_index id 0)

-- a header was read, and the test says yes of it
abbrev pub passes : (List ℕ → Bool) → Option (List ℕ) → Bool
passes test None = false
passes test (Some v) = test v

-- a header that passes a test stands at a place
unfoldable pub header_at : (List ℕ → Bool) → List Bool → ℕ → Bool
header_at test track p = begins track p && passes test (coded_at track p 8)

-- the first header of a sector, from the track's first bit on
unfoldable pub header_of : List Bool → Place → Option ℕ
header_of track a = first_below (header_at (names a) track) (length track)

-- ten ones in a row begin within the 2,600 bits from a place on
unfoldable pub is_crowded : List Bool → ℕ → Bool
is_crowded track p = not (is_clear track p 2600)

-- where a data block begins, where it can be one: no header, and no sync mark inside
abbrev pub block_at : List Bool → Option ℕ → Result ℕ ℕ
block_at track None = Err 20
block_at track (Some p) = if passes is_header (coded_at track p 4) || is_crowded track p then Err 20 else Ok p

-- the bytes of a data block
abbrev pub data_block : List ℕ → List ℕ
data_block bytes = 7 ∷ (bytes ++ (xor_of bytes ∷ 0 ∷ 0 ∷ []))

-- the code of a sector's data block
abbrev pub block_code : List ℕ → List Bool
block_code bytes = code (data_block bytes)

-- the same after a header's bytes
abbrev pub block_after_header : List Bool → List ℕ → ℕ → Option (List ℕ) → Result ℕ ℕ
block_after_header track id p None = Err 20
block_after_header track id p (Some v) = if is_right v then (if has_id id v then block_at track (next_block track (p + 1)) else Err 29) else Err 27

-- the block after a header; 20 where there is no such header
abbrev pub after_a_header : List Bool → List ℕ → Option ℕ → Result ℕ ℕ
after_a_header track id None = Err 20
after_a_header track id (Some p) = block_after_header track id p (coded_at track p 8)

-- where a sector's data block begins, or the fault of its header
unfoldable pub block_of : List Bool → List ℕ → Place → Result ℕ ℕ
block_of track id a = if is_some (next_block track 0) then after_a_header track id (header_of track a) else Err 21

-- the 256 bytes of a data block; 23 where its checksum is wrong, 24 where its group code is
abbrev pub checked : Option (List ℕ) → Cell
checked None = Err 24
checked (Some v) = if xor_of (take 256 (drop 1 v)) == slice_index v 257 then Ok (take 256 (drop 1 v)) else Err 23

-- the bytes of a data block; 22 where its first byte isn't 7, 24 where its group code is wrong
abbrev pub block_data : Option (List ℕ) → Option (List ℕ) → Cell
block_data None block = Err 24
block_data (Some v) block = if slice_index v 0 == 7 then checked block else Err 22

-- what a data block says: 7, the 256 bytes, their exclusive or, and two more
unfoldable pub data_at : List Bool → ℕ → Cell
data_at track p = block_data (coded_at track p 4) (coded_at track p 260)

-- the bytes of the data block after a header, or the header's fault
abbrev pub data_following : List Bool → Result ℕ ℕ → Cell
data_following track (Err code) = Err code
data_following track (Ok p) = data_at track p

-- the answer for a sector on a track, under the disk's id
unfoldable pub sector_shown : List Bool → List ℕ → Place → Cell
sector_shown track id a = data_following track (block_of track id a)

-- the id in a header
abbrev pub id_in : Option (List ℕ) → Option (List ℕ)
id_in None = None
id_in (Some v) = Some (slice_index v 5 ∷ slice_index v 4 ∷ [])

-- the id in the header at a place of a track
abbrev pub id_at : List Bool → Option ℕ → Option (List ℕ)
id_at track None = None
id_at track (Some p) = id_in (coded_at track p 8)

-- a right header of track 18
abbrev pub names_18 : List ℕ → Bool
names_18 v = is_header v && ((slice_index v 3 == 18) && is_right v)

-- the id in the first right header that names track 18
unfoldable pub id_shown : List Bool → Option (List ℕ)
id_shown track = id_at track (first_below (header_at names_18 track) (length track))

-- the headers of a sector, or those that the disk's id is taken from
abbrev pub wanted_test : Option Place → List ℕ → Bool
wanted_test (Some a) = names a
wanted_test None = names_18

-- bits stand from a place of the new circle on, and all other bits are as they were
pub record IsOverwritten (old new : List Bool) (d : ℕ) (bits : List Bool) : Type 0 where
  pub here : (k : ℕ) → k < length bits → circle_bit new (d + k) ≡ slice_index_or bits k false
  pub others : (k : ℕ) → length bits ≤ k → k < length old → circle_bit new (d + k) ≡ circle_bit old (d + k)
