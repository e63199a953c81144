-- The D64 format: the sectors in order of track and sector, and in one of its sizes an error byte for each after them.
use Rattle.std.specs.Prelude.{ℕ, ◌+◌, ◌*◌, ◌-◌, ◌<◌, ◌≡◌, ◌≢◌, ◌⊎◌, List, Bool, nat_lt, nat_le, ◌==◌, ◌&&◌, if◌then◌else◌, Option, Some, None, Ok, Err, take, drop, replicate, length, slice_index}
use Rattle.cbm_medium.specs.Place.{Place, has}
use Rattle.cbm_medium.specs.Content.{Cell, Content}
use Rattle.cbm_medium.specs.Seen.{Seen, OutsideBytes, Outside}

-- an image, and whether its disk is protected
pub record Image : Type 0 where
  pub bytes : List ℕ
  pub protected : Bool

-- 35 tracks, 35 tracks with error bytes, 40 tracks
abbrev pub IsImageSize : ℕ → Type 0
IsImageSize n = (n ≡ 174848) ⊎ ((n ≡ 175531) ⊎ (n ≡ 196608))

-- how many tracks an image of this many bytes has, and how many sectors
abbrev pub d64_tracks : ℕ → ℕ
d64_tracks n = if n == 196608 then 40 else 35

abbrev pub sectors_in : ℕ → ℕ
sectors_in n = if n == 196608 then 768 else 683

-- how many sectors stand before a track
abbrev pub sectors_before : ℕ → ℕ
sectors_before t =
    if nat_lt t 18 then 21 * t - 21
    else if nat_lt t 25 then 19 * t + 15
    else if nat_lt t 31 then 18 * t + 40
    else 17 * t + 71

-- how many sectors of the image come before this one
abbrev pub index_of : Place → ℕ
index_of p = sectors_before p.track + p.sector

-- The fault that an error byte means. 1 is good, and so are 7, 8 and 10, which speak of writing, and all others.
abbrev pub code_of_error : ℕ → Option ℕ
code_of_error e =
    if e == 2 then Some 20
    else if e == 3 then Some 21
    else if e == 4 then Some 22
    else if e == 5 then Some 23
    else if e == 6 then Some 24
    else if e == 9 then Some 27
    else if e == 11 then Some 29
    else None

-- the bytes of a sector, or the fault of its error byte
abbrev pub cell_of : Option ℕ → List ℕ → Cell
cell_of None bytes = Ok bytes
cell_of (Some code) bytes = Err code

-- the error byte of a sector; 1, which is good, where the image has none
abbrev pub error_at : List ℕ → ℕ → ℕ
error_at image i = if length image == 175531 then slice_index image (174848 + i) else 1

-- the bytes of the sector with this number
abbrev pub sector_at : List ℕ → ℕ → List ℕ
sector_at image i = take 256 (drop (256 * i) image)

-- What the sectors of an image hold; a place that the image lacks counts as 256 zeros.
unfoldable pub d64_content : List ℕ → Content
d64_content image p =
    if has (d64_tracks (length image)) p then cell_of (code_of_error (error_at image (index_of p))) (sector_at image (index_of p))
    else Ok (replicate 256 0)

-- the error byte of a sector that was written: a fault is mended, and what was good stays, whatever it says of writing
abbrev pub mended : ℕ → ℕ
mended e = elim (code_of_error e) [ None ↦ e | Some code ↦ 1 ]

-- an error byte is at this place of an image of this size
abbrev pub is_error_byte : ℕ → ℕ → Bool
is_error_byte size p = (size == 175531) && (nat_le 174848 p && nat_lt p 175531)

-- WHAT NO WRITE CHANGES OF AN IMAGE: its size, and of each error byte what a write leaves of it
unfoldable pub d64_rest : List ℕ → OutsideBytes
d64_rest image = record { size = length image; byte = λ p. if is_error_byte (length image) p then mended (error_at image (p - 174848)) else 0 }

-- the same after a format: each sector is good
unfoldable pub d64_rest_formatted : ℕ → OutsideBytes
d64_rest_formatted size = record { size = size; byte = λ p. if is_error_byte size p then 1 else 0 }

abbrev pub d64_outside : List ℕ → Outside
d64_outside image = record { kept = d64_rest image; formatted = d64_rest_formatted (length image) }

-- what the disk shows; an image in memory never fails by itself
abbrev pub d64_seen : Image → Seen
d64_seen d = record { content = d64_content d.bytes; tracks = d64_tracks (length d.bytes); protected = d.protected; failures = 0; refused = None; id = None; outside = d64_outside d.bytes }

-- One sector of an image is written: its bytes and its error byte, and nothing else.
pub record IsSectorStored (old new : List ℕ) (i : ℕ) (bytes : List ℕ) : Type 0 where
  pub size : length new ≡ length old
  pub sector : sector_at new i ≡ bytes
  pub error : error_at new i ≡ mended (error_at old i)
  pub other_sectors : (j : ℕ) → j < sectors_in (length old) → j ≢ i → sector_at new j ≡ sector_at old j
  pub other_errors : (j : ℕ) → j ≢ i → error_at new j ≡ error_at old j

-- An image of the same size whose sectors are all zeros, and good.
pub record IsErased (old new : List ℕ) : Type 0 where
  pub size : length new ≡ length old
  pub sectors : (j : ℕ) → j < sectors_in (length old) → sector_at new j ≡ replicate 256 0
  pub errors : (j : ℕ) → j < sectors_in (length old) → error_at new j ≡ 1
