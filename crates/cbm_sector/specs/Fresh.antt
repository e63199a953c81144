use Rattle.std.specs.Prelude.{ℕ, zero, suc, ◌+◌, ◌*◌, ◌-◌, ◌≡◌, ◌<◌, List, [], ◌∷◌, ◌++◌, Bool, nat_lt, if◌then◌else◌, length, replicate, slice_index, Ok, Some}
use Rattle.cbm_gcr.specs.Code.{code, bits_of}
use Rattle.cbm_medium.specs.Place.{sectors_on}
use Rattle.cbm_sector.specs.Answer.{xor_of, data_block, block_of, sector_shown, id_shown}

-- a sync mark as formatting writes it: five bytes $FF
unfoldable pub mark : List Bool
mark = bits_of (replicate 5 255)

-- a gap of n bytes $55
unfoldable pub gap_bits : ℕ → List Bool
gap_bits n = bits_of (replicate n 85)

-- 256 zeros
unfoldable pub zero_bytes : List ℕ
zero_bytes = replicate 256 0

-- a sector's header: 8, the exclusive or of the next four, sector, track, second and first byte of the id, and 15 twice
abbrev pub header_block : ℕ → List ℕ → ℕ → List ℕ
header_block track id sector = 8 ∷ xor_of (sector ∷ track ∷ slice_index id 1 ∷ slice_index id 0 ∷ []) ∷ sector ∷ track ∷ slice_index id 1 ∷ slice_index id 0 ∷ 15 ∷ 15 ∷ []

-- a header and the bits of a data block on the track: a mark, the header's code, a gap of nine bytes, a mark, the data block, a gap of eight bytes
unfoldable pub laid : List ℕ → List Bool → List Bool
laid header block = mark ++ (code header ++ (gap_bits 9 ++ (mark ++ (block ++ gap_bits 8))))

-- a sector as formatting writes it, with a data block of zeros
abbrev pub fresh_sector : ℕ → List ℕ → ℕ → List Bool
fresh_sector track id sector = laid (header_block track id sector) (code (data_block zero_bytes))

-- the first n sectors, from 0 on
unfoldable pub fresh_sectors : ℕ → List ℕ → ℕ → List Bool
fresh_sectors track id zero = []
fresh_sectors track id (suc n) = fresh_sectors track id n ++ fresh_sector track id n

-- how many bytes formatting writes on a track
abbrev pub bytes_on : ℕ → ℕ
bytes_on t = if nat_lt t 18 then 7692 else if nat_lt t 25 then 7142 else if nat_lt t 31 then 6666 else 6250

-- where formatting puts the data block of a sector: each sector takes 2,896 bits, of which 232 stand before its data block
abbrev pub block_place : ℕ → ℕ
block_place sector = 2896 * sector + 232

-- a track as formatting writes it: its sectors, and a gap up to its length
unfoldable pub fresh : ℕ → List ℕ → List Bool
fresh track id = fresh_sectors track id (sectors_on track) ++ gap_bits (bytes_on track - 362 * sectors_on track)

-- WHAT A TRACK SHOWS as formatting writes it: each sector holds zeros, with its data block in its place, and track 18 has the disk's id.
pub record IsBlankTrack (track : ℕ) (id : List ℕ) (bits : List Bool) : Type 0 where
  pub size : length bits ≡ 8 * bytes_on track
  pub shown : (s : ℕ) → s < sectors_on track → sector_shown bits id (record { track = track; sector = s }) ≡ Ok (replicate 256 0)
  pub named : track ≡ 18 → id_shown bits ≡ Some id
  pub blocks : (s : ℕ) → s < sectors_on track → block_of bits id (record { track = track; sector = s }) ≡ Ok (block_place s)
