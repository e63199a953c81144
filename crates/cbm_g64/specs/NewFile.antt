-- The file that formatting makes, before its tracks are put in.
use Rattle.std.specs.Prelude.{ℕ, zero, suc, ◌+◌, ◌*◌, List, [], ◌∷◌, ◌++◌, Bool, true, false, nat_lt, if◌then◌else◌, replicate}
use Rattle.byteorder.specs.Endian.{little_bytes}
use Rattle.cbm_sector.specs.Fresh.{bytes_on}

-- where track i + 1 stands
abbrev pub new_place : ℕ → ℕ
new_place i = 684 + 7930 * i

-- the zone of track i + 1, which is its speed
abbrev pub new_zone : ℕ → ℕ
new_zone i = if nat_lt i 17 then 3 else if nat_lt i 24 then 2 else if nat_lt i 30 then 1 else 0

-- the entries of the first n tracks, each with that of the half track after it, which is 0
unfoldable pub entries_of : (ℕ → ℕ) → ℕ → List ℕ
entries_of f zero = []
entries_of f (suc n) = entries_of f n ++ (little_bytes 4 (f n) ++ replicate 4 0)

-- the lengths of the first n tracks, each before 7,928 zeros
unfoldable pub new_track_blocks : ℕ → List ℕ
new_track_blocks zero = []
new_track_blocks (suc n) = new_track_blocks n ++ (little_bytes 2 (bytes_on (n + 1)) ++ replicate 7928 0)

-- the signature, version 0, 84 entries and the greatest size 7,928
abbrev pub front : List ℕ
front = 71 ∷ 67 ∷ 82 ∷ 45 ∷ 49 ∷ 53 ∷ 52 ∷ 49 ∷ 0 ∷ 84 ∷ 248 ∷ 30 ∷ []

-- offsets and speeds have 84 entries each, of which 14 are for the tracks 36 to 42
unfoldable pub new_file : List ℕ
new_file = front ++ (entries_of new_place 35 ++ (replicate 56 0 ++ (entries_of new_zone 35 ++ (replicate 56 0 ++ new_track_blocks 35))))

-- the file that a disk's tracks are put into
abbrev pub base_of : Bool → List ℕ → List ℕ
base_of true file = new_file
base_of false file = file
