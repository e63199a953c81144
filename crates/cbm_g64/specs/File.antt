use Rattle.std.specs.Prelude.{ℕ, zero, suc, ◌≤◌, ◌+◌, ◌*◌, ◌<◌, ◌≡◌, List, [], ◌∷◌, ◌++◌, Bool, true, not, ◌&&◌, ◌||◌, ◌==◌, nat_lt, nat_le, if◌then◌else◌, Option, Some, None, length, take, drop, slice_index}
use Rattle.cbm_track.specs.Circle.{each_below, circle_bits_of}
use Rattle.cbm_g64.specs.declared.fault.G64Fault.{G64Fault}
use Rattle.cbm_g64.specs.declared.fault.G64Fault.TheVariants.{Signature, Version, Entries, GreatestSize, OffsetOutside, TrackLength, Overlap}

-- a number of two or four bytes, the low one first
abbrev pub two_at : List ℕ → ℕ → ℕ
two_at file i = slice_index file i + 256 * slice_index file (i + 1)

-- four bytes of the file as a number, the lowest first
abbrev pub four_at : List ℕ → ℕ → ℕ
four_at file i = two_at file i + 65536 * two_at file (i + 2)

-- how many half tracks the file has tables for
abbrev pub entries : List ℕ → ℕ
entries file = slice_index file 9

-- the most bytes of a track in the file
abbrev pub greatest : List ℕ → ℕ
greatest file = two_at file 10

-- where the two tables of the file end
abbrev pub tables_end : List ℕ → ℕ
tables_end file = 12 + 8 * entries file

-- the offset of track i + 1, and its length
unfoldable pub offset : List ℕ → ℕ → ℕ
offset file i = four_at file (12 + 8 * i)

-- how many bytes a track has
unfoldable pub size : List ℕ → ℕ → ℕ
size file i = two_at file (offset file i)

-- the file begins with GCR-1541
abbrev pub has_signature : List ℕ → Bool
has_signature file =
    nat_le 8 (length file) && ((slice_index file 0 == 71) && ((slice_index file 1 == 67) && ((slice_index file 2 == 82) && ((slice_index file 3 == 45)
    && ((slice_index file 4 == 49) && ((slice_index file 5 == 53) && ((slice_index file 6 == 52) && (slice_index file 7 == 49))))))))

-- the version is 0
abbrev pub has_version : List ℕ → Bool
has_version file = nat_le 9 (length file) && (slice_index file 8 == 0)

-- there are tables for 69 to 84 half tracks
abbrev pub has_entries : List ℕ → Bool
has_entries file = nat_le 10 (length file) && (nat_le 69 (entries file) && nat_le (entries file) 84)

-- no track may have more than 7,928 bytes
abbrev pub has_greatest : List ℕ → Bool
has_greatest file = nat_le 12 (length file) && nat_le (greatest file) 7928

-- no track, or one after the tables whose length and bytes lie in the file
unfoldable pub is_track_inside : List ℕ → ℕ → Bool
is_track_inside file i = (offset file i == 0) || (nat_le (tables_end file) (offset file i) && (nat_le (offset file i + 2) (length file) && nat_le (offset file i + 2 + size file i) (length file)))

-- a track that is there has a byte at least, and no more than the file's greatest
unfoldable pub is_sized : List ℕ → ℕ → Bool
is_sized file i = (offset file i == 0) || (nat_lt 0 (size file i) && nat_le (size file i) (greatest file))

-- two tracks share no byte
unfoldable pub is_apart : List ℕ → ℕ → ℕ → Bool
is_apart file i j = (i == j) || ((offset file i == 0) || ((offset file j == 0) || (nat_le (offset file i + 2 + size file i) (offset file j) || nat_le (offset file j + 2 + size file j) (offset file i))))

-- the tables and the 35 tracks lie inside the file
unfoldable pub are_inside : List ℕ → Bool
are_inside file = nat_le (tables_end file) (length file) && each_below (is_track_inside file) 35

-- each of the 35 tracks has a size that may be
unfoldable pub are_sized : List ℕ → Bool
are_sized file = each_below (is_sized file) 35

-- no two of the 35 tracks overlap
unfoldable pub are_apart : List ℕ → Bool
are_apart file = each_below (λ i. each_below (is_apart file i) 35) 35

-- the first fault of a file
abbrev pub g64_fault : List ℕ → Option G64Fault
g64_fault file =
    if not (has_signature file) then Some Signature
    else if not (has_version file) then Some Version
    else if not (has_entries file) then Some Entries
    else if not (has_greatest file) then Some GreatestSize
    else if not (are_inside file) then Some OffsetOutside
    else if not (are_sized file) then Some TrackLength
    else if not (are_apart file) then Some Overlap
    else None

-- the circle of track i + 1, one without sync mark where there is no track
unfoldable pub track_in : List ℕ → ℕ → List Bool
track_in file i = if offset file i == 0 then circle_bits_of (0 ∷ []) else circle_bits_of (take (size file i) (drop (offset file i + 2) file))

-- the circles of the first n tracks
unfoldable pub g64_circles : List ℕ → ℕ → List (List Bool)
g64_circles file zero = []
g64_circles file (suc n) = g64_circles file n ++ (track_in file n ∷ [])

-- each track lies in the file and has a length that may be
pub record IsGood (file : List ℕ) : Type 0 where
  pub tables : 292 ≤ length file
  pub few : greatest file ≤ 7928
  pub inside : (i : ℕ) → i < 35 → is_track_inside file i ≡ true
  pub sized : (i : ℕ) → i < 35 → is_sized file i ≡ true
