-- Files that are no image of a 1541's disk, by their first bytes and their size.
use Rattle.std.specs.Prelude.{ℕ, ◌==◌, nat_lt, nat_eq, ◌||◌, Bool, true, if◌then◌else◌, List, [], ◌∷◌, length, take, codes, Option, Some, None}
use Rattle.std.specs.Str.{bytes_eq}
use Rattle.cbm_image.specs.declared.kind.Kind.{Kind}
use Rattle.cbm_image.specs.declared.kind.Kind.TheVariants.{D64, G64}
use Rattle.cbm_image.specs.Images.{kind_of}
use Rattle.cbm_shell.specs.declared.images.formats.Foreign.{Foreign}
use Rattle.cbm_shell.specs.declared.images.formats.Foreign.TheVariants.{T64, P64, Nib, Gzip, Zip, D71, D81, Longest, LongWithErrors, Short, Unknown}

-- whether a file of this format and size may be an image of a 1541's disk: a G64, or one of the sizes of a D64
abbrev pub is_ours : Kind → ℕ → Bool
is_ours G64 size = true
is_ours D64 size = nat_eq size 174848 || nat_eq size 175531 || nat_eq size 196608

-- what a file is by its first bytes: `C64`, `P64-1541`, `MNIB-1541`, gzip's two, or the four of a ZIP
abbrev pub begun_as : List ℕ → Option Foreign
begun_as image =
    if bytes_eq (take 3 image) (codes "C64") then Some T64
    else if bytes_eq (take 8 image) (codes "P64-1541") then Some P64
    else if bytes_eq (take 9 image) (codes "MNIB-1541") then Some Nib
    else if bytes_eq (take 2 image) (0x1f ∷ 0x8b ∷ []) then Some Gzip
    else if bytes_eq (take 4 image) (0x50 ∷ 0x4b ∷ 3 ∷ 4 ∷ []) then Some Zip
    else None

-- what a file is by its size: 1,366 sectors of 256 bytes of a D71, 3,200 of a D81, 802 of a D64 of 42 tracks, each also with a byte
-- more for each sector, or 768 so of a D64 of 40 tracks; fewer bytes than any image
abbrev pub sized_as : ℕ → Foreign
sized_as size =
    if (size == 349696) || (size == 351062) then D71
    else if (size == 819200) || (size == 822400) then D81
    else if (size == 205312) || (size == 206114) then Longest
    else if size == 197376 then LongWithErrors
    else if nat_lt size 174848 then Short
    else Unknown

-- the first answer, or else the second
abbrev pub or_else : Option Foreign → Foreign → Foreign
or_else (Some first) second = first
or_else None second = second

-- WHAT A FILE IS that is no image of a 1541's disk: by its first bytes, or else by its size
abbrev pub foreign_of : List ℕ → Option Foreign
foreign_of image = if is_ours (kind_of image) (length image) then None else Some (or_else (begun_as image) (sized_as (length image)))
