-- What NEW writes: the map's sector with the title and the id, and an empty first sector of the directory.
use Rattle.std.specs.Prelude.{ℕ, ◌≡◌, ◌++◌, ◌∷◌, [], List, Bool, true, false, not, replicate, slice_index, slice_range, Option, Some, None, Result, IsErr, OnOk, ◌⊎◌}
use Rattle.cbm_medium.specs.Place.{Place, Has, directory_head}
use Rattle.cbm_medium.specs.Content.{Content, written, blank}
use Rattle.cbm_medium.specs.Seen.{Seen, formatted_as, with_content, OnlyContent}
use Rattle.cbm_medium.specs.declared.fault.Trouble.{Trouble}
use Rattle.cbm_file.specs.Files.{Disk, file_at}
use Rattle.cbm_file.specs.Padding.{padded}
use Rattle.cbm_bam.specs.Map.{map_of, is_free_in, IsCounted, IsOutsideMap, IsSpare, with_bit}
use Rattle.cbm_bam.specs.Marks.{nothing}
use Rattle.cbm_directory.specs.Entries.{first_directory}
use Rattle.cbm_directory.specs.Growth.{new_sector}
use Rattle.cbm_volume.specs.Holding.{HoldsDisk}

-- the two sectors that an empty disk uses: 18/0 and 18/1
abbrev pub used_by_new : Place → Bool
used_by_new = with_bit (with_bit nothing directory_head true) first_directory true

-- the title, the id and the kind of DOS as they stand from byte 144 on, with $A0 around them
abbrev pub new_label : List ℕ → List ℕ → List ℕ
new_label title id = padded title ++ (160 ∷ 160 ∷ (id ++ (160 ∷ 50 ∷ 65 ∷ replicate 4 160)))

-- 18/0 around the map: the link to 18/1, the letter of the format, the label, and zeros
unfoldable pub around_map : List ℕ → List ℕ → List ℕ
around_map title id = (18 ∷ 1 ∷ 65 ∷ replicate 141 0) ++ (new_label title id ++ replicate 85 0)

-- THE BYTES OF 18/0 on an empty disk of this many tracks: all sectors but two are free, each count is right, the bits of no
-- sector are 0, and so it is around the map. So it says its title and its id.
pub record IsNewHead (tracks : ℕ) (title id : List ℕ) (head : List ℕ) : Type 0 where
  pub free : (p : Place) → Has tracks p → is_free_in head p ≡ not (used_by_new p)
  pub counted : IsCounted tracks head
  pub spare : (p : Place) → IsSpare tracks p → is_free_in head p ≡ false
  pub around : (i : ℕ) → IsOutsideMap tracks i → slice_index head i ≡ slice_index (around_map title id) i
  pub titled : slice_range head 144 160 ≡ padded title
  pub marked : slice_range head 162 167 ≡ id ++ 160 ∷ 50 ∷ 65 ∷ []

-- 18/1 is written with eight empty slots, and then 18/0.
pub record IsEmptied (tracks : ℕ) (title id : List ℕ) (old new : Content) : Type 0 where
  pub head : List ℕ
  pub is_head : IsNewHead tracks title id head
  pub written : new ≡ written (written old first_directory new_sector) directory_head head

-- the id after NEW: the new one, or the one that 18/0 had
abbrev pub id_after : Option (List ℕ) → Content → List ℕ
id_after None old = slice_range (map_of old) 162 164
id_after (Some id) old = id

-- what these two sectors are written over: a disk that was formatted, or the old one
abbrev pub content_under : Option (List ℕ) → Content → Content
content_under None old = old
content_under (Some id) old = blank

-- WHERE NEW IS DONE, whatever the medium held, 18/0 and 18/1 are those of an empty disk; all other sectors are zeros where an id is given, and
-- as they were where none is.
abbrev pub EmptiesDisk : Result (Unit {0}) Trouble → List ℕ → Option (List ℕ) → Seen → Seen → Type 0
EmptiesDisk result title id old new = OnOk result (IsEmptied old.tracks title (id_after id old.content) (content_under id old.content) new.content)

-- the medium holds a disk that is sound and has no file; blocks that its BAM has as taken may be nobody's
abbrev pub HoldsNoFile : ℕ → Content → Type 0
HoldsNoFile tracks content = (d : Disk) × HoldsDisk tracks content d × ((n : ℕ) → file_at d n ≡ None)

-- WHERE NEW WAS STOPPED at a write that the medium refused, nothing has changed, or the disk is sound and no file is left.
abbrev pub IsNewOrNothing : ℕ → Content → Content → Type 0
IsNewOrNothing tracks old new = (new ≡ old) ⊎ HoldsNoFile tracks new

-- NEW changes at most what the sectors hold and, where one is given, the id in their headers, over zeros everywhere; a format that was refused
-- leaves the old id.
abbrev pub OnlyNew : Result (Unit {0}) Trouble → Option (List ℕ) → Seen → Seen → Type 0
OnlyNew result None old new = OnlyContent 18 result old new
OnlyNew result (Some id) old new = OnlyContent 18 result (formatted_as id (with_content blank old)) new ⊎ (IsErr result × OnlyContent 18 result old new)
