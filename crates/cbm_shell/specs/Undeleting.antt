-- A deleted file that is given back.
use Rattle.std.specs.Prelude.{ℕ, ◌≡◌, ◌≢◌, ◌⊎◌, ◌==◌, ◌+◌, ◌&&◌, not, Bool, true, false, List, [], ◌∷◌, ◌++◌, slice_index, slice_set, Some, Ok}
use Rattle.cbm_medium.specs.Place.{Place, Has, directory_head}
use Rattle.cbm_medium.specs.Content.{Content, written}
use Rattle.cbm_bam.specs.Map.{map_of, is_free_in, IsCounted, IsOutsideMap}
use Rattle.cbm_file.specs.Types.{type_number}
use Rattle.cbm_file.specs.declared.file_type.FileType.{FileType}
use Rattle.cbm_directory.specs.Entries.{type_byte, first_block, EntersLed}
use Rattle.cbm_directory.specs.Slots.{Answers, directory_of}
use Rattle.cbm_shell.specs.Mapping.{chain_of, entries_shown, free_by, is_among, used_in}
use Rattle.cbm_shell.specs.Geos.{border_in, in_geos}
use Rattle.cbm_shell.specs.Lost.{lost_of}
use Rattle.cbm_image.specs.Images.{kind_of, content_of}
use Rattle.cbm_shell.specs.Editing.{HasNoSlot}
use Rattle.cbm_shell.specs.Images.{disk_tracks, OrOpenFault}
use Rattle.cbm_shell.specs.declared.fault.ShellFault.{ShellFault}
use Rattle.cbm_shell.specs.Remaking.{IsFirstFault, MakesFault, IsHaltedBy}

-- the entry with a type, closed, and all else as it was
abbrev pub restored_entry : FileType → List ℕ → List ℕ
restored_entry kind e = slice_set e 0 (128 + type_number kind)

-- the entry stands in this slot, and is that of no file
pub record IsDeleted (tracks : ℕ) (content : Content) (slot : ℕ) (entry : List ℕ) : Type 0 where
  pub stands : Answers (directory_of tracks content) slot (Ok (Some entry))
  pub deleted : type_byte entry ≡ 0

-- the slot has no deleted file: the directory ends before it, or its entry isn't empty
abbrev pub HasNoDeleted : ℕ → Content → ℕ → Type 0
HasNoDeleted tracks content slot =
    HasNoSlot tracks content slot ⊎ ((entry : List ℕ) × Answers (directory_of tracks content) slot (Ok (Some entry)) × ((type_byte entry == 0) ≡ false))

-- the BAM has each of these sectors as free
unfoldable pub all_blocks_free : Content → List Place → Bool
all_blocks_free content [] = true
all_blocks_free content (p ∷ rest) = free_by (content directory_head) p && all_blocks_free content rest

-- each block of the entry's chain is free, and none of the disk is lost
pub record IsClear (tracks : ℕ) (content : Content) (entry : List ℕ) : Type 0 where
  pub free : all_blocks_free content (chain_of tracks content (first_block entry)) ≡ true
  pub none_lost : lost_of content tracks (directory_of tracks content) ≡ []

-- a block of the entry's chain isn't free, or blocks of the disk are lost
abbrev pub IsInTheWay : ℕ → Content → List ℕ → Type 0
IsInTheWay tracks content entry =
    (all_blocks_free content (chain_of tracks content (first_block entry)) ≡ false) ⊎ (lost_of content tracks (directory_of tracks content) ≢ [])

-- WHY NOTHING IS GIVEN BACK: the slot has no deleted file, or something is in its way
abbrev pub IsNotGiven : ℕ → Content → ℕ → Type 0
IsNotGiven tracks content slot =
    HasNoDeleted tracks content slot ⊎ ((entry : List ℕ) × IsDeleted tracks content slot entry × IsInTheWay tracks content entry)

-- what is taken on the disk with one chain more: the directory, the files, what GEOS uses, and the chain
abbrev pub held_with : ℕ → Content → List (List ℕ) → Place → List Place
held_with tracks content entries from =
    ((used_in tracks content entries ++ border_in tracks content (content directory_head)) ++ in_geos tracks content entries) ++ chain_of tracks content from

-- the BAM is written anew, each block is free but these, and what else stands in 18/0 stays
pub record IsMapAnew (tracks : ℕ) (old new : Content) (held : Place → Bool) : Type 0 where
  pub map : List ℕ
  pub written : new ≡ written old directory_head map
  pub bits : (p : Place) → Has tracks p → is_free_in map p ≡ not (held p)
  pub counted : IsCounted tracks map
  pub outside : (i : ℕ) → IsOutsideMap tracks i → slice_index map i ≡ slice_index (map_of old) i

-- the entry has its type, and the BAM has the chain as taken; nothing else is changed
pub record IsGivenAgain (tracks : ℕ) (old new : Content) (slot : ℕ) (kind : FileType) (entry : List ℕ) : Type 0 where
  pub middle : Content
  pub entered : EntersLed tracks old middle slot (restored_entry kind entry)
  pub mapped : IsMapAnew tracks middle new (is_among (held_with tracks old (entries_shown (directory_of tracks old)) (first_block entry)))

-- THE DELETED FILE in a slot is given back
pub record IsUndeleted (tracks : ℕ) (old new : Content) (slot : ℕ) (kind : FileType) : Type 0 where
  pub entry : List ℕ
  pub deleted : IsDeleted tracks old slot entry
  pub clear : IsClear tracks old entry
  pub given : IsGivenAgain tracks old new slot kind entry

-- ---- of an image, and a new one of its format

-- nothing is given back of its disk, and why
abbrev pub IsNotGivenIn : List ℕ → ℕ → Type 0
IsNotGivenIn image slot = IsNotGiven (disk_tracks image) (content_of (kind_of image) image) slot

-- the deleted file of a slot is given back in the new image
abbrev pub IsUndeletedIn : List ℕ → List ℕ → ℕ → FileType → Type 0
IsUndeletedIn image new slot kind = IsUndeleted (disk_tracks image) (content_of (kind_of image) image) (content_of (kind_of image) new) slot kind

-- why the image isn't made: its own fault; its disk isn't sound, or the disk with the file isn't, and this is the first fault; a sector can't be read or written; or memory runs out
abbrev pub IsNotUndeleted : List ℕ → ℕ → FileType → ShellFault → Type 0
IsNotUndeleted image slot kind = OrOpenFault image (IsHaltedBy (λ u. IsFirstFault image u
    ⊎ MakesFault image (λ new. IsUndeleted (disk_tracks image) (content_of (kind_of image) image) new slot kind) u))
