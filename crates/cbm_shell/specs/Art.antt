-- What a directory shows of an entry: lines of art, which are closed, of the type DEL, and have no block; and files that look otherwise.
use Rattle.std.specs.Prelude.{ℕ, ◌/◌, ◌%◌, Bool, List, slice_set, Some, None, Ok}
use Rattle.cbm_medium.specs.Place.{Place}
use Rattle.cbm_medium.specs.Content.{Content}
use Rattle.cbm_file.specs.declared.file_type.FileType.TheVariants.{Del}
use Rattle.cbm_directory.specs.Empties.{FindsEmpty, TakesSlot}
use Rattle.cbm_directory.specs.EntryChanges.{fresh_entry, renamed_entry}
use Rattle.cbm_directory.specs.Growth.{CannotGrow}
use Rattle.cbm_directory.specs.Entries.{closed_entry, EntersLed}
use Rattle.cbm_directory.specs.Slots.{Answers, directory_of}
use Rattle.cbm_image.specs.Images.{kind_of, content_of}
use Rattle.cbm_shell.specs.Images.{disk_tracks}
use Rattle.cbm_shell.specs.Locking.{locked_entry}

-- no sector, where a chain without a block begins
abbrev pub nowhere : Place
nowhere = record { track = 0; sector = 0 }

-- A LINE OF ART: a name, filled up with $A0, a number of blocks that is shown, and whether it is locked
abbrev pub art_entry : List ℕ → ℕ → Bool → List ℕ
art_entry name blocks locked = locked_entry locked (closed_entry (fresh_entry Del name nowhere) nowhere blocks)

-- THE FIRST EMPTY SLOT HAS THIS ENTRY. Where none was empty the directory has grown before; nothing else is changed.
pub record HasEntered (tracks : ℕ) (old new : Content) (entry : List ℕ) : Type 0 where
  pub slot : ℕ
  pub grown : Content
  pub takes : TakesSlot tracks old grown (Some slot)
  pub entered : EntersLed tracks grown new slot entry

-- no slot is empty, and the directory can't grow
abbrev pub IsDirectoryFull : ℕ → Content → Type 0
IsDirectoryFull tracks content = FindsEmpty (directory_of tracks content) (Ok None) × CannotGrow tracks content

-- AN ENTRY THAT LOOKS SO: another name, another number of blocks, locked or not; its type, where its file lies and all else is as it was
abbrev pub dressed_entry : List ℕ → ℕ → Bool → List ℕ → List ℕ
dressed_entry name blocks locked e = slice_set (slice_set (locked_entry locked (renamed_entry e name)) 28 (blocks % 256)) 29 (blocks / 256)

-- THE ENTRY OF A SLOT LOOKS SO in the new content, and nothing else is changed.
pub record IsDressed (tracks slot : ℕ) (name : List ℕ) (blocks : ℕ) (locked : Bool) (old new : Content) : Type 0 where
  pub entry : List ℕ
  pub there : Answers (directory_of tracks old) slot (Ok (Some entry))
  pub entered : EntersLed tracks old new slot (dressed_entry name blocks locked entry)

-- ---- of an image, and a new one of its format

-- the directory of its disk is full, and can't grow
abbrev pub IsImageFull : List ℕ → Type 0
IsImageFull image = IsDirectoryFull (disk_tracks image) (content_of (kind_of image) image)

-- the first empty slot of its disk has this entry in the new image
abbrev pub HasEnteredIn : List ℕ → List ℕ → List ℕ → Type 0
HasEnteredIn image entry new = HasEntered (disk_tracks image) (content_of (kind_of image) image) (content_of (kind_of image) new) entry

-- the entry of a slot looks so in the new image
abbrev pub IsDressedIn : List ℕ → ℕ → List ℕ → ℕ → Bool → List ℕ → Type 0
IsDressedIn image slot name blocks locked new = IsDressed (disk_tracks image) slot name blocks locked (content_of (kind_of image) image) (content_of (kind_of image) new)
