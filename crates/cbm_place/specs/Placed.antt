-- A file of an image that is moved, and why it isn't.
use Rattle.std.specs.Prelude.{ℕ, ◌≡◌, ◌⊎◌, ◌==◌, true, false, List, Some, Ok, Err}
use Rattle.cbm_medium.specs.Place.{Place}
use Rattle.cbm_medium.specs.Content.{Content}
use Rattle.cbm_bam.specs.Marks.{is_marked, nothing}
use Rattle.cbm_directory.specs.Entries.{is_closed, is_relative, first_block, type_byte}
use Rattle.cbm_directory.specs.Slots.{Answers, directory_of}
use Rattle.cbm_image.specs.Images.{kind_of, content_of, image_fault}
use Rattle.cbm_shell.specs.Editing.{HasNoSlot}
use Rattle.cbm_shell.specs.Images.{disk_tracks, OrOpenFault}
use Rattle.cbm_shell.specs.Mapping.{chain_of, is_among}
use Rattle.cbm_shell.specs.Remaking.{IsFirstFault, MakesFault}
use Rattle.cbm_shell.specs.declared.fault.ShellFault.{ShellFault}
use Rattle.cbm_shell.specs.declared.fault.ShellFault.TheVariants as fault
use Rattle.cbm_place.specs.declared.room.Room.{Room}
use Rattle.cbm_place.specs.Moves.{IsMovable, IsRoom, IsRelaid, taken_places}

-- a slot has an entry that isn't empty, and this holds of it
pub record HasEntryThat (tracks : ℕ) (content : Content) (slot : ℕ) (P : List ℕ → Type 0) : Type 0 where
  pub entry : List ℕ
  pub stands : Answers (directory_of tracks content) slot (Ok (Some entry))
  pub so : P entry

-- the file of a slot can't be moved to these places: they are too many or too few, or one of them isn't open
abbrev pub IsCrowded : ℕ → Content → ℕ → List Place → Type 0
IsCrowded tracks content slot places =
    HasEntryThat tracks content slot (λ entry. IsMovable tracks content slot entry × (IsRoom tracks content (chain_of tracks content (first_block entry)) places → ⊥))

-- why a slot has no file that can be moved
abbrev pub IsNoMovable : ℕ → Content → ℕ → ShellFault → Type 0
IsNoMovable tracks content slot fault.NotFound = HasNoSlot tracks content slot ⊎ HasEntryThat tracks content slot (λ entry. (type_byte entry == 0) ≡ true)
IsNoMovable tracks content slot fault.NotClosed = HasEntryThat tracks content slot (λ entry. is_closed entry ≡ false)
IsNoMovable tracks content slot fault.Mistaken = HasEntryThat tracks content slot (λ entry. is_relative entry ≡ true)
IsNoMovable tracks content slot (fault.Trouble t) = Answers (directory_of tracks content) slot (Err t)
IsNoMovable tracks content slot f = ⊥

-- WHY A FILE ISN'T MOVED on a sound disk: its slot has none, it wasn't closed, it is relative, or there is no room for it
abbrev pub IsNotRelaid : ℕ → Content → ℕ → List Place → ShellFault → Type 0
IsNotRelaid tracks content slot places fault.NotFound = HasNoSlot tracks content slot ⊎ HasEntryThat tracks content slot (λ entry. (type_byte entry == 0) ≡ true)
IsNotRelaid tracks content slot places fault.NotClosed = HasEntryThat tracks content slot (λ entry. is_closed entry ≡ false)
IsNotRelaid tracks content slot places fault.Mistaken =
    HasEntryThat tracks content slot (λ entry. is_relative entry ≡ true) ⊎ IsCrowded tracks content slot places
IsNotRelaid tracks content slot places (fault.Trouble t) = Unit {0}
IsNotRelaid tracks content slot places fault.Memory = Unit {0}
IsNotRelaid tracks content slot places f = ⊥

-- THE FILE OF AN IMAGE'S SLOT IS MOVED to these places in the new image
abbrev pub IsPlacedIn : List ℕ → ℕ → List Place → List ℕ → Type 0
IsPlacedIn image slot places new = IsRelaid (disk_tracks image) (content_of (kind_of image) image) (content_of (kind_of image) new) slot places

-- WHY AN IMAGE ISN'T MADE ANEW by a change of its disk: the image is refused; its disk isn't sound, and this is its first fault; the disk that the change makes wouldn't be; or the disk refuses the change
abbrev pub IsNotMadeIn : List ℕ → (ℕ → Content → Content → Type 0) → (ℕ → Content → ShellFault → Type 0) → ShellFault → Type 0
IsNotMadeIn image Makes Refuses fault.Memory = Unit {0}
IsNotMadeIn image Makes Refuses (fault.Image n) = image_fault (kind_of image) image ≡ Some n
IsNotMadeIn image Makes Refuses (fault.Unsound u) = IsFirstFault image u ⊎ MakesFault image (Makes (disk_tracks image) (content_of (kind_of image) image)) u
IsNotMadeIn image Makes Refuses f = Refuses (disk_tracks image) (content_of (kind_of image) image) f

-- why the file of an image's slot isn't moved to these places
abbrev pub IsUnplacedIn : List ℕ → ℕ → List Place → ShellFault → Type 0
IsUnplacedIn image slot places = IsNotMadeIn image (λ tracks old new. IsRelaid tracks old new slot places) (λ tracks content. IsNotRelaid tracks content slot places)

-- ---- where a file lies, and where it may go

-- a file's blocks in order, the sectors that it can't have, and the disk's tracks
pub record IsRoomOf (tracks : ℕ) (content : Content) (slot : ℕ) (room : Room) : Type 0 where
  pub entry : List ℕ
  pub movable : IsMovable tracks content slot entry
  pub blocks : room.blocks.items ≡ chain_of tracks content (first_block entry)
  pub taken : is_marked room.taken ≡ is_among (taken_places tracks content (is_among (chain_of tracks content (first_block entry))) nothing)
  pub whole : room.tracks ≡ tracks

-- why it isn't told: the slot has no file that can be moved, or memory runs out
abbrev pub IsNoRoom : ℕ → Content → ℕ → ShellFault → Type 0
IsNoRoom tracks content slot fault.Memory = Unit {0}
IsNoRoom tracks content slot f = IsNoMovable tracks content slot f

-- WHERE THE FILE OF AN IMAGE'S SLOT LIES, and where it may go
abbrev pub IsRoomOfImage : List ℕ → ℕ → Room → Type 0
IsRoomOfImage image slot room = IsRoomOf (disk_tracks image) (content_of (kind_of image) image) slot room

-- why it isn't told: the image is refused, or its disk has no such file
abbrev pub IsNoRoomIn : List ℕ → ℕ → ShellFault → Type 0
IsNoRoomIn image slot = OrOpenFault image (IsNoMovable (disk_tracks image) (content_of (kind_of image) image) slot)
