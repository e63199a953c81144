-- Files that are locked against SCRATCH, and the disk's title: two changes that no command of the drive makes.
use Rattle.std.specs.Prelude.{ℕ, zero, suc, ◌≡◌, ◌+◌, ◌*◌, ◌/◌, ◌%◌, ◌&&◌, ◌⊎◌, Bool, true, false, List, [], ◌∷◌, ◌++◌, take, drop, slice_set, Some, None, Ok, MatchBool}
use Rattle.cbm_medium.specs.Place.{directory_head}
use Rattle.cbm_medium.specs.Content.{Content, written}
use Rattle.cbm_medium.specs.Links.{bytes_at}
use Rattle.cbm_file.specs.Padding.{padded}
use Rattle.cbm_file.specs.Files.{Disk}
use Rattle.cbm_directory.specs.Entries.{type_byte, bit_of, EntersLed}
use Rattle.cbm_directory.specs.Slots.{Answers, directory_of}
use Rattle.cbm_channel.specs.Sought.{is_sought}
use Rattle.cbm_image.specs.Images.{kind_of, content_of}
use Rattle.cbm_shell.specs.Editing.{HasNoSlot}
use Rattle.cbm_shell.specs.Images.{disk_tracks, OrOpenFault}
use Rattle.cbm_shell.specs.declared.fault.ShellFault.{ShellFault}
use Rattle.cbm_shell.specs.Remaking.{IsFirstFault, MakesFault, IsHaltedBy}

-- two answers that aren't the same
abbrev pub is_other : Bool → Bool → Bool
is_other true true = false
is_other true false = true
is_other false true = true
is_other false false = false

-- a file whose name matches, and that isn't locked as it shall be
abbrev pub is_unlike : List ℕ → Bool → List ℕ → Bool
is_unlike pattern locked e = is_sought pattern None e && is_other (bit_of (type_byte e) 6) locked

-- bit 6 of the type byte says that a file is locked
abbrev pub lock_bit : Bool → ℕ
lock_bit true = 64
lock_bit false = 0

-- a type byte with that bit so
abbrev pub locked_type : Bool → ℕ → ℕ
locked_type locked type = type % 64 + 128 * (type / 128) + lock_bit locked

-- an entry with that bit so, and all else as it was
abbrev pub locked_entry : Bool → List ℕ → List ℕ
locked_entry locked e = slice_set e 0 (locked_type locked (type_byte e))

-- ONE SLOT: the entry of a file that matches, and isn't locked as it shall be, is so; any other stays. Nothing else is changed.
pub record LocksSlot (locked : Bool) (tracks : ℕ) (pattern : List ℕ) (slot : ℕ) (old new : Content) : Type 0 where
  pub entry : List ℕ
  pub stands : Answers (directory_of tracks old) slot (Ok (Some entry))
  pub entered : MatchBool (is_unlike pattern locked entry) (EntersLed tracks old new slot (locked_entry locked entry)) (new ≡ old)

-- the first n slots, one after another
unfoldable pub LocksSlots : Bool → ℕ → List ℕ → ℕ → Content → Content → Type 0
LocksSlots locked tracks pattern zero old new = new ≡ old
LocksSlots locked tracks pattern (suc n) old new =
    (between : Content) × LocksSlots locked tracks pattern n old between × LocksSlot locked tracks pattern n between new

-- EACH FILE THAT MATCHES is locked as it shall be: all slots of the directory
pub record LocksEach (locked : Bool) (tracks : ℕ) (pattern : List ℕ) (old new : Content) : Type 0 where
  pub slots : ℕ
  pub each : LocksSlots locked tracks pattern slots old new
  pub all : HasNoSlot tracks new slots

-- THE FILES THAT PATTERNS MEAN are locked as they shall be, pattern after pattern
unfoldable pub LocksAll : List (List ℕ) → Bool → ℕ → Content → Content → Type 0
LocksAll [] locked tracks old new = new ≡ old
LocksAll (pattern ∷ rest) locked tracks old new =
    (between : Content) × LocksEach locked tracks pattern old between × LocksAll rest locked tracks between new

-- 18/0 WITH ANOTHER TITLE, filled up with $A0; its other bytes are as they were
abbrev pub with_title : List ℕ → List ℕ → List ℕ
with_title title head = take 144 head ++ (padded title ++ drop 16 (drop 144 head))

-- the content whose 18/0 has another title
abbrev pub titled : List ℕ → Content → Content
titled title content = written content directory_head (with_title title (bytes_at content directory_head))

-- a disk with another title
abbrev pub entitled : List ℕ → Disk → Disk
entitled title d = record d { title = padded title }

-- 18/0 with other five bytes after the title: the id, a byte, and the DOS; its other bytes are as they were
abbrev pub head_with_mark : List ℕ → List ℕ → List ℕ
head_with_mark mark head = take 162 head ++ (mark ++ drop 5 (drop 162 head))

-- the content whose 18/0 has these five bytes
abbrev pub marked_as : List ℕ → Content → Content
marked_as mark content = written content directory_head (head_with_mark mark (bytes_at content directory_head))

-- ---- of an image, and a new one of its format

-- the files that the patterns mean are locked or freed in the new image
abbrev pub LocksAllIn : List ℕ → List (List ℕ) → Bool → List ℕ → Type 0
LocksAllIn image patterns locked new = LocksAll patterns locked (disk_tracks image) (content_of (kind_of image) image) (content_of (kind_of image) new)

-- the new image has the title
abbrev pub IsRetitled : List ℕ → List ℕ → List ℕ → Type 0
IsRetitled image title new = content_of (kind_of image) new ≡ titled title (content_of (kind_of image) image)

-- the new image has these five bytes after the title
abbrev pub IsRemarked : List ℕ → List ℕ → List ℕ → Type 0
IsRemarked image mark new = content_of (kind_of image) new ≡ marked_as mark (content_of (kind_of image) image)

-- why it isn't made: the image's own fault; its disk isn't sound, or the one with these bytes isn't, and this is the first fault; 18/0 can't be read or written; or memory runs out
abbrev pub IsNotRemarked : List ℕ → List ℕ → ShellFault → Type 0
IsNotRemarked image mark = OrOpenFault image (IsHaltedBy (λ u. IsFirstFault image u ⊎ MakesFault image (λ new. new ≡ marked_as mark (content_of (kind_of image) image)) u))

-- the file in a slot is locked or freed, if its name matches; or the directory ends before the slot, and nothing has changed
abbrev pub LocksOrEnds : Bool → ℕ → List ℕ → ℕ → Content → Content → Bool → Type 0
LocksOrEnds locked tracks pattern number old new b = MatchBool b (LocksSlot locked tracks pattern number old new) (HasNoSlot tracks old number × (new ≡ old))
