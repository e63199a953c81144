-- A file by the slot of the directory in which its entry stands: another name, a lock, a copy, its end.
use Rattle.std.specs.Prelude.{ℕ, ◌≡◌, ◌+◌, ◌*◌, ◌==◌, ◌&&◌, ◌⊎◌, ◌∷◌, [], not, Bool, true, false, List, Some, None, slice_get, slice_index, slice_range, ◌/◌, ◌%◌, ◌<◌, ◌≤◌, length}
use Rattle.std.specs.List.{list_any}
use Rattle.std.specs.Str.{bytes_eq}
use Rattle.cbm_file.specs.Files.{Disk}
use Rattle.cbm_directory.specs.Entries.{type_byte, bit_of, name_in}
use Rattle.cbm_directory.specs.Slots.{Listed, directory_of}
use Rattle.cbm_channel.specs.declared.Status.{Status}
use Rattle.cbm_channel.specs.declared.Code.TheVariants.{FileExists, WriteProtected}
use Rattle.cbm_machine.specs.Machines.{Machine}
use Rattle.cbm_machine.specs.Calls.{after_open}
use Rattle.cbm_image.specs.Images.{kind_of, content_of, ImageHolds}
use Rattle.cbm_shell.specs.Images.{disk_tracks, machine_on, IsOpenFault, IsFailed, IsSoundImage}
use Rattle.cbm_shell.specs.Reading.{IsReadFault}
use Rattle.cbm_shell.specs.Editing.{IsUneditedIn, HasNoSlotIn}
use Rattle.cbm_shell.specs.Changing.{IsFine, begun}
use Rattle.cbm_shell.specs.Art.{IsDressedIn}
use Rattle.cbm_shell.specs.declared.changing.DiskChange.{DiskChange}
use Rattle.cbm_shell.specs.declared.fault.ShellFault.{ShellFault}
use Rattle.cbm_shell.specs.declared.fault.ShellFault.TheVariants as fault
use Rattle.cbm_slots.specs.declared.meant.Meant.{Meant}

-- what the directory of an image's disk lists
abbrev pub directory_in : List ℕ → Listed
directory_in image = directory_of (disk_tracks image) (content_of (kind_of image) image)

-- the entries of an image's directory, which can be followed to its end
abbrev pub AreEntriesOf : List ℕ → List (List ℕ) → Type 0
AreEntriesOf image entries = directory_in image ≡ record { entries = entries; trouble = None }

-- the slot of a list of entries has this one, and it isn't empty
pub record HasFile (entries : List (List ℕ)) (slot : ℕ) (entry : List ℕ) : Type 0 where
  pub there : slice_get entries slot ≡ Some entry
  pub taken : (type_byte entry == 0) ≡ false

-- an entry is that of a file of this name
abbrev pub is_named : List ℕ → List ℕ → Bool
is_named name entry = not (type_byte entry == 0) && bytes_eq (name_in entry) name

-- one of the entries is
abbrev pub has_name : List ℕ → List (List ℕ) → Bool
has_name name entries = list_any (is_named name) entries

-- the spare names, by their number from 0 to 143: two bytes to which no command of the drive gives a meaning
abbrev pub spare_of : ℕ → List ℕ
spare_of n = (1 + n / 12) ∷ (1 + n % 12) ∷ []

-- files have all of them
abbrev pub AreSparesTaken : List (List ℕ) → Type 0
AreSparesTaken entries = (n : ℕ) → n < 144 → has_name (spare_of n) entries ≡ true

-- of each two of them files have one
abbrev pub ArePairsTaken : List (List ℕ) → Type 0
ArePairsTaken entries = (n : ℕ) → n < 72 → (has_name (spare_of (2 * n)) entries ≡ true) ⊎ (has_name (spare_of (2 * n + 1)) entries ≡ true)

-- how many blocks an entry says that its file has
abbrev pub blocks_said : List ℕ → ℕ
blocks_said entry = slice_index entry 28 + 256 * slice_index entry 29

-- whether an entry's file is locked
abbrev pub is_locked : List ℕ → Bool
is_locked entry = bit_of (type_byte entry) 6

-- the file of a slot is meant: what its entry says, beside all entries
pub record IsMeant (slot : ℕ) (m : Meant) : Type 0 where
  pub entry : List ℕ
  pub there : HasFile m.entries.items slot entry
  pub name : m.name ≡ slice_range entry 3 19
  pub blocks : m.blocks ≡ blocks_said entry
  pub locked : m.is_locked ≡ is_locked entry

-- ---- changes of the entry

-- THE FILE OF A SLOT HAS ANOTHER NAME, which no file had, and nothing else of the image is changed
pub record IsRenamedInSlot (image : List ℕ) (slot : ℕ) (name new : List ℕ) : Type 0 where
  pub entries : List (List ℕ)
  pub entry : List ℕ
  pub all : AreEntriesOf image entries
  pub there : HasFile entries slot entry
  pub free : has_name name entries ≡ false
  pub dressed : IsDressedIn image slot name (blocks_said entry) (is_locked entry) new

-- THE FILE OF A SLOT IS LOCKED, or freed, and nothing else of the image is changed
pub record IsLockedInSlot (image : List ℕ) (slot : ℕ) (locked : Bool) (new : List ℕ) : Type 0 where
  pub entries : List (List ℕ)
  pub entry : List ℕ
  pub all : AreEntriesOf image entries
  pub there : HasFile entries slot entry
  pub dressed : IsDressedIn image slot (slice_range entry 3 19) (blocks_said entry) locked new

-- ---- SCRATCH

-- the text of SCRATCH, with a name of two bytes
abbrev pub scratch_text : List ℕ → List ℕ
scratch_text name = 83 ∷ 48 ∷ 58 ∷ slice_index name 0 ∷ slice_index name 1 ∷ []

-- the drive carries out a command on an image's disk: of each disk that it holds, its machine reports no error, and the new image holds its disk
abbrev pub IsCommanded : List ℕ → List ℕ → List ℕ → Type 0
IsCommanded image text new = (d : Disk) → ImageHolds (kind_of image) image d →
    IsFine (after_open 15 text (machine_on image d)).status × ImageHolds (kind_of image) new (after_open 15 text (machine_on image d)).disk

-- THE FILE OF A SLOT IS DELETED: it isn't locked, its entry gets a name that no other file has, the drive scratches that, and the empty entry has its own name again.
-- The new image is sound.
pub record IsDeletedInSlot (image : List ℕ) (slot : ℕ) (new : List ℕ) : Type 0 where
  pub entries : List (List ℕ)
  pub entry : List ℕ
  pub spare : List ℕ
  pub hidden : List ℕ
  pub all : AreEntriesOf image entries
  pub there : HasFile entries slot entry
  pub unlocked : is_locked entry ≡ false
  pub free : has_name spare entries ≡ false
  pub dressed : IsDressedIn image slot spare (blocks_said entry) false hidden
  pub scratched : List ℕ
  pub done : IsCommanded hidden (scratch_text spare) scratched
  pub named : IsDressedIn scratched slot (slice_range entry 3 19) (blocks_said entry) false new
  pub sound : IsSoundImage (kind_of scratched) new

-- ---- COPY

-- the text of COPY, with names of two bytes
abbrev pub copy_text : List ℕ → List ℕ → List ℕ
copy_text new old = 67 ∷ 48 ∷ 58 ∷ slice_index new 0 ∷ slice_index new 1 ∷ 61 ∷ slice_index old 0 ∷ slice_index old 1 ∷ []

-- A FILE AND ITS COPY: the entry of a slot gets one spare name, the drive copies that to another, and the entry has its own name and lock again
pub record IsDoubled (image : List ℕ) (slot : ℕ) (name : List ℕ) (blocks : ℕ) (locked : Bool) (old new both : List ℕ) : Type 0 where
  pub hidden : List ℕ
  pub copied : List ℕ
  pub dressed : IsDressedIn image slot old blocks false hidden
  pub done : IsCommanded hidden (copy_text new old) copied
  pub named : IsDressedIn copied slot name blocks locked both

-- this place of a directory has a file of a name, with so many blocks
pub record IsPlaceOf (entries : List (List ℕ)) (name : List ℕ) (place count : ℕ) : Type 0 where
  pub entry : List ℕ
  pub there : slice_get entries place ≡ Some entry
  pub named : is_named name entry ≡ true
  pub blocks : count ≡ blocks_said entry

-- the file of a spare name gets another one, and nothing else of the image is changed
pub record IsNamedAs (image spare name new : List ℕ) : Type 0 where
  pub entries : List (List ℕ)
  pub place : ℕ
  pub blocks : ℕ
  pub all : AreEntriesOf image entries
  pub there : IsPlaceOf entries spare place blocks
  pub dressed : IsDressedIn image place name blocks false new

-- THE FILE OF A SLOT IS COPIED to a name that no file had: the drive copies it between spare names, and the copy gets the name. The new image is sound.
pub record IsCopiedInSlot (image : List ℕ) (slot : ℕ) (name new : List ℕ) : Type 0 where
  pub entries : List (List ℕ)
  pub entry : List ℕ
  pub old : List ℕ
  pub spare : List ℕ
  pub both : List ℕ
  pub all : AreEntriesOf image entries
  pub there : HasFile entries slot entry
  pub free : has_name name entries ≡ false
  pub old_free : has_name old entries ≡ false
  pub spare_free : has_name spare entries ≡ false
  pub doubled : IsDoubled image slot (slice_range entry 3 19) (blocks_said entry) (is_locked entry) old spare both
  pub named : IsNamedAs both spare name new
  pub sound : IsSoundImage (kind_of both) new

-- ---- why nothing is changed

-- a slot of a list of entries has no file: the list ends before it, or its entry is empty
abbrev pub HasNoFile : List (List ℕ) → ℕ → Type 0
HasNoFile entries slot = (length entries ≤ slot) ⊎ ((entry : List ℕ) × (slice_get entries slot ≡ Some entry) × ((type_byte entry == 0) ≡ true))

-- a slot means no file: the image isn't opened, its directory breaks off, or the slot isn't there or is empty
abbrev pub IsNoFile : List ℕ → ℕ → ShellFault → Type 0
IsNoFile image slot f = (IsOpenFault image f ⊎ IsReadFault (directory_in image).trouble f)
    ⊎ ((entries : List (List ℕ)) × AreEntriesOf image entries × HasNoFile entries slot × (f ≡ fault.NotFound))

-- the drive's refusal by a code
abbrev pub IsRefusal : Status → ShellFault → Type 0
IsRefusal s f = f ≡ fault.Refused s

-- a file has the name
abbrev pub IsNameTaken : List ℕ → List ℕ → ShellFault → Type 0
IsNameTaken image name f =
    (entries : List (List ℕ)) × AreEntriesOf image entries × (has_name name entries ≡ true) × IsRefusal (record { code = FileExists; first = 0; second = 0 }) f

-- nothing is renamed: the slot means no file, a file has the name, or the disk isn't sound
abbrev pub IsNotRenamedInSlot : List ℕ → ℕ → List ℕ → ShellFault → Type 0
IsNotRenamedInSlot image slot name f = IsNoFile image slot f ⊎ (IsNameTaken image name f ⊎ IsUneditedIn image (HasNoSlotIn image slot) f)

-- nothing is locked or freed: the slot means no file, or the disk isn't sound
abbrev pub IsNotLockedInSlot : List ℕ → ℕ → ShellFault → Type 0
IsNotLockedInSlot image slot f = IsNoFile image slot f ⊎ IsUneditedIn image (HasNoSlotIn image slot) f

-- the file is locked, and so isn't deleted
abbrev pub IsKeptByLock : List ℕ → ℕ → ShellFault → Type 0
IsKeptByLock image slot f = (entries : List (List ℕ)) × (entry : List ℕ) × AreEntriesOf image entries × HasFile entries slot entry × (is_locked entry ≡ true)
    × IsRefusal (record { code = WriteProtected; first = 0; second = 0 }) f

-- all spare names are taken
abbrev pub IsWithoutSpare : List ℕ → ShellFault → Type 0
IsWithoutSpare image f = (entries : List (List ℕ)) × AreEntriesOf image entries × AreSparesTaken entries × IsRefusal (record { code = FileExists; first = 0; second = 0 }) f

-- the file has a spare name, and the drive doesn't scratch it: the image isn't opened, memory runs out, or the machine refuses it
pub record IsNotScratched (image : List ℕ) (slot : ℕ) (f : ShellFault) : Type 0 where
  pub entry : List ℕ
  pub spare : List ℕ
  pub hidden : List ℕ
  pub change : DiskChange
  pub dressed : IsDressedIn image slot spare (blocks_said entry) false hidden
  pub sound : IsSoundImage (kind_of image) hidden
  pub scratch : (m : Machine) → begun change m ≡ after_open 15 (scratch_text spare) m
  pub failed : (d : Disk) → ImageHolds (kind_of hidden) hidden d → IsFailed hidden change (machine_on hidden d) f

-- it was scratched, and the empty entry doesn't get its name: memory runs out, or a fault that no sound disk has
pub record IsNotNamed (image : List ℕ) (slot : ℕ) (f : ShellFault) : Type 0 where
  pub entry : List ℕ
  pub spare : List ℕ
  pub hidden : List ℕ
  pub scratched : List ℕ
  pub dressed : IsDressedIn image slot spare (blocks_said entry) false hidden
  pub done : IsCommanded hidden (scratch_text spare) scratched
  pub failed : IsUneditedIn scratched (HasNoSlotIn scratched slot) f

-- nothing is deleted: the slot means no file, the file is locked, all spare names are taken, the disk isn't sound, or the drive refuses it
abbrev pub IsNotDeletedInSlot : List ℕ → ℕ → ShellFault → Type 0
IsNotDeletedInSlot image slot f = IsNoFile image slot f ⊎ (IsKeptByLock image slot f ⊎ (IsWithoutSpare image f
    ⊎ (IsUneditedIn image (HasNoSlotIn image slot) f ⊎ (IsNotScratched image slot f ⊎ IsNotNamed image slot f))))

-- of each two spare names one is taken
abbrev pub IsWithoutPair : List ℕ → ShellFault → Type 0
IsWithoutPair image f = (entries : List (List ℕ)) × AreEntriesOf image entries × ArePairsTaken entries × IsRefusal (record { code = FileExists; first = 0; second = 0 }) f

-- the file has a spare name, and the drive doesn't copy it: the image isn't opened, memory runs out, or the machine refuses it
pub record IsCopyRefused (image : List ℕ) (slot : ℕ) (f : ShellFault) : Type 0 where
  pub blocks : ℕ
  pub old : List ℕ
  pub new : List ℕ
  pub hidden : List ℕ
  pub change : DiskChange
  pub dressed : IsDressedIn image slot old blocks false hidden
  pub copies : (m : Machine) → begun change m ≡ after_open 15 (copy_text new old) m
  pub failed : (d : Disk) → ImageHolds (kind_of hidden) hidden d → IsFailed hidden change (machine_on hidden d) f

-- it was copied, and the file doesn't get its own name again: memory runs out, or a fault that no sound disk has
pub record IsNotItself (image : List ℕ) (slot : ℕ) (f : ShellFault) : Type 0 where
  pub blocks : ℕ
  pub old : List ℕ
  pub new : List ℕ
  pub hidden : List ℕ
  pub copied : List ℕ
  pub dressed : IsDressedIn image slot old blocks false hidden
  pub done : IsCommanded hidden (copy_text new old) copied
  pub failed : IsUneditedIn copied (HasNoSlotIn copied slot) f

-- a file doesn't get its copy: the disk isn't sound, or as above
abbrev pub IsNotDoubled : List ℕ → ℕ → ShellFault → Type 0
IsNotDoubled image slot f = IsUneditedIn image (HasNoSlotIn image slot) f ⊎ (IsCopyRefused image slot f ⊎ IsNotItself image slot f)

-- no file has the spare name, or the directory has more entries than there are numbers of slots
abbrev pub IsNowhere : List (List ℕ) → List ℕ → Type 0
IsNowhere entries name = (has_name name entries ≡ false) ⊎ (255 ≤ length entries)

-- the file of a spare name gets no other one: memory runs out, or a fault that no sound disk has
abbrev pub IsNotNamedAs : List ℕ → List ℕ → ShellFault → Type 0
IsNotNamedAs image spare f = (IsOpenFault image f ⊎ IsReadFault (directory_in image).trouble f)
    ⊎ (((entries : List (List ℕ)) × AreEntriesOf image entries × IsNowhere entries spare × (f ≡ fault.NotFound))
    ⊎ ((place : ℕ) × IsUneditedIn image (HasNoSlotIn image place) f))

-- the copy doesn't get its name
pub record IsCopyUnnamed (image : List ℕ) (slot : ℕ) (f : ShellFault) : Type 0 where
  pub name : List ℕ
  pub blocks : ℕ
  pub locked : Bool
  pub old : List ℕ
  pub spare : List ℕ
  pub both : List ℕ
  pub doubled : IsDoubled image slot name blocks locked old spare both
  pub failed : IsNotNamedAs both spare f

-- nothing is copied: the slot means no file, a file has the name, no two spare names are free, the disk isn't sound, or the drive refuses it
abbrev pub IsNotCopiedInSlot : List ℕ → ℕ → List ℕ → ShellFault → Type 0
IsNotCopiedInSlot image slot name f = IsNoFile image slot f ⊎ (IsNameTaken image name f ⊎ (IsWithoutPair image f ⊎ (IsNotDoubled image slot f ⊎ IsCopyUnnamed image slot f)))
