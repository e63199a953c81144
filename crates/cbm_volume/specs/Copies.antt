-- COPY: which files can be copied, what is too much for the disk, and a copy that is being made.
use Rattle.std.specs.Prelude.{ℕ, suc, ◌-◌, ◌≡◌, nat_lt, List, [], ◌∷◌, length, true, false, ◌||◌, not, Some, Result, MatchResult}
use Rattle.cbm_medium.specs.Place.{Place}
use Rattle.cbm_medium.specs.Content.{Content}
use Rattle.cbm_medium.specs.Seen.{Seen}
use Rattle.cbm_medium.specs.declared.fault.Trouble.{Trouble}
use Rattle.cbm_file.specs.declared.file_type.FileType.TheVariants.{Rel}
use Rattle.cbm_file.specs.Types.{is_same_type}
use Rattle.cbm_file.specs.Files.{File, Disk, file_at, blocks_of}
use Rattle.cbm_file.specs.Changes.{copy_blocks, has_slot, grown}
use Rattle.cbm_bam.specs.Map.{geometry_of}
use Rattle.cbm_chain.specs.Writing.{State, Wrote}
use Rattle.cbm_volume.specs.Layouts.{Writer, OwnedBy, Layout}
use Rattle.cbm_volume.specs.Writers.{Use, Idle, IsUsed, HoldsNow}
use Rattle.cbm_volume.specs.Opens.{IsHindered}
use Rattle.cbm_volume.specs.Reaches.{Reached, SlotLost}

-- a closed file without records, whose bytes can be copied; a channel may read or replace it
pub record CanBeCopied (d : Disk) (slot : ℕ) : Type 0 where
  pub file : File
  pub in_slot : file_at d slot ≡ Some file
  pub closed : file.closed ≡ true
  pub plain : is_same_type Rel file.kind ≡ false

-- each of the slots has one
abbrev pub AreCopied : Disk → List ℕ → Type 0
AreCopied d [] = Unit {0}
AreCopied d (n ∷ ns) = CanBeCopied d n × AreCopied d ns

-- too few blocks are free for the copy, or there is no place for its name
abbrev pub HasNoRoomFor : Disk → List ℕ → Type 0
HasNoRoomFor d slots = (nat_lt d.free (copy_blocks d slots) || not (has_slot d)) ≡ true

-- ---- a copy on its way

-- this many blocks less are free, and a slot is empty
abbrev pub less : ℕ → Disk → Disk
less n d = record (grown d) { free = d.free - n }

-- a write was refused on the way: the slots are as they were
abbrev pub IsCopyCut : Seen → Seen → Content → Layout → Disk → (ℕ → Use) → Trouble → Type 0
IsCopyCut old new c l d uses t = SlotLost old.tracks c l new.content d uses × IsHindered old new t

-- A COPY IS BEING MADE, of a disk and a layout that were before it: these bytes are in blocks of its own, but for those that wait, and
-- no slot has them. The number is one that no channel has; what reads the source goes on too.
pub record Making (medium : ℕ) (c : Content) (l : Layout) (d : Disk) (uses : ℕ → Use) (ch : ℕ) (now : Content) (s : State) (bytes : List ℕ) (source : Use) : Type 0 where
  pub idle : uses ch ≡ Idle
  pub places : List Place
  pub reached : Reached medium c l now (less (length places) d) uses
  pub owned : OwnedBy reached.layout.owner (Writer ch) places
  pub wrote : Wrote now s places bytes
  pub same_tracks : s.tracks ≡ geometry_of medium c
  pub count : length places ≡ blocks_of (length bytes)
  pub reads : IsUsed (geometry_of medium c) now reached.layout (less (length places) d) (suc ch) source

-- this holds of each copy that is being made, of these bytes so far, while no source is read
abbrev pub OfMaking : Seen → State → (Content → Layout → Disk → (ℕ → Use) → ℕ → List ℕ → Type 0) → Type 0
OfMaking now s P = (c : Content) (l : Layout) (d : Disk) (uses : ℕ → Use) (ch : ℕ) (bytes : List ℕ) → Making now.tracks c l d uses ch now.content s bytes Idle → P c l d uses ch bytes

-- WHAT A STEP OF A COPY LEAVES: these bytes are made, or a write was refused on the way.
abbrev pub Makes : Result (Unit {0}) Trouble → Seen → Seen → Content → Layout → Disk → (ℕ → Use) → ℕ → State → List ℕ → Use → Type 0
Makes result old new c l d uses ch s bytes source = MatchResult result (λ x. Making old.tracks c l d uses ch new.content s bytes source) (IsCopyCut old new c l d uses)

-- this holds of each disk that the medium holds, with how it does, and of a channel that uses nothing of it, where a slot is empty or has room
abbrev pub OfVacant : (now : Seen) → ((d : Disk) (uses : ℕ → Use) (ch : ℕ) → HoldsNow now.tracks now.content d uses → Type 0) → Type 0
OfVacant now P = (d : Disk) (uses : ℕ → Use) (ch : ℕ) (h : HoldsNow now.tracks now.content d uses) → uses ch ≡ Idle → has_slot d ≡ true → P d uses ch h
