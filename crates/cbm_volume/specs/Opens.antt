-- OPEN for writing: what must hold of the file, and what the channel has then.
use Rattle.std.specs.Prelude.{ℕ, ◌≡◌, ◌⊎◌, Bool, true, false, List, Some}
use Rattle.cbm_medium.specs.Content.{Content}
use Rattle.cbm_medium.specs.Seen.{Seen, HasFailed}
use Rattle.cbm_medium.specs.declared.fault.Trouble.{Trouble}
use Rattle.cbm_file.specs.declared.file_type.FileType.TheVariants.{Rel}
use Rattle.cbm_file.specs.Types.{is_same_type}
use Rattle.cbm_file.specs.Files.{File, Disk, file_at}
use Rattle.cbm_file.specs.Changes.{has_slot}
use Rattle.cbm_volume.specs.Writers.{Filling, Use, Writes, HoldsNow, with_use}
use Rattle.cbm_volume.specs.Writers as usage

-- no channel has the slot open
abbrev pub IsUnused : (ℕ → Use) → ℕ → Type 0
IsUnused uses n = (m : ℕ) → usage.uses_slot n (uses m) ≡ false

-- no channel writes the slot; some may read it
abbrev pub IsUnwritten : (ℕ → Use) → ℕ → Type 0
IsUnwritten uses n = (m : ℕ) → usage.writes_slot n (uses m) ≡ false

-- A file that can be appended to or replaced: closed, without records, and open on no channel.
pub record CanBeWritten (d : Disk) (uses : ℕ → Use) (slot : ℕ) (file : File) : Type 0 where
  pub in_slot : file_at d slot ≡ Some file
  pub closed : file.closed ≡ true
  pub plain : is_same_type Rel file.kind ≡ false
  pub unused : IsUnused uses slot

-- A CHANNEL BEGINS TO WRITE: the medium holds the disk, the channel writes the slot and has these bytes in this many blocks, and the
-- other channels go on.
pub record BeginsFile (medium : ℕ) (c : Content) (d : Disk) (uses : ℕ → Use) (channel slot : ℕ) (replaces : Bool) (bytes : List ℕ) (blocks : ℕ) (w : Filling) : Type 0 where
  pub holds : HoldsNow medium c d (with_use uses channel (Writes w bytes blocks))
  pub same_slot : w.slot ≡ slot
  pub same_way : w.replaces ≡ replaces

-- no block is free, or there is no place for a new name
abbrev pub HasNoPlace : Disk → Type 0
HasNoPlace d = (d.free ≡ 0) ⊎ (has_slot d ≡ false)

-- WHY A CALL ON A SOUND DISK IS REFUSED: the medium is protected, which is reported as 26, or it failed by itself.
abbrev pub IsHindered : Seen → Seen → Trouble → Type 0
IsHindered old new t = ((old.protected ≡ true) × (t.code ≡ 26)) ⊎ HasFailed old new
