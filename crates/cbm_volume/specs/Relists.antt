-- The side sectors of a relative file are written anew.
use Rattle.std.specs.Prelude.{ℕ, ◌*◌, ◌≤◌, ◌≡◌, Result, MatchResult}
use Rattle.cbm_medium.specs.Content.{Content}
use Rattle.cbm_medium.specs.Seen.{Seen}
use Rattle.cbm_medium.specs.declared.fault.Trouble.{Trouble}
use Rattle.cbm_file.specs.Files.{Disk}
use Rattle.cbm_bam.specs.Map.{geometry_of}
use Rattle.cbm_relfile.specs.Records.{Relative}
use Rattle.cbm_relfile.specs.SideSectors.{most_blocks}
use Rattle.cbm_volume.specs.Layouts.{Layout}
use Rattle.cbm_volume.specs.Writers.{Use, HoldsAt}
use Rattle.cbm_volume.specs.Opens.{IsHindered}
use Rattle.cbm_volume.specs.Growing.{IsListed, LeavesAside, OfSized}

-- THE SAME DISK IN THE SAME SECTORS: all channels go on, and only sectors of this slot's file, or free ones, may be others.
pub record IsSameDisk (medium : ℕ) (c0 c : Content) (l : Layout) (d : Disk) (uses : ℕ → Use) (n : ℕ) : Type 0 where
  pub holds : HoldsAt (geometry_of medium c0) c l d uses
  pub same : geometry_of medium c ≡ geometry_of medium c0
  pub aside : LeavesAside n c0 l c l

-- THE SIDE SECTORS ARE BROUGHT INTO THE DRIVE'S FORM where they can list all blocks, or a write was refused, which has its cause; the disk is
-- the same in any case.
abbrev pub ListsAnew : Result (Unit {0}) Trouble → Seen → Seen → ℕ → Relative → ℕ → Type 0
ListsAnew result old new geometry r sides =
    (n b : ℕ) → OfSized geometry old r n b sides (λ d uses w rs o. let l = o.holds.layout in
    IsSameDisk old.tracks old.content new.content l d uses n × MatchResult result
    (λ x. b ≤ most_blocks * sides → IsListed new.content (l.files n).sides (l.files n).data_blocks) (IsHindered old new))
