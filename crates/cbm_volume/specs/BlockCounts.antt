-- A relative file that grew: its entry says how many blocks it has.
use Rattle.std.specs.Prelude.{ℕ, ◌≡◌, ◌≢◌, Some, Result, MatchResult}
use Rattle.cbm_medium.specs.Place.{Place}
use Rattle.cbm_medium.specs.Content.{Content}
use Rattle.cbm_medium.specs.Seen.{Seen}
use Rattle.cbm_medium.specs.declared.fault.Trouble.{Trouble}
use Rattle.cbm_file.specs.Files.{Disk, File, file_at, with_slot}
use Rattle.cbm_bam.specs.Map.{geometry_of}
use Rattle.cbm_volume.specs.Layouts.{Directory, Layout}
use Rattle.cbm_volume.specs.Opens.{IsHindered}
use Rattle.cbm_volume.specs.Writers.{Use, Relates, HoldsNow}

-- THE ENTRY SAYS THAT THE FILE HAS THIS MANY BLOCKS, where a channel has the slot's records open: all else of the disk is as it was; or the
-- write was refused, which has its cause, and nothing has changed.
abbrev pub CountsBlocks : Result (Unit {0}) Trouble → Seen → Seen → ℕ → ℕ → ℕ → Type 0
CountsBlocks result old new geometry slot blocks =
    geometry ≡ geometry_of old.tracks old.content → (d : Disk) (uses : ℕ → Use) (ch : ℕ) (f : File) →
    HoldsNow old.tracks old.content d uses → uses ch ≡ Relates slot → file_at d slot ≡ Some f →
    MatchResult result
    (λ x. HoldsNow old.tracks new.content (with_slot d slot (Some (record f { shown = blocks }))) uses)
    (λ t. (new.content ≡ old.content) × IsHindered old new t)

-- this holds of the layout of each disk that the medium holds, if it has so many tracks
abbrev pub OfHeldLayout : ℕ → Seen → (Layout → Type 0) → Type 0
OfHeldLayout geometry now P = geometry ≡ geometry_of now.tracks now.content → (d : Disk) (uses : ℕ → Use) → (h : HoldsNow now.tracks now.content d uses) → P h.layout

-- nothing but the directory is written
abbrev pub OnlyDirectory : Layout → Content → Content → Type 0
OnlyDirectory l c c' = (p : Place) → l.owner p ≢ Directory → c' p ≡ c p
