-- What VALIDATE can't mend, and how it is reported.
use Rattle.std.specs.Prelude.{ℕ, ◌≡◌, ◌==◌, ◌||◌, if◌then◌else◌, Ok, Err}
use Rattle.cbm_medium.specs.Place.{Place, has}
use Rattle.cbm_medium.specs.Content.{Cell, Content}
use Rattle.cbm_medium.specs.Seen.{Seen}
use Rattle.cbm_medium.specs.declared.fault.Trouble.{Trouble}
use Rattle.cbm_bam.specs.Map.{geometry_of}
use Rattle.cbm_volume.specs.Views.{view_of}
use Rattle.cbm_volume.specs.check.Flaws.{flaw_number}
use Rattle.cbm_volume.specs.check.WholeDisk.{DiskFault}
use Rattle.cbm_volume.specs.declared.check.unsound.Flaw.TheVariants.{ChainOutside, BadHeader, DirectoryChain, Unreadable}
use Rattle.cbm_volume.specs.declared.check.unsound.Unsound.{Unsound}

-- the code of the fault that stands in place of a sector
abbrev pub code_in : Cell → ℕ
code_in (Ok bytes) = 71
code_in (Err code) = code

-- the same at a place of the disk
abbrev pub code_at : ℕ → Content → Place → ℕ
code_at tracks c p = if has tracks p then code_in (c p) else 71

-- The code of a flaw: of a header and of a sector that doesn't read the fault that stands there, of a link to elsewhere 66, of all
-- else 71.
abbrev pub flaw_code : ℕ → Content → Unsound → ℕ
flaw_code tracks c u =
    if (u.number == flaw_number BadHeader) || (u.number == flaw_number Unreadable) then code_at tracks c (record { track = u.track; sector = u.sector })
    else if (u.number == flaw_number ChainOutside) || (u.number == flaw_number DirectoryChain) then 66
    else 71

-- a flaw as the drive reports it
abbrev pub flaw_trouble : ℕ → Content → Unsound → Trouble
flaw_trouble tracks c u = record { code = flaw_code tracks c u; track = u.track; sector = u.sector }

-- THE DISK CAN'T BE MENDED: the directory and the closed files have this as their first flaw, whatever the map says
abbrev pub IsUnmendable : ℕ → Content → Trouble → Type 0
IsUnmendable tracks c t = (u : Unsound) × (DiskFault tracks (view_of tracks c) u × (t ≡ flaw_trouble tracks c u))

-- it is reported so, and nothing has changed
abbrev pub IsUnmended : Seen → Seen → Trouble → Type 0
IsUnmended old new t = IsUnmendable (geometry_of old.tracks old.content) old.content t × (new.content ≡ old.content)
