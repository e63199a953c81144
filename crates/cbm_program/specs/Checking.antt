-- What is printed of a check, before a script runs.
use Rattle.std.specs.Prelude.{ℕ, ◌≡◌, ◌⊎◌, List, [], ◌++◌, codes, decimal, Bool, true, if◌then◌else◌, Option, Result, Ok, Err, OnOk, OnErr, IfErr}
use Rattle.std.specs.Io.KnownBytes.{Appends}
use Rattle.cbm_file.specs.Files.{Disk}
use Rattle.cbm_medium.specs.Content.{Content}
use Rattle.cbm_medium.specs.Seen.{Seen}
use Rattle.cbm_volume.specs.Holding.{HoldsDisk}
use Rattle.cbm_bam.specs.Map.{geometry_of}
use Rattle.cbm_volume.specs.Layouts.{Layout, Sound}
use Rattle.cbm_volume.specs.check.WholeDisk.{DiskFault}
use Rattle.cbm_volume.specs.declared.Unsound.{Unsound}
use Rattle.cbm_machine.specs.Machines.{Machine}
use Rattle.cbm_iec.specs.declared.pace.Pace.{Pace}
use Rattle.cbm_program.specs.declared.request.ScriptRequest.{ScriptRequest}
use Rattle.cbm_program.specs.declared.fault.RunFault.{RunFault}
use Rattle.cbm_program.specs.Output.{AppendsPart, AppendsMore}
use Rattle.cbm_program.specs.Running.{IsOfWriting}
use Rattle.cbm_program.specs.Scripts.{Printed, printed}

-- the line of a sound disk
abbrev pub sound_line : List ℕ
sound_line = codes "check sound\n"

-- the line of a disk that isn't: the number of what is wrong, and where, in decimal
abbrev pub unsound_line : Unsound → List ℕ
unsound_line u = codes "check " ++ decimal u.number ++ codes " " ++ decimal u.track ++ codes " " ++ decimal u.sector ++ codes "\n"

-- the line of what `check` answers
abbrev pub check_line : Result (Unit {0}) Unsound → List ℕ
check_line (Ok _) = sound_line
check_line (Err u) = unsound_line u

-- what a check prints of a sound disk, if one is asked for
abbrev pub checked_text : Bool → List ℕ
checked_text checks = if checks then sound_line else []

-- A check was printed, of a medium of this many tracks with this content: the line of a sound disk where it is sound, else that of its fault.
abbrev pub IsCheckPrinted : ℕ → Content → Option (List ℕ) → Option (List ℕ) → Type 0
IsCheckPrinted tracks content old new =
    (((l : Layout) × Sound (geometry_of tracks content) content l) × Appends old new sound_line)
    ⊎ ((u : Unsound) × DiskFault (geometry_of tracks content) content u × Appends old new (unsound_line u))

-- THE LINE OF A CHECK was printed, if one is asked for, of a medium that shows this: of each disk that it holds that of a sound one; at a fault, which is one of writing, a beginning of it.
pub record PrintsCheck {A : Type 0} (result : Result A RunFault) (shows : Seen) (checks : Bool) (old new : Option (List ℕ)) : Type 0 where
  pub ok : (d : Disk) → HoldsDisk shows.tracks shows.content d → OnOk result (Appends old new (checked_text checks))
  pub err : (d : Disk) → HoldsDisk shows.tracks shows.content d → OnErr result (AppendsPart old new (checked_text checks))
  -- Of any medium the line is that of what is wrong, or of a sound disk.
  pub said : checks ≡ true → OnOk result (IsCheckPrinted shows.tracks shows.content old new)
  pub grows : AppendsMore old new
  pub fault : IfErr result IsOfWriting

-- The line of the check was printed first, and only then anything else.
abbrev pub IsCheckedFirst : ℕ → Content → Option (List ℕ) → Option (List ℕ) → Type 0
IsCheckedFirst tracks content old new = (between : Option (List ℕ)) × IsCheckPrinted tracks content old between × AppendsMore between new

-- what a script prints, after the line of the check if one is asked for
abbrev pub printed_after : Pace → Bool → List ScriptRequest → Machine → Printed
printed_after pace checks script m = record { text = checked_text checks ++ (printed pace script m).text; machine = (printed pace script m).machine }
