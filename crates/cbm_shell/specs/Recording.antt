-- Relative files, made as the drive makes them: an OPEN that says the length of the records, and then record after record.
use Rattle.std.specs.Prelude.{ℕ, ◌≡◌, ◌≤◌, ◌⊎◌, List, [], ◌∷◌, take, Result, MatchResult}
use Rattle.cbm_medium.specs.Seen.{Seen}
use Rattle.cbm_file.specs.Files.{Disk}
use Rattle.cbm_volume.specs.Holding.{HoldsDisk}
use Rattle.cbm_image.specs.Images.{kind_of, ImageHolds}
use Rattle.cbm_channel.specs.declared.Status.{Status}
use Rattle.cbm_machine.specs.Codes.{code_number}
use Rattle.cbm_machine.specs.Machines.{Machine, start}
use Rattle.cbm_machine.specs.Closing.{close}
use Rattle.cbm_machine.specs.Calls.{after_open}
use Rattle.cbm_talk.specs.Talks.{hear_bytes}
use Rattle.cbm_shell.specs.declared.fault.ShellFault.{ShellFault}
use Rattle.cbm_shell.specs.declared.fault.ShellFault.TheVariants as fault
use Rattle.cbm_shell.specs.Images.{OrOpenFault, machine_on}
use Rattle.cbm_shell.specs.Changing.{IsFine}

-- the machine after records were sent to a channel, each between LISTEN and UNLISTEN
unfoldable pub hear_records : ℕ → List (List ℕ) → Machine → Machine
hear_records channel [] m = m
hear_records channel (record_bytes ∷ rest) m = hear_records channel rest (hear_bytes channel record_bytes m)

-- the channel was refused one of the records: this is the status after it, and it reports an error
pub record IsStoppedBy (channel : ℕ) (records : List (List ℕ)) (m : Machine) (s : Status) : Type 0 where
  pub count : ℕ
  pub told : s ≡ (hear_records channel (take count records) m).status
  pub error : 20 ≤ code_number s.code

-- why records aren't taken: the channel was refused one of them
abbrev pub IsStoppedAt : ℕ → List (List ℕ) → Machine → ShellFault → Type 0
IsStoppedAt channel records m (fault.Refused s) = IsStoppedBy channel records m s
IsStoppedAt channel records m f = ⊥

-- the machine after the OPEN of a relative file
abbrev pub opened_with : List ℕ → Machine → Machine
opened_with text m = after_open 2 text m

-- the machine after that OPEN and some of the records
abbrev pub after_some : List ℕ → List (List ℕ) → Machine → Machine
after_some text records m = hear_records 2 records (opened_with text m)

-- THE MACHINE AFTER A RELATIVE FILE WAS MADE: it was opened, given its records one after another, and closed.
abbrev pub after_records : List ℕ → List (List ℕ) → Machine → Machine
after_records text records m = close 2 (after_some text records m)

-- The drive refused it: this is its status after the OPEN, after one of the records, or at the end, and it reports an error.
pub record IsRefusedAfter (text : List ℕ) (records : List (List ℕ)) (m : Machine) (s : Status) : Type 0 where
  pub count : ℕ
  pub told : (s ≡ (after_some text (take count records) m).status) ⊎ (s ≡ (after_records text records m).status)
  pub error : 20 ≤ code_number s.code

-- why no file was made on a machine
abbrev pub AreRecordsUnmade : List ℕ → List (List ℕ) → Machine → ShellFault → Type 0
AreRecordsUnmade text records m (fault.Refused s) = IsRefusedAfter text records m s
AreRecordsUnmade text records m fault.Memory = ⊥
AreRecordsUnmade text records m (fault.Image n) = ⊥
AreRecordsUnmade text records m (fault.Unsound u) = ⊥
AreRecordsUnmade text records m (fault.Trouble t) = ⊥
AreRecordsUnmade text records m fault.NotFound = ⊥
AreRecordsUnmade text records m fault.NotClosed = ⊥
AreRecordsUnmade text records m fault.Mistaken = ⊥

-- the same for an image, which may also be refused
abbrev pub IsUnmadeIn : List ℕ → List ℕ → List (List ℕ) → Machine → ShellFault → Type 0
IsUnmadeIn image text records m = OrOpenFault image (AreRecordsUnmade text records m)

-- A RELATIVE FILE IS MADE ON A MEDIUM, of each disk that it holds: the machine's status is fine, and the medium holds its disk; or the
-- drive refused it
abbrev pub MakesRecords : {M : Type 0} → (M → Seen) → M → List ℕ → List (List ℕ) → Result M ShellFault → Type 0
MakesRecords seen medium text records result = (d : Disk) → HoldsDisk (seen medium).tracks (seen medium).content d → MatchResult result
    (λ after. IsFine (after_records text records (start d (seen medium).protected (seen medium).tracks)).status
    × HoldsDisk (seen after).tracks (seen after).content (after_records text records (start d (seen medium).protected (seen medium).tracks)).disk)
    (AreRecordsUnmade text records (start d (seen medium).protected (seen medium).tracks))

-- between an image and a new one of its format a relative file was made: the machine's status is fine, and the new image holds its disk
abbrev pub HasRecorded : List ℕ → List ℕ → List (List ℕ) → Disk → List ℕ → Type 0
HasRecorded image text records d new = IsFine (after_records text records (machine_on image d)).status × ImageHolds (kind_of image) new (after_records text records (machine_on image d)).disk
