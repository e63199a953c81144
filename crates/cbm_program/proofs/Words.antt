-- Words for worked rows: requests written as a script writes them, and disks to begin on.
use Rattle.std.specs.Prelude.{ℕ, true, false, List, [], ◌∷◌, ◌++◌, map, codes, replicate, Some}
use Rattle.cbm_file.specs.declared.file_type.FileType.{FileType}
use Rattle.cbm_file.specs.Files.{Bytes, File, Disk, files}
use Rattle.cbm_machine.specs.Machines.{Machine, start}
use Rattle.cbm_file.specs.Changes.{closed_file, new_disk}
use Rattle.cbm_program.specs.declared.request.ScriptRequest.{ScriptRequest}
use Rattle.cbm_program.specs.declared.request.ScriptRequest.TheVariants.{Open, Put}
use Rattle.cbm_iec.specs.declared.pace.Pace.TheVariants.{Profile, Kernal}
use Rattle.cbm_program.specs.Scripts.{printed}

-- `open CH TEXT`
abbrev pub open_by : ℕ → List ℕ → ScriptRequest
open_by ch text = Open ch (record { items = text })

-- `put CH TEXT`
abbrev pub put_by : ℕ → List ℕ → ScriptRequest
put_by ch text = Put ch (record { items = text })

-- a disk of zeros
abbrev pub zeros : Disk
zeros = record { title = replicate 16 0; mark = replicate 5 0; slots = []; room = 0; free = 0; total = 664 }

-- a disk of so many tracks after `N0:TEST,AB`
abbrev pub formatted : ℕ → Disk
formatted tracks = new_disk tracks (codes "TEST") (Some (codes "AB")) zeros

-- the drive, just switched on
abbrev pub powered : Disk → Machine
powered d = start d false 35

-- the same with a protected disk
abbrev pub protected : Disk → Machine
protected d = start d true 35

-- a formatted disk of 35 tracks in it
abbrev pub blank : Machine
blank = powered (formatted 35)

-- what a script prints, of a drive at the profile's pace, and at a KERNAL's
abbrev pub prints : List ScriptRequest → Machine → List ℕ
prints script m = (printed Profile script m).text

abbrev pub prints_for_kernal : List ScriptRequest → Machine → List ℕ
prints_for_kernal script m = (printed Kernal script m).text

-- the machine after a script
abbrev pub afterwards : List ScriptRequest → Machine → Machine
afterwards script m = (printed Profile script m).machine

-- a file's name, its blocks shown and its blocks held
abbrev pub summary_of : File → List ℕ × ℕ × ℕ
summary_of f = (f.name, f.shown, f.held)

-- the files of the disk so, and its free blocks
abbrev pub summary : Machine → List (List ℕ × ℕ × ℕ) × ℕ
summary m = (map (λ (p : ℕ × File). summary_of p.1) (files m.disk), m.disk.free)

-- a line that is printed
abbrev pub printed_line : List ℕ → List ℕ
printed_line text = text ++ codes "\n"

-- the printed line of a status whose numbers are 0
abbrev pub status_is : List ℕ → List ℕ
status_is text = codes "status " ++ text ++ codes ",00,00\n"

-- a closed file of one byte
abbrev pub small_file : FileType → List ℕ → File
small_file kind name = closed_file kind name 1 (Bytes (65 ∷ []))
