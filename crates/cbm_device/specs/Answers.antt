-- What a call answers, and what it leaves in the caller's room.
use Rattle.std.specs.Prelude.{ℕ, ℤ, pos, negsuc, max, ◌≡◌, ◌<◌, ◌⊎◌, List, ◌++◌, length, drop, Result, Ok, Err}
use Rattle.cbm_machine.specs.Codes.{code_number}
use Rattle.cbm_shell.specs.declared.fault.ShellFault.{ShellFault}
use Rattle.cbm_shell.specs.declared.fault.ShellFault.TheVariants as fault
use Rattle.cbm_device.specs.declared.refusal.DeviceRefusal.{DeviceRefusal}
use Rattle.cbm_device.specs.declared.refusal.DeviceRefusal.TheVariants.{Memory, Invalid, NoRoom, Absent, NoImage, Unsound, NoDrive, Status}

-- all went well
abbrev pub fine : ℤ
fine = pos 0

-- THE NUMBER OF A REFUSAL: below 0 the call's own; from 20 on a status of the drive's, none of which below 20 refuses anything
abbrev pub answer_number : DeviceRefusal → ℤ
answer_number Memory = negsuc 0
answer_number Invalid = negsuc 1
answer_number NoRoom = negsuc 2
answer_number Absent = negsuc 3
answer_number NoImage = negsuc 4
answer_number Unsound = negsuc 5
answer_number NoDrive = negsuc 6
answer_number (Status code) = pos (max code 20)

-- what a call answers
abbrev pub answer : {A : Type 0} → Result A DeviceRefusal → ℤ
answer (Ok v) = fine
answer (Err r) = answer_number r

-- what is reported of a fault; want of memory comes first, as a format has numbers of its own for it
abbrev pub refusal_of : ShellFault → DeviceRefusal
refusal_of fault.Memory = Memory
refusal_of (fault.Image n) = NoImage
refusal_of (fault.Unsound u) = Unsound
refusal_of (fault.Refused s) = Status (code_number s.code)
refusal_of (fault.Trouble t) = Status t.code
refusal_of fault.NotFound = Absent
refusal_of fault.NotClosed = Status 60
refusal_of fault.Mistaken = NoImage

-- THE BYTES ARE GIVEN: they are the beginning of the caller's room, in which all else is as it was; or the room is too small for them, and as it was.
abbrev pub AreGiven : ℤ → List ℕ → List ℕ → List ℕ → Type 0
AreGiven n old new bytes =
    ((n ≡ fine) × (new ≡ bytes ++ drop (length bytes) old)) ⊎ ((n ≡ answer_number NoRoom) × (new ≡ old) × (length old < length bytes))

-- A CALL THAT GIVES BYTES: there are such bytes, how many they are is reported, and they are given; or there are none for such a reason, and nothing has changed.
abbrev pub GivesBytes : ℤ → List ℕ → List ℕ → ℕ → ℕ → (List ℕ → Type 0) → (DeviceRefusal → Type 0) → Type 0
GivesBytes n old new before needed Are Why =
    ((bytes : List ℕ) × Are bytes × (needed ≡ length bytes) × AreGiven n old new bytes)
    ⊎ ((r : DeviceRefusal) × Why r × (n ≡ answer_number r) × (new ≡ old) × (needed ≡ before))
