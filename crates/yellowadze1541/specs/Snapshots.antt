-- The state of a handle's drive as bytes, and a drive of them.
use Rattle.std.specs.Prelude.{ℕ, ℤ, ◌≡◌, ◌⊎◌, List, Option, Some}
use Rattle.cbm_device.specs.declared.refusal.DeviceRefusal.{DeviceRefusal}
use Rattle.cbm_device.specs.declared.refusal.DeviceRefusal.TheVariants.{Invalid}
use Rattle.cbm_device.specs.Answers.{fine, answer_number, GivesBytes}
use Rattle.cbm_device.specs.Making.{IsWantOfMemory}
use Rattle.cbm_device.specs.Devices.{OnLines}
use Rattle.cbm_device.specs.Snapshots.{IsSnapshot, IsRestoredFrom, IsLoadRefusal}
use Rattle.cbm_direct_device.specs.DirectDevices.{DirectOnLines}
use Rattle.yellowadze1541.specs.AnyDevices.{IsPlainDrive}
use Rattle.yellowadze1541.specs.declared.inner.Inner.{Inner}

-- the whole state is given, or a number says why not
abbrev pub GivesState : ℤ → List ℕ → List ℕ → ℕ → ℕ → OnLines → Type 0
GivesState n out out_new before needed d = GivesBytes n out out_new before needed (IsSnapshot d) IsWantOfMemory

-- the state of a drive with direct access isn't given
abbrev pub GivesNoState : ℤ → List ℕ → List ℕ → ℕ → ℕ → DirectOnLines → Type 0
GivesNoState n out out_new before needed d = (n ≡ answer_number Invalid) × (out_new ≡ out) × (needed ≡ before)

-- THE WHOLE STATE IS GIVEN, or a number says why not; the drive goes on.
abbrev pub SavesState : ℤ → List ℕ → List ℕ → ℕ → ℕ → OnLines → OnLines → Type 0
SavesState n out out_new before needed old new = GivesState n out out_new before needed old × (new ≡ old)

-- no state of a drive with direct access; it goes on
abbrev pub SavesNoState : ℤ → List ℕ → List ℕ → ℕ → ℕ → DirectOnLines → DirectOnLines → Type 0
SavesNoState n out out_new before needed old new = GivesNoState n out out_new before needed old × (new ≡ old)

-- A HANDLE IS RESTORED: it holds the drive of the bytes, whatever it held; or a number says why not, and it holds what it held.
abbrev pub Restores : Option Inner → Option Inner → ℤ → List ℕ → Type 0
Restores old new n bytes =
    ((n ≡ fine) × ((inner : Inner) × (new ≡ Some inner) × IsPlainDrive (IsRestoredFrom bytes) inner.device))
    ⊎ ((new ≡ old) × ((r : DeviceRefusal) × IsLoadRefusal r × (n ≡ answer_number r)))
