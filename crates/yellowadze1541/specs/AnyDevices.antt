-- A drive without direct access, or with it.
use Rattle.std.specs.Prelude.{ℕ}
use Rattle.cbm_iec.specs.declared.port.Port.{Port}
use Rattle.cbm_machine.specs.Codes.{code_number}
use Rattle.cbm_device.specs.Devices.{OnLines}
use Rattle.cbm_device.specs.ImageDisks.{Counted}
use Rattle.cbm_direct_device.specs.DirectDevices.{DirectOnLines, disk_in, status_in}
use Rattle.yellowadze1541.specs.declared.any_device.AnyDevice.{AnyDevice}
use Rattle.yellowadze1541.specs.declared.any_device.AnyDevice.TheVariants.{Plain, Direct}

-- of a drive without direct access this is said, of one with it that
abbrev pub OfEither : (OnLines → Type 0) → (DirectOnLines → Type 0) → AnyDevice → Type 0
OfEither Says SaysDirect (Plain d) = Says d.value
OfEither Says SaysDirect (Direct d) = SaysDirect d.value

-- a drive without direct access, of which this is said
abbrev pub IsPlainDrive : (OnLines → Type 0) → AnyDevice → Type 0
IsPlainDrive Says d = OfEither Says (λ _. ⊥) d

-- a drive with direct access, of which this is said
abbrev pub IsDirectDrive : (DirectOnLines → Type 0) → AnyDevice → Type 0
IsDirectDrive Says d = OfEither (λ _. ⊥) Says d

-- WHAT A CALL DOES with a drive, which stays of its kind: without direct access this, with it that.
abbrev pub ActsOn : (OnLines → OnLines → Type 0) → (DirectOnLines → DirectOnLines → Type 0) → AnyDevice → AnyDevice → Type 0
ActsOn Does DoesDirect (Plain old) (Plain new) = Does old.value new.value
ActsOn Does DoesDirect (Direct old) (Direct new) = DoesDirect old.value new.value
ActsOn Does DoesDirect (Plain old) (Direct new) = ⊥
ActsOn Does DoesDirect (Direct old) (Plain new) = ⊥

-- its port
abbrev pub port_of : AnyDevice → Port
port_of (Plain d) = d.value.seat.port
port_of (Direct d) = d.value.seat.port

-- the disk in it
abbrev pub disk_of : AnyDevice → Counted
disk_of (Plain d) = d.value.seat.machine.dos.medium
disk_of (Direct d) = disk_in d.value

-- the number of its status
abbrev pub number_of_status : AnyDevice → ℕ
number_of_status (Plain d) = code_number d.value.seat.machine.dos.told.status.code
number_of_status (Direct d) = status_in d.value
