-- What C is told of a drive with direct access.
use Rattle.std.specs.Prelude.{ℕ, ℤ, ◌≡◌, ◌≢◌, ◌≤◌, ◌⊎◌, Bool, List, None}
use Rattle.cbm_iec.specs.declared.lines.Lines.{Lines}
use Rattle.cbm_device.specs.declared.refusal.DeviceRefusal.{DeviceRefusal}
use Rattle.cbm_device.specs.declared.refusal.DeviceRefusal.TheVariants.{Invalid, Absent}
use Rattle.cbm_device.specs.declared.device.DeviceReaction.{DeviceReaction}
use Rattle.cbm_device.specs.Answers.{fine, answer_number}
use Rattle.cbm_device.specs.ImageDisks.{no_disk, IsOpenRefusal}
use Rattle.cbm_direct_device.specs.DirectDevices.{DirectOnLines, IsOnTimeDirect, IsOutOfTimeDirect, HasHeardDirect, HasReactedDirect, HasNothingDueDirect, HasAnotherDiskDirect, IsExchangedDirect, GivesImageDirect}
use Rattle.yellowadze1541.specs.Drives.{IsTold}
use Rattle.yellowadze1541.specs.declared.shapes.Reacted.{Reacted}

-- A DRIVE WITH DIRECT ACCESS IS TOLD OF LINES; or it isn't the moment for them, and nothing has changed.
abbrev pub HearsDirect : ℕ → Lines → ℤ → DirectOnLines → DirectOnLines → Type 0
HearsDirect moment others n old new =
    ((n ≡ fine) × IsOnTimeDirect moment old × HasHeardDirect moment others old new)
    ⊎ ((n ≡ answer_number Invalid) × IsOutOfTimeDirect moment old × (new ≡ old))

-- THE REACTION THAT WAS DUE HAPPENED, and C is told of it; or none was due, and nothing has changed.
abbrev pub ReactsDirect : ℕ → ℤ → Reacted → Reacted → DirectOnLines → DirectOnLines → Type 0
ReactsDirect moment n before told old new =
    ((n ≡ fine) × ((r : DeviceReaction) × (r.moment ≤ moment) × HasReactedDirect r old new × IsTold r told))
    ⊎ ((n ≡ answer_number Absent) × HasNothingDueDirect moment old × (new ≡ old) × (told ≡ before))

-- THE DISK IS TAKEN OUT of a drive that goes on, and its image is given; or it isn't given, and nothing has changed.
abbrev pub EjectsDirect : ℤ → List ℕ → List ℕ → ℕ → ℕ → DirectOnLines → DirectOnLines → Type 0
EjectsDirect n out out_new before needed old new =
    GivesImageDirect n out out_new before needed old × (((n ≡ fine) × IsExchangedDirect no_disk None old new) ⊎ ((n ≢ fine) × (new ≡ old)))

-- another disk is put in, while the drive goes on; or the image isn't opened, and nothing has changed
abbrev pub InsertsDirect : ℤ → List ℕ → Bool → DirectOnLines → DirectOnLines → Type 0
InsertsDirect n image protected old new =
    ((n ≡ fine) × HasAnotherDiskDirect image protected old new) ⊎ ((new ≡ old) × ((r : DeviceRefusal) × (n ≡ answer_number r) × IsOpenRefusal image r))
