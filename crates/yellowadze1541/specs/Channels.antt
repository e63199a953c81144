-- The DOS of a handle's drive by calls.
use Rattle.std.specs.Prelude.{ℕ, ℤ, ◌≡◌, ◌⊎◌, ◌++◌, Bool, List, length, drop}
use Rattle.cbm_iec.specs.declared.machine.Act.{Act}
use Rattle.cbm_device.specs.declared.refusal.DeviceRefusal.TheVariants.{Invalid}
use Rattle.cbm_device.specs.Answers.{fine, answer_number}
use Rattle.cbm_device.specs.Channels.{IsCallable, IsUncallable, HasBeenTold, HasTalked}
use Rattle.cbm_device.specs.Devices.{OnLines}
use Rattle.cbm_direct_device.specs.DirectChannels.{HasBeenToldDirect, HasTalkedDirect}
use Rattle.cbm_direct_device.specs.DirectDevices.{DirectOnLines}
use Rattle.yellowadze1541.specs.Looks.{flag}

-- THE DRIVE IS TOLD THE ACTS of a call, and with it each machine that it represents; or the channel is none, or the wires aren't at rest, and nothing has changed.
abbrev pub TellsActs : ℕ → (ℕ → List Act) → ℤ → OnLines → OnLines → Type 0
TellsActs channel acts n old new =
    ((n ≡ fine) × IsCallable channel old.seat.port × HasBeenTold (acts old.seat.port.party.device) old new)
    ⊎ ((n ≡ answer_number Invalid) × IsUncallable channel old.seat.port × (new ≡ old))

-- the same of a drive with direct access
abbrev pub TellsActsDirect : ℕ → (ℕ → List Act) → ℤ → DirectOnLines → DirectOnLines → Type 0
TellsActsDirect channel acts n old new =
    ((n ≡ fine) × IsCallable channel old.seat.port × HasBeenToldDirect (acts old.seat.port.party.device) old new)
    ⊎ ((n ≡ answer_number Invalid) × IsUncallable channel old.seat.port × (new ≡ old))

-- these bytes are the beginning of the caller's room, and how many they are is reported, and whether the last of them was marked so
pub record AreRead (bytes : List ℕ) (marked : Bool) (out out_new : List ℕ) (got last : ℕ) : Type 0 where
  pub count : got ≡ length bytes
  pub mark : last ≡ flag marked
  pub given : out_new ≡ bytes ++ drop (length bytes) out

-- THE DRIVE TALKS TO A CALL: these bytes were taken, which each machine that it represents says, too; or the channel is none, or the wires aren't at rest, and nothing
-- has changed.
abbrev pub Reads : ℕ → ℤ → List ℕ → List ℕ → ℕ → ℕ → ℕ → ℕ → OnLines → OnLines → Type 0
Reads channel n out out_new before got unmarked last old new =
    ((n ≡ fine) × IsCallable channel old.seat.port
    × ((bytes : List ℕ) × (marked : Bool) × AreRead bytes marked out out_new got last × HasTalked channel (length out) bytes marked old new))
    ⊎ ((n ≡ answer_number Invalid) × IsUncallable channel old.seat.port × (new ≡ old) × (out_new ≡ out) × (got ≡ before) × (last ≡ unmarked))

-- the same of a drive with direct access
abbrev pub ReadsDirect : ℕ → ℤ → List ℕ → List ℕ → ℕ → ℕ → ℕ → ℕ → DirectOnLines → DirectOnLines → Type 0
ReadsDirect channel n out out_new before got unmarked last old new =
    ((n ≡ fine) × IsCallable channel old.seat.port
    × ((bytes : List ℕ) × (marked : Bool) × AreRead bytes marked out out_new got last × HasTalkedDirect channel (length out) bytes marked old new))
    ⊎ ((n ≡ answer_number Invalid) × IsUncallable channel old.seat.port × (new ≡ old) × (out_new ≡ out) × (got ≡ before) × (last ≡ unmarked))
