-- A drive's DOS of which it is known whether its disk was sound.
use Rattle.std.specs.Prelude.{ℕ, ◌+◌, ◌≤◌, ◌≡◌, ◌≢◌, ◌⊎◌, Bool, true, false, List, Result, Ok, Err}
use Rattle.cbm_medium.specs.Place.{Place, Has}
use Rattle.cbm_medium.specs.Seen.{Seen}
use Rattle.cbm_medium.specs.declared.fault.Trouble.{Trouble}
use Rattle.cbm_file.specs.Files.{Disk}
use Rattle.cbm_volume.specs.Holding.{HoldsDisk}
use Rattle.cbm_machine.specs.Machines.{Machine, start}
use Rattle.cbm_machine.specs.Told.{ToldStatus}
use Rattle.cbm_machine.specs.declared.status.Status.{Status}
use Rattle.cbm_channel.specs.Exchanged.{still_telling}
use Rattle.cbm_channel.specs.Loosely.{WritesLoose, WritesRaw, GivesAt}
use Rattle.cbm_channel.specs.Standing.{Kept, Stands}
use Rattle.cbm_direct.specs.declared.access.Access.{Access}
use Rattle.cbm_direct.specs.declared.access.Access.TheVariants.{Guarded, Raw}
use Rattle.cbm_direct.specs.Spared.{is_spared}
use Rattle.cbm_direct.specs.declared.vouch.Vouch.{Vouch}
use Rattle.cbm_direct.specs.declared.vouch.Vouch.TheVariants.{Sound, Unsound, Unknown}

-- What the DOS keeps, and what is known of the disk that was put in.
pub record Vouching (M : Type 0) : Type 0 where
  pub dos : Kept M
  pub vouch : Vouch

-- which sectors may be written: any, if nothing is known
abbrev pub access_of : Vouch → Access
access_of (Sound since) = Guarded
access_of Unsound = Guarded
access_of Unknown = Raw

-- a medium shows a disk: its content is sound, and means it
abbrev pub ShowsDisk : Seen → Type 0
ShowsDisk now = (d : Disk) × HoldsDisk now.tracks now.content d

-- The medium has failed this often or more, and if it is this often, the drive represents a machine.
pub record StandsSince {M : Type 0} (seen : M → Seen) (k : Kept M) (since : ℕ) : Type 0 where
  pub counted : since ≤ (seen k.medium).failures
  pub stands : (seen k.medium).failures ≤ since → (m : Machine) × Stands seen k m

-- IF THE DISK WAS SOUND when it was put in and the medium didn't fail by itself since, the drive represents some machine.
abbrev pub StandsIfSound : {M : Type 0} → (M → Seen) → Vouch → Kept M → Type 0
StandsIfSound seen (Sound since) k = StandsSince seen k since
StandsIfSound seen Unsound k = Unit {0}
StandsIfSound seen Unknown k = Unit {0}

-- a number by which that is known
abbrev pub vouch_number : Vouch → ℕ
vouch_number Unsound = 0
vouch_number Unknown = 1
vouch_number (Sound since) = 2 + since

-- WHAT A MEDIUM HAS THEN: a sound disk, if it was put in with one and didn't fail by itself since.
abbrev pub IsSoundSince : Vouch → Seen → Type 0
IsSoundSince (Sound since) now = now.failures ≤ since → ShowsDisk now
IsSoundSince Unsound now = Unit {0}
IsSoundSince Unknown now = Unit {0}

-- it is called sound only if it is, and the medium has failed so often
abbrev pub IsVouchOf : Seen → Vouch → Type 0
IsVouchOf now (Sound since) = (since ≡ now.failures) × ShowsDisk now
IsVouchOf now Unsound = Unit {0}
IsVouchOf now Unknown = Unit {0}

-- a sector isn't read: 66 if the disk has none such, else the fault that stands there; with its address
pub record IsSectorUnread (now : Seen) (p : Place) (t : Trouble) : Type 0 where
  pub track : t.track ≡ p.track
  pub sector : t.sector ≡ p.sector
  pub why : ((t.code ≡ 66) × (Has now.tracks p → ⊥)) ⊎ (now.content p ≡ Err t.code)

-- WHAT EACH CALL LEAVES: what is known of the disk that was put in; failures only grow.
pub record KeepsVouch {M : Type 0} (seen : M → Seen) (old new : Vouching M) : Type 0 where
  pub vouch : new.vouch ≡ old.vouch
  pub counted : (seen old.dos.medium).failures ≤ (seen new.dos.medium).failures

-- only the status has changed, to this one
pub record OnlyStatus {M : Type 0} (status : Status) (old new : Kept M) : Type 0 where
  pub medium : new.medium ≡ old.medium
  pub channels : new.channels ≡ old.channels
  pub told : new.told ≡ (record { status = status; told = 0 })

-- Given a sound disk, the drive represents the machine that is switched on with it, but that tells what was told before.
abbrev pub StandsExchanged : {M : Type 0} → (M → Seen) → M → ToldStatus → Kept M → Type 0
StandsExchanged seen medium told k =
    (d : Disk) → HoldsDisk (seen medium).tracks (seen medium).content d → Stands seen k (still_telling told (start d (seen medium).protected (seen medium).tracks))

-- With a sound disk the drive represents the machine that is switched on with it.
abbrev pub StandsAtStart : {M : Type 0} → (M → Seen) → M → Kept M → Type 0
StandsAtStart seen medium k = (d : Disk) → HoldsDisk (seen medium).tracks (seen medium).content d → Stands seen k (start d (seen medium).protected (seen medium).tracks)

-- A sector that is spared is refused, and nothing has changed; for any other one this holds.
abbrev pub UnlessSpared : {M : Type 0} → (M → Seen) → Place → (Result Bool Trouble → Kept M → Kept M → Type 0) → Result Bool Trouble → Kept M → Kept M → Type 0
UnlessSpared seen p Does result old new =
    ((is_spared (seen old.medium) p ≡ true) × (result ≡ Ok false) × (new ≡ old))
    ⊎ ((is_spared (seen old.medium) p ≡ false) × Does result old new)

-- WHAT A WRITE LEAVES, by the access: guarded, what a write of a sector leaves that is nobody's and isn't spared; raw, what a write of any sector
-- leaves
abbrev pub WritesBy : {M : Type 0} → Access → (M → Seen) → Place → List ℕ → Result Bool Trouble → Kept M → Kept M → Type 0
WritesBy Guarded seen p bytes result old new = UnlessSpared seen p (WritesLoose seen p bytes) result old new
WritesBy Raw seen p bytes result old new = (result ≢ Ok false) × WritesRaw seen p bytes result old new

-- WHAT A RELEASE LEAVES, by the access: guarded, a sector that is spared stays as it is; raw, it is given back if it is nobody's
abbrev pub GivesBy : {M : Type 0} → Access → (M → Seen) → Place → Result Bool Trouble → Kept M → Kept M → Type 0
GivesBy Guarded seen p result old new = UnlessSpared seen p (GivesAt seen p) result old new
GivesBy Raw seen p result old new = GivesAt seen p result old new
