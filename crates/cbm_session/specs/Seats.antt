-- The drives on the bus: their roles, the lines that they hold, and the slowest and the fastest of them.
use Rattle.cbm_iec.specs.declared.pace.Pace.{Pace}
use Rattle.cbm_iec.specs.declared.pace.Pace.TheVariants.{Profile, Kernal}
use Rattle.std.specs.Prelude.{ℕ, ◌-◌, max, min, Bool, true, false, List, [], ◌∷◌, if◌then◌else◌, filter}
use Rattle.cbm_iec.specs.declared.lines.Held.{Held}
use Rattle.cbm_iec.specs.declared.party.Party.{Party}
use Rattle.cbm_iec.specs.declared.party.Role.TheVariants.{Absent, Listener, Talker}
use Rattle.cbm_iec.specs.declared.party.Role.{Role}

-- the lines that a party holds, CLOCK and DATA
abbrev pub lines : Bool → Bool → Held
lines clock_low data_low = record { clock_low = clock_low; data_low = data_low }

-- a drive on the bus: its device and reaction, its role, the lines that it holds. They are listed in the caller's order of ties.
pub record Seat : Type 0 where
  pub party : Party
  pub role : Role
  pub own : Held

-- a drive as it is at this pace
abbrev pub at_pace : Pace → Party → Party
at_pace pace b = record { device = b.device; reaction = b.reaction; pace = pace }

-- the device number of the drive on a seat
abbrev pub device : Seat → ℕ
device s = s.party.device

-- how long the drive on a seat takes to react, in microseconds
abbrev pub reaction : Seat → ℕ
reaction s = s.party.reaction

-- whether the role is the listener's
abbrev pub is_listener : Role → Bool
is_listener Listener = true
is_listener Absent = false
is_listener Talker = false

-- whether the role is the talker's
abbrev pub is_talker : Role → Bool
is_talker Talker = true
is_talker Absent = false
is_talker Listener = false

-- whether one of these drives listens
abbrev pub has_listener : List Seat → Bool
has_listener [] = false
has_listener (s ∷ ss) = if is_listener s.role then true else has_listener ss

-- whether one of these drives talks
abbrev pub has_talker : List Seat → Bool
has_talker [] = false
has_talker (s ∷ ss) = if is_talker s.role then true else has_talker ss

-- the drive that talks; of several the first, of none a party that isn't there
abbrev pub talker_of : List Seat → Party
talker_of [] = record { device = 0; reaction = 0; pace = Profile }
talker_of (s ∷ ss) = if is_talker s.role then s.party else talker_of ss

-- the drives that listen, in their order
abbrev pub listeners : List Seat → List Seat
listeners seats = filter (λ s. is_listener s.role) seats

-- the greatest reaction among drives; 0 where there are none
abbrev pub slowest : List Seat → ℕ
slowest [] = 0
slowest (s ∷ ss) = elim ss [ [] ↦ reaction s | t ∷ ts ↦ max (reaction s) (slowest ss) ]

-- the least reaction among drives; 0 where there are none
abbrev pub fastest : List Seat → ℕ
fastest [] = 0
fastest (s ∷ ss) = elim ss [ [] ↦ reaction s | t ∷ ts ↦ min (reaction s) (fastest ss) ]

-- how long after the fastest drive the slowest reacts to the same change
abbrev pub spread : List Seat → ℕ
spread seats = slowest seats - fastest seats

-- the pace that a host may count on: a KERNAL's only where each drive is of that pace
abbrev pub bus_pace : List Seat → Pace
bus_pace [] = Kernal
bus_pace (s ∷ ss) = elim s.party.pace [ Profile ↦ Profile | Kernal ↦ bus_pace ss ]
