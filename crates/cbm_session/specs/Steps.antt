-- Events of the wires, the acts that count with them, the joining of the parties' events by moments, and the bits of a byte.
use Rattle.std.specs.Prelude.{ℕ, true, false, List, [], ◌∷◌, if◌then◌else◌, nat_le, nat_eq}
use Rattle.cbm_iec.specs.Ports.{change_at}
use Rattle.cbm_iec.specs.declared.machine.Act.{Act}
use Rattle.cbm_iec.specs.declared.event.Event.{Event}
use Rattle.cbm_iec.specs.declared.event.Who.TheVariants.{Host, Drive}
use Rattle.cbm_iec.specs.declared.event.Who.{Who}
use Rattle.cbm_iec.specs.declared.lines.Line.{Line}
use Rattle.cbm_iec.specs.declared.lines.Way.{Way}
use Rattle.cbm_session.specs.Seats.{device}

-- which act counts with an event, and for whom: for each drive, or for one device
pub data Mark : Type 0 where
  Plain : Mark
  ForEach : (act : Act) → Mark
  For : (device : ℕ) → (act : Act) → Mark

-- an event with the act that counts with it
pub record Step : Type 0 where
  pub event : Event
  pub mark : Mark

-- the event of a party's change of a line at a moment
abbrev pub event_of : Who → ℕ → Line → Way → Event
event_of who moment line way = record { who = who; change = change_at moment line way }

-- a change of the host, with which no act counts
abbrev pub host : ℕ → Line → Way → Step
host moment line way = record { event = event_of Host moment line way; mark = Plain }

-- a change of the drive of this device number, with which no act counts
abbrev pub drive : ℕ → ℕ → Line → Way → Step
drive device moment line way = record { event = event_of (Drive device) moment line way; mark = Plain }

-- the step with an act that counts for each drive
abbrev pub for_each : Act → Step → Step
for_each act step = record { event = step.event; mark = ForEach act }

-- the step with an act that counts for one device
abbrev pub for_one : ℕ → Act → Step → Step
for_one device act step = record { event = step.event; mark = For device act }

-- the moment of a step, in microseconds
abbrev pub moment_of : Step → ℕ
moment_of s = s.event.change.moment

-- the events of steps, without their acts
abbrev pub events_of : List Step → List Event
events_of [] = []
events_of (s ∷ ss) = s.event ∷ events_of ss

-- a device's acts with that of a mark before them, where the mark is for this device
abbrev pub with_mark : ℕ → Mark → List Act → List Act
with_mark device Plain acts = acts
with_mark device (ForEach act) acts = act ∷ acts
with_mark device (For other act) acts = if nat_eq device other then act ∷ acts else acts

-- the acts of one drive, in their order
abbrev pub acts_for : ℕ → List Step → List Act
acts_for device [] = []
acts_for device (s ∷ ss) = with_mark device s.mark (acts_for device ss)

-- a step among a second list: what is sooner there comes before it, and then those that follow it in its own list are joined with the rest
abbrev pub merging : Step → (List Step → List Step) → List Step → List Step
merging x others [] = x ∷ others []
merging x others (y ∷ ys) = elim (nat_le (moment_of x) (moment_of y)) [ true ↦ x ∷ others (y ∷ ys) | false ↦ y ∷ merging x others ys ]

-- two lists of steps joined by moments, at one moment the first list's before the second's
abbrev pub merge : List Step → List Step → List Step
merge [] ys = ys
merge (x ∷ xs) ys = merging x (merge xs) ys

-- the host's list first, then each drive's
abbrev pub merge_all : List Step → List (List Step) → List Step
merge_all first [] = first
merge_all first (next ∷ lists) = merge first (merge_all next lists)
