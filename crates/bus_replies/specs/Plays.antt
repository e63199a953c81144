-- A bus under a host that changes its lines one at a time.
use Rattle.std.specs.Prelude.{ℕ, ◌≡◌, List, [], ◌∷◌, ◌++◌, Option, Some, None}
use Rattle.std.specs.Io.KnownBytes.{Appends}
use Rattle.cbm_iec.specs.declared.event.Event.{Event}
use Rattle.cbm_iec.specs.declared.event.Who.{Who}
use Rattle.cbm_iec.specs.declared.event.Who.TheVariants.{Host, Drive}
use Rattle.cbm_iec.specs.declared.lines.Change.{Change}
use Rattle.bus_traces.specs.Events.{trace_text}

-- a drive, not the host
abbrev pub IsOfDrive : Who → Type 0
IsOfDrive Host = ⊥
IsOfDrive (Drive d) = Unit {0}

-- an event of the host is the change that waited; after one of a drive it still waits
abbrev pub IsTurnOfReply : Who → Change → Option Change → Option Change → Type 0
IsTurnOfReply Host c was now = (was ≡ Some c) × (now ≡ None)
IsTurnOfReply (Drive d) c was now = now ≡ was

-- after a change of the host the next one may come at that very moment
abbrev pub IsFromHost : Who → ℕ → ℕ → Type 0
IsFromHost Host moment from = from ≡ moment
IsFromHost (Drive d) moment from = Unit {0}

-- the host's changes among these events
abbrev pub changes_of_host : List Event → List Change
changes_of_host [] = []
changes_of_host (e ∷ es) = of_who e.who (changes_of_host es)
  where
    of_who : Who → List Change → List Change
    of_who Host cs = e.change ∷ cs
    of_who (Drive d) cs = cs

-- THESE EVENTS WERE GIVEN, in their order, and written: from each start from which the bus had come, it has come by them. The host's changes among them are these.
pub record HasGivenEvents {S Start : Type 0} (gave : S → Start → List Event → Type 0) (a b : Option (List ℕ)) (cs : List Change) (x y : S) : Type 0 where
  pub events : List Event
  pub leads : (s : Start) (es : List Event) → gave x s es → gave y s (es ++ events)
  pub hosts : changes_of_host events ≡ cs
  pub written : Appends a b (trace_text events)
