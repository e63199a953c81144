-- A list of changes that can be played: no change comes before the one in front of it, and none after the end.
use Rattle.std.specs.Prelude.{ℕ, ◌+◌, ◌≤◌, nat_lt, List, [], ◌∷◌, Option, Some, None, if◌then◌else◌}
use Rattle.cbm_iec.specs.declared.event.Event.{Event}
use Rattle.cbm_iec.specs.declared.event.Who.TheVariants.{Host, Drive}
use Rattle.cbm_iec.specs.declared.event.Who.{Who}
use Rattle.cbm_iec.specs.declared.lines.Change.{Change}
use Rattle.cbm_drive.specs.declared.fault.PlayFault.{PlayFault}
use Rattle.cbm_drive.specs.declared.fault.PlayFault.TheVariants.{Backwards, PastEnd}

-- THE FIRST CHANGE AT FAULT, where they count from n: it goes back in time, or else comes after the end
abbrev pub fault_of : ℕ → ℕ → ℕ → List Change → Option PlayFault
fault_of n before end [] = None
fault_of n before end (c ∷ cs) =
    if nat_lt c.moment before then Some (Backwards n) else if nat_lt end c.moment then Some (PastEnd n) else fault_of (n + 1) c.moment end cs

-- no change comes before the one in front of it, nor after the end
abbrev pub AreOrdered : ℕ → ℕ → List Change → Type 0
AreOrdered before end [] = Unit {0}
AreOrdered before end (c ∷ cs) = (before ≤ c.moment) × (c.moment ≤ end) × AreOrdered c.moment end cs

-- the moment of the last of them, or this one
abbrev pub latest : ℕ → List Change → ℕ
latest t [] = t
latest t (c ∷ cs) = latest c.moment cs

-- changes with one before them, if it is the host's
abbrev pub with_host : Who → Change → List Change → List Change
with_host Host c cs = c ∷ cs
with_host (Drive d) c cs = cs

-- the changes of the host among events
abbrev pub host_changes : List Event → List Change
host_changes [] = []
host_changes (e ∷ es) = with_host e.who e.change (host_changes es)
