-- A drive among a host and other drives: told each change of theirs with the lines that all of them hold, it makes its own changes when they are due.
use Rattle.std.specs.Prelude.{◌≡◌, ◌≤◌, ◌<◌, ℕ, zero, suc, Bool, true, false, List, [], ◌∷◌, ◌++◌, ◌||◌, nat_eq, Option, Some, None, if◌then◌else◌}
use Rattle.cbm_iec.specs.Changes.{lines_after}
use Rattle.cbm_iec.specs.Ports.{port_due, told, told_act, reaction_act, reacted}
use Rattle.cbm_iec.specs.declared.machine.Act.{Act}
use Rattle.cbm_iec.specs.declared.event.Who.TheVariants.{Host, Drive}
use Rattle.cbm_iec.specs.declared.event.Who.{Who}
use Rattle.cbm_iec.specs.declared.lines.Line.TheVariants.{Atn, Clock, Data}
use Rattle.cbm_iec.specs.declared.lines.Line.{Line}
use Rattle.cbm_iec.specs.declared.lines.Way.TheVariants.{Pull, Free}
use Rattle.cbm_iec.specs.declared.lines.Way.{Way}
use Rattle.cbm_iec.specs.declared.lines.Lines.{Lines}
use Rattle.cbm_iec.specs.declared.port.Port.{Port}
use Rattle.cbm_session.specs.Following.{IsInTime, IsShown, reaction_steps}
use Rattle.cbm_session.specs.Steps.{Mark, Step, event_of, moment_of, Plain, ForEach, For}

-- what the rest of a bus holds: the lines of the host, and how many of the other drives hold CLOCK, and how many DATA
pub record Rest : Type 0 where
  pub host : Lines
  pub clocks : ℕ
  pub datas : ℕ

-- whether it is at least one
abbrev pub some : ℕ → Bool
some zero = false
some (suc n) = true

-- a line is low where one party holds it
abbrev pub wires_of : Rest → Lines
wires_of r = record { atn_low = r.host.atn_low; clock_low = some r.clocks || r.host.clock_low; data_low = some r.datas || r.host.data_low }

-- one more holds a line after its pull, one less after its release
abbrev pub counted : Way → ℕ → ℕ
counted Pull n = suc n
counted Free zero = zero
counted Free (suc n) = n

-- what the rest holds after a change of another drive
abbrev pub after_another : Line → Way → Rest → Rest
after_another Atn way r = r
after_another Clock way r = record { host = r.host; clocks = counted way r.clocks; datas = r.datas }
after_another Data way r = record { host = r.host; clocks = r.clocks; datas = counted way r.datas }

-- what the rest holds after a change of the host
abbrev pub after_the_host : Line → Way → Rest → Rest
after_the_host line way r = record { host = lines_after r.host line way; clocks = r.clocks; datas = r.datas }

-- what drive d was told by a change is what counts with it for d
abbrev pub CountsFor : ℕ → Mark → Option Act → Type 0
CountsFor d Plain told = told ≡ None
CountsFor d (ForEach act) told = told ≡ Some act
CountsFor d (For o act) told = told ≡ (if nat_eq d o then Some act else None)

-- the next change is none of the host at this moment or before, and none of another drive before it
abbrev pub ComesAfter : ℕ → Who → ℕ → Type 0
ComesAfter t Host moment = t < moment
ComesAfter t (Drive o) moment = t ≤ moment

-- the same of the first of these steps
abbrev pub FirstIsAfter : ℕ → List Step → Type 0
FirstIsAfter t [] = Unit {0}
FirstIsAfter t (s ∷ ss) = ComesAfter t s.event.who (moment_of s)

-- The drive follows these steps of a bus, from what the rest holds to what it holds then: it is in time for each change of the others, which counts
-- what it was told, and its reaction is what comes when it is due.
pub data FollowsAmong (peek : Option (ℕ × Bool)) : Rest → Port → List Step → Rest → Port → Type 0 where
  ends : {r r2 : Rest} {q q2 : Port} → r2 ≡ r → q2 ≡ q → FollowsAmong peek r q [] r2 q2
  tells : {r r2 : Rest} {q q2 : Port} {t : ℕ} {line : Line} {way : Way} {mark : Mark} {ss : List Step} → IsInTime t (port_due q)
      → CountsFor q.party.device mark (told_act (wires_of (after_the_host line way r)) q)
      → FollowsAmong peek (after_the_host line way r) (told t (wires_of (after_the_host line way r)) q) ss r2 q2 → FollowsAmong peek r q (record { event = event_of Host t line way; mark = mark } ∷ ss) r2 q2
  hears : {r r2 : Rest} {q q2 : Port} {o t : ℕ} {line : Line} {way : Way} {mark : Mark} {ss : List Step} → nat_eq q.party.device o ≡ false → IsInTime t (port_due q)
      → CountsFor q.party.device mark (told_act (wires_of (after_another line way r)) q)
      → FollowsAmong peek (after_another line way r) (told t (wires_of (after_another line way r)) q) ss r2 q2 → FollowsAmong peek r q (record { event = event_of (Drive o) t line way; mark = mark } ∷ ss) r2 q2
  reacts : {r r2 : Rest} {q q2 : Port} {ss : List Step} (t : ℕ) (more : List Step) → port_due q ≡ Some t → ss ≡ reaction_steps t peek q ++ more → IsShown (reaction_steps t peek q) (reaction_act peek q) → FirstIsAfter t more
      → FollowsAmong peek r (reacted t peek q) more r2 q2 → FollowsAmong peek r q ss r2 q2
