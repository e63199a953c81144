-- The host among the drive's changes: it makes its own when they come, sees the drive's, and waits no longer than it should.
use Rattle.std.specs.Prelude.{◌≡◌, ◌≤◌, ◌<◌, ℕ, Bool, List, [], ◌∷◌, Option, Some, None}
use Rattle.cbm_iec.specs.Ports.{change_at}
use Rattle.cbm_iec.specs.declared.machine.Act.TheVariants.{Said}
use Rattle.cbm_iec.specs.declared.event.Who.TheVariants.{Host, Drive}
use Rattle.cbm_iec.specs.declared.event.Who.{Who}
use Rattle.cbm_iec.specs.declared.lines.Line.{Line}
use Rattle.cbm_iec.specs.declared.lines.Way.{Way}
use Rattle.cbm_session.specs.Steps.{Mark, Step, event_of, moment_of, For}
use Rattle.cbm_host.specs.Engines.{Engined, stage_taken, engine_due, engine_made, engine_seen, engine_passed}
use Rattle.cbm_host.specs.declared.due.Due.{Due}
use Rattle.cbm_host.specs.declared.due.Due.TheVariants.{Makes, Waits, Hears, Over}

-- a change of the drive at this moment comes before what the host does next; at one moment the host comes first
abbrev pub IsBefore : ℕ → Due → Type 0
IsBefore t (Makes c) = t < c.moment
IsBefore t (Waits until) = t < until
IsBefore t Hears = Unit {0}
IsBefore t (Over at) = ⊥

-- the next change isn't one of the drive before this moment
abbrev pub IsSilentBy : ℕ → Who → ℕ → Type 0
IsSilentBy until Host moment = Unit {0}
IsSilentBy until (Drive o) moment = until ≤ moment

-- the first of these steps isn't one of the drive before this moment
abbrev pub IsSilent : ℕ → List Step → Type 0
IsSilent until [] = ⊥
IsSilent until (s ∷ ss) = IsSilentBy until s.event.who (moment_of s)

-- the byte that the host takes with its change is the one that counts there as said
abbrev pub IsTakenAs : Mark → Option (ℕ × Bool) → Type 0
IsTakenAs (For d (Said byte last)) taken = taken ≡ Some (byte, last)
IsTakenAs mark taken = taken ≡ None

-- THE HOST PERFORMS THESE STEPS: the host's among them are what it does, each when it is due, where the drive does its own.
pub data Performs : Engined → List Step → Engined → Type 0 where
  ends : {e e2 : Engined} → e2 ≡ e → Performs e [] e2
  makes : {e e2 : Engined} {t : ℕ} {line : Line} {way : Way} {mark : Mark} {ss : List Step} → engine_due e ≡ Makes (change_at t line way) → IsTakenAs mark (stage_taken e.stage) → Performs (engine_made t e) ss e2
      → Performs e (record { event = event_of Host t line way; mark = mark } ∷ ss) e2
  sees : {e e2 : Engined} {o t : ℕ} {line : Line} {way : Way} {mark : Mark} {ss : List Step} → IsBefore t (engine_due e) → Performs (engine_seen (change_at t line way) e) ss e2
      → Performs e (record { event = event_of (Drive o) t line way; mark = mark } ∷ ss) e2
  passes : {e e2 : Engined} {ss : List Step} (until : ℕ) → engine_due e ≡ Waits until → IsSilent until ss → Performs (engine_passed e) ss e2 → Performs e ss e2
