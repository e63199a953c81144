-- What a script of line changes prints: the events of a drive under a host that makes these changes.
use Rattle.std.specs.Prelude.{◌≡◌, ◌+◌, ◌≤◌, ℕ, Bool, false, List, [], ◌∷◌, ◌++◌, Option, Some, None, IfSome}
use Rattle.std.specs.Io.KnownBytes.{Appends}
use Rattle.cbm_iec.specs.Ports.{port_due}
use Rattle.cbm_iec.specs.declared.machine.Act.{Act}
use Rattle.cbm_iec.specs.declared.event.Event.{Event}
use Rattle.cbm_iec.specs.declared.lines.Change.{Change}
use Rattle.cbm_iec.specs.declared.party.Party.{Party}
use Rattle.cbm_session.specs.Loosely.{HostKeepsLoosely, IsKeptLoosely}
use Rattle.cbm_session.specs.Playing.{Station, Plays, IsKept, IsLaterDue, at_rest}
use Rattle.cbm_session.specs.Timing.{HostKeeps}
use Rattle.cbm_machine.specs.Machines.{Machine}
use Rattle.cbm_drive.specs.Desks.{Desk, desk_step, desk_says}
use Rattle.cbm_drive.specs.Playback.{Playback, played_says, played_step}
use Rattle.cbm_host.specs.Served.{at_power_up}
use Rattle.cbm_drive.specs.Ordered.{host_changes, latest}
use Rattle.bus_traces.specs.Events.{trace_text}
use Rattle.cbm_program.specs.Output.{AppendsPart, AppendsMore}
use Rattle.cbm_program.specs.Timetables.{Timetable, timetable_of}

-- ---- the drive of a script

-- the drive at power up, above it the named-files machine
abbrev pub machines_of : Party → Machine → ℕ → Desk Machine
machines_of drive m d = at_power_up drive.pace drive.device m

-- the drive at power up alone on a bus, above it the machine of named files
abbrev pub trace_powered : Party → Machine → List (Station (Desk Machine))
trace_powered drive m = at_rest (Desk Machine) desk_step desk_says (machines_of drive m) (drive ∷ [])

-- the same, above it a machine that plays back
abbrev pub replaying : Party → Playback → List (Station Playback)
replaying drive p = at_rest Playback played_step played_says (λ d. p) (drive ∷ [])

-- From power up these events come, and then the drive stands so.
abbrev pub IsPlayedFrom : Party → Machine → List Event → ℕ → List (Station (Desk Machine)) → Type 0
IsPlayedFrom drive m trace from ss = Plays (Desk Machine) desk_step desk_says 0 (trace_powered drive m) trace from ss

-- A script is played up to its end, the reactions of that moment too. Where its end isn't read it is played up to its last change, and the
-- reactions of that moment are still due.
abbrev pub until : Timetable → ℕ
until t = elim t.end [ None ↦ latest 0 t.changes | Some end ↦ end + 1 ]

-- THE TRACE OF A SCRIPT, with any machine above the drive: the events of the drive under a host that makes these changes, and no others.
pub record IsTraceOf (S : Type 0) (step : S → Act → S) (says : S → Option (ℕ × Bool)) (above : ℕ → S) (drive : Party) (t : Timetable) (trace : List Event) (s : Station S) : Type 0 where
  pub from : ℕ
  pub plays : Plays S step says 0 (at_rest S step says above (drive ∷ [])) trace from (s ∷ [])
  pub hosts : host_changes trace ≡ t.changes
  pub within : from ≤ until t
  -- nothing is due at the end or before it
  pub settled : IfSome t.end (λ end. IsLaterDue end (port_due s.port))

-- the same of the machine of named files
abbrev pub IsTrace : Party → Machine → Timetable → List Event → Station (Desk Machine) → Type 0
IsTrace drive m t trace s = IsTraceOf (Desk Machine) desk_step desk_says (machines_of drive m) drive t trace s

-- WHATEVER IS ABOVE THE DRIVE, a machine of named files or one that plays back: this is so of each trace of a script.
abbrev pub OfEachTrace : Party → ((S : Type 0) → (S → Act → S) → (S → Option (ℕ × Bool)) → (ℕ → S) → Timetable → List Event → Station S → Type 0) → Type 0
OfEachTrace drive P = ((m : Machine) (t : Timetable) (trace : List Event) (s : Station (Desk Machine)) → IsTrace drive m t trace s
    → P (Desk Machine) desk_step desk_says (machines_of drive m) t trace s)
    × ((p : Playback) (t : Timetable) (trace : List Event) (s : Station Playback) → IsTraceOf Playback played_step played_says (λ d. p) drive t trace s
    → P Playback played_step played_says (λ d. p) t trace s)

-- Where the host of a script keeps the bus's timing, its trace is a beginning of a session: each byte talked is the machine's answer to the bytes sent, and
-- no reaction is late.
abbrev pub KeepTraces : Party → Type 0
KeepTraces drive = OfEachTrace drive (λ S step says above t trace s.
    IfSome t.end (λ end. HostKeeps (drive ∷ []) trace end → IsKept S step says (drive ∷ []) above trace end (s ∷ [])))

-- Where it keeps the timing loosely, as a computer's KERNAL does, a trace beside the script's, with the same events of the drive, is such a beginning.
abbrev pub KeepTracesLoosely : Party → Type 0
KeepTracesLoosely drive = OfEachTrace drive (λ S step says above t trace s.
    IfSome t.end (λ end. HostKeepsLoosely S step says (drive ∷ []) above trace end → IsKeptLoosely S step says (drive ∷ []) above trace end (s ∷ [])))

-- the events of the drive under some of these changes, the first ones
pub record IsTraceBegun (drive : Party) (m : Machine) (t : Timetable) (trace : List Event) : Type 0 where
  pub from : ℕ
  pub stations : List (Station (Desk Machine))
  pub plays : IsPlayedFrom drive m trace from stations
  pub rest : List Change
  pub hosts : host_changes trace ++ rest ≡ t.changes

-- ---- what is written

-- ON ANY DISK, sound or not, the trace of the script was written: above the drive is a machine that plays back what the DOS showed.
pub record HasWritten (drive : Party) (old new : Option (List ℕ)) (t : Timetable) : Type 0 where
  pub machine : Playback
  pub trace : List Event
  pub station : Station Playback
  pub is_trace : IsTraceOf Playback played_step played_says (λ d. machine) drive t trace station
  pub written : Appends old new (trace_text trace)

-- the same of a script that has this first bad line, or none
abbrev pub WritesTrace : Party → Option (List ℕ) → Option (List ℕ) → Option (List ℕ) → Option ℕ → Type 0
WritesTrace drive input old new bad = IfSome input (λ bytes. ((timetable_of bytes).bad ≡ bad) × HasWritten drive old new (timetable_of bytes))

-- the same after the line of a check, if one is asked for
abbrev pub WritesAfter : Party → Bool → Option (List ℕ) → Option (List ℕ) → Option (List ℕ) → Option ℕ → Type 0
WritesAfter drive checks input old new bad = (between : Option (List ℕ)) × (checks ≡ false → between ≡ old) × AppendsMore old between × WritesTrace drive input between new bad

-- For each machine that was represented before, the trace of the script was written after this text, and the machine above the drive is represented now.
abbrev pub PrintsTrace : Option (List ℕ) → Option (List ℕ) → (Machine → Type 0) → (Machine → Type 0) → Party → List ℕ → Timetable → Type 0
PrintsTrace old new stood stands drive text t = (m : Machine) → stood m
    → (trace : List Event) × (s : Station (Desk Machine)) × IsTrace drive m t trace s × Appends old new (text ++ trace_text trace) × stands s.machine.dos

-- for each machine that was represented before, a beginning of what the drive does under the first changes was written
abbrev pub PrintsTracePart : Option (List ℕ) → Option (List ℕ) → (Machine → Type 0) → Party → List ℕ → Timetable → Type 0
PrintsTracePart old new stood drive text t = (m : Machine) → stood m → (trace : List Event) × IsTraceBegun drive m t trace × AppendsPart old new (text ++ trace_text trace)
