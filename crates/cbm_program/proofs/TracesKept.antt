-- The trace of a script under a host that keeps the timing, and under one that keeps it loosely.
use Rattle.cbm_iec.specs.Ports.{port_due}
use Rattle.cbm_iec.specs.declared.machine.Act.{Act}
use Rattle.cbm_iec.specs.declared.event.Event.{Event}
use Rattle.cbm_iec.specs.declared.party.Party.{Party}
use Rattle.cbm_session.proofs.headline.LawsMet.{keeps}
use Rattle.cbm_session.proofs.loose.Loosely.{keeps_loosely}
use Rattle.cbm_session.specs.Loosely.{HostKeepsLoosely, IsKeptLoosely}
use Rattle.cbm_session.specs.Playing.{Station, IsKept, IsLaterDue, IsMachine}
use Rattle.cbm_session.specs.Sessions.{IsDrive}
use Rattle.cbm_session.specs.Timing.{HostKeeps}
use Rattle.cbm_drive.specs.Desks.{Desk, desk_step, desk_says}
use Rattle.cbm_drive.specs.NextSaid.{more_said}
use Rattle.cbm_drive.specs.Ordered.{latest}
use Rattle.cbm_drive.specs.Playback.{Playback, played_says, played_step}
use Rattle.cbm_drive.specs.PlayedBack.{played_more}
use Rattle.cbm_machine.specs.Machines.{Machine}
use Rattle.cbm_program.proofs.Playing.{is_bus}
use Rattle.cbm_program.specs.Timetables.{Timetable}
use Rattle.cbm_program.specs.Traces.{IsTraceOf, KeepTraces, KeepTracesLoosely, machines_of}
use Rattle.std.proofs.Common.{◌≤◌, ◌+◌, ℕ, Bool, List, [], ◌∷◌, Option, Some, None, arith}
use Rattle.std.specs.Prelude.{IfSome}

-- with any machine above the drive
module _ (S : Type 0) (step : S → Act → S) (says : S → Option (ℕ × Bool)) (machine : IsMachine S step says) (above : ℕ → S) (drive : Party) (sits : IsDrive drive) where
  kept_trace : (t : Timetable) (trace : List Event) (s : Station S) → IsTraceOf S step says above drive t trace s
      → IfSome t.end (λ end. HostKeeps (drive ∷ []) trace end → IsKept S step says (drive ∷ []) above trace end (s ∷ []))
  kept_trace t trace s h = by t.end h.settled
    where
      by : (o : Option ℕ) → IfSome o (λ end. IsLaterDue end (port_due s.port)) → IfSome o (λ end. HostKeeps (drive ∷ []) trace end → IsKept S step says (drive ∷ []) above trace end (s ∷ []))
      by None settled = tt
      by (Some end) settled = λ timing. keeps S step says (drive ∷ []) above h.from end trace (s ∷ []) (is_bus drive sits) machine h.plays (settled, tt) timing

  loose_trace : (t : Timetable) (trace : List Event) (s : Station S) → IsTraceOf S step says above drive t trace s
      → IfSome t.end (λ end. HostKeepsLoosely S step says (drive ∷ []) above trace end → IsKeptLoosely S step says (drive ∷ []) above trace end (s ∷ []))
  loose_trace t trace s h = by t.end h.within h.settled
    where
      by : (o : Option ℕ) → h.from ≤ (elim o [ None ↦ latest 0 t.changes | Some end ↦ end + 1 ]) → IfSome o (λ end. IsLaterDue end (port_due s.port))
          → IfSome o (λ end. HostKeepsLoosely S step says (drive ∷ []) above trace end → IsKeptLoosely S step says (drive ∷ []) above trace end (s ∷ []))
      by None within settled = tt
      by (Some end) within settled = λ timing. keeps_loosely S step says (drive ∷ []) above h.from end trace (s ∷ []) (is_bus drive sits) machine h.plays (omega (arith, within)) (settled, tt) timing

-- each trace of a script, under a host that keeps the timing
pub traces_kept : (drive : Party) → IsDrive drive → KeepTraces drive
traces_kept drive sits = (
  (λ m t trace s h. kept_trace (Desk Machine) desk_step desk_says (record { more = more_said }) (machines_of drive m) drive sits t trace s h),
  (λ p t trace s h. kept_trace Playback played_step played_says (record { more = played_more }) (λ d. p) drive sits t trace s h),
)

-- and under one that keeps it loosely
pub traces_kept_loosely : (drive : Party) → IsDrive drive → KeepTracesLoosely drive
traces_kept_loosely drive sits = (
  (λ m t trace s h. loose_trace (Desk Machine) desk_step desk_says (record { more = more_said }) (machines_of drive m) drive sits t trace s h),
  (λ p t trace s h. loose_trace Playback played_step played_says (record { more = played_more }) (λ d. p) drive sits t trace s h),
)
