-- After a play from rest, under a host that keeps the timing, the drives have kept to a session.
use Rattle.std.proofs.Common.{◌≡◌, ℕ, ◌+◌, Bool, false, List, [], ◌∷◌, ◌++◌, append-nil, Option, Some, None, ap, subst, ◌∙◌, arith}
use Rattle.cbm_iec.specs.Ports.{port_due}
use Rattle.cbm_iec.specs.declared.machine.Act.TheVariants.{Said}
use Rattle.cbm_iec.specs.declared.machine.Act.{Act}
use Rattle.cbm_iec.specs.declared.event.Event.{Event}
use Rattle.cbm_iec.specs.declared.lines.Change.{Change}
use Rattle.cbm_iec.specs.declared.lines.Lines.{Lines}
use Rattle.cbm_iec.specs.declared.party.Party.{Party}
use Rattle.cbm_session.proofs.headline.LawsMet.{keeps}
use Rattle.cbm_session.proofs.loose.Loosely.{keeps_loosely}
use Rattle.cbm_session.specs.Following.{IsInTime}
use Rattle.cbm_session.specs.Playing.{IsLaterDue, Station, Plays, AllInTime, AllLater, at_rest, IsKept}
use Rattle.cbm_session.specs.Sessions.{IsBus}
use Rattle.cbm_session.specs.Timing.{HostKeeps}
use Rattle.cbm_drive.proofs.Reacted.{stations_later, stations_in_time}
use Rattle.cbm_drive.specs.Kept.{HasKeptLoosely}
use Rattle.cbm_drive.specs.Played.{HasPlayed}
use Rattle.cbm_drive.specs.Players.{Turns, pending, IsAfter}
use Rattle.cbm_drive.specs.Seats.{Seated, AreLater, AreInTime, wires_held_by}
use Rattle.cbm_drive.specs.Cables.{Cabled}

module _ (D M : Type 0) (stands : D → M → Type 0) (step : M → Act → M) (says : M → Option (ℕ × Bool)) where
  later_than : (end : ℕ) (ss : List (Station M)) → AllInTime M step says (end + 1) ss → AllLater M step says end ss
  later_than end [] h = tt
  later_than end (s ∷ ss) h = (one (port_due s.port) h.0, later_than end ss h.1)
    where
      one : (o : Option ℕ) → IsInTime (end + 1) o → IsLaterDue end o
      one None k = tt
      one (Some t) k = omega (arith, k)

  pub kept_from : ((m : M) (n : ℕ) → says m ≡ Some (n, false) → (x : ℕ × Bool) × (says (step m (Said n false)) ≡ Some x)) → (bs : List Party) (ms : ℕ → M) (host : Lines) (end : ℕ) (xs : List (Seated D)) (old new : List Event) (cs : List Change)
      → HasPlayed D M stands step says host (end + 1) xs old new cs (at_rest M step says ms bs) → AreInTime (end + 1) xs → IsBus bs → HasKeptLoosely D M stands step says bs ms host end xs old new
  kept_from more bs ms host end xs old new cs p time is_bus =
      let later = later_than end p.stations (stations_in_time D M stands step says (wires_held_by host xs) (end + 1) xs p.stations p.now time) in
      record {
        play = record { made = p.made; stations = p.stations; added = p.added; now = p.now; kept = λ timing. keeps M step says bs ms p.from end p.made p.stations is_bus (record { more = more }) p.plays later timing };
        loosely = λ timing. keeps_loosely M step says bs ms p.from end p.made p.stations is_bus (record { more = more }) p.plays (let b = p.before in omega (arith, b)) later timing;
      }

  -- and after what a player gave
  pub kept_after : ((m : M) (n : ℕ) → says m ≡ Some (n, false) → (x : ℕ × Bool) × (says (step m (Said n false)) ≡ Some x)) → (p : Turns) (b : Cabled D) (bs : List Party) (ms : ℕ → M) (es : List Event) (end : ℕ) → IsBus bs → p.second ≡ None
      → (a : IsAfter D M stands step says p b 0 (at_rest M step says ms bs) es) → AreLater end b.drives → HostKeeps bs es end → IsKept M step says bs ms es end a.stations
  kept_after more p b bs ms es end is_bus none a late timing =
      let all : es ++ pending p.second ≡ es = ap (λ (o : Option Event). es ++ pending o) none ∙ append-nil es in
      keeps M step says bs ms a.from end es a.stations is_bus (record { more = more }) (subst (λ (l : List Event). Plays M step says 0 (at_rest M step says ms bs) l a.from a.stations) all a.plays) (stations_later D M stands step says (wires_held_by b.host b.drives) end b.drives a.stations a.now late) timing
