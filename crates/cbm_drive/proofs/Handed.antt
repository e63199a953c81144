-- What was played from rest, and nothing is due up to the end: each drive was handed what the wires hand it.
use Rattle.std.proofs.Common.{ℕ, ◌+◌, Bool, List, [], ◌∷◌, Option, Some, None, arith}
use Rattle.cbm_iec.specs.Ports.{port_due}
use Rattle.cbm_iec.specs.declared.machine.Act.{Act}
use Rattle.cbm_iec.specs.declared.event.Event.{Event}
use Rattle.cbm_iec.specs.declared.lines.Change.{Change}
use Rattle.cbm_iec.specs.declared.lines.Lines.{Lines}
use Rattle.cbm_iec.specs.declared.party.Party.{Party}
use Rattle.cbm_session.proofs.handed.Handed.{hands_each}
use Rattle.cbm_session.specs.Following.{IsInTime}
use Rattle.cbm_session.specs.Handed.{AllReact}
use Rattle.cbm_session.specs.Playing.{Station, IsLaterDue, AllInTime, AllLater, at_rest}
use Rattle.cbm_session.specs.Sessions.{AllUnlike}
use Rattle.cbm_drive.proofs.Reacted.{stations_in_time}
use Rattle.cbm_drive.specs.Played.{HasPlayed, HasHanded}
use Rattle.cbm_drive.specs.Seats.{Seated, AreInTime, wires_held_by}

module _ (D M : Type 0) (stands : D → M → Type 0) (step : M → Act → M) (says : M → Option (ℕ × Bool)) where
  later_all : (end : ℕ) (ss : List (Station M)) → AllInTime M step says (end + 1) ss → AllLater M step says end ss
  later_all end [] h = tt
  later_all end (s ∷ ss) h = (later_one (port_due s.port) h.0, later_all end ss h.1)
    where
      later_one : (o : Option ℕ) → IsInTime (end + 1) o → IsLaterDue end o
      later_one None k = tt
      later_one (Some t) k = omega (arith, k)

  pub handed_so : (host : Lines) (end : ℕ) (xs : List (Seated D)) (old new : List Event) (cs : List Change) (bs : List Party) (ms : ℕ → M) → AllUnlike bs → AllReact bs → AreInTime (end + 1) xs
      → HasPlayed D M stands step says host (end + 1) xs old new cs (at_rest M step says ms bs) → HasHanded D M stands step says host end xs old new cs bs ms
  handed_so host end xs old new cs bs ms unlike swift quiet p = record {
    made = p.made;
    stations = p.stations;
    added = p.added;
    hosts = p.hosts;
    handed = hands_each M step says bs ms p.from end p.made p.stations unlike swift p.plays (let b = p.before in omega (arith, b)) (later_all end p.stations (stations_in_time D M stands step says (wires_held_by host xs) (end + 1) xs p.stations p.now quiet));
    now = p.now;
  }
