-- What a bus with one drive played is what the drive played.
use Rattle.std.proofs.Common.{◌≡◌, ℕ, ◌+◌, Bool, true, false, List, [], ◌∷◌, Option, Some, None, refl, sym, subst}
use Rattle.std.specs.Prelude.{nat_lt, if◌then◌else◌}
use Rattle.cbm_iec.specs.Ports.{resting}
use Rattle.cbm_iec.specs.declared.event.Event.{Event}
use Rattle.cbm_iec.specs.declared.lines.Change.{Change}
use Rattle.cbm_iec.specs.declared.lines.Lines.{Lines}
use Rattle.cbm_iec.specs.declared.party.Party.{Party}
use Rattle.cbm_iec.specs.declared.port.Port.{Port}
use Rattle.cbm_session.specs.Playing.{Station, nobody, Plays}
use Rattle.cbm_machine.specs.Machines.{Machine}
use Rattle.cbm_channel.specs.Standing.{Kept}
use Rattle.cbm_channel.proofs.Stands.{means_of}
use Rattle.cbm_drive.specs.Cables.{all_free}
use Rattle.cbm_drive.specs.Desks.{Desk, DeskStands, desk_step, desk_says}
use Rattle.cbm_drive.specs.Ordered.{fault_of}
use Rattle.cbm_drive.specs.declared.fault.PlayFault.{PlayFault}
use Rattle.cbm_drive.specs.declared.fault.PlayFault.TheVariants.{Backwards, PastEnd, Memory}
use Rattle.cbm_drive.specs.Played.{HasPlayed}
use Rattle.cbm_drive.specs.Seats.{Seated, IsBusAt, IsWithout, wires_held_by}
use Rattle.cbm_volume.specs.Holding.{HoldsDisk}
use Rattle.cbm_device.specs.ImageDisks.{Counted, counted_seen}
use Rattle.cbm_device.specs.Plays.{HasPlayedAll, IsDiskIn, machine_of, drive_powered}

-- what nothing refutes isn't there
pub no_fault : (o : Option PlayFault) → ((f : PlayFault) → o ≡ Some f → ⊥) → o ≡ None
no_fault None k = refl
no_fault (Some f) k = absurd (k f refl)

by_tests : (n : ℕ) (a b : Bool) (rest : Option PlayFault) → (rest ≡ Some Memory → ⊥) → (if a then Some (Backwards n) else if b then Some (PastEnd n) else rest) ≡ Some Memory → ⊥
by_tests n true b rest k e = absurd cc
by_tests n false true rest k e = absurd cc
by_tests n false false rest k e = k e

-- no list of changes is at fault for want of memory
pub never_memory : (cs : List Change) (n before end : ℕ) → fault_of n before end cs ≡ Some Memory → ⊥
never_memory [] n before end e = absurd cc
never_memory (c ∷ cs) n before end e =
    by_tests n (nat_lt c.moment before) (nat_lt end c.moment) (fault_of (n + 1) c.moment end cs) (never_memory cs (n + 1) c.moment end) e

abbrev Seat : Type 0
Seat = Seated (Desk (Kept Counted))

abbrev stands : Desk (Kept Counted) → Desk Machine → Type 0
stands = DeskStands counted_seen

-- a drive that was switched on, on a bus of its own
pub on_bus : (b : Party) (m : Machine) (host : Lines) (xs : List Seat) (x : Seat) → host ≡ all_free → xs ≡ x ∷ [] → x.port ≡ resting b
    → stands x.machine (machine_of b m b.device) → IsBusAt (Desk (Kept Counted)) (Desk Machine) stands host xs (drive_powered b m)
on_bus b m host xs x free one port stand =
    subst (λ (h : Lines). IsBusAt (Desk (Kept Counted)) (Desk Machine) stands h xs (drive_powered b m)) (sym free)
    (subst (λ (ys : List Seat). IsBusAt (Desk (Kept Counted)) (Desk Machine) stands all_free ys (drive_powered b m)) (sym one) (record { port = port; machine = stand; rest = rest }, tt))
  where
    rest : IsWithout (wires_held_by all_free (x ∷ [])) x.port.own nobody
    rest = subst (λ (q : Port). IsWithout (wires_held_by all_free ((record { port = q; machine = x.machine }) ∷ [])) q.own nobody) (sym port) (record { host = refl; clocks = refl; datas = refl })

-- the machine's disk is in the drive
held_in : (x : Seat) (s : Station (Desk Machine)) (after : Counted) → after ≡ x.machine.dos.medium → stands x.machine s.machine
    → HoldsDisk (counted_seen after).tracks (counted_seen after).content s.machine.dos.disk
held_in x s after is stand = subst (λ k. HoldsDisk (counted_seen k).tracks (counted_seen k).content s.machine.dos.disk) (sym is) (means_of _ _ _ _ _ _ s.machine.dos stand.0.0)

pub played_all : (b : Party) (m : Machine) (changes : List Change) (end : ℕ) (old new : List Event) (host : Lines) (xs : List Seat) (after : Counted) → IsDiskIn xs after
    → HasPlayed (Desk (Kept Counted)) (Desk Machine) stands desk_step desk_says host (end + 1) xs old new changes (drive_powered b m) → HasPlayedAll b m changes end old new after
played_all b m changes end old new host xs after is h =
    by_stations h.stations h.plays (subst (λ (ys : List Seat). IsBusAt (Desk (Kept Counted)) (Desk Machine) stands host ys h.stations) is.1 h.now)
  where
    by_stations : (ss : List (Station (Desk Machine))) → Plays (Desk Machine) desk_step desk_says 0 (drive_powered b m) h.made h.from ss
        → IsBusAt (Desk (Kept Counted)) (Desk Machine) stands host (is.0 ∷ []) ss → HasPlayedAll b m changes end old new after
    by_stations [] plays now = absurd now
    by_stations (s ∷ []) plays now = record {
      made = h.made;
      from = h.from;
      station = s;
      added = h.added;
      plays = plays;
      hosts = h.hosts;
      within = h.before;
      holds = held_in is.0 s after is.2 now.0.machine;
    }
    by_stations (s ∷ t ∷ ss) plays now = absurd now.1
