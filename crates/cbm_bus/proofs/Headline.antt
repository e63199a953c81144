-- What a play of drives with disks leaves: each medium holds the disk of the machine that its drive stands for.
use Rattle.std.proofs.Common.{◌≡◌, ℕ, ◌+◌, Bool, false, List, [], ◌∷◌, Option, Some, None, refl, sym, subst, ◌∙◌, arith}
use Rattle.std.specs.List.{AllZip}
use Rattle.std.specs.Prelude.{Result, Ok, Err, OnOk, MatchResult, map}
use Rattle.cbm_iec.specs.Ports.{port_due}
use Rattle.cbm_iec.specs.declared.machine.Act.TheVariants.{Said}
use Rattle.cbm_iec.specs.declared.event.Event.{Event}
use Rattle.cbm_iec.specs.declared.lines.Change.{Change}
use Rattle.cbm_iec.specs.declared.lines.Lines.{Lines}
use Rattle.cbm_iec.specs.declared.party.Party.{Party}
use Rattle.cbm_medium.specs.Seen.{Seen}
use Rattle.cbm_channel.proofs.Stands.{means_of}
use Rattle.cbm_machine.specs.Machines.{Machine}
use Rattle.cbm_channel.specs.Standing.{Kept}
use Rattle.cbm_session.proofs.headline.LawsMet.{keeps}
use Rattle.cbm_session.proofs.loose.Loosely.{keeps_loosely}
use Rattle.cbm_session.specs.Following.{IsInTime}
use Rattle.cbm_session.specs.Playing.{Station, AllInTime, AllLater, IsLaterDue, at_rest}
use Rattle.cbm_drive.specs.Cables.{Cabled}
use Rattle.cbm_drive.specs.Desks.{Desk, DeskStands, desk_step, desk_says}
use Rattle.cbm_session.specs.Sessions.{IsBus}
use Rattle.cbm_drive.proofs.Reacted.{stations_in_time}
use Rattle.cbm_drive.specs.declared.fault.PlayFault.{PlayFault}
use Rattle.cbm_drive.specs.Played.{HasPlayed, IsPlayCut}
use Rattle.cbm_drive.specs.Seats.{Seated, AreInTime, IsBusAt, IsSeat, wires_held_by}
use Rattle.cbm_bus.proofs.Parties.{plays_parties, rest_parties}
use Rattle.cbm_bus.specs.Headline.{HasDisk, AreDisks, HasPlayedFiles, HasPlayedFilesLoosely}

module _ {M : Type 0} (seen : M → Seen) where
  -- each medium means its machine's disk
  media : (h : Lines) (all : List (Seated (Desk (Kept M)))) (xs : List (Seated (Desk (Kept M)))) (ss : List (Station (Desk Machine))) → AllZip (IsSeat (Desk (Kept M)) (Desk Machine) (DeskStands seen) (wires_held_by h all)) xs ss
      → AllZip (λ x s. HasDisk seen s.machine.dos.disk x) xs ss
  media l all [] [] h = tt
  media l all [] (s ∷ ss) h = absurd h
  media l all (x ∷ xs) [] h = absurd h
  media l all (x ∷ xs) (s ∷ ss) h = (means_of _ _ _ _ _ _ s.machine.dos h.0.machine.0.0, media l all xs ss h.1)

  mean : (xs : List (Seated (Desk (Kept M)))) (ss : List (Station (Desk Machine))) → AllZip (λ x s. HasDisk seen s.machine.dos.disk x) xs ss
      → AllZip (λ x d. HasDisk seen d x) xs (map (λ s. s.machine.dos.disk) ss)
  mean [] [] h = tt
  mean [] (s ∷ ss) h = absurd h
  mean (x ∷ xs) [] h = absurd h
  mean (x ∷ xs) (s ∷ ss) h = (h.0, mean xs ss h.1)

  -- drives that stand for stations have sound disks
  pub are_disks : (b : Cabled (Desk (Kept M))) (ss : List (Station (Desk Machine))) → IsBusAt (Desk (Kept M)) (Desk Machine) (DeskStands seen) b.host b.drives ss → AreDisks seen b
  are_disks b ss h = (map (λ s. s.machine.dos.disk) ss, mean b.drives ss (media b.host b.drives b.drives ss h))

  -- the same after a play, whether it came to its end or not
  pub disks_after : {A E : Type 0} (r : Result A E) (end : ℕ) (b : Cabled (Desk (Kept M))) (old new : List Event) (cs : List Change) (ss : List (Station (Desk Machine)))
      → MatchResult r (λ x. HasPlayed (Desk (Kept M)) (Desk Machine) (DeskStands seen) desk_step desk_says b.host end b.drives old new cs ss)
      (λ e. IsPlayCut (Desk (Kept M)) (Desk Machine) (DeskStands seen) desk_step desk_says b.host b.drives old new cs ss)
      → AreDisks seen b
  disks_after (Ok x) end b old new cs ss h = are_disks b h.stations h.now
  disks_after (Err e) end b old new cs ss h = are_disks b h.stations h.now

  -- and where the list was refused nothing was played
  pub disks_either : {A : Type 0} (r : Result A PlayFault) (o : Option PlayFault) (end : ℕ) (b now : Cabled (Desk (Kept M))) (old new : List Event) (cs : List Change) (ss : List (Station (Desk Machine))) → IsBusAt (Desk (Kept M)) (Desk Machine) (DeskStands seen) b.host b.drives ss
      → ((f : PlayFault) → o ≡ Some f → now ≡ b)
      → (o ≡ None → MatchResult r (λ x. HasPlayed (Desk (Kept M)) (Desk Machine) (DeskStands seen) desk_step desk_says now.host end now.drives old new cs ss)
      (λ e. IsPlayCut (Desk (Kept M)) (Desk Machine) (DeskStands seen) desk_step desk_says now.host now.drives old new cs ss))
      → AreDisks seen now
  disks_either r None end b now old new cs ss h same played = disks_after r end now old new cs ss (played refl)
  disks_either r (Some f) end b now old new cs ss h same played = subst (λ x. AreDisks seen x) (sym (same f refl)) (are_disks b ss h)

  later : (end : ℕ) (ss : List (Station (Desk Machine))) → AllInTime (Desk Machine) desk_step desk_says (end + 1) ss → AllLater (Desk Machine) desk_step desk_says end ss
  later end [] h = tt
  later end (s ∷ ss) h = (one (port_due s.port) h.0, later end ss h.1)
    where
      one : (o : Option ℕ) → IsInTime (end + 1) o → IsLaterDue end o
      one None k = tt
      one (Some t) k = omega (arith, k)

  -- the play, and what it is under a host that keeps the timing
  played_files : ((m : Desk Machine) (n : ℕ) → desk_says m ≡ Some (n, false) → (x : ℕ × Bool) × (desk_says (desk_step m (Said n false)) ≡ Some x)) → (bs : List Party) (ms : ℕ → Desk Machine) (end : ℕ) (cs : List Change) (b : Cabled (Desk (Kept M))) (old new : List Event) → IsBus bs
      → AreInTime (end + 1) b.drives → HasPlayed (Desk (Kept M)) (Desk Machine) (DeskStands seen) desk_step desk_says b.host (end + 1) b.drives old new cs (at_rest (Desk Machine) desk_step desk_says ms bs)
      → HasPlayedFilesLoosely seen bs ms end cs b old new
  played_files more bs ms end cs b old new is_bus quiet p = record {
    play = record {
      made = p.made;
      now = p.stations;
      added = p.added;
      hosts = p.hosts;
      disks = media b.host b.drives b.drives p.stations p.now;
      session = λ timing. keeps (Desk Machine) desk_step desk_says bs ms p.from end p.made p.stations is_bus (record { more = more }) p.plays quiet_now timing;
      stand = record { parties = plays_parties (Desk Machine) desk_step desk_says p.plays ∙ rest_parties (Desk Machine) desk_step desk_says ms bs; each = p.now };
    };
    loosely = λ timing. keeps_loosely (Desk Machine) desk_step desk_says bs ms p.from end p.made p.stations is_bus (record { more = more }) p.plays (let b = p.before in omega (arith, b)) quiet_now timing;
  }
    where
      quiet_now : AllLater (Desk Machine) desk_step desk_says end p.stations
      quiet_now = later end p.stations (stations_in_time (Desk (Kept M)) (Desk Machine) (DeskStands seen) desk_step desk_says (wires_held_by b.host b.drives) (end + 1) b.drives p.stations p.now quiet)

  pub loose : {A E : Type 0} (r : Result A E) → ((m : Desk Machine) (n : ℕ) → desk_says m ≡ Some (n, false) → (x : ℕ × Bool) × (desk_says (desk_step m (Said n false)) ≡ Some x)) → (bs : List Party) (ms : ℕ → Desk Machine) (end : ℕ) (cs : List Change) (b : Cabled (Desk (Kept M))) (old new : List Event)
      → IsBus bs → OnOk r (AreInTime (end + 1) b.drives)
      → MatchResult r (λ x. HasPlayed (Desk (Kept M)) (Desk Machine) (DeskStands seen) desk_step desk_says b.host (end + 1) b.drives old new cs (at_rest (Desk Machine) desk_step desk_says ms bs))
      (λ e. IsPlayCut (Desk (Kept M)) (Desk Machine) (DeskStands seen) desk_step desk_says b.host b.drives old new cs (at_rest (Desk Machine) desk_step desk_says ms bs))
      → OnOk r (HasPlayedFilesLoosely seen bs ms end cs b old new)
  loose (Ok x) more bs ms end cs b old new is_bus quiet played = played_files more bs ms end cs b old new is_bus quiet played
  loose (Err e) more bs ms end cs b old new is_bus quiet played = tt

  -- the play without its loose host
  pub headline : {A E : Type 0} (r : Result A E) (bs : List Party) (ms : ℕ → Desk Machine) (end : ℕ) (cs : List Change) (b : Cabled (Desk (Kept M))) (old new : List Event)
      → OnOk r (HasPlayedFilesLoosely seen bs ms end cs b old new) → OnOk r (HasPlayedFiles seen bs ms end cs b old new)
  headline (Ok x) bs ms end cs b old new h = h.play
  headline (Err e) bs ms end cs b old new h = tt
