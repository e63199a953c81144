-- Drives play on: a reaction is one step of the play.
use Rattle.std.proofs.Common.{◌≡◌, ℕ, suc, ◌+◌, ◌<◌, ◌≤◌, Bool, List, [], ◌∷◌, ◌++◌, map, Option, Some, None, refl, sym, ap, ◌∙◌, arith}
use Rattle.std.proofs.lemmas.List.{append_assoc, append-nil}
use Rattle.std.specs.List.{AllZip}
use Rattle.cbm_iec.specs.declared.machine.Act.{Act}
use Rattle.cbm_iec.specs.declared.event.Event.{Event}
use Rattle.cbm_iec.specs.declared.event.Who.TheVariants.{Host, Drive}
use Rattle.cbm_iec.specs.declared.event.Who.{Who}
use Rattle.cbm_iec.specs.declared.lines.Change.{Change}
use Rattle.cbm_iec.specs.declared.lines.Lines.{Lines}
use Rattle.cbm_session.specs.Playing.{Station, Plays, stays, change, reaction, tell, host_event, AllBytes, IsByte, reacting, shown, drive_events}
use Rattle.cbm_session.proofs.headline.Keeping.{plays_then}
use Rattle.cbm_drive.specs.declared.wires.Wires.{Wires}
use Rattle.cbm_drive.specs.Played.{HasSettled}
use Rattle.cbm_drive.specs.Ordered.{host_changes, with_host}
use Rattle.cbm_drive.proofs.Reacted.{stations_in_time}
use Rattle.cbm_drive.specs.Reactions.{HasReacted}
use Rattle.cbm_drive.specs.Seats.{Seated, IsSeat, IsBusAt, AreInTime, wires_held_by}

pub host_append : (xs ys : List Event) → host_changes (xs ++ ys) ≡ host_changes xs ++ host_changes ys
host_append [] ys = refl
host_append (e ∷ es) ys = ap (with_host e.who e.change) (host_append es ys) ∙ joined e.who
  where
    joined : (w : Who) → with_host w e.change (host_changes es ++ host_changes ys) ≡ with_host w e.change (host_changes es) ++ host_changes ys
    joined Host = refl
    joined (Drive d) = refl

pub drive_none : (d : ℕ) (cs : List Change) → host_changes (drive_events d cs) ≡ []
drive_none d [] = refl
drive_none d (c ∷ cs) = drive_none d cs

both_none : (xs : List Event) (d : ℕ) (cs : List Change) → host_changes xs ≡ [] → host_changes (xs ++ drive_events d cs) ≡ []
both_none xs d cs e = host_append xs (drive_events d cs) ∙ (λ i. e i ++ drive_none d cs i)

module _ (D M : Type 0) (stands : D → M → Type 0) (step : M → Act → M) (says : M → Option (ℕ × Bool)) (byte : (x : D) (m : M) (n : ℕ) (last : Bool) → stands x m → says m ≡ Some (n, last) → n < 256) where
  one_byte : (x : D) (m : M) (o : Option (ℕ × Bool)) → stands x m → says m ≡ o → IsByte M step says o
  one_byte x m None h e = tt
  one_byte x m (Some b) h e = byte x m b.0 b.1 h e

  -- what each has to say is a byte
  pub bytes_of : (all : Wires) (xs : List (Seated D)) (ss : List (Station M)) → AllZip (IsSeat D M stands all) xs ss → AllBytes M step says ss
  bytes_of all [] [] h = tt
  bytes_of all [] (s ∷ ss) h = absurd h
  bytes_of all (x ∷ xs) [] h = absurd h
  bytes_of all (x ∷ xs) (s ∷ ss) h = (one_byte x.machine s.machine (says s.machine) h.0.machine refl, bytes_of all xs ss h.1)

  pub at_bus : (host : Lines) (xs : List (Seated D)) (ss : List (Station M)) → IsBusAt D M stands host xs ss → AllBytes M step says ss
  at_bus host xs ss h = bytes_of (wires_held_by host xs) xs ss h

  -- nothing has happened yet
  pub settled_none : (host : Lines) (limit : ℕ) (xs : List (Seated D)) (es : List Event) (n : ℕ) (ss : List (Station M)) → IsBusAt D M stands host xs ss → n ≤ limit → HasSettled D M stands step says host limit xs es es n ss
  settled_none host limit xs es n ss h l = record {
    made = [];
    from = n;
    stations = ss;
    added = sym (append-nil es);
    plays = stays (at_bus host xs ss h) refl refl refl;
    quiet = refl;
    before = l;
    now = h;
  }

-- one step more: of what stood for the stations before, something stands after it
module _ (D M : Type 0) (stood stands : D → M → Type 0) (step : M → Act → M) (says : M → Option (ℕ × Bool)) (byte : (x : D) (m : M) (n : ℕ) (last : Bool) → stood x m → says m ≡ Some (n, last) → n < 256)
    (byte_now : (x : D) (m : M) (n : ℕ) (last : Bool) → stands x m → says m ≡ Some (n, last) → n < 256) where
  one_step : (host : Lines) (t n device : ℕ) (xs ys : List (Seated D)) (cs : List Change) (ss : List (Station M)) → IsBusAt D M stood host xs ss → (r : HasReacted D M stands step says host t device ys cs ss)
      → Plays M step says n ss (drive_events device cs) (suc t) (reacting M step says t r.before r.station r.afterwards)
  one_step host t n device xs ys cs ss h r =
      let made : drive_events device cs ≡ drive_events r.station.port.party.device (shown M step says t r.station) ++ [] =
      (λ i. drive_events (r.which i) (r.changes i)) ∙ sym (append-nil (drive_events r.station.port.party.device (shown M step says t r.station))) in
      reaction t r.before r.station r.afterwards [] (at_bus D M stood step says byte host xs ss h) r.is r.first made
      (stays (at_bus D M stands step says byte_now host ys (reacting M step says t r.before r.station r.afterwards) r.now) refl refl refl)

  -- one reaction more
  pub settled_more : (host : Lines) (limit t device n : ℕ) (xs ys : List (Seated D)) (cs : List Change) (old mid new : List Event) (ss : List (Station M)) → (s : HasSettled D M stood step says host limit xs old mid n ss)
      → HasReacted D M stands step says host t device ys cs s.stations → t < limit → new ≡ mid ++ drive_events device cs → HasSettled D M stands step says host limit ys old new n ss
  settled_more host limit t device n xs ys cs old mid new ss s r l e = record {
    made = s.made ++ drive_events device cs;
    from = suc t;
    stations = reacting M step says t r.before r.station r.afterwards;
    added = e ∙ ap (λ (v : List Event). v ++ drive_events device cs) s.added ∙ append_assoc old s.made (drive_events device cs);
    plays = plays_then M step says s.plays (one_step host t s.from device xs ys cs s.stations s.now r);
    quiet = both_none s.made device cs s.quiet;
    before = omega (arith, l);
    now = r.now;
  }

  -- the first reaction that shows something
  pub settled_to : (host : Lines) (limit t device n : ℕ) (xs ys : List (Seated D)) (cs : List Change) (ss : List (Station M)) → (s : HasSettled D M stood step says host limit xs [] [] n ss)
      → HasReacted D M stands step says host t device ys cs s.stations → HasSettled D M stands step says host (t + 1) ys [] (drive_events device cs) n ss
  settled_to host limit t device n xs ys cs ss s r = record {
    made = s.made ++ drive_events device cs;
    from = suc t;
    stations = reacting M step says t r.before r.station r.afterwards;
    added = ap (λ (v : List Event). v ++ drive_events device cs) s.added;
    plays = plays_then M step says s.plays (one_step host t s.from device xs ys cs s.stations s.now r);
    quiet = both_none s.made device cs s.quiet;
    before = omega arith;
    now = r.now;
  }

  -- the host changes a line, where no reaction is due before
  pub one_change : (host now : Lines) (c : Change) (n : ℕ) (xs ys : List (Seated D)) (ss : List (Station M)) → IsBusAt D M stood host xs ss → AreInTime c.moment xs → n ≤ c.moment → IsBusAt D M stands now ys (map (λ s. tell M step says c s) ss)
      → Plays M step says n ss (host_event c ∷ []) c.moment (map (λ s. tell M step says c s) ss)
  one_change host now c n xs ys ss h t l k =
      change c [] (at_bus D M stood step says byte host xs ss h) l (stations_in_time D M stood step says (wires_held_by host xs) c.moment xs ss h t) refl (stays (at_bus D M stands step says byte_now now ys (map (λ s. tell M step says c s) ss) k) refl refl refl)
