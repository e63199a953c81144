-- A drive under a host whose changes are made one at a time.
use Rattle.std.proofs.Common.{◌≡◌, ℕ, ◌≤◌, ◌<◌, Bool, List, [], ◌∷◌, ◌++◌, Option, Some, None, refl, sym, ap, subst, ◌∙◌, arith, append_assoc, append-nil}
use Rattle.std.specs.Prelude.{IfSome}
use Rattle.std.specs.List.{AllZip}
use Rattle.std.specs.Io.KnownBytes.{Appends, Keeps}
use Rattle.cbm_iec.specs.declared.machine.Act.{Act}
use Rattle.cbm_iec.specs.declared.pace.Pace.{Pace}
use Rattle.cbm_iec.specs.declared.party.Party.{Party}
use Rattle.cbm_iec.specs.Ports.{resting}
use Rattle.cbm_iec.specs.declared.event.Event.{Event}
use Rattle.cbm_iec.specs.declared.event.Who.TheVariants.{Host, Drive}
use Rattle.cbm_iec.specs.declared.event.Who.{Who}
use Rattle.cbm_iec.specs.declared.lines.Change.{Change}
use Rattle.cbm_iec.specs.declared.lines.Lines.{Lines}
use Rattle.cbm_iec.specs.declared.port.Port.{Port}
use Rattle.cbm_medium.specs.Seen.{Seen}
use Rattle.cbm_session.specs.Playing.{Station, nobody, stays, Plays, IsByte}
use Rattle.cbm_machine.specs.Machines.{Machine}
use Rattle.cbm_drive.specs.Cables.{Cabled, all_free}
use Rattle.cbm_drive.specs.Desks.{Desk, DeskStands, desk_step, desk_says}
use Rattle.cbm_host.specs.Served.{at_power_up}
use Rattle.cbm_host.specs.Hosted.{party_of}
use Rattle.cbm_host.proofs.AnyDisk.{rest_played}
use Rattle.cbm_host.proofs.HostedAnyway.{rests_first_anyway}
use Rattle.cbm_drive.specs.Playback.{Shown, Playback, IsPlayedBack, played_says, played_step}
use Rattle.cbm_drive.specs.PlayedBack.{played_byte}
use Rattle.cbm_drive.specs.Ordered.{host_changes}
use Rattle.cbm_drive.specs.Players.{Turns, at_start, pending, IsDrives, IsTurnOf, IsGivenBefore, IsSecond, IsAfter, IsFinished}
use Rattle.cbm_drive.specs.Seats.{Seated, IsSeat, IsBusAt, IsWithout, wires_held_by}
use Rattle.cbm_program.specs.Output.{AppendsPart}
use Rattle.cbm_program.specs.Staging.{HasMade, IsAt, HasPlayedOn, HasPlayedPart, PlaysOn, Ends, IsReplayed, ReplaysOn, ReplaysTo, IsFresh}
use Rattle.bus_traces.specs.Events.{trace_text, event_text}
use Rattle.cbm_program.specs.Traces.{trace_powered, replaying}
use Rattle.bus_traces.proofs.Appending.{appends-nothing, appends-more, appends-kept, text_on, text_one}
use Rattle.cbm_program.proofs.OutputLemmas.{part_after, part_before}
use Rattle.cbm_drive.specs.KeptDesks.{KeptDesk}

-- ---- the host's changes

pub hosts_on : (xs ys : List Event) → host_changes (xs ++ ys) ≡ host_changes xs ++ host_changes ys
hosts_on [] ys = refl
hosts_on (x ∷ xs) ys = one x.who (hosts_on xs ys)
  where
    one : (w : Who) → host_changes (xs ++ ys) ≡ host_changes xs ++ host_changes ys → host_changes ((record { who = w; change = x.change }) ∷ (xs ++ ys)) ≡ host_changes ((record { who = w; change = x.change }) ∷ xs) ++ host_changes ys
    one Host e = ap (λ cs. x.change ∷ cs) e
    one (Drive d) e = e

-- a change of a drive is none of the host
pub of_drive : (e : Event) → IsDrives e.who → host_changes (e ∷ []) ≡ []
of_drive e h = one e.who h
  where
    one : (w : Who) → IsDrives w → host_changes ((record { who = w; change = e.change }) ∷ []) ≡ []
    one Host k = absurd k
    one (Drive d) k = refl

pub pending_hosts : (limit : ℕ) (second : Option Event) → IsGivenBefore limit second → host_changes (pending second) ≡ []
pending_hosts limit None h = refl
pending_hosts limit (Some e) h = of_drive e h.0

-- the host's change that waited
pub of_host : (e : Event) (c : Change) (was now : Option Change) → e.who ≡ Host → was ≡ Some c → IsTurnOf e.who e.change was now → host_changes (e ∷ []) ≡ c ∷ []
of_host e c was now host waits turn = one e.who host turn
  where
    one : (w : Who) → w ≡ Host → IsTurnOf w e.change was now → host_changes ((record { who = w; change = e.change }) ∷ []) ≡ c ∷ []
    one Host h t = (let same : Some e.change ≡ Some c = sym t.0 ∙ waits in ap (λ (x : Change). x ∷ []) (let z : e.change ≡ c = cc in z))
    one (Drive d) h t = absurd (cc)

-- of the host's change that waits, it or nothing is left
pub turn_rest : (e : Event) (c : Change) (was now : Option Change) → was ≡ Some c → IsTurnOf e.who e.change was now → (rest : List Change) × (host_changes (e ∷ []) ++ rest ≡ c ∷ [])
turn_rest e c was now waits turn = one e.who turn
  where
    one : (w : Who) → IsTurnOf w e.change was now → (rest : List Change) × (host_changes ((record { who = w; change = e.change }) ∷ []) ++ rest ≡ c ∷ [])
    one Host t = ([], (let same : Some e.change ≡ Some c = sym t.0 ∙ waits in let z : e.change ≡ c = cc in ap (λ (x : Change). x ∷ []) z))
    one (Drive d) t = (c ∷ [], refl)

-- what waits comes
pub what_comes : (w : Option Change) (c : Change) (P : Type 0) → w ≡ Some c → IfSome w (λ d. d.moment ≤ c.moment → P) → P
what_comes None c P e h = absurd (cc)
what_comes (Some d) c P e h = (let same : d ≡ c = cc in h (subst (λ (x : Change). d.moment ≤ x.moment) same (omega arith)))

-- ---- what was made of any machine above the drive

module _ (D S : Type 0) (step : S → Act → S) (says : S → Option (ℕ × Bool)) where
  -- nothing yet
  pub made_none : (stands : D → S → Type 0) (a : Option (List ℕ)) (p q : Turns) (b c : Cabled D) (ss : List (Station S)) (es : List Event) → p.second ≡ q.second → p.from ≡ q.from → c ≡ b → IsAfter D S stands step says p b 0 ss es
      → HasMade D S stands step says a a [] q c ss es
  made_none stands a p q b c ss es second from bus h = record {
    made = [];
    now = record {
      from = h.from;
      stations = h.stations;
      before = (let l = h.before in omega (arith, l, from));
      plays = subst (λ (v : List Event). Plays S step says 0 ss v h.from h.stations) ((λ i. sym (append-nil es) i ++ pending (second i))) h.plays;
      now = subst (λ (x : Cabled D). IsBusAt D S stands x.host x.drives h.stations) (sym bus) h.now;
      second = subst (λ o. IsSecond q.from o) second (subst (λ t. IsSecond t p.second) from h.second);
    };
    hosts = refl;
    written = appends-nothing a;
  }

  -- one event more was written
  pub made_event : (stood stands : D → S → Type 0) (a b c : Option (List ℕ)) (cs ds : List Change) (q r : Turns) (x y : Cabled D) (ss : List (Station S)) (es : List Event) (e : Event) → HasMade D S stood step says a b cs q x ss es
      → ((fs : List Event) → IsAfter D S stood step says q x 0 ss fs → IsAfter D S stands step says r y 0 ss (fs ++ e ∷ [])) → host_changes (e ∷ []) ≡ ds → Appends b c (event_text e) → HasMade D S stands step says a c (cs ++ ds) r y ss es
  made_event stood stands a b c cs ds q r x y ss es e h next hosts w = record {
    made = h.made ++ e ∷ [];
    now = subst (λ (v : List Event). IsAfter D S stands step says r y 0 ss v) (append_assoc es h.made (e ∷ [])) (next (es ++ h.made) h.now);
    hosts = hosts_on h.made (e ∷ []) ∙ (λ i. h.hosts i ++ hosts i);
    written = subst (λ t. Appends a c t) (sym (text_on h.made (e ∷ []) ∙ ap (λ t. trace_text h.made ++ t) (text_one e))) (appends-more a b c (trace_text h.made) (event_text e) h.written w);
  }

  -- one part after another
  pub made_then : (stood stands : D → S → Type 0) (a b c : Option (List ℕ)) (cs ds : List Change) (q r : Turns) (y z : Cabled D) (ss : List (Station S)) (es : List Event) (first : HasMade D S stood step says a b cs q y ss es)
      → HasMade D S stands step says b c ds r z ss (es ++ first.made) → HasMade D S stands step says a c (cs ++ ds) r z ss es
  made_then stood stands a b c cs ds q r y z ss es first second = record {
    made = first.made ++ second.made;
    now = subst (λ (v : List Event). IsAfter D S stands step says r z 0 ss v) (append_assoc es first.made second.made) second.now;
    hosts = hosts_on first.made second.made ∙ (λ i. first.hosts i ++ second.hosts i);
    written = subst (λ t. Appends a c t) (sym (text_on first.made second.made)) (appends-more a b c (trace_text first.made) (trace_text second.made) first.written second.written);
  }

  -- and then nothing was written
  pub made_kept : (stands : D → S → Type 0) (a b c : Option (List ℕ)) (cs : List Change) (q : Turns) (y : Cabled D) (ss : List (Station S)) (es : List Event) → HasMade D S stands step says a b cs q y ss es → Keeps b c → HasMade D S stands step says a c cs q y ss es
  made_kept stands a b c cs q y ss es h k = record { made = h.made; now = h.now; hosts = h.hosts; written = appends-kept a b c (trace_text h.made) h.written k }

-- ---- on any disk, a machine that plays back

module _ {D : Type 0} (shows : D → Shown) where
  pub replays_none : (a : Option (List ℕ)) (p q : Turns) (b c : Cabled D) → p.second ≡ q.second → p.from ≡ q.from → c ≡ b → ReplaysOn shows a a [] p b q c
  replays_none a p q b c second from bus = ([], λ later ss es h. made_none D Playback played_step played_says (IsPlayedBack shows later) a p q b c ss es second from bus h)

  pub replays_event : (a b c : Option (List ℕ)) (cs ds : List Change) (p q r : Turns) (x y z : Cabled D) (e : Event) → ReplaysOn shows a b cs p x q y
      → (trail : List Shown) × ((later : List Shown) (ss : List (Station Playback)) (fs : List Event) → IsReplayed shows (trail ++ later) q y ss fs → IsReplayed shows later r z ss (fs ++ e ∷ []))
      → host_changes (e ∷ []) ≡ ds → Appends b c (event_text e) → ReplaysOn shows a c (cs ++ ds) p x r z
  replays_event a b c cs ds p q r x y z e f next hosts w = (
    f.0 ++ next.0,
    λ later ss es h. made_event D Playback played_step played_says (IsPlayedBack shows (next.0 ++ later)) (IsPlayedBack shows later) a b c cs ds q r y z ss es e
        (f.1 (next.0 ++ later) ss es (subst (λ (v : List Shown). IsReplayed shows v p x ss es) (append_assoc f.0 next.0 later) h)) (λ fs at_. next.1 later ss fs at_) hosts w,
  )

  pub replays_then : (a b c : Option (List ℕ)) (cs ds : List Change) (p q r : Turns) (x y z : Cabled D) → ReplaysOn shows a b cs p x q y → ReplaysOn shows b c ds q y r z → ReplaysOn shows a c (cs ++ ds) p x r z
  replays_then a b c cs ds p q r x y z f g = (
    f.0 ++ g.0,
    λ later ss es h.
        (let first = f.1 (g.0 ++ later) ss es (subst (λ (v : List Shown). IsReplayed shows v p x ss es) (append_assoc f.0 g.0 later) h) in
        made_then D Playback played_step played_says (IsPlayedBack shows (g.0 ++ later)) (IsPlayedBack shows later) a b c cs ds q r y z ss es first (g.1 later ss (es ++ first.made) first.now)),
  )

  pub replays_kept : (a b c : Option (List ℕ)) (cs : List Change) (p q : Turns) (x y : Cabled D) → ReplaysOn shows a b cs p x q y → Keeps b c → ReplaysOn shows a c cs p x q y
  replays_kept a b c cs p q x y f k = (f.0, λ later ss es h. made_kept D Playback played_step played_says (IsPlayedBack shows later) a b c cs q y ss es (f.1 later ss es h) k)

  -- nothing more comes: all is over
  pub replays_over : (a b : Option (List ℕ)) (end : ℕ) (p q r : Turns) (x y z : Cabled D) → ReplaysOn shows a b [] p x q y
      → (trail : List Shown) × ((later : List Shown) (ss : List (Station Playback)) (fs : List Event) → IsReplayed shows (trail ++ later) q y ss fs → IsFinished D Playback (IsPlayedBack shows later) played_step played_says r z end 0 ss fs)
      → ReplaysTo shows a b end p x r z
  replays_over a b end p q r x y z f over = (
    f.0 ++ over.0,
    λ later ss es h.
        (let first = f.1 (over.0 ++ later) ss es (subst (λ (v : List Shown). IsReplayed shows v p x ss es) (append_assoc f.0 over.0 later) h) in
        record { made = first.made; now = over.1 later ss (es ++ first.made) first.now; hosts = first.hosts; written = first.written }),
  )

  -- what it says is a byte
  a_byte : (o : Option (ℕ × Bool)) → ((n : ℕ) (last : Bool) → o ≡ Some (n, last) → n < 256) → IsByte Playback played_step played_says o
  a_byte None h = tt
  a_byte (Some x) h = h x.0 x.1 refl

  seat_byte : (drive : Party) (trail : List Shown) (host : Lines) (all xs : List (Seated D)) (m : Playback) → AllZip (IsSeat D Playback (IsPlayedBack shows trail) (wires_held_by host all)) xs (replaying drive m) → IsByte Playback played_step played_says (played_says m)
  seat_byte drive trail host all [] m h = absurd h
  seat_byte drive trail host all (x ∷ xs) m h = a_byte (played_says m) (λ n l said. played_byte shows trail x.machine m n l h.0.machine said)

  -- a drive at power up
  pub starts_fresh : (pace : Pace) (device : ℕ) (p : Turns) (b : Cabled D) (x : Seated D) → p ≡ at_start → b.host ≡ all_free → b.drives ≡ x ∷ [] → x.port ≡ resting (party_of pace device) → IfSome (shows x.machine) (λ s. s.0 < 256) → IsFresh shows (party_of pace device) p b
  starts_fresh pace device p b x start free one port byte = λ trail.
      let r = rest_played shows (party_of pace device) b trail (rests_first_anyway shows pace device b x free one port byte) in (
        r.0,
        record {
          from = 0;
          stations = replaying (party_of pace device) r.0;
          before = omega arith;
          plays = stays (seat_byte (party_of pace device) trail b.host b.drives b.drives r.0 r.1, tt) (ap (λ (q : Turns). pending q.second) start) refl refl;
          now = r.1;
          second = subst (λ (q : Turns). IsSecond q.from q.second) (sym start) tt;
        },
      )

module _ {M : Type 0} (seen : M → Seen) where
  -- a drive at power up
  pub starts_at : (drive : Party) (m : Machine) (p : Turns) (b : Cabled (KeptDesk M)) (x : Seated (KeptDesk M)) → p ≡ at_start → b.host ≡ all_free → b.drives ≡ x ∷ [] → x.port ≡ resting drive → DeskStands seen x.machine (at_power_up drive.pace drive.device m)
      → IsAt seen p b (trace_powered drive m) []
  starts_at drive m p b x start free one port stands = record {
    from = 0;
    stations = trace_powered drive m;
    before = omega arith;
    plays = stays (tt, tt) (ap (λ (q : Turns). pending q.second) start) refl refl;
    now = subst (λ (h : Lines). IsBusAt (KeptDesk M) (Desk Machine) (DeskStands seen) h b.drives (trace_powered drive m)) (sym free)
        (subst (λ (xs : List (Seated (KeptDesk M))). IsBusAt (KeptDesk M) (Desk Machine) (DeskStands seen) all_free xs (trace_powered drive m)) (sym one) seat);
    second = subst (λ (q : Turns). IsSecond q.from q.second) (sym start) tt;
  }
    where
      rest : IsWithout (wires_held_by all_free (x ∷ [])) x.port.own nobody
      rest = subst (λ (q : Port). IsWithout (wires_held_by all_free ((record { port = q; machine = x.machine }) ∷ [])) q.own nobody) (sym port) (record { host = refl; clocks = refl; datas = refl })

      seat : IsBusAt (KeptDesk M) (Desk Machine) (DeskStands seen) all_free (x ∷ []) (trace_powered drive m)
      seat = (record { port = port; machine = stands; rest = rest }, tt)

  -- ---- what was played

  pub none_played : (a : Option (List ℕ)) (p q : Turns) (b c : Cabled (KeptDesk M)) → p.second ≡ q.second → p.from ≡ q.from → c ≡ b → PlaysOn seen a a [] p b q c
  none_played a p q b c second from bus ss es h = made_none (KeptDesk M) (Desk Machine) desk_step desk_says (DeskStands seen) a p q b c ss es second from bus h

  -- one event more was written
  pub played_event : (a b c : Option (List ℕ)) (cs ds : List Change) (q r : Turns) (x y : Cabled (KeptDesk M)) (ss : List (Station (Desk Machine))) (es : List Event) (e : Event) → HasPlayedOn seen a b cs q x ss es
      → ((fs : List Event) → IsAt seen q x ss fs → IsAt seen r y ss (fs ++ e ∷ [])) → host_changes (e ∷ []) ≡ ds → Appends b c (event_text e) → HasPlayedOn seen a c (cs ++ ds) r y ss es
  played_event a b c cs ds q r x y ss es e h next hosts w = made_event (KeptDesk M) (Desk Machine) desk_step desk_says (DeskStands seen) (DeskStands seen) a b c cs ds q r x y ss es e h next hosts w

  -- the text of one event more broke off
  pub part_event : (a b c : Option (List ℕ)) (cs ds rest : List Change) (limit : ℕ) (q r : Turns) (x y : Cabled (KeptDesk M)) (ss : List (Station (Desk Machine))) (es : List Event) (e : Event) → HasPlayedOn seen a b cs q x ss es
      → ((fs : List Event) → IsAt seen q x ss fs → IsAt seen r y ss (fs ++ e ∷ [])) → host_changes (e ∷ []) ++ rest ≡ ds → IsGivenBefore limit r.second → AppendsPart b c (event_text e) → HasPlayedPart seen a c (cs ++ ds) ss es
  part_event a b c cs ds rest limit q r x y ss es e h next hosts given w =
      let after = next (es ++ h.made) h.now in
      let made : List Event = h.made ++ (e ∷ pending r.second) in
      record {
        made = made;
        rest = rest;
        from = after.from;
        stations = after.stations;
        plays = subst (λ (v : List Event). Plays (Desk Machine) desk_step desk_says 0 ss v after.from after.stations)
            (append_assoc (es ++ h.made) (e ∷ []) (pending r.second) ∙ append_assoc es h.made (e ∷ pending r.second)) after.plays;
        hosts = ap (λ v. v ++ rest) (hosts_on h.made (e ∷ pending r.second) ∙ ap (λ v. host_changes h.made ++ v) (hosts_on (e ∷ []) (pending r.second) ∙ ap (λ v. host_changes (e ∷ []) ++ v) (pending_hosts limit r.second given) ∙ append-nil (host_changes (e ∷ []))))
            ∙ append_assoc (host_changes h.made) (host_changes (e ∷ [])) rest ∙ (λ i. h.hosts i ++ hosts i);
        written = subst (λ t. AppendsPart a c t) (sym (text_on h.made (e ∷ pending r.second))) (part_after a b c (trace_text h.made) (trace_text (e ∷ pending r.second)) h.written (part_before b c (event_text e) (trace_text (pending r.second)) w));
      }

  -- nothing more comes: all is over
  pub ended_on : (a b : Option (List ℕ)) (end : ℕ) (p q r : Turns) (x y z : Cabled (KeptDesk M)) → PlaysOn seen a b [] p x q y
      → ((ss : List (Station (Desk Machine))) (fs : List Event) → IsAt seen q y ss fs → IsFinished (KeptDesk M) (Desk Machine) (DeskStands seen) desk_step desk_says r z end 0 ss fs) → Ends seen a b end p x r z
  ended_on a b end p q r x y z on over ss es h = (let first = on ss es h in record { made = first.made; now = over ss (es ++ first.made) first.now; hosts = first.hosts; written = first.written })
