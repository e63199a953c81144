-- A script of line changes that is played, line by line.
use Rattle.cbm_iec.specs.declared.party.Party.{Party}
use Rattle.std.proofs.Common.{◌≡◌, ℕ, ◌+◌, ◌≤◌, List, [], ◌∷◌, ◌++◌, Option, Some, None, refl, sym, ap, subst, ◌∙◌, inl, inr, arith, append_assoc, append-nil, length, drop}
use Rattle.std.specs.Prelude.{IfSome, Result, Err, codes}
use Rattle.std.specs.Io.KnownBytes.{Appends, Keeps}
use Rattle.cbm_iec.specs.Ports.{port_due}
use Rattle.cbm_iec.specs.declared.event.Event.{Event}
use Rattle.cbm_iec.specs.declared.lines.Change.{Change}
use Rattle.cbm_iec.specs.declared.port.Port.{Port}
use Rattle.cbm_medium.specs.Seen.{Seen}
use Rattle.cbm_session.specs.Following.{IsInTime}
use Rattle.cbm_session.specs.Playing.{Station, Plays, IsLaterDue}
use Rattle.cbm_session.specs.Sessions.{IsBus, IsDrive}
use Rattle.cbm_machine.specs.Machines.{Machine}
use Rattle.cbm_drive.specs.Cables.{Cabled}
use Rattle.cbm_drive.specs.Desks.{Desk, DeskStands, desk_step, desk_says, desk_shows}
use Rattle.cbm_drive.specs.Playback.{Shown, Playback, IsPlayedBack, played_says, played_step}
use Rattle.cbm_drive.specs.Ordered.{host_changes, latest}
use Rattle.cbm_drive.specs.Players.{Turns, IsOpen, pending}
use Rattle.cbm_drive.specs.Seats.{Seated, IsBusAt, AreInTime, AreLater, numbers}
use Rattle.bus_traces.specs.Lines.{lines_of, TakesLine}
use Rattle.cbm_program.specs.Output.{AppendsPart, AppendsMore}
use Rattle.cbm_program.specs.Running.{EndsAs}
use Rattle.cbm_program.specs.Staging.{IsAt, IsBorne, IsFresh, PlaysOn, PlaysPart, Ends, ReplaysOn, ReplaysTo, tracks_of_drives}
use Rattle.cbm_program.specs.TimedReading.{ReadsTimed, LacksTimed, TimedRead, IsBadAfter, AfterEndRead}
use Rattle.cbm_program.specs.Timetables.{Timetable, timetable_of, timetable_from, timed_meaning, with_timed, stopped_at, ended_at, latest_if, bad_after}
use Rattle.bus_traces.specs.Events.{trace_text}
use Rattle.cbm_program.specs.Traces.{PrintsTrace, PrintsTracePart, trace_powered, replaying, HasWritten, WritesTrace}
use Rattle.cbm_program.specs.declared.fault.RunFault.{RunFault}
use Rattle.cbm_program.specs.declared.fault.RunFault.TheVariants.{Script, Image, Memory, Reading, Writing}
use Rattle.cbm_program.specs.declared.wires.timed.Timed.{Timed}
use Rattle.cbm_program.specs.declared.wires.timed.Timed.TheVariants.{Skipped, Changes, Ends as EndsAt}
use Rattle.bus_traces.proofs.Appending.{appends-more, appends-kept, text_on}
use Rattle.cbm_program.proofs.OutputLemmas.{part_after, whole_part}
use Rattle.cbm_program.proofs.Staging.{hosts_on, made_then, made_kept, replays_none, replays_then, replays_kept}
use Rattle.cbm_drive.specs.KeptDesks.{KeptDesk, DosStands}

-- ---- the lines of a timetable

-- changes in front of it
abbrev afterwards : List Change → Timetable → Timetable
afterwards done t = record { changes = done ++ t.changes; end = t.end; bad = t.bad }

changes_in : Timed → List Change
changes_in Skipped = []
changes_in (Changes c) = c ∷ []
changes_in (EndsAt end) = []

at_line : (n from : ℕ) (bytes : List ℕ) (lines : List (List ℕ)) (timed : Option Timed) → timed_meaning n from bytes ≡ timed
    → timetable_from n from (bytes ∷ lines) ≡ with_timed timed n (bad_after (n + 1) lines) (timetable_from (n + 1) (latest_if from timed) lines)
unfolding timetable_from
at_line n from bytes lines timed e = ap (λ o. with_timed o n (bad_after (n + 1) lines) (timetable_from (n + 1) (latest_if from o) lines)) e

at_end : (n from : ℕ) → timetable_from n from [] ≡ stopped_at n
unfolding timetable_from
at_end n from = refl

-- what the input asks is what is done, and then what is left asks
abbrev Follows : Option (List ℕ) → Option (List ℕ) → ℕ → ℕ → List Change → Type 0
Follows None left n from done = Unit {0}
Follows (Some xs) None n from done = ⊥
Follows (Some xs) (Some ys) n from done = timetable_of xs ≡ afterwards done (timetable_from n from (lines_of ys))

follows_start : (x l : Option (List ℕ)) → TakesLine x l (codes "lines") → Follows x l 2 0 []
follows_start None l t = tt
follows_start (Some xs) None t = absurd t
follows_start (Some xs) (Some ys) t = ap (λ (ls : List (List ℕ)). timetable_from 2 0 (drop 1 ls)) t

follows_skipped : (x l k : Option (List ℕ)) (n from : ℕ) (done : List Change) → Follows x l n from done → ReadsTimed l k n from Skipped → Follows x k (n + 1) from done
follows_skipped None l k n from done f t = tt
follows_skipped (Some xs) None k n from done f t = absurd f
follows_skipped (Some xs) (Some ys) None n from done f t = absurd t
follows_skipped (Some xs) (Some ys) (Some zs) n from done f (bytes, e, means) =
    f ∙ ap (afterwards done) (ap (timetable_from n from) e ∙ at_line n from bytes (lines_of zs) (Some Skipped) means)

follows_change : (x l k : Option (List ℕ)) (n from : ℕ) (done : List Change) (c : Change) → Follows x l n from done → ReadsTimed l k n from (Changes c) → Follows x k (n + 1) c.moment (done ++ c ∷ [])
follows_change None l k n from done c f t = tt
follows_change (Some xs) None k n from done c f t = absurd f
follows_change (Some xs) (Some ys) None n from done c f t = absurd t
follows_change (Some xs) (Some ys) (Some zs) n from done c f (bytes, e, means) =
    f ∙ (ap (afterwards done) (ap (timetable_from n from) e ∙ at_line n from bytes (lines_of zs) (Some (Changes c)) means)
    ∙ ap (λ cs. let r : Timetable = record { changes = cs; end = (timetable_from (n + 1) c.moment (lines_of zs)).end; bad = (timetable_from (n + 1) c.moment (lines_of zs)).bad } in r)
    (sym (append_assoc done (c ∷ []) (timetable_from (n + 1) c.moment (lines_of zs)).changes)))

-- the end was read
abbrev EndsAfter : Option (List ℕ) → ℕ → Option ℕ → List Change → Type 0
EndsAfter None end bad done = Unit {0}
EndsAfter (Some xs) end bad done = timetable_of xs ≡ afterwards done (ended_at end bad)

ends_after_it : (x l k : Option (List ℕ)) (n from end : ℕ) (bad : Option ℕ) (done : List Change) → Follows x l n from done → ReadsTimed l k n from (EndsAt end) → IsBadAfter k (n + 1) bad → EndsAfter x end bad done
ends_after_it None l k n from end bad done f t b = tt
ends_after_it (Some xs) None k n from end bad done f t b = absurd f
ends_after_it (Some xs) (Some ys) None n from end bad done f t b = absurd t
ends_after_it (Some xs) (Some ys) (Some zs) n from end bad done f (bytes, e, means) b =
    f ∙ (ap (afterwards done) (ap (timetable_from n from) e ∙ at_line n from bytes (lines_of zs) (Some (EndsAt end)) means) ∙ ap (λ o. afterwards done (ended_at end o)) b)

-- a line is refused, or missing
abbrev StopsAt : Option (List ℕ) → ℕ → List Change → Type 0
StopsAt None n done = Unit {0}
StopsAt (Some xs) n done = timetable_of xs ≡ afterwards done (stopped_at n)

stops_at : (x l : Option (List ℕ)) (n from : ℕ) (done : List Change) → Follows x l n from done → LacksTimed l n from → StopsAt x n done
stops_at None l n from done f t = tt
stops_at (Some xs) None n from done f t = absurd f
stops_at (Some xs) (Some ys) n from done f (inl e) = f ∙ ap (afterwards done) (ap (λ zs. timetable_from n from (lines_of zs)) e ∙ at_end n from)
stops_at (Some xs) (Some ys) n from done f (inr (bytes, lines, e, none)) = f ∙ ap (afterwards done) (ap (timetable_from n from) e ∙ at_line n from bytes lines None none)

latest_last : (t : ℕ) (xs : List Change) (c : Change) → latest t (xs ++ c ∷ []) ≡ c.moment
latest_last t [] c = refl
latest_last t (x ∷ xs) c = latest_last x.moment xs c

-- what a turn of a loop leaves, by the parts that it changes
pub joined : {S W : Type 0} (P : S → W → ℕ → Type 0) (s t : S) (v w : W) (m n : ℕ) → t ≡ s → w ≡ v → n ≡ m → P s v m → P t w n
joined P s t v w m n a b c h = subst (λ x. P x w n) (sym a) (subst (λ y. P s y n) (sym b) (subst (λ z. P s v z) (sym c) h))

-- ---- one drive

-- its one drive
one_drive : {D : Type 0} (f : D → ℕ) (xs : List (Seated (D))) → length (numbers f xs) ≡ 1 → (x : Seated (D)) × (xs ≡ x ∷ [])
one_drive f [] e = absurd (omega (arith, e))
one_drive f (x ∷ []) e = (x, refl)
one_drive f (x ∷ y ∷ xs) e = absurd (omega (arith, e))

pub is_bus : (drive : Party) → IsDrive drive → IsBus (drive ∷ [])
is_bus drive one = record { some = omega arith; few = omega arith; drives = (one, tt); unlike = (tt, tt) }

later_all : {D : Type 0} (end : ℕ) (xs : List (Seated D)) → AreInTime (end + 1) xs → AreLater end xs
later_all end [] h = tt
later_all end (x ∷ xs) h = (one (port_due x.port) h.0, later_all end xs h.1)
  where
    one : (o : Option ℕ) → IsInTime (end + 1) o → IsLaterDue end o
    one None k = tt
    one (Some t) k = omega (arith, k)

module _ {M : Type 0} (seen : M → Seen) where
  -- The lines so far were played, and what is left follows them.
  pub record Timing (a b input left : Option (List ℕ)) (n from : ℕ) (p : Turns) (x : Cabled (KeptDesk M)) (q : Turns) (y : Cabled (KeptDesk M)) : Type 0 where
    pub done : List Change
    pub follows : Follows input left n from done
    pub last : latest 0 done ≡ from
    pub played : PlaysOn seen a b done p x q y
    pub wrote : ReplaysOn desk_shows a b done p x q y

  -- before each line
  pub record Loops (p : Turns) (x : Cabled (KeptDesk M)) (a b first left : Option (List ℕ)) (n from : ℕ) (q : Turns) (y : Cabled (KeptDesk M)) : Type 0 where
    pub timing : (input : Option (List ℕ)) → TakesLine input first (codes "lines") → Timing a b input left n from p x q y
    pub opened : IsOpen q from
    pub small : from ≤ 1000000000000000
    pub few : n ≤ 1000001
    pub tracks : tracks_of_drives seen y ≡ tracks_of_drives seen x
    pub grown : AppendsMore a b

  pub timing_start : (a input left : Option (List ℕ)) (p : Turns) (x : Cabled (KeptDesk M)) → PlaysOn seen a a [] p x p x → TakesLine input left (codes "lines") → Timing a a input left 2 0 p x p x
  timing_start a input left p x none t = record { done = []; follows = follows_start input left t; last = refl; played = none; wrote = replays_none desk_shows a p p x x refl refl refl }

  pub timing_skipped : (a b input l k : Option (List ℕ)) (n from : ℕ) (p : Turns) (x : Cabled (KeptDesk M)) (q : Turns) (y : Cabled (KeptDesk M)) → Timing a b input l n from p x q y → ReadsTimed l k n from Skipped → Timing a b input k (n + 1) from p x q y
  timing_skipped a b input l k n from p x q y t r = record { done = t.done; follows = follows_skipped input l k n from t.done t.follows r; last = t.last; played = t.played; wrote = t.wrote }

  then_on : (a b c : Option (List ℕ)) (cs ds : List Change) (p q r : Turns) (x y z : Cabled (KeptDesk M)) → PlaysOn seen a b cs p x q y → PlaysOn seen b c ds q y r z → PlaysOn seen a c (cs ++ ds) p x r z
  then_on a b c cs ds p q r x y z f g ss es h =
      let first = f ss es h in
      made_then (KeptDesk M) (Desk Machine) desk_step desk_says (DeskStands seen) (DeskStands seen) a b c cs ds q r y z ss es first (g ss (es ++ first.made) first.now)

  on_kept : (a b c : Option (List ℕ)) (cs : List Change) (p q : Turns) (x y : Cabled (KeptDesk M)) → PlaysOn seen a b cs p x q y → Keeps b c → PlaysOn seen a c cs p x q y
  on_kept a b c cs p q x y f k ss es h = made_kept (KeptDesk M) (Desk Machine) desk_step desk_says (DeskStands seen) a b c cs q y ss es (f ss es h) k

  pub timing_change : (a b c d input l k : Option (List ℕ)) (n from : ℕ) (change : Change) (p q r : Turns) (x y z : Cabled (KeptDesk M)) → Timing a b input l n from p x q y → ReadsTimed l k n from (Changes change) → PlaysOn seen b c (change ∷ []) q y r z → ReplaysOn desk_shows b c (change ∷ []) q y r z → Keeps c d
      → Timing a d input k (n + 1) change.moment p x r z
  timing_change a b c d input l k n from change p q r x y z t reads on wrote kept = record {
    done = t.done ++ change ∷ [];
    follows = follows_change input l k n from t.done change t.follows reads;
    last = latest_last 0 t.done change;
    played = on_kept a c d (t.done ++ change ∷ []) p r x z (then_on a b c t.done (change ∷ []) p q r x y z t.played on) kept;
    wrote = replays_kept desk_shows a c d (t.done ++ change ∷ []) p r x z (replays_then desk_shows a b c t.done (change ∷ []) p q r x y z t.wrote wrote) kept;
  }

  -- ---- a beginning of what the input asks

  abbrev pub Begun : Option (List ℕ) → Option (List ℕ) → Option (List ℕ) → Party → Turns → Cabled (KeptDesk M) → Type 0
  Begun a b input drive p x = IfSome input (λ bytes. PrintsTracePart a b (λ m. IsAt seen p x (trace_powered drive m) []) drive [] (timetable_of bytes))

  -- of the first changes
  begun : (a b : Option (List ℕ)) (xs : List ℕ) (drive : Party) (p : Turns) (x : Cabled (KeptDesk M)) (done : List Change) (t : Timetable) → timetable_of xs ≡ afterwards done t → PlaysPart seen a b done p x → Begun a b (Some xs) drive p x
  begun a b xs drive p x done t e part m at_ =
      let h = part (trace_powered drive m) [] at_ in (
        h.made,
        record {
          from = h.from;
          stations = h.stations;
          plays = h.plays;
          rest = h.rest ++ t.changes;
          hosts = sym (append_assoc (host_changes h.made) h.rest t.changes) ∙ (ap (λ v. v ++ t.changes) h.hosts ∙ sym (ap (λ (o : Timetable). o.changes) e));
        },
        h.written,
      )

  -- all of the first changes, where nothing is still to be given
  part_of : (a b : Option (List ℕ)) (cs : List Change) (p q : Turns) (x y : Cabled (KeptDesk M)) → q.second ≡ None → PlaysOn seen a b cs p x q y → PlaysPart seen a b cs p x
  part_of a b cs p q x y none on ss es h =
      let all = on ss es h in
      let now = all.now in
      record {
        made = all.made;
        rest = [];
        from = now.from;
        stations = now.stations;
        plays = subst (λ (v : List Event). Plays (Desk Machine) desk_step desk_says 0 ss v now.from now.stations) (ap (λ (o : Option Event). (es ++ all.made) ++ pending o) none ∙ append-nil (es ++ all.made)) now.plays;
        hosts = append-nil (host_changes all.made) ∙ all.hosts;
        written = whole_part a b (trace_text all.made) all.written;
      }

  then_part : (a b c : Option (List ℕ)) (cs ds : List Change) (p q : Turns) (x y : Cabled (KeptDesk M)) → PlaysOn seen a b cs p x q y → PlaysPart seen b c ds q y → PlaysPart seen a c (cs ++ ds) p x
  then_part a b c cs ds p q x y f g ss es h =
      let first = f ss es h in
      let second = g ss (es ++ first.made) first.now in
      record {
        made = first.made ++ second.made;
        rest = second.rest;
        from = second.from;
        stations = second.stations;
        plays = subst (λ (v : List Event). Plays (Desk Machine) desk_step desk_says 0 ss v second.from second.stations) (append_assoc es first.made second.made) second.plays;
        hosts = ap (λ v. v ++ second.rest) (hosts_on first.made second.made) ∙ (append_assoc (host_changes first.made) (host_changes second.made) second.rest ∙ (λ i. first.hosts i ++ second.hosts i));
        written = subst (λ t. AppendsPart a c t) (sym (text_on first.made second.made)) (part_after a b c (trace_text first.made) (trace_text second.made) first.written second.written);
      }

  -- where the lines so far were played
  pub timing_begun : (a b input left : Option (List ℕ)) (n from : ℕ) (drive : Party) (p q : Turns) (x y : Cabled (KeptDesk M)) → Timing a b input left n from p x q y → q.second ≡ None → Begun a b input drive p x
  timing_begun a b None left n from drive p q x y t none = tt
  timing_begun a b (Some xs) None n from drive p q x y t none = absurd t.follows
  timing_begun a b (Some xs) (Some ys) n from drive p q x y t none = begun a b xs drive p x t.done (timetable_from n from (lines_of ys)) t.follows (part_of a b t.done p q x y none t.played)

  -- where a change broke off, and where the end did
  pub change_begun : (a b c input l k : Option (List ℕ)) (n from : ℕ) (drive : Party) (change : Change) (p q : Turns) (x y : Cabled (KeptDesk M)) → Timing a b input l n from p x q y → ReadsTimed l k n from (Changes change) → PlaysPart seen b c (change ∷ []) q y → Begun a c input drive p x
  change_begun a b c None l k n from drive change p q x y t reads part = tt
  change_begun a b c (Some xs) None k n from drive change p q x y t reads part = absurd t.follows
  change_begun a b c (Some xs) (Some ys) None n from drive change p q x y t reads part = absurd reads
  change_begun a b c (Some xs) (Some ys) (Some zs) n from drive change p q x y t reads part =
      begun a c xs drive p x (t.done ++ change ∷ []) (timetable_from (n + 1) change.moment (lines_of zs)) (follows_change (Some xs) (Some ys) (Some zs) n from t.done change t.follows reads)
      (then_part a b c t.done (change ∷ []) p q x y t.played part)

  pub end_begun : (a b c input l : Option (List ℕ)) (n from : ℕ) (drive : Party) (p q : Turns) (x y : Cabled (KeptDesk M)) → Timing a b input l n from p x q y → PlaysPart seen b c [] q y → Begun a c input drive p x
  end_begun a b c None l n from drive p q x y t part = tt
  end_begun a b c (Some xs) None n from drive p q x y t part = absurd t.follows
  end_begun a b c (Some xs) (Some ys) n from drive p q x y t part =
      begun a c xs drive p x t.done (timetable_from n from (lines_of ys)) t.follows (subst (λ cs. PlaysPart seen a c cs p x) (append-nil t.done) (then_part a b c t.done [] p q x y t.played part))

  -- what was played to an end is so too
  pub ended_part : (b c : Option (List ℕ)) (end : ℕ) (q r : Turns) (y z : Cabled (KeptDesk M)) → Ends seen b c end q y r z → PlaysPart seen b c [] q y
  ended_part b c end q r y z ends ss es h =
      let all = ends ss es h in
      let now = all.now.after in
      record {
        made = all.made;
        rest = [];
        from = now.from;
        stations = now.stations;
        plays = subst (λ (v : List Event). Plays (Desk Machine) desk_step desk_says 0 ss v now.from now.stations) (ap (λ (o : Option Event). (es ++ all.made) ++ pending o) all.now.second ∙ append-nil (es ++ all.made)) now.plays;
        hosts = append-nil (host_changes all.made) ∙ all.hosts;
        written = whole_part b c (trace_text all.made) all.written;
      }

  pub ends_kept : (b c d : Option (List ℕ)) (end : ℕ) (q r : Turns) (y z : Cabled (KeptDesk M)) → Ends seen b c end q y r z → Keeps c d → Ends seen b d end q y r z
  ends_kept b c d end q r y z ends k ss es h = (let all = ends ss es h in record { made = all.made; now = all.now; hosts = all.hosts; written = appends-kept b c d (trace_text all.made) all.written k })

  -- ---- the trace of what the input asks

  -- what it stands for
  pub record Borne (b : Cabled (KeptDesk M)) (ss : List (Station (Desk Machine))) : Type 0 where
    pub drive : Seated (KeptDesk M)
    pub station : Station (Desk Machine)
    pub alone : b.drives ≡ drive ∷ []
    pub only : ss ≡ station ∷ []
    pub port : drive.port ≡ station.port
    pub stands : DosStands seen drive.machine station.machine.dos

  borne : (f : KeptDesk M → ℕ) (b : Cabled (KeptDesk M)) (ss : List (Station (Desk Machine))) → length (numbers f b.drives) ≡ 1 → IsBusAt (KeptDesk M) (Desk Machine) (DeskStands seen) b.host b.drives ss → Borne b ss
  borne f b ss e now =
      let one = one_drive f b.drives e in
      seated one.0 one.1 ss (subst (λ (xs : List (Seated (KeptDesk M))). IsBusAt (KeptDesk M) (Desk Machine) (DeskStands seen) b.host xs ss) one.1 now)
    where
      seated : (x : Seated (KeptDesk M)) → b.drives ≡ x ∷ [] → (us : List (Station (Desk Machine))) → IsBusAt (KeptDesk M) (Desk Machine) (DeskStands seen) b.host (x ∷ []) us → Borne b us
      seated x alone [] h = absurd h
      seated x alone (s ∷ []) h = record { drive = x; station = s; alone = alone; only = refl; port = h.0.port; stands = h.0.machine.0.0 }
      seated x alone (s ∷ t ∷ us) h = absurd h.1

  abbrev pub Ended : Option (List ℕ) → Option (List ℕ) → Option (List ℕ) → Party → Turns → Cabled (KeptDesk M) → Cabled (KeptDesk M) → Option ℕ → Type 0
  Ended a b input drive p x y bad = IfSome input (λ bytes. ((timetable_of bytes).bad ≡ bad) × PrintsTrace a b (λ m. IsAt seen p x (trace_powered drive m) []) (IsBorne seen y) drive [] (timetable_of bytes))

  -- the input, up to its bad line
  stopped : (a b : Option (List ℕ)) (xs : List ℕ) (n from : ℕ) (drive : Party) (done : List Change) (f : KeptDesk M → ℕ) (p q : Turns) (x y : Cabled (KeptDesk M)) → length (numbers f y.drives) ≡ 1 → timetable_of xs ≡ afterwards done (stopped_at n) → latest 0 done ≡ from
      → PlaysOn seen a b done p x q y → IsOpen q from → Ended a b (Some xs) drive p x y (Some n)
  stopped a b xs n from drive done f p q x y one e last on is_open = (
    ap (λ (o : Timetable). o.bad) e,
    subst (λ (o : Timetable). PrintsTrace a b (λ m. IsAt seen p x (trace_powered drive m) []) (IsBorne seen y) drive [] o) (sym e) (λ m at_.
        (let all = on (trace_powered drive m) [] at_ in
        let now = all.now in
        let whole : all.made ++ pending q.second ≡ all.made = ap (λ (o : Option Event). all.made ++ pending o) is_open.second ∙ append-nil all.made in
        let own = borne f y now.stations one now.now in (
          all.made,
          own.station,
          record {
            from = now.from;
            plays = subst (λ (ss : List (Station (Desk Machine))). Plays (Desk Machine) desk_step desk_says 0 (trace_powered drive m) all.made now.from ss) own.only (subst (λ (v : List Event). Plays (Desk Machine) desk_step desk_says 0 (trace_powered drive m) v now.from now.stations) whole now.plays);
            hosts = all.hosts ∙ sym (append-nil done);
            within = (let u : latest 0 (done ++ []) ≡ from = ap (latest 0) (append-nil done) ∙ last in let before = now.before in let opened = is_open.from in omega (arith, u, before, opened));
            settled = tt;
          },
          all.written,
          (own.drive, own.alone, own.stands),
        ))),
  )

  pub timing_stopped : (a b input left : Option (List ℕ)) (n from : ℕ) (drive : Party) (f : KeptDesk M → ℕ) (p q : Turns) (x y : Cabled (KeptDesk M)) → length (numbers f y.drives) ≡ 1 → Timing a b input left n from p x q y → LacksTimed left n from → IsOpen q from → Ended a b input drive p x y (Some n)
  timing_stopped a b None left n from drive f p q x y one t lacks is_open = tt
  timing_stopped a b (Some xs) left n from drive f p q x y one t lacks is_open = stopped a b xs n from drive t.done f p q x y one (stops_at (Some xs) left n from t.done t.follows lacks) t.last t.played is_open

  -- the input, whose end was read
  finished : (a b c : Option (List ℕ)) (xs : List ℕ) (end : ℕ) (drive : Party) (done : List Change) (f : KeptDesk M → ℕ) (p q r : Turns) (x y z : Cabled (KeptDesk M)) → IsDrive drive → length (numbers f z.drives) ≡ 1
      → timetable_of xs ≡ afterwards done (ended_at end None) → PlaysOn seen a b done p x q y → Ends seen b c end q y r z → Ended a c (Some xs) drive p x z None
  finished a b c xs end drive done f p q r x y z sits one e on ends = (
    ap (λ (o : Timetable). o.bad) e,
    subst (λ (o : Timetable). PrintsTrace a c (λ m. IsAt seen p x (trace_powered drive m) []) (IsBorne seen z) drive [] o) (sym e) (λ m at_.
        (let first = on (trace_powered drive m) [] at_ in
        let all = ends (trace_powered drive m) first.made first.now in
        let trace = first.made ++ all.made in
        let over = all.now in
        let now = over.after in
        let whole : trace ++ pending r.second ≡ trace = ap (λ (o : Option Event). trace ++ pending o) over.second ∙ append-nil trace in
        let own = borne f z now.stations one now.now in
        let later = later_all end z.drives over.settled in (
          trace,
          own.station,
          record {
            from = now.from;
            plays = subst (λ (ss : List (Station (Desk Machine))). Plays (Desk Machine) desk_step desk_says 0 (trace_powered drive m) trace now.from ss) own.only (subst (λ (v : List Event). Plays (Desk Machine) desk_step desk_says 0 (trace_powered drive m) v now.from now.stations) whole now.plays);
            hosts = hosts_on first.made all.made ∙ (λ i. first.hosts i ++ all.hosts i);
            within = (let before = now.before in let from = over.from in omega (arith, before, from));
            settled = subst (λ (o : Port). IsLaterDue end (port_due o)) own.port (subst (λ (us : List (Seated (KeptDesk M))). AreLater end us) own.alone later).0;
          },
          subst (λ t. Appends a c t) (sym (text_on first.made all.made)) (appends-more a b c (trace_text first.made) (trace_text all.made) first.written all.written),
          (own.drive, own.alone, own.stands),
        ))),
  )

  -- and the lines after it are all skipped
  pub timing_ended : (a b c input l k : Option (List ℕ)) (n from end : ℕ) (drive : Party) (f : KeptDesk M → ℕ) (p q r : Turns) (x y z : Cabled (KeptDesk M)) → IsDrive drive → length (numbers f z.drives) ≡ 1
      → Timing a b input l n from p x q y → ReadsTimed l k n from (EndsAt end) → Ends seen b c end q y r z → IsBadAfter k (n + 1) None → Ended a c input drive p x z None
  timing_ended a b c input l k n from end drive f p q r x y z sits one t reads ends read = over input (ends_after_it input l k n from end None t.done t.follows reads read)
    where
      over : (o : Option (List ℕ)) → EndsAfter o end None t.done → Ended a c o drive p x z None
      over None h = tt
      over (Some xs) h = finished a b c xs end drive t.done f p q r x y z sits one h t.played ends

  -- a line after it can't be had, or is refused: what was played are the changes
  pub after_faulted : {A : Type 0} (a b input l k : Option (List ℕ)) (n from end : ℕ) (drive : Party) (result : Result A RunFault) (fault : RunFault) (f : KeptDesk M → ℕ) (p q : Turns) (x y : Cabled (KeptDesk M)) → length (numbers f y.drives) ≡ 1
      → Timing a b input l n from p x q y → IsOpen q from → ReadsTimed l k n from (EndsAt end) → AfterEndRead k (n + 1) (Err fault) → result ≡ Err fault → EndsAs result (λ bad. Ended a b input drive p x y bad)
  after_faulted a b input l k n from end drive result (Script bad) f p q x y one t is_open reads h e =
      subst (λ v. EndsAs v (λ o. Ended a b input drive p x y o)) (sym e) (over input (ends_after_it input l k n from end (Some bad) t.done t.follows reads h))
    where
      over : (o : Option (List ℕ)) → EndsAfter o end (Some bad) t.done → Ended a b o drive p x y (Some bad)
      over None g = tt
      over (Some xs) g = stopped a b xs bad from drive t.done f p q x y one g t.last t.played is_open
  after_faulted a b input l k n from end drive result (Image number) f p q x y one t is_open reads h e = absurd h
  after_faulted a b input l k n from end drive result Memory f p q x y one t is_open reads h e = absurd h
  after_faulted a b input l k n from end drive result Reading f p q x y one t is_open reads h e = subst (λ v. EndsAs v (λ o. Ended a b input drive p x y o)) (sym e) tt
  after_faulted a b input l k n from end drive result Writing f p q x y one t is_open reads h e = absurd h

  -- a line that can't be had, or is refused
  pub read_faulted : {A : Type 0} (a b input l k : Option (List ℕ)) (n from : ℕ) (drive : Party) (result : Result A RunFault) (fault : RunFault) (f : KeptDesk M → ℕ) (p q : Turns) (x y : Cabled (KeptDesk M)) → length (numbers f y.drives) ≡ 1 → Timing a b input l n from p x q y → IsOpen q from
      → TimedRead l k n from (Err fault) → result ≡ Err fault → EndsAs result (λ bad. Ended a b input drive p x y bad)
  read_faulted a b input l k n from drive result (Script bad) f p q x y one t is_open h e =
      subst (λ v. EndsAs v (λ o. Ended a b input drive p x y o)) (sym e) (subst (λ i. Ended a b input drive p x y (Some i)) (sym h.0) (timing_stopped a b input l n from drive f p q x y one t h.1 is_open))
  read_faulted a b input l k n from drive result (Image number) f p q x y one t is_open h e = absurd h
  read_faulted a b input l k n from drive result Memory f p q x y one t is_open h e = absurd h
  read_faulted a b input l k n from drive result Reading f p q x y one t is_open h e = subst (λ v. EndsAs v (λ o. Ended a b input drive p x y o)) (sym e) tt
  read_faulted a b input l k n from drive result Writing f p q x y one t is_open h e = absurd h

-- ---- what was written, on any disk

module _ {D : Type 0} (shows : D → Shown) (drive : Party) where
  -- The drive that plays back, and its station.
  record Alone (later : List Shown) (b : Cabled D) (ss : List (Station Playback)) : Type 0 where
    pub seat : Seated D
    pub station : Station Playback
    pub sole : b.drives ≡ seat ∷ []
    pub only : ss ≡ station ∷ []
    pub port : seat.port ≡ station.port

  alone : (f : D → ℕ) (later : List Shown) (b : Cabled D) (ss : List (Station Playback)) → length (numbers f b.drives) ≡ 1 → IsBusAt D Playback (IsPlayedBack shows later) b.host b.drives ss → Alone later b ss
  alone f later b ss e now =
      let one = one_drive f b.drives e in
      seated one.0 one.1 ss (subst (λ (xs : List (Seated D)). IsBusAt D Playback (IsPlayedBack shows later) b.host xs ss) one.1 now)
    where
      seated : (x : Seated D) → b.drives ≡ x ∷ [] → (us : List (Station Playback)) → IsBusAt D Playback (IsPlayedBack shows later) b.host (x ∷ []) us → Alone later b us
      seated x sole [] h = absurd h
      seated x sole (s ∷ []) h = record { seat = x; station = s; sole = sole; only = refl; port = h.0.port }
      seated x sole (s ∷ t ∷ us) h = absurd h.1

  -- up to the bad line
  pub wrote_stopped : (a b : Option (List ℕ)) (xs : List ℕ) (n from : ℕ) (done : List Change) (f : D → ℕ) (p q : Turns) (x y : Cabled D) → length (numbers f y.drives) ≡ 1 → IsFresh shows drive p x → timetable_of xs ≡ afterwards done (stopped_at n) → latest 0 done ≡ from
      → ReplaysOn shows a b done p x q y → IsOpen q from → WritesTrace drive (Some xs) a b (Some n)
  wrote_stopped a b xs n from done f p q x y one fresh e last on is_open = (
    ap (λ (o : Timetable). o.bad) e,
    subst (λ (o : Timetable). HasWritten drive a b o) (sym e)
        (let first = fresh (on.0 ++ []) in
        let all = on.1 [] (replaying drive first.0) [] first.1 in
        let now = all.now in
        let whole : all.made ++ pending q.second ≡ all.made = ap (λ (o : Option Event). all.made ++ pending o) is_open.second ∙ append-nil all.made in
        let own = alone f [] y now.stations one now.now in
        record {
          machine = first.0;
          trace = all.made;
          station = own.station;
          is_trace = record {
            from = now.from;
            plays = subst (λ (ss : List (Station Playback)). Plays Playback played_step played_says 0 (replaying drive first.0) all.made now.from ss) own.only
                (subst (λ (v : List Event). Plays Playback played_step played_says 0 (replaying drive first.0) v now.from now.stations) whole now.plays);
            hosts = all.hosts ∙ sym (append-nil done);
            within = (let u : latest 0 (done ++ []) ≡ from = ap (latest 0) (append-nil done) ∙ last in let before = now.before in let opened = is_open.from in omega (arith, u, before, opened));
            settled = tt;
          };
          written = all.written;
        }),
  )

  -- the whole script
  pub wrote_whole : (a b c : Option (List ℕ)) (xs : List ℕ) (end : ℕ) (done : List Change) (f : D → ℕ) (p q r : Turns) (x y z : Cabled D) → IsDrive drive → length (numbers f z.drives) ≡ 1 → IsFresh shows drive p x → timetable_of xs ≡ afterwards done (ended_at end None)
      → ReplaysOn shows a b done p x q y → ReplaysTo shows b c end q y r z → WritesTrace drive (Some xs) a c None
  wrote_whole a b c xs end done f p q r x y z sits one fresh e on ends = (
    ap (λ (o : Timetable). o.bad) e,
    subst (λ (o : Timetable). HasWritten drive a c o) (sym e)
        (let start = fresh (on.0 ++ (ends.0 ++ [])) in
        let first = on.1 (ends.0 ++ []) (replaying drive start.0) [] start.1 in
        let all = ends.1 [] (replaying drive start.0) first.made first.now in
        let trace = first.made ++ all.made in
        let over = all.now in
        let now = over.after in
        let whole : trace ++ pending r.second ≡ trace = ap (λ (o : Option Event). trace ++ pending o) over.second ∙ append-nil trace in
        let own = alone f [] z now.stations one now.now in
        let later = later_all end z.drives over.settled in
        record {
          machine = start.0;
          trace = trace;
          station = own.station;
          is_trace = record {
            from = now.from;
            plays = subst (λ (ss : List (Station Playback)). Plays Playback played_step played_says 0 (replaying drive start.0) trace now.from ss) own.only
                (subst (λ (v : List Event). Plays Playback played_step played_says 0 (replaying drive start.0) v now.from now.stations) whole now.plays);
            hosts = hosts_on first.made all.made ∙ (λ i. first.hosts i ++ all.hosts i);
            within = (let before = now.before in let from = over.from in omega (arith, before, from));
            settled = subst (λ (o : Port). IsLaterDue end (port_due o)) own.port (subst (λ (us : List (Seated D)). AreLater end us) own.sole later).0;
          };
          written = subst (λ t. Appends a c t) (sym (text_on first.made all.made)) (appends-more a b c (trace_text first.made) (trace_text all.made) first.written all.written);
        }),
  )

module _ {M : Type 0} (seen : M → Seen) (drive : Party) where
  wrote_lacking : (a b input left : Option (List ℕ)) (n from : ℕ) (f : KeptDesk M → ℕ) (p q : Turns) (x y : Cabled (KeptDesk M)) → length (numbers f y.drives) ≡ 1 → IsFresh desk_shows drive p x → Timing seen a b input left n from p x q y → IsOpen q from → LacksTimed left n from → WritesTrace drive input a b (Some n)
  wrote_lacking a b None left n from f p q x y one fresh t is_open lacks = tt
  wrote_lacking a b (Some xs) left n from f p q x y one fresh t is_open lacks = wrote_stopped desk_shows drive a b xs n from t.done f p q x y one fresh (stops_at (Some xs) left n from t.done t.follows lacks) t.last t.wrote is_open

  pub wrote_read : {A : Type 0} (a b input l k : Option (List ℕ)) (n from : ℕ) (result : Result A RunFault) (fault : RunFault) (f : KeptDesk M → ℕ) (p q : Turns) (x y : Cabled (KeptDesk M)) → length (numbers f y.drives) ≡ 1 → IsFresh desk_shows drive p x → Timing seen a b input l n from p x q y → IsOpen q from
      → TimedRead l k n from (Err fault) → result ≡ Err fault → EndsAs result (λ bad. WritesTrace drive input a b bad)
  wrote_read a b input l k n from result (Script bad) f p q x y one fresh t is_open h e =
      subst (λ v. EndsAs v (λ o. WritesTrace drive input a b o)) (sym e) (subst (λ i. WritesTrace drive input a b (Some i)) (sym h.0) (wrote_lacking a b input l n from f p q x y one fresh t is_open h.1))
  wrote_read a b input l k n from result (Image number) f p q x y one fresh t is_open h e = absurd h
  wrote_read a b input l k n from result Memory f p q x y one fresh t is_open h e = absurd h
  wrote_read a b input l k n from result Reading f p q x y one fresh t is_open h e = subst (λ v. EndsAs v (λ o. WritesTrace drive input a b o)) (sym e) tt
  wrote_read a b input l k n from result Writing f p q x y one fresh t is_open h e = absurd h

  -- a line after the end can't be had, or is refused
  pub wrote_after_it : {A : Type 0} (a b input l k : Option (List ℕ)) (n from end : ℕ) (result : Result A RunFault) (fault : RunFault) (f : KeptDesk M → ℕ) (p q : Turns) (x y : Cabled (KeptDesk M)) → length (numbers f y.drives) ≡ 1 → IsFresh desk_shows drive p x → Timing seen a b input l n from p x q y → IsOpen q from
      → ReadsTimed l k n from (EndsAt end) → AfterEndRead k (n + 1) (Err fault) → result ≡ Err fault → EndsAs result (λ bad. WritesTrace drive input a b bad)
  wrote_after_it a b input l k n from end result (Script bad) f p q x y one fresh t is_open reads h e =
      subst (λ v. EndsAs v (λ o. WritesTrace drive input a b o)) (sym e) (over input (ends_after_it input l k n from end (Some bad) t.done t.follows reads h))
    where
      over : (o : Option (List ℕ)) → EndsAfter o end (Some bad) t.done → WritesTrace drive o a b (Some bad)
      over None g = tt
      over (Some xs) g = wrote_stopped desk_shows drive a b xs bad from t.done f p q x y one fresh g t.last t.wrote is_open
  wrote_after_it a b input l k n from end result (Image number) f p q x y one fresh t is_open reads h e = absurd h
  wrote_after_it a b input l k n from end result Memory f p q x y one fresh t is_open reads h e = absurd h
  wrote_after_it a b input l k n from end result Reading f p q x y one fresh t is_open reads h e = subst (λ v. EndsAs v (λ o. WritesTrace drive input a b o)) (sym e) tt
  wrote_after_it a b input l k n from end result Writing f p q x y one fresh t is_open reads h e = absurd h

  -- all was read, and the end written
  pub wrote_ended : (a b c d input l k : Option (List ℕ)) (n from end : ℕ) (f : KeptDesk M → ℕ) (p q r : Turns) (x y z : Cabled (KeptDesk M)) → IsDrive drive → length (numbers f z.drives) ≡ 1 → IsFresh desk_shows drive p x → Timing seen a b input l n from p x q y → ReadsTimed l k n from (EndsAt end)
      → ReplaysTo desk_shows b c end q y r z → Keeps c d → IsBadAfter k (n + 1) None → WritesTrace drive input a d None
  wrote_ended a b c d input l k n from end f p q r x y z sits one fresh t reads ended kept read = over input (ends_after_it input l k n from end None t.done t.follows reads read)
    where
      kept_end : ReplaysTo desk_shows b d end q y r z
      kept_end = (ended.0, λ later ss es h. (let all = ended.1 later ss es h in record { made = all.made; now = all.now; hosts = all.hosts; written = appends-kept b c d (trace_text all.made) all.written kept }))

      over : (o : Option (List ℕ)) → EndsAfter o end None t.done → WritesTrace drive o a d None
      over None g = tt
      over (Some xs) g = wrote_whole desk_shows drive a b d xs end t.done f p q r x y z sits one fresh g t.wrote kept_end

-- the one disk has as many tracks
pub sole_tracks : {M : Type 0} (seen : M → Seen) (b : Cabled (KeptDesk M)) (k : M) → length (tracks_of_drives seen b) ≡ 1 → ((x : Seated (KeptDesk M)) → b.drives ≡ x ∷ [] → k ≡ x.machine.dos.medium) → (seen k).tracks ∷ [] ≡ tracks_of_drives seen b
sole_tracks {M = M} seen b k one is = by b.drives refl one
  where
    by : (xs : List (Seated (KeptDesk M))) → b.drives ≡ xs → length (numbers (λ y. (seen y.dos.medium).tracks) xs) ≡ 1 → (seen k).tracks ∷ [] ≡ numbers (λ y. (seen y.dos.medium).tracks) xs
    by [] e h = absurd (omega (arith, h))
    by (x ∷ []) e h = ap (λ z. (seen z).tracks ∷ []) (is x e)
    by (x ∷ y ∷ xs) e h = absurd (omega (arith, h))
