-- Two plays go on, step by step.
use Rattle.std.proofs.Common.{◌≡◌, ◌≤◌, ◌<◌, ◌+◌, ℕ, suc, Bool, Option, Some, None, List, [], ◌∷◌, ◌++◌, map, sym, ap, subst, refl, ◌∙◌, arith}
use Rattle.std.proofs.lemmas.List.{append_assoc, append-nil}
use Rattle.cbm_iec.specs.declared.machine.Act.{Act}
use Rattle.cbm_iec.specs.declared.event.Event.{Event}
use Rattle.cbm_iec.specs.declared.lines.Change.{Change}
use Rattle.cbm_iec.specs.declared.party.Party.{Party}
use Rattle.cbm_session.specs.Loosely.{Beside, IsBeside, both, strays, tidies, reacts, over}
use Rattle.cbm_session.specs.Playing.{Station, host_event, drive_events, tell, reacting, AllBytes, IsByte}
use Rattle.bus_beside.specs.declared.moves.Move.TheVariants.{Both, Strays, Tidies}
use Rattle.bus_beside.specs.declared.amiss.Amiss.{Amiss}
use Rattle.bus_beside.specs.declared.answer.Answer.{Answer}
use Rattle.std.specs.Prelude.{Result, Ok, Err, IfOk, if◌then◌else◌, false}
use Rattle.bus_beside.specs.Courses.{events_shown, host_events, Course, HaveCome, Reaches, LieBeside, Lie, GoOnBeside, EndsBeside}
use Rattle.bus_beside.specs.Reactions.{HaveReacted, HaveNothingUpto}
use Rattle.bus_beside.specs.Seats.{SeatedTwice, Sit, failed_in_all, GoesUnfailed}

module _ (D M : Type 0) (stands : D → M → Type 0) (step : M → Act → M) (says : M → Option (ℕ × Bool)) where
  -- what a machine says is a byte
  abbrev pub SaysBytes : Type 0
  SaysBytes = (x : D) (m : M) (n : ℕ) (last : Bool) → stands x m → says m ≡ Some (n, last) → n < 256

  byte_of : (o : Option (ℕ × Bool)) → ((n : ℕ) (last : Bool) → o ≡ Some (n, last) → n < 256) → IsByte M step says o
  byte_of None f = tt
  byte_of (Some x) f = f x.0 x.1 refl

  all_bytes : SaysBytes → (xs : List (SeatedTwice D)) (ss ts : List (Station M)) → Sit D M stands xs ss ts → AllBytes M step says ss
  all_bytes bytes [] [] ts h = tt
  all_bytes bytes [] (s ∷ ss) ts h = absurd h
  all_bytes bytes (x ∷ xs) [] ts h = tt
  all_bytes bytes (x ∷ xs) (s ∷ ss) [] h = absurd h
  all_bytes bytes (x ∷ xs) (s ∷ ss) (t ∷ ts) h =
      (subst (λ (s : Station M). IsByte M step says (says s.machine)) (sym h.0.real) (byte_of (says h.0.state) (λ n last e. bytes x.machine h.0.state n last h.0.machine e)), all_bytes bytes xs ss ts h.1)

  -- a step more
  reaches_on : (bs : List Party) (ms : ℕ → M) (n m n2 m2 : ℕ) (ss ts ss2 ts2 : List (Station M)) (es fs made made2 : List Event) → Reaches D M stands step says bs ms n m ss ts es fs
      → ((end : ℕ) (more tidied : List Event) → Beside M step says end n2 m2 ss2 ts2 more tidied → Beside M step says end n m ss ts (made ++ more) (made2 ++ tidied)) → Reaches D M stands step says bs ms n2 m2 ss2 ts2 (es ++ made) (fs ++ made2)
  reaches_on bs ms n m n2 m2 ss ts ss2 ts2 es fs made made2 so one end more tidied rest =
      subst (λ (xs : List Event). IsBeside M step says bs ms end xs (fs ++ made2 ++ tidied)) (sym (append_assoc es made more))
      (subst (λ (xs : List Event). IsBeside M step says bs ms end (es ++ (made ++ more)) xs) (sym (append_assoc fs made2 tidied)) (so end (made ++ more) (made2 ++ tidied) (one end more tidied rest)))

  goes_on : (failures : D → ℕ) (b c : Course D) (made made2 : List Event) → failed_in_all failures b.seats ≤ failed_in_all failures c.seats
      → (failed_in_all failures c.seats ≤ failed_in_all failures b.seats → (bs : List Party) (ms : ℕ → M) (es fs : List Event) → LieBeside D M stands step says bs ms b es fs → LieBeside D M stands step says bs ms c (es ++ made) (fs ++ made2))
      → GoOnBeside D M stands step says failures b c made made2
  goes_on failures b c made made2 l f least bs ms es fs h = record {
    counted = omega (arith, h.counted, l);
    lies = λ u. f (omega (arith, u, h.counted)) bs ms es fs (h.lies (omega (arith, u, l)));
  }

  -- a change of both hosts
  pub both_on : SaysBytes → (failures : D → ℕ) (b : Course D) (ys : List (SeatedTwice D)) (c : Change) → b.from ≤ c.moment → b.tidy_from ≤ c.moment → GoesUnfailed failures b.seats ys (HaveCome D M stands step says Both c b.seats ys)
      → GoOnBeside D M stands step says failures b (record { seats = ys; from = c.moment; tidy_from = c.moment }) (host_event c ∷ []) (host_event c ∷ [])
  both_on bytes failures b ys c late late2 come = goes_on failures b (record { seats = ys; from = c.moment; tidy_from = c.moment }) (host_event c ∷ []) (host_event c ∷ []) come.0 (λ u bs ms es fs h.
      let went = come.1 u in
      let now = went.1 h.stations h.tidied h.sit in
      record {
        stations = map (tell M step says c) h.stations;
        tidied = map (tell M step says c) h.tidied;
        reaches = reaches_on bs ms b.from b.tidy_from c.moment c.moment h.stations h.tidied (map (tell M step says c) h.stations) (map (tell M step says c) h.tidied) es fs (host_event c ∷ []) (host_event c ∷ []) h.reaches
            (λ end more tidied rest. both c more tidied (all_bytes bytes b.seats h.stations h.tidied h.sit) late late2 (went.0 h.stations h.tidied h.sit) now.0 refl refl rest);
        sit = now.1;
      })

  same_map : {A : Type 0} (xs : List A) → map (λ x. x) xs ≡ xs
  same_map [] = refl
  same_map (x ∷ xs) = ap (λ ys. x ∷ ys) (same_map xs)

  -- a change of the host as it is, alone
  pub strays_on : SaysBytes → (failures : D → ℕ) (b : Course D) (ys : List (SeatedTwice D)) (c : Change) → b.from ≤ c.moment → GoesUnfailed failures b.seats ys (HaveCome D M stands step says Strays c b.seats ys)
      → GoOnBeside D M stands step says failures b (record { seats = ys; from = c.moment; tidy_from = b.tidy_from }) (host_event c ∷ []) []
  strays_on bytes failures b ys c late come = goes_on failures b (record { seats = ys; from = c.moment; tidy_from = b.tidy_from }) (host_event c ∷ []) [] come.0 (λ u bs ms es fs h.
      let went = come.1 u in
      let now = went.1 h.stations h.tidied h.sit in
      record {
        stations = map (tell M step says c) h.stations;
        tidied = h.tidied;
        reaches = reaches_on bs ms b.from b.tidy_from c.moment b.tidy_from h.stations h.tidied (map (tell M step says c) h.stations) h.tidied es fs (host_event c ∷ []) [] h.reaches
            (λ end more tidied rest. strays c more (all_bytes bytes b.seats h.stations h.tidied h.sit) late (went.0 h.stations h.tidied h.sit) now.0 refl rest);
        sit = subst (λ (us : List (Station M)). Sit D M stands ys (map (tell M step says c) h.stations) us) (same_map h.tidied) now.1;
      })

  -- a change of the tidy host, alone
  pub tidies_on : SaysBytes → (failures : D → ℕ) (b : Course D) (ys : List (SeatedTwice D)) (c : Change) → b.tidy_from ≤ c.moment → GoesUnfailed failures b.seats ys (HaveCome D M stands step says Tidies c b.seats ys)
      → GoOnBeside D M stands step says failures b (record { seats = ys; from = b.from; tidy_from = c.moment }) [] (host_event c ∷ [])
  tidies_on bytes failures b ys c late come = goes_on failures b (record { seats = ys; from = b.from; tidy_from = c.moment }) [] (host_event c ∷ []) come.0 (λ u bs ms es fs h.
      let went = come.1 u in
      let now = went.1 h.stations h.tidied h.sit in
      record {
        stations = h.stations;
        tidied = map (tell M step says c) h.tidied;
        reaches = reaches_on bs ms b.from b.tidy_from b.from c.moment h.stations h.tidied h.stations (map (tell M step says c) h.tidied) es fs [] (host_event c ∷ []) h.reaches
            (λ end more tidied rest. tidies c tidied (all_bytes bytes b.seats h.stations h.tidied h.sit) late (went.0 h.stations h.tidied h.sit) now.0 refl rest);
        sit = subst (λ (us : List (Station M)). Sit D M stands ys us (map (tell M step says c) h.tidied)) (same_map h.stations) now.1;
      })

  -- a reaction
  pub reacts_on : SaysBytes → (failures : D → ℕ) (b : Course D) (ys : List (SeatedTwice D)) (t device from : ℕ) (cs : List Change) → from ≡ t + 1
      → GoesUnfailed failures b.seats ys ((ss ts : List (Station M)) → Sit D M stands b.seats ss ts → HaveReacted D M stands step says t device cs ys ss ts)
      → GoOnBeside D M stands step says failures b (record { seats = ys; from = from; tidy_from = from }) (drive_events device cs) (drive_events device cs)
  reacts_on bytes failures b ys t device from cs e come = goes_on failures b (record { seats = ys; from = from; tidy_from = from }) (drive_events device cs) (drive_events device cs) come.0 (λ u bs ms es fs h.
      let r = come.1 u h.stations h.tidied h.sit in
      let after = reacting M step says t r.before r.one r.afterwards in
      let after2 = reacting M step says t r.before2 r.one2 r.afterwards2 in
      let is : suc t ≡ from = omega (arith, e) in
      record {
        stations = after;
        tidied = after2;
        reaches = subst (λ k. Reaches D M stands step says bs ms k k after after2 (es ++ drive_events device cs) (fs ++ drive_events device cs)) is
            (reaches_on bs ms b.from b.tidy_from (suc t) (suc t) h.stations h.tidied after after2 es fs (drive_events device cs) (drive_events device cs) h.reaches
            (λ end more tidied rest. reacts t r.before r.one r.afterwards r.before2 r.one2 r.afterwards2 more tidied (all_bytes bytes b.seats h.stations h.tidied h.sit) r.is r.tidied r.first r.front r.heeds r.back
            (λ i. drive_events (r.which i) (r.changes i) ++ more) (λ i. drive_events (r.which i) (r.changes i) ++ tidied) rest));
        sit = r.now;
      })

  -- one after the other
  pub then_on : (failures : D → ℕ) (b c d : Course D) (made made2 next next2 : List Event) → GoOnBeside D M stands step says failures b c made made2 → GoOnBeside D M stands step says failures c d next next2
      → GoOnBeside D M stands step says failures b d (made ++ next) (made2 ++ next2)
  then_on failures b c d made made2 next next2 one more least bs ms es fs h =
      subst (λ (xs : List Event). Lie D M stands step says failures least bs ms d xs (fs ++ (made2 ++ next2))) (append_assoc es made next)
      (subst (λ (xs : List Event). Lie D M stands step says failures least bs ms d (es ++ made ++ next) xs) (append_assoc fs made2 next2) (more least bs ms (es ++ made) (fs ++ made2) (one least bs ms es fs h)))

  -- nothing came
  pub stays_on : (failures : D → ℕ) (b : Course D) → GoOnBeside D M stands step says failures b b [] []
  stays_on failures b least bs ms es fs h =
      subst (λ (xs : List Event). Lie D M stands step says failures least bs ms b xs (fs ++ [])) (sym (append-nil es)) (subst (λ (xs : List Event). Lie D M stands step says failures least bs ms b es xs) (sym (append-nil fs)) h)

  -- all is over
  pub ends_so : SaysBytes → (failures : D → ℕ) (b c : Course D) (end : ℕ) → GoOnBeside D M stands step says failures b c [] [] → c.from ≤ end + 1 → HaveNothingUpto D M stands step says end c.seats → EndsBeside D M stands step says failures b c end
  ends_so bytes failures b c end on late later least bs ms es fs h u =
      let k = (on least bs ms es fs h).lies u in
      let all = over (all_bytes bytes c.seats k.stations k.tidied k.sit) refl refl (omega (arith, late)) (later k.stations k.tidied k.sit) in
      subst (λ (xs : List Event). IsBeside M step says bs ms end xs fs) (append-nil (es ++ []) ∙ append-nil es)
      (subst (λ (xs : List Event). IsBeside M step says bs ms end (es ++ [] ++ []) xs) (append-nil (fs ++ []) ∙ append-nil fs) (k.reaches end [] [] all))

  -- first a reaction that shows nothing
  pub after_silent : (failures : D → ℕ) (b c d : Course D) (device : ℕ) (cs : List Change) (r : Result (Option Answer) Amiss) → cs ≡ [] → GoOnBeside D M stands step says failures b c (drive_events device cs) (drive_events device cs)
      → IfOk r (λ o. GoOnBeside D M stands step says failures c d (events_shown o) (events_shown o)) → IfOk r (λ o. GoOnBeside D M stands step says failures b d (events_shown o) (events_shown o))
  after_silent failures b c d device cs (Ok o) e one more = then_on failures b c d [] [] (events_shown o) (events_shown o) (subst (λ (ds : List Change). GoOnBeside D M stands step says failures b c (drive_events device ds) (drive_events device ds)) e one) more
  after_silent failures b c d device cs (Err e) f one more = tt

  -- the change of both hosts
  pub both_then : (failures : D → ℕ) (b c d e : Course D) (x : Change) (is_made : Bool) (xs ys : List Change) → is_made ≡ false → ys ≡ x ∷ xs → GoOnBeside D M stands step says failures b c [] []
      → GoOnBeside D M stands step says failures c d (host_event x ∷ []) (host_event x ∷ []) → GoOnBeside D M stands step says failures d e [] (host_events xs)
      → GoOnBeside D M stands step says failures b e (if is_made then [] else (host_event x ∷ [])) (host_events ys)
  both_then failures b c d e x is_made xs ys never is one two three =
      subst (λ (zs : List Change). GoOnBeside D M stands step says failures b e (if is_made then [] else (host_event x ∷ [])) (host_events zs)) (sym is)
      (subst (λ (made : Bool). GoOnBeside D M stands step says failures b e (if made then [] else (host_event x ∷ [])) (host_events (x ∷ xs))) (sym never)
      (then_on failures b d e (host_event x ∷ []) (host_event x ∷ []) [] (host_events xs) (then_on failures b c d [] [] (host_event x ∷ []) (host_event x ∷ []) one two) three))

  -- one of the tidy host
  pub tidy_then : (failures : D → ℕ) (b c d e : Course D) (x : Change) (made : List Event) (xs ys : List Change) → ys ≡ x ∷ xs → GoOnBeside D M stands step says failures b c [] []
      → GoOnBeside D M stands step says failures c d [] (host_event x ∷ []) → GoOnBeside D M stands step says failures d e made (host_events xs) → GoOnBeside D M stands step says failures b e made (host_events ys)
  tidy_then failures b c d e x made xs ys is one two three =
      subst (λ (zs : List Change). GoOnBeside D M stands step says failures b e made (host_events zs)) (sym is)
      (then_on failures b d e [] (host_event x ∷ []) made (host_events xs) (then_on failures b c d [] [] [] (host_event x ∷ []) one two) three)
