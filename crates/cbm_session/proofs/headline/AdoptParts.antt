-- From a point of any session on, a piece of it that was played or is under way: its part of an allowed session.
use Rattle.std.proofs.Common.{◌≡◌, ℕ, ◌≤◌, ◌<◌, inl, inr, Bool, List, [], ◌∷◌, ◌++◌, Option, ap, sym, subst, arith, refl}
use Rattle.cbm_iec.specs.Ports.{port_due, next_held}
use Rattle.cbm_iec.specs.declared.machine.Act.{Act}
use Rattle.cbm_iec.specs.declared.event.Event.{Event}
use Rattle.cbm_iec.specs.declared.event.Who.TheVariants.{Host, Drive}
use Rattle.cbm_iec.specs.declared.event.Who.{Who}
use Rattle.cbm_iec.specs.declared.lines.Change.{Change}
use Rattle.cbm_session.proofs.frames.Phases.{Each}
use Rattle.cbm_session.proofs.headline.AlongBus.{devs, sitting_due}
use Rattle.cbm_session.proofs.headline.Answering.{Answered, to_talker_answered, nothing_answered, talk_answered, talker_byte}
use Rattle.cbm_session.proofs.headline.AnswersRun.{talk_runs, nothing_runs}
use Rattle.cbm_session.proofs.headline.BusActs.{AllRan, acts_append}
use Rattle.cbm_session.proofs.headline.CutTwin.{FirstLate}
use Rattle.cbm_session.proofs.headline.Ending.{Continues, whole_then}
use Rattle.cbm_session.proofs.headline.EndingLead.{end_lead, end_mute}
use Rattle.cbm_session.proofs.headline.EndingTalk.{ends_there, end_talk}
use Rattle.cbm_session.proofs.headline.Here.{IsTalkers, Here, the_seat}
use Rattle.cbm_session.proofs.headline.Keeping.{HostFrom, AllAtMoment, changes_at}
use Rattle.cbm_session.proofs.headline.Lawful.{among_time}
use Rattle.cbm_session.proofs.headline.LeftOver.{HostSafe, safe_next}
use Rattle.cbm_session.proofs.headline.Meeting.{in_time_at}
use Rattle.cbm_session.proofs.headline.PieceBus.{Going}
use Rattle.cbm_session.proofs.headline.Premises.{mute, Stood}
use Rattle.cbm_session.proofs.headline.PullPlayed.{AllShow, show_among}
use Rattle.cbm_session.proofs.headline.TalkParts.{HostEvents, all_host_from}
use Rattle.cbm_session.proofs.headline.Unasked.{Runs, runs_front, each_runs, runs_unasked, steps_unasked}
use Rattle.cbm_session.proofs.joining.Merging.{none_sooner}
use Rattle.cbm_session.proofs.joining.Seating.{Sits}
use Rattle.cbm_session.specs.Answers.{IsAnswer, RunEach, run_each}
use Rattle.cbm_session.specs.Buses.{SideAmong}
use Rattle.cbm_session.specs.Pieces.{Whole, BusPlace, Point, steps_of, Fits, whole_point, PullPiece, Command, Byte, ToListener, ToNobody, ToTalker, Nothing, Talk, Cutting}
use Rattle.cbm_session.specs.Playing.{Station, Plays, stays, change, reaction, IsByte, AllBytes, AllInTime, IsMachine, drive_events, shown}
use Rattle.cbm_session.specs.Seats.{Seat, device, talker_of}
use Rattle.cbm_session.specs.Sessions.{MayEnd}
use Rattle.cbm_session.specs.Steps.{Step, moment_of, events_of, acts_for}
use Rattle.cbm_session.specs.Timing.{is_host}

-- the events of steps that are the host's not before t
pub host_events : (t : ℕ) (ss : List Step) → HostFrom t ss → HostEvents t (events_of ss)
host_events t [] h = tt
host_events t (s ∷ ss) h = (h.0, host_events t ss h.1)

none_shown : (d : ℕ) (cs : List Change) → drive_events d cs ≡ [] → cs ≡ []
none_shown d [] e = refl
none_shown d (c ∷ cs) e = absurd cc

first_at : (c t : ℕ) (cs more rest : List Event) → c ≤ t → AllAtMoment t cs → (cs ≡ [] → ⊥) → FirstLate c ((cs ++ more) ++ rest)
first_at c t [] more rest l a n = absurd (n refl)
first_at c t (x ∷ cs) more rest l a n = let m = a.0 in inr (omega (arith, l, m))

module _ (M : Type 0) (step : M → Act → M) (peek : M → Option (ℕ × Bool)) (place : ℕ → ℕ) where
  -- what all have to say at a play's beginning are bytes
  pub bytes_first : {n n2 : ℕ} {ss ss2 : List (Station M)} {es : List Event} → Plays M step peek n ss es n2 ss2 → AllBytes M step peek ss
  bytes_first (stays y e k f) = y
  bytes_first (change c more y l i e f) = y
  bytes_first (reaction t b o h more y e i k f) = y

  -- after a cut nothing is due before it
  pub cut_due : (p : Point) (c : ℕ) → p.place ≡ Cutting c → (ss : List Seat) (xs : List (Station M)) → Stood M step peek place p ss xs → AllInTime M step peek c xs
  cut_due p c e [] [] h = tt
  cut_due p c e [] (x ∷ xs) h = elim h [ ]
  cut_due p c e (s ∷ ss) [] h = elim h [ ]
  cut_due p c e (s ∷ ss) (x ∷ xs) h = (subst (λ (v : BusPlace). SideAmong v s.role x.port.side) e h.0.stands.side, cut_due p c e ss xs h.1)

  -- so what is played first there is the host's, or not before the cut
  pub first_late : {n n2 : ℕ} {xs ss2 : List (Station M)} {es : List Event} → Plays M step peek n xs es n2 ss2 → (c : ℕ) → AllInTime M step peek c xs → AllShow M step peek mute place xs → (es ≡ [] → ⊥) → (rest : List Event) → FirstLate c (es ++ rest)
  first_late (stays y e k f) c i s n rest = absurd (n e)
  first_late (change d more y l j e f) c i s n rest = subst (λ (v : List Event). FirstLate c (v ++ rest)) (sym e) (inl refl)
  first_late (reaction t before o afterwards more y u f e p) c i s n rest =
      let soon = in_time_at c t (port_due o.port) (among_time M step peek c before o afterwards (subst (λ (v : List (Station M)). AllInTime M step peek c v) u i)) f.due in
      let shows = show_among M step peek mute place before o afterwards (subst (λ (v : List (Station M)). AllShow M step peek mute place v) u s) t f.due in
      let ds = drive_events o.port.party.device (shown M step peek t o) in
      let at : AllAtMoment t ds = changes_at o.port.party.device t o.port.own.clock_low (next_held (peek o.machine) o.port).clock_low o.port.own.data_low (next_held (peek o.machine) o.port).data_low in
      subst (λ (v : List Event). FirstLate c (v ++ rest)) (sym e) (first_at c t ds more rest soon at (λ k. shows (none_shown o.port.party.device (shown M step peek t o) k)))

  -- each drive sits where it stands
  pub all_sit : (p : Point) (ss : List Seat) (xs : List (Station M)) → Stood M step peek place p ss xs → Each (λ x. Sits (device x) p.seats x) ss
  all_sit p [] xs h = tt
  all_sit p (s ∷ ss) [] h = elim h [ ]
  all_sit p (s ∷ ss) (x ∷ xs) h = (h.0.sound.seated.sits, all_sit p ss xs h.1)

  -- machines that run all of some steps run their front
  pub runs_before : (ss : List Seat) (ms : ℕ → M) (xs ys : List Step) → RunEach M step peek ss ms (xs ++ ys) → RunEach M step peek ss ms xs
  runs_before [] ms xs ys r = tt
  runs_before (s ∷ ss) ms xs ys r =
      let d = device s in
      (runs_front M step peek (ms d) (acts_for d xs) (acts_for d ys) (subst (λ (l : List Act). Runs M step peek (ms d) l) (acts_append d xs ys) r.0), runs_before ss ms xs ys r.1)

  -- what the host has left to do isn't before t, where nothing is due before it
  pub rest_late : (t : ℕ) (front : List Step) (y : Step) (ys : List Step) (zs : List (Station M)) (rest : List Event) → Going M step peek place (y ∷ ys) zs → HostSafe t (front ++ y ∷ ys) (events_of front ++ rest) → HostEvents t rest → AllInTime M step peek t zs → HostFrom t (y ∷ ys)
  rest_late t front y ys zs rest g h r time = let l = by_who y.event.who refl in (λ k. l, all_host_from t ys (none_sooner t (moment_of y) ys l g.tidy.order.0))
    where
      by_who : (w : Who) → y.event.who ≡ w → t ≤ moment_of y
      by_who Host w = safe_next t front y ys rest h r (ap is_host w)
      by_who (Drive d) w = sitting_due M step peek g.says place d zs y ys g.fin g.goes w (g.tidy.owned.0 d w) t time

  module _ (machine : IsMachine M step peek) (p : Point) (ms : ℕ → M) (xs : List (Station M)) (here : Here M step peek place p ms xs) where
    -- the machines run a piece that the talker's answers
    pub answer_runs : (w : Whole) → IsTalkers w → Fits p w → IsAnswer M step peek (ms (talker_of p.seats).device) w → RunEach M step peek p.seats ms (steps_of p w)
    answer_runs (PullPiece at) a fits answer = elim a [ ]
    answer_runs (Command f) a fits answer = elim a [ ]
    answer_runs (Byte eoi f) a fits answer = elim a [ ]
    answer_runs (ToListener at) a fits answer = elim a [ ]
    answer_runs (ToNobody at clock) a fits answer = elim a [ ]
    answer_runs (ToTalker at clock) a fits answer = each_runs M step peek p.seats ms (steps_of p (ToTalker at clock)) (λ d. runs_unasked M step peek d (ms d) (steps_of p (ToTalker at clock)) (steps_unasked p (ToTalker at clock) tt))
    answer_runs (Nothing at clock freed) a fits answer = nothing_runs M step peek place p ms at clock freed fits answer p.seats xs here.stand
    answer_runs (Talk at f) a fits answer =
        let z = the_seat M step peek place p p.seats xs here.stand (here.leads at fits.0).talker in
        talk_runs M step peek p ms z.0 z.1.0 z.1.1 at f fits answer

    -- the piece that the talker's machine answers
    pub answered : {n n2 : ℕ} {ss2 : List (Station M)} {es : List Event} → Plays M step peek n xs es n2 ss2 → (t : ℕ) (w : Whole) → IsTalkers w → Fits p w → Answered M step peek t p (ms (talker_of p.seats).device) w
    answered plays t (PullPiece at) a fits = elim a [ ]
    answered plays t (Command f) a fits = elim a [ ]
    answered plays t (Byte eoi f) a fits = elim a [ ]
    answered plays t (ToListener at) a fits = elim a [ ]
    answered plays t (ToNobody at clock) a fits = elim a [ ]
    answered plays t (ToTalker at clock) a fits =
        let z = the_seat M step peek place p p.seats xs here.stand fits.0.talker in
        to_talker_answered M step peek t p (ms (talker_of p.seats).device) z.0 z.1.0 z.1.1 at clock fits
    answered plays t (Nothing at clock freed) a fits =
        let z = the_seat M step peek place p p.seats xs here.stand fits.0.talker in
        nothing_answered M step peek t p (ms (talker_of p.seats).device) z.0 z.1.0 z.1.1 at clock freed fits
    answered plays t (Talk at f) a fits =
        let lead = here.leads at fits.0 in
        let z = the_seat M step peek place p p.seats xs here.stand lead.talker in
        let byte = talker_byte M step peek place p ms [] p.seats xs xs here.stand refl here.ran (bytes_first plays) lead.talker in
        let small : lead.byte.0.0 < 256 = subst (λ (o : Option (ℕ × Bool)). IsByte M step peek o) lead.byte.1 byte in
        talk_answered M step peek t p (ms (talker_of p.seats).device) z.0 z.1.0 z.1.1 at f fits lead.byte.0.0 lead.byte.0.1 lead.byte.1 small

    -- a piece of the talker under way has its ending
    pub ended : (zs : List (Station M)) (w : Whole) → IsTalkers w → Fits p w → IsAnswer M step peek (ms (talker_of p.seats).device) w → (t : ℕ) (front beyond : List Step) → steps_of p w ≡ front ++ beyond → HostFrom t beyond
        → devs M step peek mute place zs ≡ devs M step peek mute place xs → AllRan M step peek ms front zs → AllBytes M step peek zs → Continues M step peek p ms (events_of front) t
    ended zs (PullPiece at) a fits answer t front beyond parts late same ran bytes = elim a [ ]
    ended zs (Command f) a fits answer t front beyond parts late same ran bytes = elim a [ ]
    ended zs (Byte eoi f) a fits answer t front beyond parts late same ran bytes = elim a [ ]
    ended zs (ToListener at) a fits answer t front beyond parts late same ran bytes = elim a [ ]
    ended zs (ToNobody at clock) a fits answer t front beyond parts late same ran bytes = elim a [ ]
    ended zs (ToTalker at clock) a fits answer t front beyond parts late same ran bytes =
        let z = the_seat M step peek place p p.seats xs here.stand fits.0.talker in
        end_lead M step peek place machine p ms xs zs here z.0 z.1.0 z.1.1 at clock fits answer t front beyond parts late same ran bytes
    ended zs (Nothing at clock freed) a fits answer t front beyond parts late same ran bytes = end_mute M step peek place machine p ms xs here at clock freed fits answer t front beyond parts late
    ended zs (Talk at f) a fits answer t front beyond parts late same ran bytes =
        let z = the_seat M step peek place p p.seats xs here.stand (here.leads at fits.0).talker in
        end_talk M step peek place machine p ms xs zs here z.0 z.1.0 z.1.1 at f fits answer t front beyond parts late same ran bytes

    -- a piece after which a session may end
    pub stops_after : (w : Whole) → Fits p w → IsAnswer M step peek (ms (talker_of p.seats).device) w → RunEach M step peek p.seats ms (steps_of p w) → MayEnd (whole_point p w).place → (t : ℕ) (front beyond : List Step) → steps_of p w ≡ front ++ beyond → HostFrom t beyond → (es : List Event) → events_of front ≡ es
        → Continues M step peek p ms es t
    stops_after w fits answer runs m t front beyond parts late es e =
        subst (λ (l : List Event). Continues M step peek p ms l t) e (whole_then M step peek p ms w t front beyond fits answer runs parts late (ends_there M step peek place machine (whole_point p w) (run_each M step peek ms (steps_of p w)) t m))
