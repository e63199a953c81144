-- Any turnaround under way: how an allowed session ends with it.
use Rattle.std.proofs.Common.{◌≡◌, ℕ, ◌+◌, ◌≤◌, ◌<◌, inl, inr, Bool, true, false, List, [], ◌∷◌, ◌++◌, append-nil, Option, Some, ap, sym, ◌∙◌, subst, refl, arith}
use Rattle.cbm_iec.specs.declared.machine.Act.{Act}
use Rattle.cbm_iec.specs.declared.lines.Line.TheVariants.{Clock}
use Rattle.cbm_iec.specs.declared.lines.Way.TheVariants.{Free}
use Rattle.cbm_iec.specs.declared.party.Party.{Party}
use Rattle.cbm_iec.specs.declared.party.Role.TheVariants.{Talker}
use Rattle.cbm_session.proofs.among.Points.{whole_sound}
use Rattle.cbm_session.proofs.among.Standing.{IsSound}
use Rattle.cbm_session.proofs.headline.AlongBus.{devs}
use Rattle.cbm_session.proofs.headline.Answering.{talker_byte}
use Rattle.cbm_session.proofs.headline.AnswersRun.{nothing_runs}
use Rattle.cbm_session.proofs.headline.BusActs.{AllRan, acts_append}
use Rattle.cbm_session.proofs.headline.Ending.{Continues, whole_then, tail}
use Rattle.cbm_session.proofs.headline.EndingTalk.{before_or_has, ends_there}
use Rattle.cbm_session.proofs.headline.EndingTurn.{turn_drives, lead_around, mute_around, cut_lead, cut_mute}
use Rattle.cbm_session.proofs.headline.Here.{Here}
use Rattle.cbm_session.proofs.headline.Keeping.{HostFrom}
use Rattle.cbm_session.proofs.headline.Onward.{acts_plain, leads_plain, leads_after, talker_same}
use Rattle.cbm_session.proofs.headline.Premises.{mute}
use Rattle.cbm_session.proofs.headline.TalkParts.{AllPlain}
use Rattle.cbm_session.proofs.headline.TurnTwin.{turn_begins, leads, lead_steps}
use Rattle.cbm_session.proofs.headline.Unasked.{each_runs, runs_unasked, steps_unasked}
use Rattle.cbm_session.proofs.joining.Talkers.{standing_drives, standing_roles}
use Rattle.cbm_session.proofs.reading.PieceReadings.{next_seat}
use Rattle.cbm_session.specs.Answers.{IsAnswer, run_acts, run_each}
use Rattle.cbm_session.specs.Pieces.{Point, steps_of, before, Fits, standing, whole_point, Full, ToTalker, Nothing}
use Rattle.cbm_session.specs.Playing.{Station, IsByte, AllBytes, IsMachine}
use Rattle.cbm_session.specs.Seats.{lines, Seat, talker_of}
use Rattle.cbm_session.specs.Steps.{Step, events_of, acts_for, host}

plain_after : (xs ys : List Step) → AllPlain (xs ++ ys) → AllPlain ys
plain_after [] ys a = a
plain_after (x ∷ xs) ys a = plain_after xs ys a.1

-- after CLOCK's release a turnaround up to Lead counts nothing more
rest_plain : (p : Point) (at clock : ℕ) (early afterwards : List Step) (h : Step) → at ≤ clock → steps_of p (ToTalker at clock) ≡ turn_begins at early ++ h ∷ afterwards → AllPlain afterwards
rest_plain p at clock early afterwards h late is =
    let same : leads p at clock ≡ early ++ h ∷ afterwards = two at (leads p at clock) (early ++ h ∷ afterwards) (sym (lead_steps p at clock late) ∙ is) in
    (plain_after early (h ∷ afterwards) (subst AllPlain same (leads_plain p at clock))).1
  where
    two : (at : ℕ) (xs ys : List Step) → turn_begins at xs ≡ turn_begins at ys → xs ≡ ys
    two at xs ys e = cc

module _ (M : Type 0) (step : M → Act → M) (peek : M → Option (ℕ × Bool)) (place : ℕ → ℕ) (machine : IsMachine M step peek) where
  pub end_lead : (p : Point) (ms : ℕ → M) (xs zs : List (Station M)) → Here M step peek place p ms xs → (s : Seat) → IsSound p s → s.role ≡ Talker → (at clock : ℕ) (fits : Fits p (ToTalker at clock)) → IsAnswer M step peek (ms (talker_of p.seats).device) (ToTalker at clock) → (t : ℕ) (front beyond : List Step)
      → steps_of p (ToTalker at clock) ≡ front ++ beyond → HostFrom t beyond → devs M step peek mute place zs ≡ devs M step peek mute place xs → AllRan M step peek ms front zs → AllBytes M step peek zs → Continues M step peek p ms (events_of front) t
  end_lead p ms xs zs here s sound talks at clock fits answer t front beyond parts late same ran bytes =
      let a = lead_around p at clock fits in
      elim (before_or_has front beyond (turn_begins at (before clock (turn_drives p (ToTalker at clock)))) (host clock Clock Free) a.afterwards (sym parts ∙ a.is)) [
        | inl k ↦ cut_lead M step peek p ms at clock t front beyond fits answer late k
        | inr k ↦ whole_then M step peek p ms (ToTalker at clock) t front beyond fits answer
            (each_runs M step peek p.seats ms (steps_of p (ToTalker at clock)) (λ d. runs_unasked M step peek d (ms d) (steps_of p (ToTalker at clock)) (steps_unasked p (ToTalker at clock) tt))) parts late
            (next (plain_after k.left beyond (subst AllPlain k.afterwards_is (rest_plain p at clock (before clock (turn_drives p (ToTalker at clock))) a.afterwards (host clock Clock Free) (omega (arith, fits.1)) a.is))))
      ]
    where
      next : AllPlain beyond → Continues M step peek (whole_point p (ToTalker at clock)) (run_each M step peek ms (steps_of p (ToTalker at clock))) [] t
      next plain =
          let w = ToTalker at clock in
          let at2 = clock + (talker_of p.seats).reaction + 80 in
          let lead = leads_after M step peek place machine p ms xs here (Full (ToTalker at clock)) fits answer at2 refl in
          let d = (talker_of p.seats).device in
          let acts : acts_for d front ≡ acts_for d (steps_of p (ToTalker at clock)) =
          sym (ap (λ (l : List Step). acts_for d l) parts ∙ acts_append d front beyond ∙ ap (λ (l : List Act). acts_for d front ++ l) (acts_plain d beyond plain) ∙ append-nil (acts_for d front)) in
          let byte = talker_byte M step peek place p ms front p.seats xs zs here.stand same ran bytes fits.0.talker in
          let one = talker_same (standing (lines true false)) p.seats (standing_roles (lines true false)) (standing_drives (lines true false)) in
          let here_byte : peek (run_acts M step peek (ms d) (acts_for d front)) ≡ Some lead.byte.0 =
          ap (λ (l : List Act). peek (run_acts M step peek (ms d) l)) acts ∙ ap (λ (b : Party). peek (run_each M step peek ms (steps_of p (ToTalker at clock)) b.device)) (sym one) ∙ lead.byte.1 in
          let small : lead.byte.0.0 < 256 = subst (λ (o : Option (ℕ × Bool)). IsByte M step peek o) here_byte byte in
          tail M step peek (whole_point p (ToTalker at clock)) (run_each M step peek ms (steps_of p (ToTalker at clock))) (next_seat (ToTalker at clock) s) (whole_sound p s (ToTalker at clock) sound fits) (standing_roles (lines true false) s ∙ talks) at2 refl lead.since lead.byte.0.0 lead.byte.0.1 lead.byte.1 small t

  pub end_mute : (p : Point) (ms : ℕ → M) (xs : List (Station M)) → Here M step peek place p ms xs → (at clock : ℕ) (freed : Option ℕ) (fits : Fits p (Nothing at clock freed)) → IsAnswer M step peek (ms (talker_of p.seats).device) (Nothing at clock freed) → (t : ℕ) (front beyond : List Step)
      → steps_of p (Nothing at clock freed) ≡ front ++ beyond → HostFrom t beyond → Continues M step peek p ms (events_of front) t
  end_mute p ms xs here at clock freed fits answer t front beyond parts late =
      let w = Nothing at clock freed in
      let a = mute_around p at clock freed fits in
      elim (before_or_has front beyond (turn_begins at (before clock (turn_drives p (Nothing at clock freed)))) (host clock Clock Free) a.afterwards (sym parts ∙ a.is)) [
        | inl k ↦ cut_mute M step peek p ms at clock freed t front beyond fits answer late k
        | inr k ↦ whole_then M step peek p ms (Nothing at clock freed) t front beyond fits answer (nothing_runs M step peek place p ms at clock freed fits answer p.seats xs here.stand) parts late
            (ends_there M step peek place machine (whole_point p (Nothing at clock freed)) (run_each M step peek ms (steps_of p (Nothing at clock freed))) t tt)
      ]
