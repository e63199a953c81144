-- A frame of the talker under way: an allowed session ends with a cut of it at its accept, or, where that was played, with the frame and what a drive that leads does next.
use Rattle.cbm_session.proofs.Paces.{by_eight}
use Rattle.std.proofs.Common.{◌≡◌, ℕ, ◌+◌, ◌≤◌, ◌<◌, ◌⊎◌, inl, inr, Bool, true, false, List, [], ◌∷◌, ◌++◌, append-nil, Option, Some, None, ap, sym, ◌∙◌, subst, arith, refl}
use Rattle.std.specs.Prelude.{if◌then◌else◌}
use Rattle.cbm_iec.specs.declared.machine.Act.TheVariants.{Said}
use Rattle.cbm_iec.specs.declared.machine.Act.{Act}
use Rattle.cbm_iec.specs.declared.lines.Line.TheVariants.{Clock, Data}
use Rattle.cbm_iec.specs.declared.lines.Way.TheVariants.{Pull, Free}
use Rattle.cbm_iec.specs.declared.party.Party.{Party}
use Rattle.cbm_iec.specs.declared.party.Role.TheVariants.{Talker}
use Rattle.cbm_session.proofs.among.Calm.{Every}
use Rattle.cbm_session.proofs.among.Fronts.{steps_order}
use Rattle.cbm_session.proofs.among.Points.{whole_sound}
use Rattle.cbm_session.proofs.among.Standing.{IsSound}
use Rattle.cbm_session.proofs.headline.AlongBus.{devs}
use Rattle.cbm_session.proofs.headline.Answering.{talker_byte}
use Rattle.cbm_session.proofs.headline.AnswersRun.{talk_runs}
use Rattle.cbm_session.proofs.headline.BusActs.{AllRan}
use Rattle.cbm_session.proofs.headline.Ending.{Continues, some_there, whole_then, cut_then, tail}
use Rattle.cbm_session.proofs.headline.Here.{Here}
use Rattle.cbm_session.proofs.headline.Keeping.{HostFrom, host_after_it, host_front}
use Rattle.cbm_session.proofs.headline.Onward.{leads_after, talker_same}
use Rattle.cbm_session.proofs.headline.Premises.{mute}
use Rattle.cbm_session.proofs.headline.TalkBus.{frame_steps}
use Rattle.cbm_session.proofs.headline.TalkParts.{AllPlain, told_front, told_back, front_plain, front_back}
use Rattle.cbm_session.proofs.headline.Unasked.{IsUnasked}
use Rattle.cbm_session.proofs.joining.Merging.{AllBefore, InOrder, cut_is, order_after}
use Rattle.cbm_session.proofs.joining.OneDrive.{one_told, bits_before}
use Rattle.cbm_session.proofs.joining.Talkers.{talker_is, standing_drives, standing_roles}
use Rattle.cbm_session.proofs.reading.PieceReadings.{next_seat}
use Rattle.cbm_session.proofs.timing.SessionOrder.{both_before}
use Rattle.cbm_session.specs.Answers.{IsAnswer, run_acts, run_each}
use Rattle.cbm_session.specs.Bits.{number_of}
use Rattle.cbm_session.specs.Frames.{Told, is_last, signal_steps, first_bit, bit_steps, SignalFits, ToldFits}
use Rattle.cbm_session.specs.Pieces.{Whole, BusPlace, Point, steps_of, before, Fits, standing, whole_point, Full, Talk, Open, Leading}
use Rattle.cbm_session.specs.Playing.{Station, IsByte, AllBytes, IsMachine}
use Rattle.cbm_session.specs.Seats.{Seat, device, is_talker, has_talker, talker_of}
use Rattle.cbm_session.specs.Sessions.{MayEnd}
use Rattle.cbm_session.specs.Steps.{Step, events_of, acts_for, host, drive, for_one}

-- a front of a list ends before one of its steps, or has it
pub record BeforeIt (xs front beyond bs : List Step) (h : Step) : Type 0 where
  pub left : List Step
  pub front_is : xs ≡ front ++ left
  pub beyond_is : beyond ≡ left ++ h ∷ bs

pub record HasIt (bs beyond : List Step) : Type 0 where
  pub left : List Step
  pub afterwards_is : bs ≡ left ++ beyond

pub before_or_has : (front beyond xs : List Step) (h : Step) (bs : List Step) → front ++ beyond ≡ xs ++ h ∷ bs → BeforeIt xs front beyond bs h ⊎ HasIt bs beyond
before_or_has [] beyond xs h bs e = inl (record { left = xs; front_is = refl; beyond_is = e })
before_or_has (f ∷ front) beyond [] h bs e = inr (record { left = front; afterwards_is = (let k : front ++ beyond ≡ bs = cc in sym k) })
before_or_has (f ∷ front) beyond (x ∷ xs) h bs e =
    let tail_is : front ++ beyond ≡ xs ++ h ∷ bs = cc in
    let same : x ≡ f = cc in
    elim (before_or_has front beyond xs h bs tail_is) [
      | inl k ↦ inl (record { left = k.left; front_is = ap (λ (v : Step). v ∷ xs) same ∙ ap (λ (l : List Step). f ∷ l) k.front_is; beyond_is = k.beyond_is })
      | inr k ↦ inr k
    ]

plain_unasked : (ss : List Step) → AllPlain ss → Every IsUnasked ss
plain_unasked [] a = tt
plain_unasked (s ∷ ss) a = (subst Rattle.cbm_session.proofs.headline.Unasked.UnaskedMark (sym a.0) tt, plain_unasked ss a.1)

-- all of a frame but its accept and what comes after is before the accept
front_early : (b : Party) (at : ℕ) (f : Told) → ToldFits b at f → AllBefore f.accept (told_front b at f)
front_early b at f h =
    let free = h.free in
    let accept = h.accept in
    let eight = h.eight in
    let soon = by_signal f.signal h.signal in
    let early = soon.0 in
    (omega (arith, free, accept, early), (omega (arith, accept, early), both_before f.accept (signal_steps f.signal) (bit_steps b (first_bit b f) false f.bits) (soon.1 f.accept (omega (arith, accept))) (bits_before b (first_bit b f) f.accept false f.bits (omega (arith, accept, eight, by_eight b.pace eight)))))
  where
    by_signal : (x : Option (ℕ × ℕ)) → SignalFits f.free x → (f.free ≤ (elim x as (λ y. ℕ) [ None ↦ f.free | Some y ↦ y.1 ])) × ((m : ℕ) → (elim x as (λ y. ℕ) [ None ↦ f.free | Some y ↦ y.1 ]) + b.reaction < m → AllBefore m (signal_steps x))
    by_signal None g = (omega arith, λ m l. tt)
    by_signal (Some (pull, again)) g = (let a = g.0 in let c = g.1 in omega (arith, a, c), λ m l. (let a = g.0 in let c = g.1 in (omega (arith, c, l), (omega (arith, l), tt))))

module _ (M : Type 0) (step : M → Act → M) (peek : M → Option (ℕ × Bool)) (place : ℕ → ℕ) (machine : IsMachine M step peek) where
  -- where a session may end it does
  pub ends_there : (p : Point) (ms : ℕ → M) (t : ℕ) → MayEnd p.place → Continues M step peek p ms [] t
  ends_there p ms t m = record { pieces = []; done = []; more = []; linked = m; steps = refl; events = refl; allowed = tt; host = tt }

  pub end_talk : (p : Point) (ms : ℕ → M) (xs zs : List (Station M)) → Here M step peek place p ms xs → (s : Seat) → IsSound p s → s.role ≡ Talker → (at : ℕ) (g : Told) (fits : Fits p (Talk at g)) → IsAnswer M step peek (ms (talker_of p.seats).device) (Talk at g) → (t : ℕ) (front beyond : List Step)
      → steps_of p (Talk at g) ≡ front ++ beyond → HostFrom t beyond → devs M step peek mute place zs ≡ devs M step peek mute place xs → AllRan M step peek ms front zs → AllBytes M step peek zs → Continues M step peek p ms (events_of front) t
  end_talk p ms xs zs here s sound talks at g fits answer t front beyond parts late same ran bytes =
      elim (before_or_has front beyond (told_front s.party at g) accept afterwards (sym parts ∙ is ∙ sym (front_back s.party at g))) [
        | inl k ↦ cut_then M step peek p ms w g.accept t front k.left (fits, since_early, some) answer (subst (Every IsUnasked) (sym cut) (plain_unasked (told_front s.party at g) (front_plain s.party at g))) (cut ∙ k.front_is)
            (host_front t k.left (accept ∷ afterwards) (subst (HostFrom t) k.beyond_is late)) ((host_after_it t k.left (accept ∷ afterwards) (subst (HostFrom t) k.beyond_is late)).0 refl)
        | inr k ↦ whole_then M step peek p ms w t front beyond fits answer (talk_runs M step peek p ms s sound talks at g fits answer) parts late (next (is_last g) refl k)
      ]
    where
      w : Whole
      w = Talk at g

      the_talker : talker_of p.seats ≡ s.party
      the_talker = talker_is (device s) p.seats s sound.seated.one sound.seated.sits (ap is_talker talks)

      told : ToldFits s.party at g
      told = subst (λ (b : Party). ToldFits b at g) the_talker fits.1

      accept : Step
      accept = for_one s.party.device (Said (number_of g.bits) (is_last g)) (host g.accept Data Pull)

      afterwards : List Step
      afterwards = if is_last g then drive s.party.device (g.accept + s.party.reaction) Clock Free ∷ [] else []

      is : steps_of p (Talk at g) ≡ one_told s.party at g
      is = frame_steps M step peek mute place p at s sound talks g fits

      order : InOrder (for_one s.party.device (Said (number_of g.bits) (is_last g)) (host g.accept Data Pull) ∷ (if is_last g then drive s.party.device (g.accept + s.party.reaction) Clock Free ∷ [] else []))
      order = order_after (told_front s.party at g) (told_back s.party g (number_of g.bits) (is_last g)) (subst InOrder (is ∙ sym (front_back s.party at g)) (steps_order p (Talk at g) fits))

      early : AllBefore g.accept (told_front s.party at g)
      early = front_early s.party at g told

      cut : before g.accept (steps_of p (Talk at g)) ≡ told_front s.party at g
      cut = ap (λ (l : List Step). before g.accept l) (is ∙ sym (front_back s.party at g)) ∙ cut_is g.accept (told_front s.party at g) (told_back s.party g (number_of g.bits) (is_last g)) early (omega arith, order.0)

      some : Rattle.cbm_session.specs.Pieces.some_from g.accept (steps_of p (Talk at g)) ≡ true
      some = ap (λ (l : List Step). Rattle.cbm_session.specs.Pieces.some_from g.accept l) (is ∙ sym (front_back s.party at g)) ∙ some_there g.accept (told_front s.party at g) (for_one s.party.device (Said (number_of g.bits) (is_last g)) (host g.accept Data Pull)) (if is_last g then drive s.party.device (g.accept + s.party.reaction) Clock Free ∷ [] else []) (omega arith)

      since_early : p.since ≤ g.accept
      since_early = let a = (here.leads at fits.0).since in let b = early.0 in omega (arith, a, b)

      none_left : (l r : List Step) → [] ≡ l ++ r → r ≡ []
      none_left [] r e = sym e
      none_left (x ∷ l) r e = absurd cc

      next : (v : Bool) → is_last g ≡ v → HasIt afterwards beyond → Continues M step peek (whole_point p (Talk at g)) (run_each M step peek ms (steps_of p (Talk at g))) [] t
      next true l k = ends_there (whole_point p (Talk at g)) (run_each M step peek ms (steps_of p (Talk at g))) t (subst MayEnd (sym (ap (λ (v : Bool). if v then Open else Leading (g.accept + 100)) l)) tt)
      next false l k =
          let p2 = whole_point p (Talk at g) in
          let ms2 = run_each M step peek ms (steps_of p (Talk at g)) in
          let there : p2.place ≡ Leading (g.accept + 100) = ap (λ (v : Bool). if v then Open else Leading (g.accept + 100)) l in
          let lead = leads_after M step peek place machine p ms xs here (Full (Talk at g)) fits answer (g.accept + 100) there in
          let empty : beyond ≡ [] = none_left k.left beyond (ap (λ (v : Bool). if v then drive s.party.device (g.accept + s.party.reaction) Clock Free ∷ [] else []) (sym l) ∙ k.afterwards_is) in
          let whole : front ≡ steps_of p (Talk at g) = sym (parts ∙ ap (λ (r : List Step). front ++ r) empty ∙ append-nil front) in
          let byte = talker_byte M step peek place p ms front p.seats xs zs here.stand same ran bytes (here.leads at fits.0).talker in
          let keep = standing (Rattle.cbm_session.specs.Seats.lines (Rattle.std.specs.Prelude.not (is_last g)) false) in
          let one = talker_same keep p.seats (standing_roles (Rattle.cbm_session.specs.Seats.lines (Rattle.std.specs.Prelude.not (is_last g)) false)) (standing_drives (Rattle.cbm_session.specs.Seats.lines (Rattle.std.specs.Prelude.not (is_last g)) false)) in
          let d = (talker_of p.seats).device in
          let here_byte : peek (run_acts M step peek (ms d) (acts_for d front)) ≡ Some lead.byte.0 =
          ap (λ (r : List Step). peek (run_acts M step peek (ms d) (acts_for d r))) whole ∙ ap (λ (b : Party). peek (run_each M step peek ms (steps_of p (Talk at g)) b.device)) (sym one) ∙ lead.byte.1 in
          let small : lead.byte.0.0 < 256 = subst (λ (o : Option (ℕ × Bool)). IsByte M step peek o) here_byte byte in
          tail M step peek p2 ms2 (next_seat (Talk at g) s) (whole_sound p s (Talk at g) sound fits) (standing_roles (Rattle.cbm_session.specs.Seats.lines (Rattle.std.specs.Prelude.not (is_last g)) false) s ∙ talks) (g.accept + 100) there lead.since lead.byte.0.0 lead.byte.0.1 lead.byte.1 small t
