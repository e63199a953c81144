-- A piece under way whose next change of the host falls on the moment of a reaction: an allowed session begins the same and has that change later, or there is no such reaction.
use Rattle.cbm_session.proofs.Paces.{settle_from}
use Rattle.cbm_session.proofs.joining.Silents.{silent_from}
use Rattle.std.proofs.Common.{◌≡◌, ℕ, suc, ◌+◌, ◌≤◌, ◌<◌, ◌⊎◌, inl, inr, Bool, true, false, List, [], ◌∷◌, ◌++◌, map, Option, Some, None, ap, sym, ◌∙◌, subst, arith, refl}
use Rattle.std.specs.Prelude.{if◌then◌else◌}
use Rattle.std.proofs.lemmas.Bool.Decides.{leb_tells}
use Rattle.cbm_iec.specs.Ports.{side_due}
use Rattle.cbm_iec.specs.declared.machine.Act.TheVariants.{Released}
use Rattle.cbm_iec.specs.declared.machine.Act.{Act}
use Rattle.cbm_iec.specs.declared.event.Event.{Event}
use Rattle.cbm_iec.specs.declared.event.Who.TheVariants.{Host, Drive}
use Rattle.cbm_iec.specs.declared.event.Who.{Who}
use Rattle.cbm_iec.specs.declared.lines.Change.{Change}
use Rattle.cbm_iec.specs.declared.lines.Line.TheVariants.{Atn, Clock, Data}
use Rattle.cbm_iec.specs.declared.lines.Way.TheVariants.{Pull, Free}
use Rattle.cbm_iec.specs.declared.port.Port.{Port}
use Rattle.cbm_iec.specs.declared.port.Side.{Side}
use Rattle.cbm_session.proofs.among.Fronts.{steps_order}
use Rattle.cbm_session.proofs.among.Points.{commanding_rest}
use Rattle.cbm_session.proofs.among.Turns.{commanding_port, listener_steps}
use Rattle.cbm_session.proofs.headline.AdoptParts.{ended, stops_after}
use Rattle.cbm_session.proofs.headline.AlongBus.{devs}
use Rattle.cbm_session.proofs.headline.BusActs.{AllRan}
use Rattle.cbm_session.proofs.headline.CutHost.{hosts_of}
use Rattle.cbm_session.proofs.headline.Ending.{Continues}
use Rattle.cbm_session.proofs.headline.FrameLater.{quiet_never}
use Rattle.cbm_session.proofs.headline.Here.{IsTalkers, Here}
use Rattle.cbm_session.proofs.headline.Keeping.{HostFrom}
use Rattle.cbm_session.proofs.headline.PieceBus.{steps_go}
use Rattle.cbm_session.proofs.headline.Premises.{mute, Stood}
use Rattle.cbm_session.proofs.headline.PullSettled.{holding_told}
use Rattle.cbm_session.proofs.headline.ReleaseBus.{AllQuiet, quiet_first, nobody_rest, nobody_steps}
use Rattle.cbm_session.proofs.headline.SomeDue.{SomeDue, quiet_due}
use Rattle.cbm_session.proofs.headline.TalkLater.{talk_never}
use Rattle.cbm_session.proofs.headline.TalkParts.{all_host_from}
use Rattle.cbm_session.proofs.headline.TurnLater.{Later, lead_later, mute_later, nobody_later, early_front, front_is, host_parts}
use Rattle.cbm_session.proofs.headline.TurnTwin.{turn_begins, leads, mutes, lead_steps, mute_steps}
use Rattle.cbm_session.proofs.headline.Unasked.{each_runs, runs_unasked, steps_unasked}
use Rattle.cbm_session.proofs.headline.Walk.{quiet_stays, end_quiet}
use Rattle.cbm_session.proofs.joining.Merging.{NoneBefore, InOrder, AllBefore, cut_front, goes_after}
use Rattle.cbm_session.specs.Among.{Rest, wires_of, after_the_host}
use Rattle.cbm_session.specs.Answers.{IsAnswer}
use Rattle.cbm_session.specs.Laws.{NotSooner, AllAfter, GoesOn}
use Rattle.cbm_session.specs.Pieces.{silent_end, Whole, Point, host_part, steps_of, before, freed_steps, Fits, Full, PullPiece, Command, Byte, ToListener, ToNobody, ToTalker, Nothing, Talk, Commanding}
use Rattle.cbm_session.specs.Playing.{Station, Plays, stays, change, reaction, AllBytes, IsMachine, host_event, tell}
use Rattle.cbm_session.specs.Seats.{Seat, talker_of}
use Rattle.cbm_session.specs.Sessions.{MayEnd}
use Rattle.cbm_session.specs.Steps.{Step, moment_of, events_of, host, for_each}
use Rattle.cbm_session.specs.Timing.{is_host}

-- a front without the host's first change is empty
pub first_only : (a : Step) (rest front : List Step) (s : Step) (others : List Step) → a.event.who ≡ Host → a ∷ rest ≡ front ++ s ∷ others → hosts_of front ≡ [] → front ≡ []
first_only a rest [] s others w e h = refl
first_only a rest (x ∷ front) s others w e h =
    let same : a ≡ x = cc in
    let k : x ∷ hosts_of front ≡ [] = sym (ap (λ (v : Bool). if v then x ∷ hosts_of front else hosts_of front) (ap (λ (v : Step). is_host v.event.who) (sym same) ∙ ap is_host w)) ∙ h in
    absurd cc

-- and one with the first alone is that one, where the second comes at once
first_two : (a b : Step) (rest front : List Step) (x s : Step) (others : List Step) → a.event.who ≡ Host → b.event.who ≡ Host → a ∷ b ∷ rest ≡ front ++ s ∷ others → hosts_of front ≡ x ∷ [] → front ≡ a ∷ []
first_two a b rest [] x s others w v e h = absurd cc
first_two a b rest (y ∷ front) x s others w v e h =
    let same : a ≡ y = cc in
    let tail : b ∷ rest ≡ front ++ s ∷ others = cc in
    let k : y ∷ hosts_of front ≡ x ∷ [] = sym (ap (λ (u : Bool). if u then y ∷ hosts_of front else hosts_of front) (ap (λ (u : Step). is_host u.event.who) (sym same) ∙ ap is_host w)) ∙ h in
    let none : hosts_of front ≡ [] = cc in
    ap (λ (l : List Step). y ∷ l) (first_only b rest front s others v tail none) ∙ ap (λ (u : Step). u ∷ []) (sym same)

-- the host's are from a moment on where its list is
hosts_from : (m : ℕ) (ss : List Step) → HostFrom m (hosts_of ss) → HostFrom m ss
hosts_from m [] h = tt
hosts_from m (s ∷ ss) h = go (is_host s.event.who) refl h (λ k. hosts_from m ss k)
  where
    go : (v : Bool) → is_host s.event.who ≡ v → HostFrom m (if v then s ∷ hosts_of ss else hosts_of ss) → (HostFrom m (hosts_of ss) → HostFrom m ss) → HostFrom m (s ∷ ss)
    go true e k next = (k.0, next k.1)
    go false e k next = (λ w. (let c : false ≡ true = sym e ∙ w in absurd cc), next k)

one_alone : (hf : List Step) (s : Step) (ho : List Step) (a : Step) → hf ++ s ∷ ho ≡ a ∷ [] → hf ≡ []
one_alone [] s ho a e = refl
one_alone (x ∷ []) s ho a e = absurd cc
one_alone (x ∷ y ∷ hf) s ho a e = absurd cc

-- where a change stands among the host's of a turnaround
in_turn : (hf : List Step) (s : Step) (ho : List Step) (a b : Step) (rest : List Step) → hf ++ s ∷ ho ≡ a ∷ b ∷ rest → (hf ≡ []) ⊎ (((x : Step) × (hf ≡ x ∷ [])) ⊎ ((l : List Step) × ((hf ≡ a ∷ b ∷ l) × (rest ≡ l ++ s ∷ ho))))
in_turn [] s ho a b rest e = inl refl
in_turn (x ∷ []) s ho a b rest e = inr (inl (x, refl))
in_turn (x ∷ y ∷ l) s ho a b rest e =
    let one : x ≡ a = cc in
    let two : y ≡ b = cc in
    let left : l ++ s ∷ ho ≡ rest = cc in
    inr (inr (l, (ap (λ (v : Step). v ∷ y ∷ l) one ∙ ap (λ (v : Step). a ∷ v ∷ l) two, sym left)))

-- Steps in which the host's next change isn't before t: it is later, or their first is the host's at t.
pub host_now : (t : ℕ) (s : Step) (ss : List Step) → GoesOn (s ∷ ss) → HostFrom t (s ∷ ss) → (is_host s.event.who ≡ false → t ≤ moment_of s) → HostFrom (suc t) (s ∷ ss) ⊎ ((s.event.who ≡ Host) × (moment_of s ≡ t))
host_now t s ss g h late = by_who s.event.who refl
  where
    afterwards : (w : Who) (m : ℕ) (ys : List Step) → AllAfter w m ys → (w ≡ Host → suc t ≤ m) → t ≤ m → HostFrom (suc t) ys
    afterwards w m [] a k l = tt
    afterwards w m (y ∷ ys) a k l = (λ e. go w y.event.who a.0 k e, afterwards w m ys a.1 k l)
      where
        go : (w v : Who) → NotSooner w m v (moment_of y) → (w ≡ Host → suc t ≤ m) → is_host v ≡ true → suc t ≤ moment_of y
        go Host v b k e = let c = k refl in omega (arith, b, c)
        go (Drive d) Host b k e = omega (arith, b, l)
        go (Drive d) (Drive o) b k e = absurd cc

    by_who : (w : Who) → s.event.who ≡ w → HostFrom (suc t) (s ∷ ss) ⊎ ((s.event.who ≡ Host) × (moment_of s ≡ t))
    by_who Host e = elim (leb_tells (suc t) (moment_of s)) [
      | inl k ↦ (let l = k.1 in inl (λ w. omega (arith, l), afterwards Host (moment_of s) ss (subst (λ (v : Who). AllAfter v (moment_of s) ss) e g.0) (λ w. omega (arith, l)) (omega (arith, l))))
      | inr k ↦ (let l = k.1 in let a = h.0 (ap is_host e) in inr (e, omega (arith, l, a)))
    ]
    by_who (Drive d) e =
        inl (λ w. (let k : is_host (Drive d) ≡ true = subst (λ (v : Who). is_host v ≡ true) e w in absurd cc), afterwards (Drive d) (moment_of s) ss (subst (λ (v : Who). AllAfter v (moment_of s) ss) e g.0) (λ w. absurd cc) (late (ap is_host e)))

now_or_late : (t : ℕ) (ss : List Step) → GoesOn ss → NoneBefore t ss → HostFrom (suc t) ss ⊎ ((s : Step) × ((others : List Step) × ((ss ≡ s ∷ others) × ((s.event.who ≡ Host) × (moment_of s ≡ t)))))
now_or_late t [] g n = inl tt
now_or_late t (s ∷ ss) g n = elim (host_now t s ss g (all_host_from t (s ∷ ss) n) (λ e. n.0)) [
  | inl h ↦ inl h
  | inr h ↦ inr (s, (ss, (refl, h)))
]

module _ (M : Type 0) (step : M → Act → M) (peek : M → Option (ℕ × Bool)) (place : ℕ → ℕ) where
  -- the host's pull of DATA before ATN's release leaves nothing due
  once_quiet : (p : Point) (some : Bool) → p.place ≡ Commanding some → (at : ℕ) (ss : List Seat) (zs : List (Station M)) → Stood M step peek place p ss zs → AllQuiet M step peek mute place (map (λ x. tell M step peek ((host at Data Pull).event.change) x) zs)
  once_quiet p some e at [] [] h = tt
  once_quiet p some e at [] (z ∷ zs) h = elim h [ ]
  once_quiet p some e at (s ∷ ss) [] h = elim h [ ]
  once_quiet p some e at (s ∷ ss) (z ∷ zs) h =
      let k = commanding_rest p s some h.0.sound e in
      let port = commanding_port p s z.port some k.0 h.0.sound h.0.stands e k.2 in
      let rest = h.0.rest ∙ k.2 in
      let seen : z.port.others ≡ wires_of z.rest = h.0.stands.others ∙ ap (λ (r : Rest). wires_of r) (sym h.0.rest) in
      let told = holding_told at z.rest (after_the_host Data Pull z.rest) z.port seen (Rattle.cbm_session.proofs.headline.AlongBus.host_atn Data Pull z.rest refl)
      (ap (λ (r : Rest). (wires_of r).clock_low) rest ∙ low k.0) (ap (λ (r : Rest). (wires_of (after_the_host Data Pull r)).clock_low) rest ∙ low2 k.0) (ap (λ (v : Port). v.side) port) in
      (ap (λ (v : Side). side_due v) told.0, once_quiet p some e at ss zs h.1)
    where
      low : (n : ℕ) → (wires_of (Rattle.cbm_session.proofs.among.Frames.in_hold true n)).clock_low ≡ true
      low n = refl

      low2 : (n : ℕ) → (wires_of (after_the_host Data Pull (Rattle.cbm_session.proofs.among.Frames.in_hold true n))).clock_low ≡ true
      low2 n = refl

  once_stays : {n n2 : ℕ} {xs ss2 : List (Station M)} {es : List Event} → Plays M step peek n xs es n2 ss2 → (c : Change) → AllQuiet M step peek mute place xs → AllQuiet M step peek mute place (map (λ x. tell M step peek c x) xs) → es ≡ host_event c ∷ [] → ss2 ≡ map (λ x. tell M step peek c x) xs
  once_stays (stays b e k f) c q r i = absurd cc
  once_stays {n2 = n2} {xs = xs} {ss2 = ss2} (change x more b l t e f) c q r i =
      let same : host_event x ≡ host_event c = cc in
      let none : more ≡ [] = cc in
      let is : x ≡ c = ap (λ (v : Event). v.change) same in
      quiet_stays M step peek place (subst (λ (v : Change). Plays M step peek v.moment (map (λ z. tell M step peek v z) xs) more n2 ss2) is f) r none
  once_stays (reaction t before o afterwards more b u f e p) c q r i = absurd (quiet_first M step peek mute place t before o afterwards (subst (λ (v : List (Station M)). AllQuiet M step peek mute place v) u q) f.due)

  module _ (machine : IsMachine M step peek) (p : Point) (ms : ℕ → M) (xs : List (Station M)) (here : Here M step peek place p ms xs) {n n2 : ℕ} {ss2 : List (Station M)} {es : List Event} (plays : Plays M step peek n xs es n2 ss2) (t : ℕ) (due : SomeDue M step peek t ss2) where
    abbrev Off : Type 0
    Off = Continues M step peek p ms es (suc t)

    none_front : MayEnd p.place → (front : List Step) → events_of front ≡ es → front ≡ [] → ⊥
    none_front m front shown e = quiet_never M step peek place p ms xs here plays t due m (sym (ap (λ (l : List Step). events_of l) (sym e) ∙ shown))

    commands : p.place ≡ Commanding true → MayEnd p.place
    commands e = subst MayEnd (sym e) tt

    once_never : p.place ≡ Commanding true → (at : ℕ) → (host at Data Pull).event ∷ [] ≡ es → ⊥
    once_never e at shown =
        let quiet = end_quiet M step peek place p (commands e) p.seats xs here.stand in
        let c = (host at Data Pull).event.change in
        let still = once_quiet p true e at p.seats xs here.stand in
        let same = once_stays plays c quiet still (sym shown) in
        quiet_due M step peek place t (map (λ x. tell M step peek c x) xs) still (subst (SomeDue M step peek t) same due)

    -- ATN's release to a listener is one change
    pub listener_never : (at : ℕ) → Fits p (ToListener at) → (front : List Step) (s : Step) (others : List Step) → steps_of p (ToListener at) ≡ front ++ s ∷ others → events_of front ≡ es → s.event.who ≡ Host → ⊥
    listener_never at fits front s others e shown who =
        let none = one_alone (hosts_of front) s (hosts_of others) (for_each Released (host at Atn Free)) (host_parts p (ToListener at) front s others e who) in
        none_front (commands fits.commanding) front shown (first_only (for_each Released (host at Atn Free)) (Rattle.cbm_session.proofs.among.Turns.drives_of p (ToListener at)) front s others refl (sym (listener_steps p at) ∙ e) none)

    -- of one to nobody CLOCK's release is put off
    nobody_ends : (at clock : ℕ) → (fits : Fits p (ToNobody at clock)) → (front : List Step) → Later p (ToNobody at clock) t front → events_of front ≡ es → Off
    nobody_ends at clock fits front later shown =
        let w = ToNobody at clock in
        stops_after M step peek place machine p ms xs here w fits tt (each_runs M step peek p.seats ms (steps_of p w) (λ d. runs_unasked M step peek d (ms d) (steps_of p w) (steps_unasked p w tt))) tt (suc t) front later.back later.is later.late es shown

    pub nobody_off : (at clock : ℕ) → (fits : Fits p (ToNobody at clock)) → (front : List Step) (s : Step) (others : List Step) → steps_of p (ToNobody at clock) ≡ front ++ s ∷ others → events_of front ≡ es → s.event.who ≡ Host → moment_of s ≡ t → Off
    nobody_off at clock fits front s others e shown who now = by_hosts (hosts_of front) refl
      where
        a : Step
        a = for_each Released (host at Atn Free)

        parts : hosts_of front ++ s ∷ hosts_of others ≡ for_each Released (host at Atn Free) ∷ host clock Clock Free ∷ []
        parts = host_parts p (ToNobody at clock) front s others e who

        whole : for_each Released (host at Atn Free) ∷ nobody_rest M step peek mute place p at clock ≡ front ++ s ∷ others
        whole = sym (nobody_steps M step peek mute place p at clock) ∙ e

        -- where both fall on one moment
        at_once : (x : Step) → hosts_of front ≡ x ∷ [] → clock ≡ t → t ≤ at → Off
        at_once x k clock_now early =
            let gap = fits.1 in
            let front_one = one front whole k (subst GoesOn e (steps_go p (Full (ToNobody at clock)) fits)) (subst InOrder e (steps_order p (ToNobody at clock) fits)) (omega (arith, gap, clock_now, early)) in
            let fits2 : Fits p (ToNobody at (suc clock)) = (fits.0, omega (arith, gap)) in
            let rest = nobody_rest M step peek mute place p at (suc clock) in
            let steps = nobody_steps M step peek mute place p at (suc clock) in
            let hosts : for_each Released (host at Atn Free) ∷ hosts_of rest ≡ for_each Released (host at Atn Free) ∷ host (suc clock) Clock Free ∷ [] = ap (λ (l : List Step). hosts_of l) (sym steps) ∙ Rattle.cbm_session.proofs.headline.CutHost.hosts_part p (ToNobody at (suc clock)) in
            let left : hosts_of rest ≡ host (suc clock) Clock Free ∷ [] = cc in
            nobody_ends at (suc clock) fits2 front (record { back = rest; is = steps ∙ ap (λ (l : List Step). l ++ rest) (sym front_one); late = hosts_from (suc t) rest (subst (HostFrom (suc t)) (sym left) (λ w. omega (arith, clock_now), tt)) }) shown
          where
            one : (front : List Step) → for_each Released (host at Atn Free) ∷ nobody_rest M step peek mute place p at clock ≡ front ++ s ∷ others → hosts_of front ≡ x ∷ [] → GoesOn (front ++ s ∷ others) → InOrder (front ++ s ∷ others) → t ≡ at → front ≡ for_each Released (host at Atn Free) ∷ []
            one [] w k g o same = absurd cc
            one (y ∷ front) w k g o same =
                let is : y ≡ for_each Released (host at Atn Free) = cc in
                let k2 : y ∷ hosts_of front ≡ x ∷ [] = sym (ap (λ (u : Bool). if u then y ∷ hosts_of front else hosts_of front) (ap (λ (u : Step). is_host u.event.who) is)) ∙ k in
                let none : hosts_of front ≡ [] = cc in
                let early = early_front t front s others g.1 who now (subst (AllBefore t) (sym none) tt) in
                let at_y : moment_of y ≡ at = ap (λ (u : Step). moment_of u) is in
                ap (λ (v : Step). v ∷ front) is ∙ ap (λ (l : List Step). for_each Released (host at Atn Free) ∷ l) (empty front early (subst (λ (m : ℕ). NoneBefore m (front ++ s ∷ others)) (at_y ∙ sym same) o.0))
              where
                empty : (l : List Step) → AllBefore t l → NoneBefore t (l ++ s ∷ others) → l ≡ []
                empty [] a n = refl
                empty (z ∷ l) a n = let b = a.0 in let c = n.0 in absurd (omega (arith, b, c))

        by_hosts : (hf : List Step) → hosts_of front ≡ hf → Off
        by_hosts [] k = absurd (none_front (commands fits.0.commanding) front shown (first_only (for_each Released (host at Atn Free)) (nobody_rest M step peek mute place p at clock) front s others refl whole k))
        by_hosts (x ∷ []) k =
            let list : x ∷ s ∷ hosts_of others ≡ for_each Released (host at Atn Free) ∷ host clock Clock Free ∷ [] = sym (ap (λ (l : List Step). l ++ s ∷ hosts_of others) k) ∙ parts in
            let first : x ≡ for_each Released (host at Atn Free) = cc in
            let is : s ≡ host clock Clock Free = cc in
            let clock_now : clock ≡ t = sym (ap (λ (v : Step). moment_of v) is) ∙ now in
            let at_x : moment_of x ≡ at = ap (λ (v : Step). moment_of v) first in
            elim (leb_tells (suc at) t) [
              | inl u ↦ (
                  let l = u.1 in
                  let same = front_is p (ToNobody at clock) t fits front s others e who now (subst (AllBefore t) (sym k) (omega (arith, l, at_x), tt)) in
                  let z = nobody_later p at clock t fits (omega (arith, l)) (omega (arith, clock_now)) in
                  nobody_ends at (suc clock) z.0 front (subst (λ (v : List Step). Later p (ToNobody at (suc clock)) t v) same z.1) shown
                  )
              | inr u ↦ (let l = u.1 in at_once x k clock_now (omega (arith, l)))
            ]
        by_hosts (x ∷ y ∷ hf) k =
            let list : x ∷ y ∷ (hf ++ s ∷ hosts_of others) ≡ for_each Released (host at Atn Free) ∷ host clock Clock Free ∷ [] = sym (ap (λ (l : List Step). l ++ s ∷ hosts_of others) k) ∙ parts in
            let none : hf ++ s ∷ hosts_of others ≡ [] = cc in
            absurd (some_left hf none)
          where
            some_left : (l : List Step) → l ++ s ∷ hosts_of others ≡ [] → ⊥
            some_left [] e = cc
            some_left (x ∷ l) e = cc

    -- A piece of a talking drive of which just what is before t was played.
    pub before_off : (w : Whole) → IsTalkers w → (fits : Fits p w) → IsAnswer M step peek (ms (talker_of p.seats).device) w → Rattle.cbm_session.specs.Pieces.CutFits p w t → events_of (before t (steps_of p w)) ≡ es → (zs : List (Station M)) → devs M step peek mute place zs ≡ devs M step peek mute place xs
        → AllRan M step peek ms (before t (steps_of p w)) zs → AllBytes M step peek zs → Off
    before_off (PullPiece at) a fits answer cut shown zs same ran bytes = elim a [ ]
    before_off (Command f) a fits answer cut shown zs same ran bytes = elim a [ ]
    before_off (Byte eoi f) a fits answer cut shown zs same ran bytes = elim a [ ]
    before_off (ToListener at) a fits answer cut shown zs same ran bytes = elim a [ ]
    before_off (ToNobody at clock) a fits answer cut shown zs same ran bytes = elim a [ ]
    before_off (ToTalker at clock) a fits answer cut shown zs same ran bytes =
        let z = lead_later p at clock t fits (omega (arith, cut)) in
        subst (λ (l : List Event). Continues M step peek p ms l (suc t)) shown (ended M step peek place machine p ms xs here zs (ToTalker at z.clock2) tt z.fits answer (suc t) (before t (steps_of p (ToTalker at clock))) z.later.back z.later.is z.later.late same ran bytes)
    before_off (Nothing at clock freed) a fits answer cut shown zs same ran bytes =
        let z = mute_later p at clock freed t fits (omega (arith, cut)) in
        subst (λ (l : List Event). Continues M step peek p ms l (suc t)) shown (ended M step peek place machine p ms xs here zs (Nothing at z.clock2 z.freed2) tt z.fits answer (suc t) (before t (steps_of p (Nothing at clock freed))) z.later.back z.later.is z.later.late same ran bytes)
    before_off (Talk at f) a fits answer cut shown zs same ran bytes =
        let w = Talk at f in
        let k = cut_front t (steps_of p w) (steps_order p w fits) in
        let goes = goes_after (before t (steps_of p w)) k.0 (subst GoesOn k.1 (steps_go p (Full w) fits)) in
        elim (now_or_late t k.0 goes k.2) [
          | inl late ↦ subst (λ (l : List Event). Continues M step peek p ms l (suc t)) shown (ended M step peek place machine p ms xs here zs w tt fits answer (suc t) (before t (steps_of p w)) k.0 k.1 late same ran bytes)
          | inr h ↦ absurd (talk_never M step peek place p ms xs here plays t due at f fits answer (before t (steps_of p w)) h.0 h.1.0 (k.1 ∙ ap (λ (l : List Step). before t (steps_of p w) ++ l) h.1.1.0) shown h.1.1.1.0 h.1.1.1.1)
        ]

    -- One that is under way.
    module _ (front : List Step) (s : Step) (others : List Step) (shown : events_of front ≡ es) (who : s.event.who ≡ Host) (now : moment_of s ≡ t) (same : devs M step peek mute place ss2 ≡ devs M step peek mute place xs) (ran : AllRan M step peek ms front ss2) (bytes : AllBytes M step peek ss2) where
      cut_here : (w : Whole) → IsTalkers w → (fits : Fits p w) → IsAnswer M step peek (ms (talker_of p.seats).device) w → Rattle.cbm_session.specs.Pieces.CutFits p w t → before t (steps_of p w) ≡ front → Off
      cut_here w a fits answer cut is = before_off w a fits answer cut (ap (λ (l : List Step). events_of l) is ∙ shown) ss2 same (subst (λ (l : List Step). AllRan M step peek ms l ss2) (sym is) ran) bytes

      -- a turnaround, by where the host's change stands in it
      turn_off : (w : Whole) → IsTalkers w → (fits : Fits p w) → IsAnswer M step peek (ms (talker_of p.seats).device) w → p.place ≡ Commanding true → (at : ℕ) (rest ys : List Step) → host_part p w ≡ host at Data Pull ∷ for_each Released (host at Atn Free) ∷ rest → steps_of p w ≡ turn_begins at ys
          → ((l : List Step) → rest ≡ l ++ s ∷ hosts_of others → (at < t) × AllBefore t l) → (at + 1 ≤ t → Rattle.cbm_session.specs.Pieces.CutFits p w t) → steps_of p w ≡ front ++ s ∷ others → Off
      turn_off w a fits answer attention at rest ys hosts steps afterwards cut e = elim (in_turn (hosts_of front) s (hosts_of others) (host at Data Pull) (for_each Released (host at Atn Free)) rest (host_parts p w front s others e who ∙ hosts)) [
        | inl k ↦ absurd (none_front (commands attention) front shown (first_only (host at Data Pull) (for_each Released (host at Atn Free) ∷ ys) front s others refl (sym steps ∙ e) k))
        | inr k ↦ elim k [
          | inl k ↦ (
              let one = first_two (host at Data Pull) (for_each Released (host at Atn Free)) ys front k.0 s others refl refl (sym steps ∙ e) k.1 in
              absurd (once_never attention at (ap (λ (l : List Step). events_of l) (sym one) ∙ shown))
              )
          | inr k ↦ (
              let z = afterwards k.0 k.1.1 in
              let early = z.0 in
              let l : AllBefore t (hosts_of front) = subst (AllBefore t) (sym k.1.0) (early, (early, z.1)) in
              cut_here w a fits answer (cut (omega (arith, early))) (front_is p w t fits front s others e who now l)
              )
        ]
      ]

      pub inside_off : (w : Whole) → IsTalkers w → (fits : Fits p w) → IsAnswer M step peek (ms (talker_of p.seats).device) w → steps_of p w ≡ front ++ s ∷ others → Off
      inside_off (PullPiece at) a fits answer e = elim a [ ]
      inside_off (Command f) a fits answer e = elim a [ ]
      inside_off (Byte eoi f) a fits answer e = elim a [ ]
      inside_off (ToListener at) a fits answer e = elim a [ ]
      inside_off (ToNobody at clock) a fits answer e = elim a [ ]
      inside_off (ToTalker at clock) a fits answer e = turn_off (ToTalker at clock) tt fits answer fits.0.commanding at (host clock Clock Free ∷ []) (leads p at clock) refl (lead_steps p at clock (omega (arith, fits.1))) afterwards (λ l. l) e
        where
          afterwards : (l : List Step) → host clock Clock Free ∷ [] ≡ l ++ s ∷ hosts_of others → (at < t) × AllBefore t l
          afterwards [] k =
              let is : host clock Clock Free ≡ s = cc in
              let at_s : clock ≡ moment_of s = ap (λ (v : Step). moment_of v) is in
              let gap = fits.1 in
              let some = settle_from (talker_of p.seats).pace in
              (omega (arith, gap, some, at_s, now), tt)
          afterwards (x ∷ []) k = absurd cc
          afterwards (x ∷ y ∷ l) k = absurd cc
      inside_off (Nothing at clock freed) a fits answer e = turn_off (Nothing at clock freed) tt fits answer fits.0.commanding at (host clock Clock Free ∷ freed_steps freed) (mutes p at clock freed) refl (mute_steps p at clock freed (omega (arith, fits.1))) (afterwards freed fits.2) (λ l. l) e
        where
          afterwards : (o : Option ℕ) → Rattle.cbm_session.specs.Pieces.FreedFits (silent_end (talker_of p.seats) clock) o → (l : List Step) → host clock Clock Free ∷ freed_steps o ≡ l ++ s ∷ hosts_of others → (at < t) × AllBefore t l
          afterwards o h [] k =
              let is : host clock Clock Free ≡ s = cc in
              let at_s : clock ≡ moment_of s = ap (λ (v : Step). moment_of v) is in
              let gap = fits.1 in
              let some = settle_from (talker_of p.seats).pace in
              (omega (arith, gap, some, at_s, now), tt)
          afterwards None h (x ∷ []) k = absurd cc
          afterwards None h (x ∷ y ∷ l) k = absurd cc
          afterwards (Some g) h (x ∷ []) k =
              let first : host clock Clock Free ≡ x = cc in
              let is : host g Data Free ≡ s = cc in
              let at_s : g ≡ moment_of s = ap (λ (v : Step). moment_of v) is in
              let at_x : clock ≡ moment_of x = ap (λ (v : Step). moment_of v) first in
              let gap = fits.1 in
              let some = settle_from (talker_of p.seats).pace in
              (omega (arith, silent_from (talker_of p.seats) clock, gap, some, h, at_s, now), (omega (arith, silent_from (talker_of p.seats) clock, h, at_s, at_x, now), tt))
          afterwards (Some g) h (x ∷ y ∷ []) k = absurd cc
          afterwards (Some g) h (x ∷ y ∷ z ∷ l) k = absurd cc
      inside_off (Talk at f) a fits answer e = absurd (talk_never M step peek place p ms xs here plays t due at f fits answer front s others e shown who now)
