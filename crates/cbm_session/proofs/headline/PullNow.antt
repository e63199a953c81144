-- In a pull of ATN: the drives' answers come in the order of ties, each when it is due.
use Rattle.std.proofs.Common.{◌≡◌, ℕ, suc, ◌≤◌, ◌<◌, ◌⊎◌, inl, inr, Bool, true, false, List, [], ◌∷◌, ◌++◌, Option, Some, None, ap, sym, ◌∙◌, subst, arith, refl}
use Rattle.std.proofs.lemmas.Bool.Decides.{eqb_tells}
use Rattle.cbm_iec.specs.Ports.{port_due, reaction_changes, told}
use Rattle.cbm_iec.specs.declared.machine.Act.{Act}
use Rattle.cbm_iec.specs.declared.ear.Ear.TheVariants.{Starting, Holding}
use Rattle.cbm_iec.specs.declared.event.Who.TheVariants.{Host, Drive}
use Rattle.cbm_iec.specs.declared.event.Who.{Who}
use Rattle.cbm_iec.specs.declared.port.Port.{Port}
use Rattle.cbm_iec.specs.declared.port.Side.TheVariants.{Hearing}
use Rattle.cbm_iec.specs.declared.port.Side.{Side}
use Rattle.cbm_session.proofs.headline.AlongBus.{devs, SitsIn, OwnedIn, RisingIn, other_atn, sits_split, sits_after, rising_first}
use Rattle.cbm_session.proofs.headline.BusStep.{Comes, here, there, Tied, own_first, not_mine, another, host_drive, comes_first, moment_at}
use Rattle.cbm_session.proofs.headline.Keeping.{HostFrom, all_in_time}
use Rattle.cbm_session.proofs.headline.Meeting.{in_time_at, no_steps}
use Rattle.cbm_session.proofs.headline.PullBus.{some_shown, ended, Shows, Rests, Pulled, AllOf, PartsOf, parts_of, answered, shows_next}
use Rattle.cbm_session.proofs.headline.PullSettled.{starting_told}
use Rattle.cbm_session.specs.Among.{Rest, wires_of, after_another, FollowsAmong, ends, tells, hears, reacts}
use Rattle.cbm_session.specs.Following.{IsInTime, reaction_steps}
use Rattle.cbm_session.specs.Playing.{IsLaterDue, Station, drive_events, shown, AllInTime, AllLater, IsFirst}
use Rattle.cbm_session.specs.Seats.{lines}
use Rattle.cbm_session.specs.Steps.{Step, moment_of, events_of}

-- a drive whose reactions show
abbrev pub ShowsAll : Option (ℕ × Bool) → Port → Type 0
ShowsAll says q = (u : ℕ) → port_due q ≡ Some u → reaction_changes u says q ≡ [] → ⊥

-- whose step comes first has its reaction due then, and for a step of another, or of the host, it is in time
pub own_due : (says : Option (ℕ × Bool)) {r r2 : Rest} {q q2 : Port} {y : Step} {ys : List Step} → FollowsAmong says r q (y ∷ ys) r2 q2 → y.event.who ≡ Drive q.party.device → ShowsAll says q → port_due q ≡ Some (moment_of y)
own_due says (tells i k f) w sh = absurd cc
own_due says {q = q} (hears {o} a i k f) w sh = absurd (another q.party.device o a w)
own_due says {q = q} {y = y} {ys = ys} (reacts u more d e s l f) w sh =
    d ∙ ap (λ (v : ℕ). Some v) (sym (moment_at q.party.device u y ys (reaction_steps u says q) more (own_first says q u (sh u d)) e))

pub first_in_time : (says : Option (ℕ × Bool)) {r r2 : Rest} {q q2 : Port} {y : Step} {ys : List Step} → FollowsAmong says r q (y ∷ ys) r2 q2 → (y.event.who ≡ Drive q.party.device → ⊥) → ShowsAll says q → IsInTime (moment_of y) (port_due q)
first_in_time says (tells i k f) w sh = i
first_in_time says (hears a i k f) w sh = i
first_in_time says {q = q} {y = y} {ys = ys} (reacts u more d e s l f) w sh = absurd (not_mine q.party.device u y.event.who y ys (reaction_steps u says q) more refl w (own_first says q u (sh u d)) e)

module _ (M : Type 0) (step : M → Act → M) (peek : M → Option (ℕ × Bool)) (says : ℕ → Option (ℕ × Bool)) (place : ℕ → ℕ) (at : ℕ) where
  -- an answer that shows and is due at t comes, where the host changes nothing up to t
  pub answer_comes : (p : Option (ℕ × Bool)) (t : ℕ) {r r2 : Rest} {q q2 : Port} {ss : List Step} → FollowsAmong p r q ss r2 q2 → q.others ≡ wires_of r → q.side ≡ Hearing (Starting t) → (q.own ≡ lines false true → ⊥) → q2.side ≡ Hearing Holding → HostFrom (suc t) ss → Comes q.party.device t ss
  answer_comes p t (ends a e) seen side own end h = let c : Hearing Holding ≡ Hearing (Starting t) = sym end ∙ ap (λ (v : Port). v.side) e ∙ side in absurd cc
  answer_comes p t {q = q} (tells {t = u} i k f) seen side own end h =
      let late = h.0 refl in
      let soon = in_time_at u t (port_due q) i (ap (λ (v : Side). Rattle.cbm_iec.specs.Ports.side_due v) side) in
      absurd (omega (arith, late, soon))
  answer_comes p t {r = r} {q = q} (hears {t = u} {line = line} {way = way} a i k f) seen side own end h =
      there (answer_comes p t f refl (starting_told u t r (after_another line way r) q seen (other_atn line way r) side).0 own end h.1)
  answer_comes p t {q = q} {ss = ss} (reacts u more d e s l f) seen side own end h =
      let is : u ≡ t = (let k : Some u ≡ Some t = sym d ∙ ap (λ (v : Side). Rattle.cbm_iec.specs.Ports.side_due v) side in cc) in
      let first = own_first p q u (some_shown M step peek says place at u t p q side own) in
      subst (λ (v : ℕ). Comes q.party.device v ss) is (subst (λ (v : List Step). Comes q.party.device u v) (sym e) (comes_first q.party.device u (reaction_steps u p q) more first))

  -- the drive whose answer is the next step has it due then
  sitting_answers : (x : Station M) (y : Step) (ys : List Step) (e : Rest × Port) → Pulled M step peek says place at x (y ∷ ys) e → y.event.who ≡ Drive x.port.party.device → port_due x.port ≡ Some (moment_of y)
  sitting_answers x y ys e h w = by h.stand
    where
      by : Shows M step peek says place at x (y ∷ ys) e ⊎ Rests M step peek says place at x (y ∷ ys) e → port_due x.port ≡ Some (moment_of y)
      by (inl k) = own_due (says x.port.party.device) k.follows w (λ u d. some_shown M step peek says place at u k.due (says x.port.party.device) x.port k.starts.side k.other)
      by (inr k) = let none = own_due (says x.port.party.device) k.follows w (λ u d. absurd cc) in absurd cc

  pub pulled_due : (d t : ℕ) (xs : List (Station M)) (y : Step) (ys : List Step) (es : List (Rest × Port)) → AllOf M step peek says place at (λ x e. Pulled M step peek says place at x (y ∷ ys) e) xs es → y.event.who ≡ Drive d → SitsIn M step peek says place d (devs M step peek says place xs)
      → AllInTime M step peek t xs → t ≤ moment_of y
  pulled_due d t [] y ys es h w i k = elim i [ ]
  pulled_due d t (x ∷ xs) y ys [] h w i k = elim h [ ]
  pulled_due d t (x ∷ xs) y ys (e ∷ es) h w (inl i) k = in_time_at t (moment_of y) (port_due x.port) k.0 (sitting_answers x y ys e h.0 (w ∙ ap (λ (v : ℕ). Drive v) (sym i)))
  pulled_due d t (x ∷ xs) y ys (e ∷ es) h w (inr i) k = pulled_due d t xs y ys es h.1 w i k.1

  pulled_later : (d t : ℕ) (xs : List (Station M)) (y : Step) (ys : List Step) (es : List (Rest × Port)) → AllOf M step peek says place at (λ x e. Pulled M step peek says place at x (y ∷ ys) e) xs es → y.event.who ≡ Drive d → SitsIn M step peek says place d (devs M step peek says place xs)
      → AllLater M step peek t xs → t < moment_of y
  pulled_later d t [] y ys es h w i k = elim i [ ]
  pulled_later d t (x ∷ xs) y ys [] h w i k = elim h [ ]
  pulled_later d t (x ∷ xs) y ys (e ∷ es) h w (inl i) k = later (port_due x.port) k.0 (sitting_answers x y ys e h.0 (w ∙ ap (λ (v : ℕ). Drive v) (sym i)))
    where
      later : (o : Option ℕ) → IsLaterDue t o → o ≡ Some (moment_of y) → t < moment_of y
      later None a b = absurd cc
      later (Some u) a b = let s : u ≡ moment_of y = cc in omega (arith, a, s)
  pulled_later d t (x ∷ xs) y ys (e ∷ es) h w (inr i) k = pulled_later d t xs y ys es h.1 w i k.1

  -- So the answer that is due first comes next; it may show nothing.
  pub record NextAnswer (t : ℕ) (o : Station M) (ys : List Step) : Type 0 where
    pub own : List Step
    pub more : List Step
    pub steps : ys ≡ own ++ more
    pub events : events_of own ≡ drive_events o.port.party.device (shown M step peek t o)

  pub next_answer : (t : ℕ) (before : List (Station M)) (o : Station M) (afterwards : List (Station M)) (ys : List Step) (es : List (Rest × Port)) → AllOf M step peek says place at (λ x e. Pulled M step peek says place at x ys e) (before ++ o ∷ afterwards) es → IsFirst M step peek t before o afterwards
      → HostFrom (suc t) ys → RisingIn M step peek says place (devs M step peek says place (before ++ o ∷ afterwards)) → Tied place ys → OwnedIn M step peek says place (devs M step peek says place (before ++ o ∷ afterwards)) ys → NextAnswer t o ys
  next_answer t before o afterwards ys es all f h rising tied owned =
      let k = parts_of M step peek says place at (λ x e. Pulled M step peek says place at x ys e) before o afterwards es all in
      by_stand k k.one.stand
    where
      d : ℕ
      d = o.port.party.device

      P : Option (ℕ × Bool)
      P = says o.port.party.device

      by_stand : (k : PartsOf M step peek says place at (λ x e. Pulled M step peek says place at x ys e) before o afterwards es) → Shows M step peek says place at o ys k.own ⊎ Rests M step peek says place at o ys k.own → NextAnswer t o ys
      by_stand k (inr r) =
          let a = answered M step peek says place at t o ys k.own k.one r f.due in
          record { own = []; more = ys; steps = refl; events = ap (λ v. drive_events o.port.party.device v) (sym a.0) }
      by_stand k (inl s) = go ys refl
        where
          all_show : ShowsAll (says o.port.party.device) o.port
          all_show u e = some_shown M step peek says place at u s.due (says o.port.party.device) o.port s.starts.side s.other

          is_due : s.due ≡ t
          is_due = (let e : Some s.due ≡ Some t = sym (ap (λ (v : Side). Rattle.cbm_iec.specs.Ports.side_due v) s.starts.side) ∙ f.due in cc)

          go : (zs : List Step) → ys ≡ zs → NextAnswer t o ys
          go [] e =
              let z = ended (says o.port.party.device) (subst (λ (v : List Step). FollowsAmong (says o.port.party.device) o.rest o.port v k.own.0 k.own.1) e s.follows) (λ u d. no_steps u (says o.port.party.device) o.port (all_show u d)) in
              let c : Hearing Holding ≡ Hearing (Starting s.due) = sym k.one.end ∙ ap (λ (v : Port). v.side) z.1 ∙ s.starts.side in
              absurd cc
          go (y ∷ zs) e = by_who y.event.who refl
            where
              follows : FollowsAmong (says o.port.party.device) o.rest o.port (y ∷ zs) k.own.0 k.own.1
              follows = subst (λ (v : List Step). FollowsAmong (says o.port.party.device) o.rest o.port v k.own.0 k.own.1) e s.follows

              soon : (y.event.who ≡ Drive o.port.party.device → ⊥) → moment_of y ≤ t
              soon n = in_time_at (moment_of y) t (port_due o.port) (first_in_time (says o.port.party.device) follows n all_show) f.due

              by_who : (w : Who) → y.event.who ≡ w → NextAnswer t o ys
              by_who Host w =
                  let early = soon (λ v. host_drive o.port.party.device (sym w ∙ v)) in
                  let late = (subst (HostFrom (suc t)) e h).0 (ap (λ (v : Who). Rattle.cbm_session.specs.Timing.is_host v) w) in
                  absurd (omega (arith, early, late))
              by_who (Drive u) w = elim (eqb_tells o.port.party.device u) [
                | inl x ↦ mine (w ∙ ap (λ (v : ℕ). Drive v) (sym x.1))
                | inr x ↦ absurd (theirs u w x.1)
              ]
                where
                  mine : y.event.who ≡ Drive o.port.party.device → NextAnswer t o ys
                  mine v =
                      let one = subst (λ (l : List Step). Pulled M step peek says place at o l k.own) e k.one in
                      let a = shows_next M step peek says place at t o y zs k.own one (subst (λ (l : List Step). Shows M step peek says place at o l k.own) e s) f.due v in
                      record { own = Rattle.cbm_session.specs.Following.own_steps o.port.party.device (shown M step peek t o) None; more = a.more; steps = e ∙ a.steps; events = a.events }

                  after_that : (y.event.who ≡ Drive o.port.party.device → ⊥) → Comes o.port.party.device (moment_of y) (y ∷ zs) → Comes o.port.party.device (moment_of y) zs
                  after_that n (here w m) = absurd (n w)
                  after_that n (there c) = c

                  theirs : (u : ℕ) → y.event.who ≡ Drive u → (o.port.party.device ≡ u → ⊥) → ⊥
                  theirs u w n =
                      let not_own : y.event.who ≡ Drive o.port.party.device → ⊥ = λ v. (let c : Drive u ≡ Drive o.port.party.device = sym w ∙ v in let same : o.port.party.device ≡ u = cc in n same) in
                      let early = soon not_own in
                      let all2 = subst (λ (l : List Step). AllOf M step peek says place at (λ x e. Pulled M step peek says place at x l e) (before ++ o ∷ afterwards) es) e all in
                      let sits = (subst (OwnedIn M step peek says place (devs M step peek says place (before ++ o ∷ afterwards))) e owned).0 u w in
                      let late = pulled_due u t (before ++ o ∷ afterwards) y zs es all2 w sits (all_in_time M step peek t before o afterwards f) in
                      let now : moment_of y ≡ t = omega (arith, early, late) in
                      elim (sits_split M step peek says place u before o afterwards sits) [
                        | inl i ↦ (
                            let first = subst (λ (l : List Step). AllOf M step peek says place at (λ x e. Pulled M step peek says place at x l e) before k.first) e k.all_first in
                            let after = pulled_later u t before y zs k.first first w i f.later in
                            omega (arith, after, now)
                            )
                        | inr i ↦ elim i [
                          | inl j ↦ n j
                          | inr j ↦ (
                              let under = sits_after M step peek says place o.port.party.device u afterwards (rising_first M step peek says place before o afterwards rising) j in
                              let comes : Comes o.port.party.device t (y ∷ zs) =
                              answer_comes (says o.port.party.device) t follows k.one.seen (subst (λ (v : ℕ). o.port.side ≡ Hearing (Starting v)) is_due s.starts.side) s.other k.one.end (subst (HostFrom (suc t)) e h) in
                              let over = (subst (Tied place) e tied).0 u w o.port.party.device (after_that not_own (subst (λ (v : ℕ). Comes o.port.party.device v (y ∷ zs)) (sym now) comes)) in
                              omega (arith, under, over)
                              )
                        ]
                      ]
