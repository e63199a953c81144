-- A piece on a bus up to a moment at which a pull cuts it: all drives of the bus go so far, and nothing of theirs is due before that moment.
use Rattle.std.proofs.Common.{◌≡◌, ℕ, suc, ◌≤◌, ◌<◌, ◌⊎◌, inl, inr, Bool, List, [], ◌∷◌, ◌++◌, Option, Some, ap, sym, ◌∙◌, subst, arith, refl}
use Rattle.std.proofs.lemmas.Bool.Decides.{leb_tells}
use Rattle.cbm_iec.specs.Ports.{port_due, told, reacted}
use Rattle.cbm_iec.specs.declared.machine.Act.{Act}
use Rattle.cbm_iec.specs.declared.event.Event.{Event}
use Rattle.cbm_iec.specs.declared.event.Who.TheVariants.{Host, Drive}
use Rattle.cbm_iec.specs.declared.event.Who.{Who}
use Rattle.cbm_iec.specs.declared.port.Port.{Port}
use Rattle.cbm_iec.specs.declared.port.Side.{Side}
use Rattle.cbm_session.proofs.alone.Fronts.{AllAt, reaction_at, in_time_le}
use Rattle.cbm_session.proofs.headline.AlongBus.{GoesSo, AllGo, devs, OwnedIn, RisingIn, IsPlain, WithinAll, PassedAll, along_bus}
use Rattle.cbm_session.proofs.headline.BusStep.{Goes, ends, tells, hears, reacts, own_first, Comes, here, there, Tied}
use Rattle.cbm_session.proofs.headline.Meeting.{LastSaid, AsksFor, Compat, FirstIs}
use Rattle.cbm_session.proofs.headline.TalkSwap.{none_cut}
use Rattle.cbm_session.proofs.joining.Merging.{NoneBefore, InOrder, AllBefore, before_yes, cut_front, front_before, order_after}
use Rattle.cbm_session.proofs.reading.OneReading.{noatn_front}
use Rattle.cbm_session.specs.Among.{Rest, wires_of, after_another, after_the_host, FirstIsAfter}
use Rattle.cbm_session.specs.Following.{IsInTime, reaction_steps}
use Rattle.cbm_session.specs.Laws.{AllAfter, GoesOn}
use Rattle.cbm_session.specs.Pieces.{before}
use Rattle.cbm_session.specs.Playing.{Station, Plays}
use Rattle.cbm_session.specs.Steps.{Step, moment_of, events_of}

-- the front of a list has what the list has
pub last_front : (xs ys : List Step) → LastSaid (xs ++ ys) → LastSaid xs
last_front [] ys h = tt
last_front (x ∷ []) ys h = tt
last_front (x ∷ x2 ∷ xs) ys h = (h.0, last_front (x2 ∷ xs) ys h.1)

after_front : (w : Who) (m : ℕ) (xs ys : List Step) → AllAfter w m (xs ++ ys) → AllAfter w m xs
after_front w m [] ys h = tt
after_front w m (x ∷ xs) ys h = (h.0, after_front w m xs ys h.1)

pub goes_front : (xs ys : List Step) → GoesOn (xs ++ ys) → GoesOn xs
goes_front [] ys h = tt
goes_front (x ∷ xs) ys h = (after_front x.event.who (moment_of x) xs ys h.0, goes_front xs ys h.1)

none_front : (m : ℕ) (xs ys : List Step) → NoneBefore m (xs ++ ys) → NoneBefore m xs
none_front m [] ys h = tt
none_front m (x ∷ xs) ys h = (h.0, none_front m xs ys h.1)

pub order_front : (xs ys : List Step) → InOrder (xs ++ ys) → InOrder xs
order_front [] ys h = tt
order_front (x ∷ xs) ys h = (none_front (moment_of x) xs ys h.0, order_front xs ys h.1)

comes_longer : (d t : ℕ) (xs ys : List Step) → Comes d t xs → Comes d t (xs ++ ys)
comes_longer d t [] ys c = elim c [ ]
comes_longer d t (x ∷ xs) ys (here w e) = here w e
comes_longer d t (x ∷ xs) ys (there c) = there (comes_longer d t xs ys c)

pub tied_front : (place : ℕ → ℕ) (xs ys : List Step) → Tied place (xs ++ ys) → Tied place xs
tied_front place [] ys h = tt
tied_front place (x ∷ xs) ys h = (λ d w e c. h.0 d w e (comes_longer e (moment_of x) xs ys c), tied_front place xs ys h.1)

-- steps of one moment are all before c, or none is
all_before : (c t : ℕ) (rs more : List Step) → AllAt t rs → t < c → before c (rs ++ more) ≡ rs ++ before c more
all_before c t [] more a l = refl
all_before c t (r ∷ rs) more a l = let now = a.0 in before_yes c r (rs ++ more) (omega (arith, now, l)) ∙ ap (λ (v : List Step). r ∷ v) (all_before c t rs more a.1 l)

in_time_due : (c t : ℕ) (o : Option ℕ) → c ≤ t → o ≡ Some t → IsInTime c o
in_time_due c t o l e = subst (λ (v : Option ℕ). IsInTime c v) (sym e) l

-- A drive that goes with steps in order goes with those before c, with nothing due before it then.
pub record GoesUpTo (says : Option (ℕ × Bool)) (c : ℕ) (r : Rest) (q : Port) (ss : List Step) : Type 0 where
  pub rest : Rest
  pub port : Port
  pub goes : Goes says r q (before c ss) rest port
  pub in_time : IsInTime c (port_due port)

pub goes_up_to : (says : Option (ℕ × Bool)) (c : ℕ) {r r2 : Rest} {q q2 : Port} {ss : List Step} → Goes says r q ss r2 q2 → InOrder ss → IsInTime c (port_due q2) → GoesUpTo says c r q ss
goes_up_to says c {r} {r2} {q} {q2} (ends i j) o last = record { rest = r; port = q; goes = ends refl refl; in_time = subst (λ (v : Port). IsInTime c (port_due v)) j last }
goes_up_to says c {r} {r2} {q} {q2} (tells {t} {line} {way} {mark} {ss} i k f) o last = go (goes_up_to says c f o.1 last)
  where
    s : Step
    s = record { event = Rattle.cbm_session.specs.Steps.event_of Host t line way; mark = mark }

    go : GoesUpTo says c (after_the_host line way r) (told t (wires_of (after_the_host line way r)) q) ss → GoesUpTo says c r q (record { event = Rattle.cbm_session.specs.Steps.event_of Host t line way; mark = mark } ∷ ss)
    go x = elim (leb_tells (suc t) c) [
      | inl u ↦ (let l = u.1 in record { rest = x.rest; port = x.port; goes = subst (λ (v : List Step). Goes says r q v x.rest x.port) (sym (before_yes c (record { event = Rattle.cbm_session.specs.Steps.event_of Host t line way; mark = mark }) ss (omega (arith, l)))) (tells i k x.goes); in_time = x.in_time })
      | inr u ↦ (let l = u.1 in record { rest = r; port = q; goes = subst (λ (v : List Step). Goes says r q v r q) (sym (none_cut c (record { event = Rattle.cbm_session.specs.Steps.event_of Host t line way; mark = mark }) ss o (omega (arith, l)))) (ends refl refl); in_time = in_time_le c t (port_due q) (omega (arith, l)) i })
    ]
goes_up_to says c {r} {r2} {q} {q2} (hears {o} {t} {line} {way} {mark} {ss} a i y k f) order last = go (goes_up_to says c f order.1 last)
  where
    go : GoesUpTo says c (after_another line way r) (told t (wires_of (after_another line way r)) q) ss → GoesUpTo says c r q (record { event = Rattle.cbm_session.specs.Steps.event_of (Drive o) t line way; mark = mark } ∷ ss)
    go x = elim (leb_tells (suc t) c) [
      | inl u ↦ (let l = u.1 in record { rest = x.rest; port = x.port; goes = subst (λ (v : List Step). Goes says r q v x.rest x.port) (sym (before_yes c (record { event = Rattle.cbm_session.specs.Steps.event_of (Drive o) t line way; mark = mark }) ss (omega (arith, l)))) (hears a i y k x.goes); in_time = x.in_time })
      | inr u ↦ (let l = u.1 in record { rest = r; port = q; goes = subst (λ (v : List Step). Goes says r q v r q) (sym (none_cut c (record { event = Rattle.cbm_session.specs.Steps.event_of (Drive o) t line way; mark = mark }) ss order (omega (arith, l)))) (ends refl refl); in_time = in_time_le c t (port_due q) (omega (arith, l)) i })
    ]
goes_up_to says c {r} {r2} {q} {q2} {ss} (reacts t more d e sh l f) o last = go (goes_up_to says c f (order_after (reaction_steps t says q) more (subst InOrder e o)) last)
  where
    first_after_c : FirstIsAfter t more → FirstIsAfter t (before c more)
    first_after_c b = front_after (before c more) (cut_front c more (order_after (reaction_steps t says q) more (subst InOrder e o))).0 (subst (FirstIsAfter t) (cut_front c more (order_after (reaction_steps t says q) more (subst InOrder e o))).1 b)
      where
        front_after : (xs ys : List Step) → FirstIsAfter t (xs ++ ys) → FirstIsAfter t xs
        front_after [] ys b = tt
        front_after (x ∷ xs) ys b = b

    late : (zs : List Step) → ss ≡ zs → zs ≡ reaction_steps t says q ++ more → c ≤ t → before c zs ≡ []
    late [] k h n = refl
    late (z ∷ zs) k h n = none_cut c z zs (subst InOrder k o) (first_late (reaction_steps t says q) (reaction_at t says q) (own_first says q t sh) h)
      where
        first_late : (rs : List Step) → AllAt t rs → FirstIs q.party.device t (events_of rs) → z ∷ zs ≡ rs ++ more → c ≤ moment_of z
        first_late [] a g h = elim g [ ]
        first_late (x ∷ rs) a g h = let same : z ≡ x = cc in let now : moment_of z ≡ t = ap (λ (v : Step). moment_of v) same ∙ a.0 in omega (arith, now, n)

    go : GoesUpTo says c r (reacted t says q) more → GoesUpTo says c r q ss
    go x = elim (leb_tells (suc t) c) [
      | inl u ↦ (
          let n = u.1 in
          let is : before c ss ≡ reaction_steps t says q ++ before c more = ap (λ (v : List Step). before c v) e ∙ all_before c t (reaction_steps t says q) more (reaction_at t says q) (omega (arith, n)) in
          record { rest = x.rest; port = x.port; goes = reacts t (before c more) d is sh (first_after_c l) x.goes; in_time = x.in_time }
          )
      | inr u ↦ (
          let n = u.1 in
          record { rest = r; port = q; goes = subst (λ (v : List Step). Goes says r q v r q) (sym (late ss refl e (omega (arith, n)))) (ends refl refl); in_time = in_time_due c t (port_due q) (omega (arith, n)) d }
          )
    ]

module _ (M : Type 0) (step : M → Act → M) (peek : M → Option (ℕ × Bool)) (says : ℕ → Option (ℕ × Bool)) (place : ℕ → ℕ) where
  pub owned_front : (ds : List ℕ) (xs ys : List Step) → OwnedIn M step peek says place ds (xs ++ ys) → OwnedIn M step peek says place ds xs
  owned_front ds [] ys h = tt
  owned_front ds (x ∷ xs) ys h = (h.0, owned_front ds xs ys h.1)

  pub plain_front : (ds : List ℕ) (xs ys : List Step) → IsPlain M step peek says place ds (xs ++ ys) → IsPlain M step peek says place ds xs
  plain_front ds xs ys h = record { noatn = noatn_front xs ys h.noatn; last = last_front xs ys h.last; goes_on = goes_front xs ys h.goes_on; order = order_front xs ys h.order; tied = tied_front place xs ys h.tied; owned = owned_front ds xs ys h.owned }

  -- where all stand then, with nothing due before c
  abbrev pub AllWait : ℕ → List (Rest × Port) → Type 0
  AllWait c [] = Unit {0}
  AllWait c (e ∷ es) = IsInTime c (port_due e.1) × AllWait c es

  asks_up_to : (zs : List Step) (c : ℕ) (side : Side) (A : Type 0) → AsksFor zs side A → AsksFor (before c zs) side A
  asks_up_to [] c side A a = tt
  asks_up_to (z ∷ zs) c side A a = go (before c (z ∷ zs))
    where
      go : (ys : List Step) → AsksFor ys side A
      go [] = tt
      go (y ∷ ys) = a

  -- So all that go with a piece go with it up to c, if nothing of theirs is due before c after it.
  pub all_up_to : (c : ℕ) (xs : List (Station M)) (ys : List Step) (fin : List (Rest × Port)) → AllGo M step peek says place xs ys fin → InOrder ys → AllWait c fin → (fin2 : List (Rest × Port)) × (AllGo M step peek says place xs (before c ys) fin2 × AllWait c fin2)
  all_up_to c [] ys [] g o w = ([], (tt, tt))
  all_up_to c [] ys (e ∷ fin) g o w = elim g [ ]
  all_up_to c (x ∷ xs) ys [] g o w = elim g [ ]
  all_up_to c (x ∷ xs) ys (e ∷ fin) g o w =
      let k = goes_up_to (says x.port.party.device) c g.0.goes o w.0 in
      let more = all_up_to c xs ys fin g.1 o w.1 in
      let one : GoesSo M step peek says place x (before c ys) (k.rest, k.port) = record {
        goes = k.goes;
        asks = asks_up_to ys c x.port.side (peek x.machine ≡ says x.port.party.device) g.0.asks;
        holds = g.0.holds;
        seen = g.0.seen;
        end = λ t d. later t (subst (λ (v : Option ℕ). IsInTime c v) d k.in_time) (before c ys) (front_before c ys);
      } in
      ((k.rest, k.port) ∷ more.0, ((one, more.1.0), (k.in_time, more.1.1)))
    where
      later : (t : ℕ) → c ≤ t → (zs : List Step) → AllBefore c zs → AllBefore t zs
      later t l [] a = tt
      later t l (z ∷ zs) a = let b = a.0 in (omega (arith, b, l), later t l zs a.1)

  -- and what they do is a front of it, as far as the host does the same
  pub up_to_on_bus : (c : ℕ) {n n2 : ℕ} {xs ss2 : List (Station M)} {es : List Event} → Plays M step peek n xs es n2 ss2 → (ys : List Step) (fin : List (Rest × Port)) → AllGo M step peek says place xs ys fin → AllWait c fin → RisingIn M step peek says place (devs M step peek says place xs)
      → IsPlain M step peek says place (devs M step peek says place xs) ys → (rest : List Event) → Compat (before c ys) (es ++ rest)
      → (fin2 : List (Rest × Port)) × (AllWait c fin2 × (WithinAll M step peek says place xs (before c ys) fin2 es rest ss2 ⊎ PassedAll M step peek says place xs (before c ys) fin2 es n2 ss2))
  up_to_on_bus c {xs = xs} plays ys fin g w rising plain rest meets =
      let z = all_up_to c xs ys fin g plain.order w in
      let k = cut_front c ys plain.order in
      let front = plain_front (devs M step peek says place xs) (before c ys) k.0 (subst (λ (v : List Step). IsPlain M step peek says place (devs M step peek says place xs) v) k.1 plain) in
      (z.0, (z.1.1, along_bus M step peek says place plays (before c ys) z.0 z.1.0 rising front rest meets))
