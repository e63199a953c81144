-- A host whose changes are those of a session keeps the timing, and where no drive owes a change none was late.
use Rattle.std.proofs.Common.{◌≡◌, ℕ, ◌+◌, ◌≤◌, ◌<◌, List, [], ◌∷◌, ◌++◌, ap, sym, ◌∙◌, subst, arith, refl}
use Rattle.cbm_iec.specs.declared.event.Event.{Event}
use Rattle.cbm_iec.specs.declared.event.Who.TheVariants.{Host, Drive}
use Rattle.cbm_iec.specs.declared.event.Who.{Who}
use Rattle.cbm_iec.specs.declared.party.Party.{Party}
use Rattle.cbm_session.proofs.joining.Merging.{goes_after}
use Rattle.cbm_session.proofs.timing.SessionOrder.{goes_on}
use Rattle.cbm_session.specs.Laws.{NotSooner, AllAfter, GoesOn, FrontsKeep, InTimeAmong, FrontsInTime}
use Rattle.cbm_session.specs.Pieces.{Piece}
use Rattle.cbm_session.specs.Sessions.{rest, session_steps, Splits, acts_of, IsBus}
use Rattle.cbm_session.specs.Steps.{Step, moment_of, events_of}
use Rattle.cbm_session.specs.Timing.{StartsLater, LaterHost, IsQuiet, Owes, IsLateAt, any}

-- a part of the events is that of the steps
record Parted (ss : List Step) (front back : List Event) : Type 0 where
  pub done : List Step
  pub more : List Step
  pub steps : ss ≡ done ++ more
  pub shown : events_of done ≡ front
  pub left : events_of more ≡ back

event_head : (x y : Event) (xs ys : List Event) → x ∷ xs ≡ y ∷ ys → x ≡ y
event_head x y xs ys e = cc

event_tail : (x y : Event) (xs ys : List Event) → x ∷ xs ≡ y ∷ ys → xs ≡ ys
event_tail x y xs ys e = cc

parted : (ss : List Step) (front back : List Event) → events_of ss ≡ front ++ back → Parted ss front back
parted ss [] back e = record { done = []; more = ss; steps = refl; shown = refl; left = e }
parted [] (x ∷ front) back e = absurd cc
parted (s ∷ ss) (x ∷ front) back e =
    let k = parted ss front back (event_tail s.event x (events_of ss) (front ++ back) e) in
    let h = event_head s.event x (events_of ss) (front ++ back) e in
    record { done = s ∷ k.done; more = k.more; steps = ap (λ (zs : List Step). s ∷ zs) k.steps; shown = (let a = k.shown in cc); left = k.left }

-- what comes after is not sooner
not_sooner : (w : Who) (m : ℕ) (v : Who) (n : ℕ) → NotSooner w m v n → m ≤ n
not_sooner Host m v n h = h
not_sooner (Drive o) m Host n h = omega (arith, h)
not_sooner (Drive o) m (Drive p) n h = h

all_later : (e : ℕ) (w : Who) (m : ℕ) (ss : List Step) → e < m → AllAfter w m ss → LaterHost e ss
all_later e w m [] l h = tt
all_later e w m (s ∷ ss) l h = let k = not_sooner w m s.event.who (moment_of s) h.0 in (λ i. omega (arith, l, k), all_later e w m ss l h.1)

earlier_host : (e end : ℕ) (ss : List Step) → e ≤ end → LaterHost end ss → LaterHost e ss
earlier_host e end [] l h = tt
earlier_host e end (s ∷ ss) l h = (λ i. (let k = h.0 i in omega (arith, l, k)), earlier_host e end ss l h.1)

later_host : (e end : ℕ) (xs more : List Step) → StartsLater e end (events_of xs) → LaterHost end more → GoesOn (xs ++ more) → LaterHost e (xs ++ more)
later_host e end [] more l h g = earlier_host e end more l h
later_host e end (s ∷ ss) more l h g = (λ i. l, all_later e s.event.who (moment_of s) (ss ++ more) l g.0)

owes_earlier : (e end : ℕ) (ss : List Step) → e ≤ end → Owes e ss → Owes end ss
owes_earlier e end [] l h = h
owes_earlier e end (s ∷ ss) l h = (h.0, omega (arith, l, h.1))

owes_nothing : (e end m : ℕ) (xs more : List Step) → e ≤ end → StartsLater e m (events_of xs) → (Owes end more → ⊥) → Owes e (xs ++ more) → ⊥
owes_nothing e end m [] more l s h o = h (owes_earlier e end more l o)
owes_nothing e end m (x ∷ xs) more l s h o = omega (arith, s, o.1)

starts_sooner : (e end : ℕ) (xs : List Event) → e ≤ end → StartsLater e (end + 1) xs → StartsLater e end xs
starts_sooner e end [] l s = l
starts_sooner e end (x ∷ xs) l s = s

assoc : (xs ys zs : List Step) → (xs ++ ys) ++ zs ≡ xs ++ (ys ++ zs)
assoc [] ys zs = refl
assoc (x ∷ xs) ys zs = ap (λ (l : List Step). x ∷ l) (assoc xs ys zs)

module _ (bs : List Party) (ks : List Piece) (done more : List Step) (end : ℕ) (bus : IsBus bs) (sp : Splits bs ks done more) (late : LaterHost end more) where
  split : (front back : List Event) (k : Parted done front back) → session_steps (rest bs) ks ≡ k.done ++ (k.more ++ more)
  split front back k = sp.steps ∙ ap (λ (zs : List Step). zs ++ more) k.steps ∙ assoc k.done k.more more

  quiet_at : (front back : List Event) (e : ℕ) (k : Parted done front back) → StartsLater e end back → IsQuiet bs front e ks k.done (k.more ++ more)
  quiet_at front back e k s =
      let g = goes_after k.done (k.more ++ more) (subst GoesOn (split front back k) (goes_on bs ks bus sp.linked)) in
      record { splits = record { linked = sp.linked; steps = split front back k }; shown = k.shown; quiet = later_host e end k.more more (subst (StartsLater e end) (sym k.left) s) late g }

pub fronts_keep : FrontsKeep
fronts_keep bs ks done more end bus sp late =
    record {
      changes = λ front back x e i b n. (
          let k = parted done (front ++ x ∷ []) back (e ∙ sym (joined front back x)) in
          (acts_of bs k.done, (ks, (k.done, (k.more ++ more, (record { linked = sp.linked; steps = split bs ks done more end bus sp late (front ++ x ∷ []) back k }, k.shown, refl)))))
          );
      due = λ front back e q s b n. (
          let k = parted done front back q in
          (ks, (k.done, (k.more ++ more, (tt, quiet_at bs ks done more end bus sp late front back e k s))))
          );
    }
  where
    joined : (front back : List Event) (x : Event) → (front ++ x ∷ []) ++ back ≡ front ++ x ∷ back
    joined [] back x = refl
    joined (y ∷ front) back x = ap (λ (zs : List Event). y ∷ zs) (joined front back x)

pub in_time_among : (among : List Piece → Type 0) → InTimeAmong among
in_time_among among bs ks done more end bus a sp late none l = go l.0 l.1.0 l.1.1.0 l.1.1.1.0 l.1.1.1.1.0 l.1.1.1.1.1.0 l.1.1.1.1.1.1
  where
    go : (front back : List Event) (e : ℕ) → events_of done ≡ front ++ back → e < end + 1 → StartsLater e (end + 1) back → IsLateAt bs among front e → ⊥
    go front back e q m s at =
        let k = parted done front back q in
        let soon : e ≤ end = omega (arith, m) in
        let s2 = starts_sooner e end back soon s in
        owes_nothing e end end k.more more soon (subst (StartsLater e end) (sym k.left) s2) none (at.each ks k.done (k.more ++ more) a (quiet_at bs ks done more end bus sp late front back e k s2))

pub fronts_in_time : FrontsInTime
fronts_in_time = in_time_among any
