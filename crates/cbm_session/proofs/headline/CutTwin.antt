-- A piece that a machine answers and the session's, both cut at a moment at which the host comes next: what the host has left to do, that both cuts show the same where more is played, and when the pull is still to come.
use Rattle.std.proofs.Common.{◌≡◌, ℕ, suc, ◌≤◌, ◌<◌, ◌⊎◌, inl, inr, Bool, true, false, List, [], ◌∷◌, ◌++◌, ap, sym, ◌∙◌, subst, arith, refl}
use Rattle.std.proofs.lemmas.Bool.Decides.{leb_tells}
use Rattle.std.proofs.lemmas.Bool.{le-leb, lt-leb}
use Rattle.std.specs.Prelude.{if◌then◌else◌}
use Rattle.cbm_iec.specs.declared.event.Event.{Event}
use Rattle.cbm_iec.specs.declared.event.Who.TheVariants.{Host, Drive}
use Rattle.cbm_iec.specs.declared.event.Who.{Who}
use Rattle.cbm_session.proofs.headline.Keeping.{HostFrom, host_after_it}
use Rattle.cbm_session.proofs.headline.LeftOver.{HostSafe, apart_late}
use Rattle.cbm_session.proofs.headline.TalkSwap.{Apart, Twin, HostNext, none_cut}
use Rattle.cbm_session.proofs.joining.Merging.{InOrder, AllBefore, before_yes}
use Rattle.cbm_session.specs.Pieces.{before, some_from}
use Rattle.cbm_session.specs.Steps.{Step, moment_of, events_of}
use Rattle.cbm_session.specs.Timing.{is_host}

-- an event before c isn't the host's next
pull_differs : (c : ℕ) (y : Event) (m rest : List Event) → y.change.moment < c → HostNext c rest → y ∷ m ≡ rest → ⊥
pull_differs c y m [] l h e = absurd cc
pull_differs c y m (x ∷ rest) l h e =
    let same : y ≡ x = cc in
    let at : y.change.moment ≡ x.change.moment = ap (λ (v : Event). v.change.moment) same in
    let late = h.1 in
    absurd (omega (arith, l, late, at))

safe_after_it : (t c : ℕ) (y : Step) (ys : List Step) (rest : List Event) → HostNext c rest → moment_of y < c → (is_host y.event.who ≡ true → t ≤ moment_of y) → HostSafe t (y ∷ ys) rest
safe_after_it t c y ys [] h l k = k
safe_after_it t c y ys (x ∷ rest) h l k = (inr k, λ e. absurd (pull_differs c y.event rest (x ∷ rest) l h (ap (λ (v : Event). v ∷ rest) e)))

-- the host's next change in a cut of the one is that in a cut of the other, or not before t
pub cut_safe : (t c : ℕ) (ys xs : List Step) (rest : List Event) → Twin t ys xs → InOrder ys → InOrder xs → HostNext c rest → HostSafe t (before c ys) (events_of (before c xs) ++ rest)
cut_safe t c [] xs rest w o p h = tt
cut_safe t c (y ∷ ys) [] rest w o p h = elim w [ ]
cut_safe t c (y ∷ ys) (x ∷ xs) rest w o p h = elim (leb_tells (suc (moment_of y)) c) [
  | inl u ↦ (let l = u.1 in subst (λ (v : List Step). HostSafe t v (events_of (before c (x ∷ xs)) ++ rest)) (sym (before_yes c y ys (omega (arith, l)))) (kept w (omega (arith, l)) (λ w1. cut_safe t c ys xs rest w1 o.1 p.1 h)))
  | inr u ↦ (let l = u.1 in subst (λ (v : List Step). HostSafe t v (events_of (before c (x ∷ xs)) ++ rest)) (sym (none_cut c y ys o (omega (arith, l)))) tt)
]
  where
    kept : Twin t (y ∷ ys) (x ∷ xs) → moment_of y < c → (Twin t ys xs → HostSafe t (before c ys) (events_of (before c xs) ++ rest)) → HostSafe t (y ∷ before c ys) (events_of (before c (x ∷ xs)) ++ rest)
    kept (inl w) l go =
        let same : moment_of y ≡ moment_of x = ap (λ (v : Event). v.change.moment) w.0 in
        subst (λ (v : List Step). HostSafe t (y ∷ before c ys) (events_of v ++ rest)) (sym (before_yes c x xs (omega (arith, l, same)))) (inl w.0, λ e. go w.1)
    kept (inr w) l go =
        let late : is_host y.event.who ≡ true → t ≤ moment_of y = λ k. apart_late t y.event.who (moment_of y) x.event.who (moment_of x) w.0 k in
        elim (leb_tells (suc (moment_of x)) c) [
          | inl u ↦ (let k = u.1 in subst (λ (v : List Step). HostSafe t (y ∷ before c ys) (events_of v ++ rest)) (sym (before_yes c x xs (omega (arith, k)))) (inr late, λ e. absurd (w.1 e)))
          | inr u ↦ (let k = u.1 in subst (λ (v : List Step). HostSafe t (y ∷ before c ys) (events_of v ++ rest)) (sym (none_cut c x xs p (omega (arith, k)))) (safe_after_it t c y (before c ys) rest h l late))
        ]

-- the first of some events is the host's, or not before c
abbrev pub FirstLate : ℕ → List Event → Type 0
FirstLate c [] = Unit {0}
FirstLate c (x ∷ xs) = (x.who ≡ Host) ⊎ (c ≤ x.change.moment)

apart_first : (t c : ℕ) (u : Who) (m : ℕ) (v : Who) (n : ℕ) → Apart t u m v n → n < c → c ≤ m → (v ≡ Host) ⊎ (c ≤ n) → ⊥
apart_first t c u m v n a l k (inr late) = absurd (omega (arith, l, late))
apart_first t c Host m Host n a l k (inl e) = elim a [ ]
apart_first t c (Drive o) m Host n a l k (inl e) = absurd (omega (arith, a, l, k))
apart_first t c u m (Drive d) n a l k (inl e) = absurd cc

-- Where more is played after a cut, both cuts show the same.
pub cut_same : (t c : ℕ) (ys xs : List Step) (m rest : List Event) → Twin t ys xs → InOrder ys → InOrder xs → HostNext c rest → FirstLate c m → events_of (before c ys) ++ m ≡ events_of (before c xs) ++ rest → events_of (before c ys) ≡ events_of (before c xs)
cut_same t c [] [] m rest w o p h f e = refl
cut_same t c [] (x ∷ xs) m rest w o p h f e = elim w [ ]
cut_same t c (y ∷ ys) [] m rest w o p h f e = elim w [ ]
cut_same t c (y ∷ ys) (x ∷ xs) m rest w o p h f e = elim (leb_tells (suc (moment_of y)) c) [
  | inl u ↦ (
      let l = u.1 in
      let mine = before_yes c y ys (omega (arith, l)) in
      elim (leb_tells (suc (moment_of x)) c) [
        | inl v ↦ (let k = v.1 in let its = before_yes c x xs (omega (arith, k)) in ap (λ (l : List Step). events_of l) mine ∙ both w (turn (y ∷ before c ys) (x ∷ before c xs) mine its) (λ w1 e1. cut_same t c ys xs m rest w1 o.1 p.1 h f e1) ∙ ap (λ (l : List Step). events_of l) (sym its))
        | inr v ↦ (let k = v.1 in absurd (pull_differs c y.event (events_of (before c ys) ++ m) rest (omega (arith, l)) h (turn (y ∷ before c ys) [] mine (none_cut c x xs p (omega (arith, k))))))
      ]
      )
  | inr u ↦ (
      let l = u.1 in
      let mine = none_cut c y ys o (omega (arith, l)) in
      elim (leb_tells (suc (moment_of x)) c) [
        | inl v ↦ (let k = v.1 in absurd (sooner w (omega (arith, k)) (omega (arith, l)) (subst (FirstLate c) (turn [] (x ∷ before c xs) mine (before_yes c x xs (omega (arith, k)))) f)))
        | inr v ↦ (let k = v.1 in ap (λ (l : List Step). events_of l) mine ∙ ap (λ (l : List Step). events_of l) (sym (none_cut c x xs p (omega (arith, k)))))
      ]
      )
]
  where
    turn : (ls ks : List Step) → before c (y ∷ ys) ≡ ls → before c (x ∷ xs) ≡ ks → events_of ls ++ m ≡ events_of ks ++ rest
    turn ls ks a b = ap (λ (l : List Step). events_of l ++ m) (sym a) ∙ e ∙ ap (λ (l : List Step). events_of l ++ rest) b

    both : Twin t (y ∷ ys) (x ∷ xs) → y.event ∷ (events_of (before c ys) ++ m) ≡ x.event ∷ (events_of (before c xs) ++ rest) → (Twin t ys xs → events_of (before c ys) ++ m ≡ events_of (before c xs) ++ rest → events_of (before c ys) ≡ events_of (before c xs))
        → y.event ∷ events_of (before c ys) ≡ x.event ∷ events_of (before c xs)
    both (inl w) k go =
        let tail : events_of (before c ys) ++ m ≡ events_of (before c xs) ++ rest = cc in
        ap (λ (v : Event). v ∷ events_of (before c ys)) w.0 ∙ ap (λ (l : List Event). x.event ∷ l) (go w.1 tail)
    both (inr w) k go = absurd (w.1 cc)

    sooner : Twin t (y ∷ ys) (x ∷ xs) → moment_of x < c → c ≤ moment_of y → (x.event.who ≡ Host) ⊎ (c ≤ moment_of x) → ⊥
    sooner (inl w) l k g = let same : moment_of y ≡ moment_of x = ap (λ (v : Event). v.change.moment) w.0 in absurd (omega (arith, same, l, k))
    sooner (inr w) l k g = apart_first t c y.event.who (moment_of y) x.event.who (moment_of x) w.0 l k g

-- steps none of which is at a moment or later
pub none_from : (c : ℕ) (ss : List Step) → some_from c ss ≡ false → AllBefore c ss
none_from c [] e = tt
none_from c (s ∷ ss) e = elim (leb_tells c (moment_of s)) [
  | inl u ↦ (let l = u.1 in let k : true ≡ false = sym (ap (λ (v : Bool). if v then true else some_from c ss) (le-leb c (moment_of s) (omega (arith, l)))) ∙ e in absurd cc)
  | inr u ↦ (let l = u.1 in (omega (arith, l), none_from c ss (sym (ap (λ (v : Bool). if v then true else some_from c ss) (lt-leb c (moment_of s) (omega (arith, l)))) ∙ e)))
]

-- Where all of the machine's piece is before the cut, the cut isn't passed.
pub no_pass : (t c : ℕ) (ys xs : List Step) (m rest : List Event) → Twin t ys xs → InOrder xs → AllBefore c ys → some_from c xs ≡ true → HostNext c rest → events_of ys ++ m ≡ events_of (before c xs) ++ rest → ⊥
no_pass t c [] [] m rest w p a some h e = absurd cc
no_pass t c [] (x ∷ xs) m rest w p a some h e = elim w [ ]
no_pass t c (y ∷ ys) [] m rest w p a some h e = elim w [ ]
no_pass t c (y ∷ ys) (x ∷ xs) m rest w p a some h e = elim (leb_tells (suc (moment_of x)) c) [
  | inl u ↦ (
      let l = u.1 in
      let its = before_yes c x xs (omega (arith, l)) in
      let left = sym (ap (λ (v : Bool). if v then true else some_from c xs) (lt-leb c (moment_of x) (omega (arith, l)))) ∙ some in
      both w (e ∙ ap (λ (l : List Step). events_of l ++ rest) its) (λ w1 e1. no_pass t c ys xs m rest w1 p.1 a.1 left h e1)
      )
  | inr u ↦ (let l = u.1 in pull_differs c y.event (events_of ys ++ m) rest a.0 h (e ∙ ap (λ (l : List Step). events_of l ++ rest) (none_cut c x xs p (omega (arith, l)))))
]
  where
    both : Twin t (y ∷ ys) (x ∷ xs) → y.event ∷ (events_of ys ++ m) ≡ x.event ∷ (events_of (before c xs) ++ rest) → (Twin t ys xs → events_of ys ++ m ≡ events_of (before c xs) ++ rest → ⊥) → ⊥
    both (inl w) k go = go w.1 cc
    both (inr w) k go = absurd (w.1 cc)

pub before_events : (c : ℕ) (xs ys : List Step) → events_of xs ≡ events_of ys → AllBefore c ys → AllBefore c xs
before_events c [] ys e a = tt
before_events c (x ∷ xs) [] e a = absurd cc
before_events c (x ∷ xs) (y ∷ ys) e a =
    let same : x.event ≡ y.event = cc in
    let at : moment_of x ≡ moment_of y = ap (λ (v : Event). v.change.moment) same in
    let l = a.0 in
    let tail : events_of xs ≡ events_of ys = cc in
    (omega (arith, at, l), before_events c xs ys tail a.1)

-- Where only what is before c was played, a change of the host at c is still to come, and so t isn't after it.
pub pull_late : (c t : ℕ) (xs : List Step) (h : Step) (ys done more : List Step) → xs ++ h ∷ ys ≡ done ++ more → AllBefore c done → HostFrom t more → is_host h.event.who ≡ true → moment_of h ≡ c → t ≤ c
pull_late c t xs h ys [] more e a f who at = let l = (host_after_it t xs (h ∷ ys) (subst (HostFrom t) (sym e) f)).0 who in omega (arith, l, at)
pull_late c t [] h ys (d ∷ done) more e a f who at =
    let same : h ≡ d = cc in
    let now : moment_of h ≡ moment_of d = ap (λ (v : Step). moment_of v) same in
    let l = a.0 in
    absurd (omega (arith, at, now, l))
pull_late c t (x ∷ xs) h ys (d ∷ done) more e a f who at =
    let tail : xs ++ h ∷ ys ≡ done ++ more = cc in
    pull_late c t xs h ys done more tail a.1 f who at
