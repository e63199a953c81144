-- A drive among others: what the rest of the bus holds after the steps that it follows, and that it follows a piece up to each cut.
use Rattle.std.proofs.Common.{append-nil, ◌≡◌, ℕ, suc, ◌≤◌, ◌<◌, inl, inr, Bool, true, false, List, [], ◌∷◌, ◌++◌, map, Option, Some, None, ap, sym, ◌∙◌, subst, arith, refl, eq-eqb}
use Rattle.std.proofs.lemmas.Bool.Decides.{leb_tells}
use Rattle.std.specs.Prelude.{if◌then◌else◌, nat_eq}
use Rattle.cbm_iec.specs.Ports.{port_due, next_held, reaction_act, reaction_changes}
use Rattle.cbm_iec.specs.declared.machine.Act.{Act}
use Rattle.cbm_iec.specs.declared.event.Who.TheVariants.{Host, Drive}
use Rattle.cbm_iec.specs.declared.event.Who.{Who}
use Rattle.cbm_iec.specs.declared.lines.Change.{Change}
use Rattle.cbm_iec.specs.declared.lines.Held.{Held}
use Rattle.cbm_iec.specs.declared.party.Party.{Party}
use Rattle.cbm_iec.specs.declared.port.Port.{Port}
use Rattle.cbm_session.proofs.alone.Fronts.{reaction_at, in_time_le, head_is, tail_is, not_nil, parted, some_back}
use Rattle.cbm_session.proofs.alone.Sessions.{keep_own, own_of, reaction_own, NoAttention, no_left, no_right, no_merge, no_before, reaction_role, AllHost, cut_host, cut_silent}
use Rattle.cbm_session.proofs.among.Standing.{IsSound, Result, rest_afterwards}
use Rattle.cbm_session.proofs.joining.Merging.{merge_here, merge_there, merge_nil, NoneBefore, InOrder, by_head, before_yes, before_no, cut_front, AllBefore, front_before, before_after}
use Rattle.cbm_session.proofs.joining.Orders.{host_order}
use Rattle.cbm_session.proofs.joining.Owning.{AllOwned, part_owned, part_order}
use Rattle.cbm_session.proofs.joining.Seating.{Apart, Sits}
use Rattle.cbm_session.proofs.joining.Showing.{order_all}
use Rattle.cbm_session.specs.Among.{Rest, wires_of, after_another, FirstIsAfter, FollowsAmong, ends, tells, hears, reacts}
use Rattle.cbm_session.specs.Buses.{rest_at, StandsAmong}
use Rattle.cbm_session.specs.Following.{IsInTime, own_step, own_steps, reaction_steps}
use Rattle.cbm_session.specs.Pieces.{Whole, Point, host_part, own_part, steps_of, before, Fits, CutFits, some_from, held_by, PieceFits, Cut}
use Rattle.cbm_session.specs.Seats.{Seat, device}
use Rattle.cbm_session.specs.Steps.{Step, event_of, moment_of, merge, merge_all}

-- the drive's own changes leave what the others hold
own_leaves : (d : ℕ) (r : Rest) (c : Change) (act : Option Act) (more : List Step) → rest_afterwards d r (own_step d c act ∷ more) ≡ rest_afterwards d r more
own_leaves d r c None more = ap (λ (v : Bool). rest_afterwards d (if v then r else after_another c.line c.way r) more) (eq-eqb d d refl)
own_leaves d r c (Some act) more = ap (λ (v : Bool). rest_afterwards d (if v then r else after_another c.line c.way r) more) (eq-eqb d d refl)

reaction_leaves : (d : ℕ) (r : Rest) (cs : List Change) (act : Option Act) (more : List Step) → rest_afterwards d r (own_steps d cs act ++ more) ≡ rest_afterwards d r more
reaction_leaves d r [] act more = refl
reaction_leaves d r (c ∷ []) act more = own_leaves d r c act more
reaction_leaves d r (c ∷ e ∷ []) act more = own_leaves d r c None (own_step d e act ∷ more) ∙ own_leaves d r e act more
reaction_leaves d r (c ∷ e ∷ x ∷ cs) act more = refl

module _ (peek : Option (ℕ × Bool)) where
  -- what is followed leads to what the others hold after it, with the lines told that they hold, and the drive stays the same
  pub follows_rest : {r r2 : Rest} {q q2 : Port} {ss : List Step} → FollowsAmong peek r q ss r2 q2 → r2 ≡ rest_afterwards q.party.device r ss
  follows_rest (ends a e) = a
  follows_rest (tells i k f) = follows_rest f
  follows_rest {r} {r2} {q} (hears {o} {t} {line} {way} {mark} {ss} h i k f) =
      follows_rest f ∙ ap (λ (v : Bool). rest_afterwards q.party.device (if v then r else after_another line way r) ss) (sym h)
  follows_rest {r} {r2} {q} (reacts t more d e sh l f) =
      follows_rest f
      ∙ sym (reaction_leaves q.party.device r (reaction_changes t peek q) (reaction_act peek q) more)
      ∙ ap (λ (zs : List Step). rest_afterwards q.party.device r zs) (sym e)

  pub follows_wires : {r r2 : Rest} {q q2 : Port} {ss : List Step} → FollowsAmong peek r q ss r2 q2 → q.others ≡ wires_of r → q2.others ≡ wires_of r2
  follows_wires (ends a e) h = ap (λ (x : Port). x.others) e ∙ h ∙ ap (λ (x : Rest). wires_of x) (sym a)
  follows_wires (tells i k f) h = follows_wires f refl
  follows_wires (hears o i k f) h = follows_wires f refl
  follows_wires (reacts t more d e sh l f) h = follows_wires f h

  pub follows_drive : {r r2 : Rest} {q q2 : Port} {ss : List Step} → FollowsAmong peek r q ss r2 q2 → q2.party ≡ q.party
  follows_drive (ends a e) = ap (λ (x : Port). x.party) e
  follows_drive (tells i k f) = follows_drive f
  follows_drive (hears o i k f) = follows_drive f
  follows_drive (reacts t more d e sh l f) = follows_drive f

  -- where no byte counts in attention, the role stays
  keeps_role : {r r2 : Rest} {q q2 : Port} {ss : List Step} → FollowsAmong peek r q ss r2 q2 → NoAttention ss → q2.role ≡ q.role
  keeps_role (ends a e) n = ap (λ (x : Port). x.role) e
  keeps_role (tells i k f) n = keeps_role f n.1
  keeps_role (hears o i k f) n = keeps_role f n.1
  keeps_role {r} {r2} {q} (reacts t more d e sh l f) n =
      let all = subst NoAttention e n in
      keeps_role f (no_right (reaction_steps t peek q) more all)
      ∙ reaction_role _ q.party.device t peek q.role q.others (reaction_changes t peek q) q.side sh (no_left (reaction_steps t peek q) more all)

-- the steps of one drive
abbrev pub is_own : ℕ → Who → Bool
is_own d Host = false
is_own d (Drive o) = nat_eq d o

abbrev pub mine_of : ℕ → List Step → List Step
mine_of d [] = []
mine_of d (s ∷ ss) = if is_own d s.event.who then s ∷ mine_of d ss else mine_of d ss

one_mine : (d : ℕ) (c : Change) (act : Option Act) (more : List Step) → mine_of d (own_step d c act ∷ more) ≡ own_step d c act ∷ mine_of d more
one_mine d c None more = ap (λ (v : Bool). if v then own_step d c None ∷ mine_of d more else mine_of d more) (eq-eqb d d refl)
one_mine d c (Some act) more = ap (λ (v : Bool). if v then own_step d c (Some act) ∷ mine_of d more else mine_of d more) (eq-eqb d d refl)

reaction_mine : (d : ℕ) (cs : List Change) (act : Option Act) (more : List Step) → mine_of d (own_steps d cs act ++ more) ≡ own_steps d cs act ++ mine_of d more
reaction_mine d [] act more = refl
reaction_mine d (c ∷ []) act more = one_mine d c act more
reaction_mine d (c ∷ e ∷ []) act more = one_mine d c None (own_step d e act ∷ more) ∙ ap (λ (zs : List Step). own_step d c None ∷ zs) (one_mine d e act more)
reaction_mine d (c ∷ e ∷ x ∷ cs) act more = refl

mine_own : (d : ℕ) (ss : List Step) → own_of (mine_of d ss) ≡ mine_of d ss
mine_own d [] = refl
mine_own d (s ∷ ss) = by s.event.who refl (mine_own d ss)
  where
    kept : (v : Bool) (o : ℕ) → s.event.who ≡ Drive o → own_of (mine_of d ss) ≡ mine_of d ss → own_of (if v then s ∷ mine_of d ss else mine_of d ss) ≡ (if v then s ∷ mine_of d ss else mine_of d ss)
    kept true o e k = ap (λ (w : Who). keep_own w s (own_of (mine_of d ss))) e ∙ ap (λ (zs : List Step). s ∷ zs) k
    kept false o e k = k

    by : (w : Who) → s.event.who ≡ w → own_of (mine_of d ss) ≡ mine_of d ss → own_of (if is_own d w then s ∷ mine_of d ss else mine_of d ss) ≡ (if is_own d w then s ∷ mine_of d ss else mine_of d ss)
    by Host e k = k
    by (Drive o) e k = kept (nat_eq d o) o e k

-- of a reaction its own lines are what the drive's steps say
reaction_held : (d : ℕ) (cs : List Change) (act : Option Act) (more : List Step) (was now : Held) → ((zs : List Step) → held_by was (own_of (own_steps d cs act ++ zs)) ≡ held_by now (own_of zs)) → held_by was (mine_of d (own_steps d cs act ++ more)) ≡ held_by now (mine_of d more)
reaction_held d cs act more was now h =
    ap (λ (zs : List Step). held_by was zs) (sym (mine_own d (own_steps d cs act ++ more)) ∙ ap (λ (zs : List Step). own_of zs) (reaction_mine d cs act more))
    ∙ h (mine_of d more)
    ∙ ap (λ (zs : List Step). held_by now zs) (mine_own d more)

module _ (peek : Option (ℕ × Bool)) where
  -- the drive's own lines after what it follows
  holds_by : {r r2 : Rest} {q q2 : Port} {ss : List Step} → FollowsAmong peek r q ss r2 q2 → q2.own ≡ held_by q.own (mine_of q.party.device ss)
  holds_by (ends a e) = ap (λ (x : Port). x.own) e
  holds_by (tells i k f) = holds_by f
  holds_by {r} {r2} {q} (hears {o} {t} {line} {way} {mark} {ss} h i k f) =
      let s : Step = record { event = event_of (Drive o) t line way; mark = mark } in
      holds_by f ∙ ap (λ (v : Bool). held_by q.own (if v then s ∷ mine_of q.party.device ss else mine_of q.party.device ss)) (sym h)
  holds_by {r} {r2} {q} (reacts t more d e sh l f) =
      let now = next_held peek q in
      let act = reaction_act peek q in
      holds_by f
      ∙ sym (reaction_held q.party.device (reaction_changes t peek q) act more q.own now (λ zs. reaction_own q.party.device t q.own.clock_low now.clock_low q.own.data_low now.data_low act zs))
      ∙ ap (λ (zs : List Step). held_by q.own (mine_of q.party.device zs)) (sym e)

-- of a cut
pub mine_before : (d c : ℕ) (ss : List Step) → mine_of d (before c ss) ≡ before c (mine_of d ss)
mine_before d c [] = refl
mine_before d c (s ∷ ss) = elim (leb_tells (suc (moment_of s)) c) [
  | inl x ↦ ap (λ (zs : List Step). mine_of d zs) (before_yes c s ss (omega (arith, x.1))) ∙ yes (is_own d s.event.who) (omega (arith, x.1)) (mine_before d c ss)
  | inr x ↦ ap (λ (zs : List Step). mine_of d zs) (before_no c s ss (omega (arith, x.1))) ∙ no (is_own d s.event.who) (omega (arith, x.1)) (mine_before d c ss)
]
  where
    yes : (v : Bool) → moment_of s < c → mine_of d (before c ss) ≡ before c (mine_of d ss) → (if v then s ∷ mine_of d (before c ss) else mine_of d (before c ss)) ≡ before c (if v then s ∷ mine_of d ss else mine_of d ss)
    yes true l k = ap (λ (zs : List Step). s ∷ zs) k ∙ sym (before_yes c s (mine_of d ss) l)
    yes false l k = k

    no : (v : Bool) → c ≤ moment_of s → mine_of d (before c ss) ≡ before c (mine_of d ss) → mine_of d (before c ss) ≡ before c (if v then s ∷ mine_of d ss else mine_of d ss)
    no true l k = k ∙ sym (before_no c s (mine_of d ss) l)
    no false l k = k

-- lists without a step of the drive, and of its steps alone
abbrev NoneOf : ℕ → List Step → Type 0
NoneOf d [] = Unit {0}
NoneOf d (s ∷ ss) = (is_own d s.event.who ≡ false) × NoneOf d ss

none_of_host : (d : ℕ) (ss : List Step) → AllHost ss → NoneOf d ss
none_of_host d [] a = tt
none_of_host d (s ∷ ss) a = (ap (λ (w : Who). is_own d w) a.0, none_of_host d ss a.1)

none_of_other : (d o : ℕ) (ss : List Step) → nat_eq d o ≡ false → AllOwned o ss → NoneOf d ss
none_of_other d o [] e a = tt
none_of_other d o (s ∷ ss) e a = (ap (λ (w : Who). is_own d w) a.0 ∙ e, none_of_other d o ss e a.2)

none_of_merge : (d : ℕ) (xs ys : List Step) → NoneOf d xs → NoneOf d ys → NoneOf d (merge xs ys)
none_of_merge d [] ys a b = b
none_of_merge d (x ∷ xs) [] a b = subst (NoneOf d) (sym (merge_nil (x ∷ xs))) a
none_of_merge d (x ∷ xs) (y ∷ ys) a b = by_head (NoneOf d) x xs y ys (λ h. (a.0, none_of_merge d xs (y ∷ ys) a.1 b)) (λ h. (b.0, none_of_merge d (x ∷ xs) ys a b.1))

mine_left : (d : ℕ) (s : Step) (ss : List Step) → is_own d s.event.who ≡ false → mine_of d (s ∷ ss) ≡ mine_of d ss
mine_left d s ss e = ap (λ (v : Bool). if v then s ∷ mine_of d ss else mine_of d ss) e

mine_kept : (d : ℕ) (s : Step) (ss : List Step) → is_own d s.event.who ≡ true → mine_of d (s ∷ ss) ≡ s ∷ mine_of d ss
mine_kept d s ss e = ap (λ (v : Bool). if v then s ∷ mine_of d ss else mine_of d ss) e

mine_none : (d : ℕ) (ss : List Step) → NoneOf d ss → mine_of d ss ≡ []
mine_none d [] a = refl
mine_none d (s ∷ ss) a = mine_left d s ss a.0 ∙ mine_none d ss a.1

mine_all : (d o : ℕ) (ss : List Step) → nat_eq d o ≡ true → AllOwned o ss → mine_of d ss ≡ ss
mine_all d o [] e a = refl
mine_all d o (s ∷ ss) e a = mine_kept d s ss (ap (λ (w : Who). is_own d w) a.0 ∙ e) ∙ ap (λ (zs : List Step). s ∷ zs) (mine_all d o ss e a.2)

-- a join with steps of others shows the drive's alone
mine_after : (d : ℕ) (xs ys : List Step) → NoneOf d xs → mine_of d (merge xs ys) ≡ mine_of d ys
mine_after d [] ys a = refl
mine_after d (x ∷ xs) [] a = ap (λ (zs : List Step). mine_of d zs) (merge_nil (x ∷ xs)) ∙ mine_none d (x ∷ xs) a
mine_after d (x ∷ xs) (y ∷ ys) a = elim (leb_tells (moment_of x) (moment_of y)) [
  | inl e ↦ ap (λ (zs : List Step). mine_of d zs) (merge_here x xs y ys e.1) ∙ mine_left d x (merge xs (y ∷ ys)) a.0 ∙ mine_after d xs (y ∷ ys) a.1
  | inr e ↦ ap (λ (zs : List Step). mine_of d zs) (merge_there x xs y ys e.1) ∙ ap (λ (zs : List Step). if is_own d y.event.who then y ∷ zs else zs) (mine_after d (x ∷ xs) ys a)
]

mine_ahead : (d : ℕ) (xs ys : List Step) → NoneOf d ys → mine_of d (merge xs ys) ≡ mine_of d xs
mine_ahead d [] ys b = mine_none d ys b
mine_ahead d (x ∷ xs) [] b = ap (λ (zs : List Step). mine_of d zs) (merge_nil (x ∷ xs))
mine_ahead d (x ∷ xs) (y ∷ ys) b = elim (leb_tells (moment_of x) (moment_of y)) [
  | inl e ↦ ap (λ (zs : List Step). mine_of d zs) (merge_here x xs y ys e.1) ∙ ap (λ (zs : List Step). if is_own d x.event.who then x ∷ zs else zs) (mine_ahead d xs (y ∷ ys) b)
  | inr e ↦ ap (λ (zs : List Step). mine_of d zs) (merge_there x xs y ys e.1) ∙ mine_left d y (merge (x ∷ xs) ys) b.0 ∙ mine_ahead d (x ∷ xs) ys b.1
]

-- the parts of a bus, each of its drive
module _ (own : Seat → List Step) (owned : (x : Seat) → AllOwned (device x) (own x)) where
  none_of_all : (d : ℕ) (l : List Step) (xs : List Seat) → NoneOf d l → Apart d xs → NoneOf d (merge_all l (map own xs))
  none_of_all d l [] a h = a
  none_of_all d l (x ∷ xs) a h = none_of_merge d l (merge_all (own x) (map own xs)) a (none_of_all d (own x) xs (none_of_other d (device x) (own x) h.0 (owned x)) h.1)

  mine_first : (d : ℕ) (l : List Step) (xs : List Seat) → Apart d xs → mine_of d (merge_all l (map own xs)) ≡ mine_of d l
  mine_first d l [] h = refl
  mine_first d l (x ∷ xs) h = mine_ahead d l (merge_all (own x) (map own xs)) (none_of_all d (own x) xs (none_of_other d (device x) (own x) h.0 (owned x)) h.1)

  mine_parts : (d : ℕ) (l : List Step) (xs : List Seat) (s : Seat) → NoneOf d l → Sits d xs s → mine_of d (merge_all l (map own xs)) ≡ own s
  mine_parts d l [] s a h = elim h [ ]
  mine_parts d l (x ∷ xs) s a (inl h) =
      mine_after d l (merge_all (own x) (map own xs)) a
      ∙ mine_first d (own x) xs h.2
      ∙ mine_all d (device x) (own x) h.1 (owned x)
      ∙ ap own h.0
  mine_parts d l (x ∷ xs) s a (inr h) = mine_after d l (merge_all (own x) (map own xs)) a ∙ mine_parts d (own x) xs s (none_of_other d (device x) (own x) h.0 (owned x)) h.1

  no_all : ((x : Seat) → NoAttention (own x)) → (l : List Step) (xs : List Seat) → NoAttention l → NoAttention (merge_all l (map own xs))
  no_all f l [] a = a
  no_all f l (x ∷ xs) a = no_merge l (merge_all (own x) (map own xs)) a (no_all f (own x) xs (f x))

-- no byte counts in attention in a join, nor in its parts
no_parts : (xs ys : List Step) → NoAttention (merge xs ys) → NoAttention xs × NoAttention ys
no_parts [] ys a = (tt, a)
no_parts (x ∷ xs) [] a = (subst NoAttention (merge_nil (x ∷ xs)) a, tt)
no_parts (x ∷ xs) (y ∷ ys) a = elim (leb_tells (moment_of x) (moment_of y)) [
  | inl e ↦ (
      let b = subst NoAttention (merge_here x xs y ys e.1) a in
      let k = no_parts xs (y ∷ ys) b.1 in
      ((b.0, k.0), k.1)
      )
  | inr e ↦ (
      let b = subst NoAttention (merge_there x xs y ys e.1) a in
      let k = no_parts (x ∷ xs) ys b.1 in
      (k.0, (b.0, k.1))
      )
]

-- The front of what is followed is followed, and nothing is overdue there.
after_a_front : (t : ℕ) (more rest back : List Step) → more ≡ rest ++ back → FirstIsAfter t more → FirstIsAfter t rest
after_a_front t more [] back e l = tt
after_a_front t more (x ∷ rest) back e l = subst (λ (zs : List Step). FirstIsAfter t zs) e l

among_front : (peek : Option (ℕ × Bool)) (c : ℕ) (y : Step) (ys : List Step) → NoneBefore c (y ∷ ys) → {r r2 : Rest} {q q2 : Port} {ss : List Step} → FollowsAmong peek r q ss r2 q2 → (front : List Step) → ss ≡ front ++ y ∷ ys → AllBefore c front
    → (r3 : Rest) × ((q3 : Port) × (FollowsAmong peek r q front r3 q3 × IsInTime c (port_due q3)))
among_front peek c y ys n (ends a e) [] h f = absurd (not_nil y ys h)
among_front peek c y ys n (ends a e) (x ∷ front) h f = absurd (not_nil x (front ++ y ∷ ys) h)
among_front peek c y ys n {r} {r2} {q} (tells {t} i k g) [] h f =
    let b = subst (NoneBefore c) (sym h) n in
    (r, (q, (ends refl refl, in_time_le c t (port_due q) b.0 i)))
among_front peek c y ys n {r} {r2} {q} (tells {t} {line} {way} {mark} {ss} i k g) (x ∷ front) h f =
    let s : Step = record { event = event_of Host t line way; mark = mark } in
    let z = among_front peek c y ys n g front (tail_is s x ss (front ++ y ∷ ys) h) f.1 in
    (z.0, (z.1.0, (subst (λ (u : Step). FollowsAmong peek r q (u ∷ front) z.0 z.1.0) (head_is s x ss (front ++ y ∷ ys) h) (tells i k z.1.1.0), z.1.1.1)))
among_front peek c y ys n {r} {r2} {q} (hears {o} {t} a i k g) [] h f =
    let b = subst (NoneBefore c) (sym h) n in
    (r, (q, (ends refl refl, in_time_le c t (port_due q) b.0 i)))
among_front peek c y ys n {r} {r2} {q} (hears {o} {t} {line} {way} {mark} {ss} a i k g) (x ∷ front) h f =
    let s : Step = record { event = event_of (Drive o) t line way; mark = mark } in
    let z = among_front peek c y ys n g front (tail_is s x ss (front ++ y ∷ ys) h) f.1 in
    (z.0, (z.1.0, (subst (λ (u : Step). FollowsAmong peek r q (u ∷ front) z.0 z.1.0) (head_is s x ss (front ++ y ∷ ys) h) (hears a i k z.1.1.0), z.1.1.1)))
among_front peek c y ys n {r} {r2} {q} (reacts t more d e sh l g) front h f =
    elim (parted c t (reaction_steps t peek q) more front (y ∷ ys) (reaction_at t peek q) (sym e ∙ h) f n) [
      | inl z ↦ (
          let u = among_front peek c y ys n g z.0 z.2 (before_after c (reaction_steps t peek q) z.0 (subst (AllBefore c) z.1 f)) in
          (u.0, (u.1.0, (reacts t z.0 d z.1 sh (after_a_front t more z.0 (y ∷ ys) z.2 l) u.1.1.0, u.1.1.1)))
          )
      | inr z ↦ (r, (q, (subst (λ (zs : List Step). FollowsAmong peek r q zs r q) (sym z.0) (ends refl refl), subst (IsInTime c) (sym d) z.1)))
    ]

-- what is followed in order, with some step at a moment or after it, is followed up to that moment
pub among_cut : (peek : Option (ℕ × Bool)) (c : ℕ) (r r2 : Rest) (q q2 : Port) (ss : List Step) → FollowsAmong peek r q ss r2 q2 → InOrder ss → some_from c ss ≡ true
    → (r3 : Rest) × ((q3 : Port) × (FollowsAmong peek r q (before c ss) r3 q3 × IsInTime c (port_due q3)))
among_cut peek c r r2 q q2 ss g order e = let cut = cut_front c ss order in go cut.0 cut.1 cut.2
  where
    go : (back : List Step) → ss ≡ before c ss ++ back → NoneBefore c back → (r3 : Rest) × ((q3 : Port) × (FollowsAmong peek r q (before c ss) r3 q3 × IsInTime c (port_due q3)))
    go [] k n =
        let none : some_from c ss ≡ false = ap (λ (zs : List Step). some_from c zs) (k ∙ append-nil (before c ss)) ∙ some_back c (before c ss) (front_before c ss) in
        let no : true ≡ false = sym e ∙ none in
        absurd cc
    go (b ∷ back) k n = among_front peek c b back n g (before c ss) k (front_before c ss)

-- a drive follows a cut piece up to the cut
pub record CutResult (p : Point) (s : Seat) (w : Whole) (c : ℕ) (q : Port) (peek : Option (ℕ × Bool)) : Type 0 where
  pub rest : Rest
  pub port : Port
  pub follows : FollowsAmong peek (rest_at (device s) p) q (before c (steps_of p w)) rest port
  pub role : port.role ≡ s.role
  pub own : port.own ≡ held_by s.own (before c (own_part p w s))
  pub side : IsInTime c (port_due port)

pub steps_order : (p : Point) (w : Whole) → Fits p w → InOrder (steps_of p w)
steps_order p w f = order_all (λ x. own_part p w x) (part_order p w f) (host_part p w) p.seats (host_order p w f)

steps_silent : (p : Point) (w : Whole) (s : Seat) (c : ℕ) → CutFits p w c → NoAttention (steps_of p w)
steps_silent p w s c k =
    no_all (λ x. own_part p w x) (part_owned p w) (λ x. (no_parts (host_part p w) (own_part p w x) (cut_silent p w x c k)).1) (host_part p w) p.seats
    (no_parts (host_part p w) (own_part p w s) (cut_silent p w s c k)).0

pub steps_mine : (p : Point) (w : Whole) (s : Seat) (c : ℕ) → CutFits p w c → Sits (device s) p.seats s → mine_of (device s) (steps_of p w) ≡ own_part p w s
steps_mine p w s c k h = mine_parts (λ x. own_part p w x) (part_owned p w) (device s) (host_part p w) p.seats s (none_of_host (device s) (host_part p w) (cut_host p w c k)) h

pub cut_among : (p : Point) (s : Seat) (w : Whole) (c : ℕ) (q : Port) (peek : Option (ℕ × Bool)) → IsSound p s → StandsAmong p s q → PieceFits p (Cut w c) → Result p s w q peek → CutResult p s w c q peek
cut_among p s w c q peek sound h fits whole =
    let ss = steps_of p w in
    let x = among_cut peek c (rest_at (device s) p) whole.rest q whole.port ss whole.follows (steps_order p w fits.0) fits.2 in
    let g = x.1.1.0 in
    record {
      rest = x.0;
      port = x.1.0;
      follows = g;
      role = keeps_role peek g (no_before c ss (steps_silent p w s c fits.1)) ∙ h.role;
      own =
          holds_by peek g
          ∙ ap (λ (o : Held). held_by o (mine_of q.party.device (before c ss))) h.own
          ∙ ap (λ (zs : List Step). held_by s.own zs) (ap (λ (d : ℕ). mine_of d (before c ss)) (ap (λ (b : Party). b.device) h.party) ∙ mine_before (device s) c ss ∙ ap (λ (zs : List Step). before c zs) (steps_mine p w s c fits.1 sound.seated.sits));
      side = x.1.1.1;
    }
