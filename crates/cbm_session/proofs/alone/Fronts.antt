-- What is followed is followed up to each moment, with nothing overdue there.
use Rattle.std.proofs.Common.{append-nil, ◌≡◌, ℕ, ◌≤◌, ◌<◌, ◌⊎◌, inl, inr, Bool, true, false, List, [], ◌∷◌, ◌++◌, Option, Some, None, ap, sym, ◌∙◌, subst, arith, refl}
use Rattle.std.proofs.lemmas.Bool.{lt-leb}
use Rattle.std.specs.Prelude.{if◌then◌else◌}
use Rattle.cbm_iec.specs.Ports.{port_due, next_held, reaction_act, changed}
use Rattle.cbm_iec.specs.declared.machine.Act.{Act}
use Rattle.cbm_iec.specs.declared.event.Who.TheVariants.{Host}
use Rattle.cbm_iec.specs.declared.lines.Line.TheVariants.{Clock, Data}
use Rattle.cbm_iec.specs.declared.port.Port.{Port}
use Rattle.cbm_session.proofs.alone.Pieces.{follows_pieces}
use Rattle.cbm_session.proofs.joining.Merging.{NoneBefore, InOrder, order_merge, cut_front, AllBefore, front_before, before_after}
use Rattle.cbm_session.proofs.joining.Orders.{host_order}
use Rattle.cbm_session.proofs.joining.Owning.{part_order}
use Rattle.cbm_session.specs.Following.{IsInTime, IsLater, own_steps, reaction_steps, Follows, alone, FollowsFronts, ends, tells, reacts}
use Rattle.cbm_session.specs.Pieces.{host_part, own_part, steps_of, before, some_from}
use Rattle.cbm_session.specs.Sessions.{rest}
use Rattle.cbm_session.specs.Steps.{Step, event_of, moment_of}

-- the changes of a reaction are at its moment
abbrev pub AllAt : ℕ → List Step → Type 0
AllAt t [] = Unit {0}
AllAt t (s ∷ ss) = (moment_of s ≡ t) × AllAt t ss

two_at : (d t : ℕ) (a u b v : Bool) (act : Option Act) → AllAt t (own_steps d (changed t Clock a u ++ changed t Data b v) act)
two_at d t true true true true act = tt
two_at d t true true true false None = (refl, tt)
two_at d t true true true false (Some x) = (refl, tt)
two_at d t true true false true None = (refl, tt)
two_at d t true true false true (Some x) = (refl, tt)
two_at d t true true false false act = tt
two_at d t false false true true act = tt
two_at d t false false true false None = (refl, tt)
two_at d t false false true false (Some x) = (refl, tt)
two_at d t false false false true None = (refl, tt)
two_at d t false false false true (Some x) = (refl, tt)
two_at d t false false false false act = tt
two_at d t true false true true None = (refl, tt)
two_at d t true false true true (Some x) = (refl, tt)
two_at d t true false true false None = (refl, (refl, tt))
two_at d t true false true false (Some x) = (refl, (refl, tt))
two_at d t true false false true None = (refl, (refl, tt))
two_at d t true false false true (Some x) = (refl, (refl, tt))
two_at d t true false false false None = (refl, tt)
two_at d t true false false false (Some x) = (refl, tt)
two_at d t false true true true None = (refl, tt)
two_at d t false true true true (Some x) = (refl, tt)
two_at d t false true true false None = (refl, (refl, tt))
two_at d t false true true false (Some x) = (refl, (refl, tt))
two_at d t false true false true None = (refl, (refl, tt))
two_at d t false true false true (Some x) = (refl, (refl, tt))
two_at d t false true false false None = (refl, tt)
two_at d t false true false false (Some x) = (refl, tt)

pub reaction_at : (t : ℕ) (peek : Option (ℕ × Bool)) (q : Port) → AllAt t (reaction_steps t peek q)
reaction_at t peek q = two_at q.party.device t q.own.clock_low (next_held peek q).clock_low q.own.data_low (next_held peek q).data_low (reaction_act peek q)

pub in_time_le : (c t : ℕ) (o : Option ℕ) → c ≤ t → IsInTime t o → IsInTime c o
in_time_le c t None l h = tt
in_time_le c t (Some u) l h = omega (arith, l, h)

pub head_is : (x y : Step) (xs ys : List Step) → x ∷ xs ≡ y ∷ ys → x ≡ y
head_is x y xs ys e = cc

pub tail_is : (x y : Step) (xs ys : List Step) → x ∷ xs ≡ y ∷ ys → xs ≡ ys
tail_is x y xs ys e = cc

pub not_nil : (x : Step) (xs : List Step) → [] ≡ x ∷ xs → ⊥
not_nil x xs e = cc

-- a reaction lies whole before the cut, or whole after it
pub parted : (c t : ℕ) (rs more front back : List Step) → AllAt t rs → rs ++ more ≡ front ++ back → AllBefore c front → NoneBefore c back
    → ((rest : List Step) × (front ≡ rs ++ rest) × (more ≡ rest ++ back)) ⊎ ((front ≡ []) × (c ≤ t))
parted c t [] more front back a e f b = inl (front, refl, e)
parted c t (r ∷ rs) more [] back a e f b = let k = subst (NoneBefore c) (sym e) b in let m = a.0 in let l = k.0 in inr (refl, omega (arith, m, l))
parted c t (r ∷ rs) more (x ∷ front) back a e f b =
    let h = head_is r x (rs ++ more) (front ++ back) e in
    elim (parted c t rs more front back a.1 (tail_is r x (rs ++ more) (front ++ back) e) f.1 b) [
      | inl g ↦ inl (g.0, ap (λ (y : Step). y ∷ front) (sym h) ∙ ap (λ (ys : List Step). r ∷ ys) g.1, g.2)
      | inr g ↦ (
          let m : moment_of r ≡ t = a.0 in
          let n : moment_of r < c = subst (λ (y : Step). moment_of y < c) (sym h) f.0 in
          let l : c ≤ t = g.1 in
          absurd (omega (arith, m, n, l))
          )
    ]

later_front : (t : ℕ) (more rest back : List Step) → more ≡ rest ++ back → IsLater t more → IsLater t rest
later_front t more [] back e l = tt
later_front t more (x ∷ rest) back e l = subst (λ (zs : List Step). IsLater t zs) e l

follows_front : (peek : Option (ℕ × Bool)) (c : ℕ) (y : Step) (ys : List Step) → NoneBefore c (y ∷ ys) → {q q2 : Port} {ss : List Step} → Follows peek q ss q2 → (front : List Step) → ss ≡ front ++ y ∷ ys → AllBefore c front
    → (q3 : Port) × (Follows peek q front q3 × IsInTime c (port_due q3))
follows_front peek c y ys n (ends e) [] h f = absurd (not_nil y ys h)
follows_front peek c y ys n (ends e) (x ∷ front) h f = absurd (not_nil x (front ++ y ∷ ys) h)
follows_front peek c y ys n {q} (tells {t} i k g) [] h f =
    let b = subst (NoneBefore c) (sym h) n in
    (q, (ends refl, in_time_le c t (port_due q) b.0 i))
follows_front peek c y ys n {q} (tells {t} {line} {way} {mark} {ss} i k g) (x ∷ front) h f =
    let s : Step = record { event = event_of Host t line way; mark = mark } in
    let r = follows_front peek c y ys n g front (tail_is s x ss (front ++ y ∷ ys) h) f.1 in
    (r.0, (subst (λ (z : Step). Follows peek q (z ∷ front) r.0) (head_is s x ss (front ++ y ∷ ys) h) (tells i k r.1.0), r.1.1))
follows_front peek c y ys n {q} (reacts t more d e sh l g) front h f =
    elim (parted c t (reaction_steps t peek q) more front (y ∷ ys) (reaction_at t peek q) (sym e ∙ h) f n) [
      | inl z ↦ (
          let r = follows_front peek c y ys n g z.0 z.2 (before_after c (reaction_steps t peek q) z.0 (subst (AllBefore c) z.1 f)) in
          (r.0, (reacts t z.0 d z.1 sh (later_front t more z.0 (y ∷ ys) z.2 l) r.1.0, r.1.1))
          )
      | inr z ↦ (q, (subst (λ (zs : List Step). Follows peek q zs q) (sym z.0) (ends refl), subst (IsInTime c) (sym d) z.1))
    ]

-- where some step isn't before, the rest after the cut isn't empty
pub some_back : (c : ℕ) (ss : List Step) → AllBefore c ss → some_from c ss ≡ false
some_back c [] a = refl
some_back c (s ∷ ss) a = ap (λ (v : Bool). if v then true else some_from c ss) (lt-leb c (moment_of s) a.0) ∙ some_back c ss a.1

pub follows_fronts : FollowsFronts
follows_fronts p s w q peek c r prompt h f y e =
    let all = follows_pieces p s w q peek r prompt h f y in
    let ss = steps_of (alone p s) w in
    let order : InOrder ss = order_merge (host_part (alone p s) w) (own_part (alone p s) w s) (host_order (alone p s) w f) (part_order (alone p s) w f s) in
    let cut = cut_front c ss order in
    go cut.0 cut.1 cut.2 all.0 all.1.1.0
  where
    go : (back : List Step) → steps_of (alone p s) w ≡ before c (steps_of (alone p s) w) ++ back → NoneBefore c back → (q2 : Port) → Follows peek q (steps_of (alone p s) w) q2
        → (q3 : Port) × (Follows peek q (before c (steps_of (alone p s) w)) q3 × IsInTime c (port_due q3))
    go [] k n q2 g =
        let none : some_from c (steps_of (alone p s) w) ≡ false =
        ap (λ (zs : List Step). some_from c zs) (k ∙ append-nil (before c (steps_of (alone p s) w))) ∙ some_back c (before c (steps_of (alone p s) w)) (front_before c (steps_of (alone p s) w)) in
        let no : true ≡ false = sym e ∙ none in
        absurd cc
    go (b ∷ back) k n q2 g = follows_front peek c b back n g (before c (steps_of (alone p s) w)) k (front_before c (steps_of (alone p s) w))
