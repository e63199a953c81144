-- Where one drive's steps of a moment lie in a join: what comes before them, and what after.
use Rattle.std.proofs.Common.{◌≡◌, ℕ, ◌+◌, ◌≤◌, ◌<◌, inl, inr, false, List, [], ◌∷◌, ◌++◌, map, ap, sym, ◌∙◌, subst, arith, refl}
use Rattle.std.proofs.lemmas.Bool.Decides.{leb_tells}
use Rattle.std.proofs.lemmas.List.{append-nil}
use Rattle.std.specs.Prelude.{nat_eq}
use Rattle.cbm_iec.specs.declared.event.Who.TheVariants.{Host, Drive}
use Rattle.cbm_iec.specs.declared.event.Who.{Who}
use Rattle.cbm_session.proofs.alone.Fronts.{AllAt}
use Rattle.cbm_session.proofs.among.Calm.{Every}
use Rattle.cbm_session.proofs.frames.Phases.{Each}
use Rattle.cbm_session.proofs.joining.Merging.{merge_here, merge_there, merge_nil, NoneBefore, InOrder, by_head, order_merge, AllBefore}
use Rattle.cbm_session.proofs.joining.OneDrive.{AllUpTo, merge_after_it, merge_front}
use Rattle.cbm_session.proofs.joining.Seating.{Apart, Sits}
use Rattle.cbm_session.proofs.joining.Showing.{merge_first}
use Rattle.cbm_session.specs.Among.{ComesAfter, FirstIsAfter}
use Rattle.cbm_session.specs.Joins.{NotBefore}
use Rattle.cbm_session.specs.Seats.{Seat, device}
use Rattle.cbm_session.specs.Steps.{Step, moment_of, merge, merge_all}

pub every_merge : (P : Step → Type 0) (xs ys : List Step) → Every P xs → Every P ys → Every P (merge xs ys)
every_merge P [] ys a b = b
every_merge P (x ∷ xs) [] a b = subst (Every P) (sym (merge_nil (x ∷ xs))) a
every_merge P (x ∷ xs) (y ∷ ys) a b = by_head (Every P) x xs y ys (λ h. (a.0, every_merge P xs (y ∷ ys) a.1 b)) (λ h. (b.0, every_merge P (x ∷ xs) ys a b.1))

pub every_append : (P : Step → Type 0) (xs ys : List Step) → Every P xs → Every P ys → Every P (xs ++ ys)
every_append P [] ys a b = b
every_append P (x ∷ xs) ys a b = (a.0, every_append P xs ys a.1 b)

pub every : (P Q : Step → Type 0) (xs : List Step) → ((s : Step) → P s → Q s) → Every P xs → Every Q xs
every P Q [] f a = tt
every P Q (x ∷ xs) f a = (f x a.0, every P Q xs f a.1)

-- not before a reaction at t: a change of the host is later, one of another drive isn't sooner
abbrev pub IsLateBy : ℕ → Step → Type 0
IsLateBy t s = ComesAfter t s.event.who (moment_of s)

later_by : (t m : ℕ) (w : Who) → t < m → ComesAfter t w m
later_by t m Host h = h
later_by t m (Drive o) h = omega (arith, h)

not_sooner : (t m : ℕ) (w : Who) → ComesAfter t w m → t ≤ m
not_sooner t m Host h = omega (arith, h)
not_sooner t m (Drive o) h = h

all_later : (t m : ℕ) (xs : List Step) → t < m → NoneBefore m xs → Every (IsLateBy t) xs
all_later t m [] h n = tt
all_later t m (x ∷ xs) h n = let k = n.0 in (later_by t (moment_of x) x.event.who (omega (arith, h, k)), all_later t m xs h n.1)

pub is_after : (t : ℕ) (ss : List Step) → Every (IsLateBy t) ss → FirstIsAfter t ss
is_after t [] h = tt
is_after t (s ∷ ss) h = h.0

-- a change of a drive
abbrev pub NotHost : Who → Type 0
NotHost Host = ⊥
NotHost (Drive o) = Unit {0}

pub late_drive : (t m : ℕ) (w : Who) → NotHost w → t ≤ m → ComesAfter t w m
late_drive t m Host n h = elim n [ ]
late_drive t m (Drive o) n h = h

late_drives : (t : ℕ) (xs : List Step) → Every (λ s. NotHost s.event.who) xs → NoneBefore t xs → Every (IsLateBy t) xs
late_drives t [] a n = tt
late_drives t (x ∷ xs) a n = (late_drive t (moment_of x) x.event.who a.0 n.0, late_drives t xs a.1 n.1)

-- The list is the drive's own steps with a front and a back: F holds of each step of the front and B of each of the back.
pub record Around (t : ℕ) (F B : Step → Type 0) (own ss : List Step) : Type 0 where
  pub front : List Step
  pub back : List Step
  pub is : ss ≡ front ++ (own ++ back)
  pub first : Every F front
  pub upto : AllUpTo t front
  pub afterwards : Every B back
  pub late : Every (IsLateBy t) back

pub own_late : (t : ℕ) (own back : List Step) (m : ℕ) → m ≤ t → AllAt t own → Every (IsLateBy t) back → NotBefore m (own ++ back)
own_late t [] [] m h a l = tt
own_late t [] (b ∷ back) m h a l = let k = not_sooner t (moment_of b) b.event.who l.0 in omega (arith, h, k)
own_late t (o ∷ own) back m h a l = let k = a.0 in omega (arith, h, k)

own_before : (t m : ℕ) (own : List Step) → t < m → AllAt t own → AllBefore m own
own_before t m [] h a = tt
own_before t m (o ∷ own) h a = let k = a.0 in (omega (arith, h, k), own_before t m own h a.1)

own_upto : (t : ℕ) (own : List Step) → AllAt t own → AllUpTo t own
own_upto t [] a = tt
own_upto t (o ∷ own) a = let k = a.0 in (omega (arith, k), own_upto t own a.1)

module _ (t : ℕ) (F B : Step → Type 0) (own : List Step) (at : AllAt t own) where
  -- a step more in front
  one_more : (x : Step) (ss zs : List Step) → ss ≡ x ∷ zs → F x → moment_of x ≤ t → Around t F B own zs → Around t F B own ss
  one_more x ss zs e f m a = record { front = x ∷ a.front; back = a.back; is = e ∙ ap (λ (us : List Step). x ∷ us) a.is; first = (f, a.first); upto = (m, a.upto); afterwards = a.afterwards; late = a.late }

  -- a list joined from the left: what isn't later than the drive's own steps comes before them
  weave : (xs front back : List Step) → InOrder xs → Every F xs → Every B xs → Every F front → AllUpTo t front → Every B back → Every (IsLateBy t) back → Around t F B own (merge xs (front ++ (own ++ back)))
  weave [] front back o f b c u g l = record { front = front; back = back; is = refl; first = c; upto = u; afterwards = g; late = l }
  weave (x ∷ xs) (y ∷ front) back o f b c u g l = elim (leb_tells (moment_of x) (moment_of y)) [
    | inl h ↦ one_more x (merge (x ∷ xs) (y ∷ (front ++ (own ++ back)))) (merge xs (y ∷ (front ++ (own ++ back)))) (merge_here x xs y (front ++ (own ++ back)) h.1) f.0 (omega (arith, h.1, u.0)) (weave xs (y ∷ front) back o.1 f.1 b.1 c u g l)
    | inr h ↦ one_more y (merge (x ∷ xs) (y ∷ (front ++ (own ++ back)))) (merge (x ∷ xs) (front ++ (own ++ back))) (merge_there x xs y (front ++ (own ++ back)) h.1) c.0 u.0 (weave (x ∷ xs) front back o f b c.1 u.1 g l)
  ]
  weave (x ∷ xs) [] back o f b c u g l = elim (leb_tells (moment_of x) t) [
    | inl h ↦ one_more x (merge (x ∷ xs) (own ++ back)) (merge xs (own ++ back)) (merge_first x xs (own ++ back) (own_late t own back (moment_of x) h.1 at l)) f.0 h.1 (weave xs [] back o.1 f.1 b.1 c u g l)
    | inr h ↦ record {
      front = [];
      back = merge (x ∷ xs) back;
      is = merge_after_it x xs own back (own_before t (moment_of x) own h.1 at);
      first = tt;
      upto = tt;
      afterwards = every_merge B (x ∷ xs) back b g;
      late = every_merge (IsLateBy t) (x ∷ xs) back (later_by t (moment_of x) x.event.who h.1, all_later t (moment_of x) xs h.1 o.0) l;
    }
  ]

  pub weave_left : (xs ss : List Step) → InOrder xs → Every F xs → Every B xs → Around t F B own ss → Around t F B own (merge xs ss)
  weave_left xs ss o f b a = subst (λ (zs : List Step). Around t F B own (merge xs zs)) (sym a.is) (weave xs a.front a.back o f b a.first a.upto a.afterwards a.late)

  -- a list that is later comes after
  pub weave_late : (xs ss : List Step) → NoneBefore (t + 1) xs → Every B xs → Around t F B own ss → Around t F B own (merge xs ss)
  weave_late [] ss n b a = a
  weave_late (x ∷ xs) ss n b a = record {
    front = a.front;
    back = merge (x ∷ xs) a.back;
    is = ap (λ (zs : List Step). merge (x ∷ xs) zs) a.is ∙ merge_after_it x xs a.front (own ++ a.back) (front_before a.front a.upto) ∙ ap (λ (zs : List Step). a.front ++ zs) (merge_after_it x xs own a.back (own_before t (moment_of x) own (omega (arith, n.0)) at));
    first = a.first;
    upto = a.upto;
    afterwards = every_merge B (x ∷ xs) a.back b a.afterwards;
    late = every_merge (IsLateBy t) (x ∷ xs) a.back (all_later t (t + 1) (x ∷ xs) (omega arith) n) a.late;
  }
    where
      front_before : (front : List Step) → AllUpTo t front → AllBefore (moment_of x) front
      front_before [] u = tt
      front_before (y ∷ front) u = (omega (arith, n.0, u.0), front_before front u.1)

  -- a list of drives joined from the right: what is sooner comes before
  pub weave_right : (ys : List Step) → InOrder ys → Every F ys → Every B ys → Every (λ s. NotHost s.event.who) ys → Around t F B own (merge own ys)
  weave_right [] o f b d = record { front = []; back = []; is = merge_nil own ∙ sym (append-nil own); first = tt; upto = tt; afterwards = tt; late = tt }
  weave_right (y ∷ ys) o f b d = elim (leb_tells t (moment_of y)) [
    | inl h ↦ record { front = []; back = y ∷ ys; is = merge_front t own (y ∷ ys) (own_upto t own at) h.1; first = tt; upto = tt; afterwards = b; late = late_drives t (y ∷ ys) d (h.1, later ys h.1 o.0) }
    | inr h ↦ one_more y (merge own (y ∷ ys)) (merge own ys) (over own at h.1) f.0 (omega (arith, h.1)) (weave_right ys o.1 f.1 b.1 d.1)
  ]
    where
      later : (zs : List Step) → t ≤ moment_of y → NoneBefore (moment_of y) zs → NoneBefore t zs
      later [] h n = tt
      later (z ∷ zs) h n = (omega (arith, h, n.0), later zs h n.1)

      over : (os : List Step) → AllAt t os → moment_of y < t → merge os (y ∷ ys) ≡ y ∷ merge os ys
      over [] a h = refl
      over (o ∷ os) a h = let k = a.0 in merge_there o os y ys (omega (arith, h, k))

-- what is asked of another drive's part
pub record IsPart (F B : Step → Type 0) (l : List Step) : Type 0 where
  pub order : InOrder l
  pub first : Every F l
  pub afterwards : Every B l
  pub drives : Every (λ s. NotHost s.event.who) l

part_merge : (F B : Step → Type 0) (xs ys : List Step) → IsPart F B xs → IsPart F B ys → IsPart F B (merge xs ys)
part_merge F B xs ys a b = record {
  order = order_merge xs ys a.order b.order;
  first = every_merge F xs ys a.first b.first;
  afterwards = every_merge B xs ys a.afterwards b.afterwards;
  drives = every_merge (λ s. NotHost s.event.who) xs ys a.drives b.drives;
}

-- P holds of each drive but d
abbrev pub ForOthers : ℕ → (Seat → Type 0) → List Seat → Type 0
ForOthers d P seats = Each (λ x. nat_eq d (device x) ≡ false → P x) seats

module _ (t : ℕ) (F B : Step → Type 0) (d : ℕ) (own : Seat → List Step) where
  parts : (l : List Step) (xs : List Seat) → ForOthers d (λ x. IsPart F B (own x)) xs → IsPart F B l → Apart d xs → IsPart F B (merge_all l (map own xs))
  parts l [] e a h = a
  parts l (x ∷ xs) e a h = part_merge F B l (merge_all (own x) (map own xs)) a (parts (own x) xs e.1 (e.0 h.0) h.1)

  around_seats : (x : Seat) (xs : List Seat) (s : Seat) → ForOthers d (λ y. IsPart F B (own y)) (x ∷ xs) → Sits d (x ∷ xs) s → AllAt t (own s) → Around t F B (own s) (merge_all (own x) (map own xs))
  around_seats x [] s e (inl h) a = subst (λ (y : Seat). Around t F B (own s) (own y)) (sym h.0) (record { front = []; back = []; is = sym (append-nil (own s)); first = tt; upto = tt; afterwards = tt; late = tt })
  around_seats x (y ∷ ys) s e (inl h) a =
      let all = parts (own y) ys e.1.1 (e.1.0 h.2.0) h.2.1 in
      subst (λ (z : Seat). Around t F B (own s) (merge (own z) (merge_all (own y) (map own ys)))) (sym h.0) (weave_right t F B (own s) a (merge_all (own y) (map own ys)) all.order all.first all.afterwards all.drives)
  around_seats x [] s e (inr h) a = absurd h.1
  around_seats x (y ∷ ys) s e (inr h) a =
      let k = e.0 h.0 in
      weave_left t F B (own s) a (own x) (merge_all (own y) (map own ys)) k.order k.first k.afterwards (around_seats y ys s e.1 h.1 a)

  -- the drives' parts together
  pub around_drives : (seats : List Seat) (s : Seat) → ForOthers d (λ y. IsPart F B (own y)) seats → Sits d seats s → AllAt t (own s) → Around t F B (own s) (merge_all [] (map own seats))
  around_drives [] s e h a = absurd h
  around_drives (x ∷ xs) s e h a = around_seats x xs s e h a

-- a list joined with all drives' parts
pub merge_drives : (own : Seat → List Step) (hs : List Step) (seats : List Seat) → merge_all hs (map own seats) ≡ merge hs (merge_all [] (map own seats))
merge_drives own hs [] = sym (merge_nil hs)
merge_drives own hs (x ∷ xs) = refl

-- P holds of each step of a join of drives' parts
pub every_each : (P : Step → Type 0) (own : Seat → List Step) (l : List Step) (xs : List Seat) → Every P l → Each (λ x. Every P (own x)) xs → Every P (merge_all l (map own xs))
every_each P own l [] a h = a
every_each P own l (x ∷ xs) a h = every_merge P l (merge_all (own x) (map own xs)) a (every_each P own (own x) xs h.0 h.1)

pub every_drives : (P : Step → Type 0) (own : Seat → List Step) (seats : List Seat) → Each (λ x. Every P (own x)) seats → Every P (merge_all [] (map own seats))
every_drives P own seats h = every_each P own [] seats tt h

-- of each drive, where it holds of d's own part and of the others'
pub with_own : (P : Seat → Type 0) (d : ℕ) (seats : List Seat) (s : Seat) → Sits d seats s → ForOthers d P seats → P s → Each P seats
with_own P d seats s h e g = all seats e h
  where
    apart : (xs : List Seat) → ForOthers d P xs → Apart d xs → Each P xs
    apart [] e h = tt
    apart (x ∷ xs) e h = (e.0 h.0, apart xs e.1 h.1)

    all : (xs : List Seat) → ForOthers d P xs → Sits d xs s → Each P xs
    all [] e h = tt
    all (x ∷ xs) e (inl h) = (subst P (sym h.0) g, apart xs e.1 h.2)
    all (x ∷ xs) e (inr h) = (e.0 h.0, all xs e.1 h.1)
