-- Lists of steps joined by moments: which step comes first, that the join is in order, and that a cut of it is its front.
use Rattle.std.proofs.Common.{◌≡◌, ℕ, ◌≤◌, ◌<◌, inl, inr, Bool, true, false, List, [], ◌∷◌, ◌++◌, ap, sym, subst, suc, arith, refl}
use Rattle.std.proofs.lemmas.Bool.Decides.{leb_tells}
use Rattle.std.proofs.lemmas.Bool.{le-leb, lt-leb}
use Rattle.std.specs.Prelude.{if◌then◌else◌}
use Rattle.cbm_session.specs.Laws.{GoesOn}
use Rattle.cbm_session.specs.Pieces.{before}
use Rattle.cbm_session.specs.Steps.{Step, moment_of, merging, merge}

-- the first list's step isn't later
pub merge_here : (x : Step) (xs : List Step) (y : Step) (ys : List Step) → moment_of x ≤ moment_of y → merge (x ∷ xs) (y ∷ ys) ≡ x ∷ merge xs (y ∷ ys)
merge_here x xs y ys h = ap (λ (v : Bool). elim v as (λ w. List Step) [ true ↦ x ∷ merge xs (y ∷ ys) | false ↦ y ∷ merging x (merge xs) ys ]) (le-leb (moment_of x) (moment_of y) h)

-- the second list's step is sooner
pub merge_there : (x : Step) (xs : List Step) (y : Step) (ys : List Step) → moment_of y < moment_of x → merge (x ∷ xs) (y ∷ ys) ≡ y ∷ merge (x ∷ xs) ys
merge_there x xs y ys h = ap (λ (v : Bool). elim v as (λ w. List Step) [ true ↦ x ∷ merge xs (y ∷ ys) | false ↦ y ∷ merging x (merge xs) ys ]) (lt-leb (moment_of x) (moment_of y) h)

pub merge_nil : (xs : List Step) → merge xs [] ≡ xs
merge_nil [] = refl
merge_nil (x ∷ xs) = ap (λ (zs : List Step). x ∷ zs) (merge_nil xs)

-- none of these is before m
abbrev pub NoneBefore : ℕ → List Step → Type 0
NoneBefore m [] = Unit {0}
NoneBefore m (s ∷ ss) = (m ≤ moment_of s) × NoneBefore m ss

-- moments don't go back
abbrev pub InOrder : List Step → Type 0
InOrder [] = Unit {0}
InOrder (s ∷ ss) = NoneBefore (moment_of s) ss × InOrder ss

pub none_sooner : (m n : ℕ) (ss : List Step) → m ≤ n → NoneBefore n ss → NoneBefore m ss
none_sooner m n [] h k = tt
none_sooner m n (s ∷ ss) h k = (omega (arith, h, k.0), none_sooner m n ss h k.1)

-- what comes after a front of steps in order is in order, and it goes on as they do
pub order_after : (xs ys : List Step) → InOrder (xs ++ ys) → InOrder ys
order_after [] ys h = h
order_after (x ∷ xs) ys h = order_after xs ys h.1

pub goes_after : (xs ys : List Step) → GoesOn (xs ++ ys) → GoesOn ys
goes_after [] ys h = h
goes_after (x ∷ xs) ys h = goes_after xs ys h.1

-- the two ways that a join goes on
pub by_head : (P : List Step → Type 0) (x : Step) (xs : List Step) (y : Step) (ys : List Step) → (moment_of x ≤ moment_of y → P (x ∷ merge xs (y ∷ ys)))
    → (moment_of y < moment_of x → P (y ∷ merge (x ∷ xs) ys)) → P (merge (x ∷ xs) (y ∷ ys))
by_head P x xs y ys a b = elim (leb_tells (moment_of x) (moment_of y)) [
  | inl h ↦ subst P (sym (merge_here x xs y ys h.1)) (a h.1)
  | inr h ↦ subst P (sym (merge_there x xs y ys h.1)) (b h.1)
]

pub none_merge : (m : ℕ) (xs ys : List Step) → NoneBefore m xs → NoneBefore m ys → NoneBefore m (merge xs ys)
none_merge m [] ys a b = b
none_merge m (x ∷ xs) [] a b = subst (NoneBefore m) (sym (merge_nil (x ∷ xs))) a
none_merge m (x ∷ xs) (y ∷ ys) a b = by_head (NoneBefore m) x xs y ys (λ h. (a.0, none_merge m xs (y ∷ ys) a.1 b)) (λ h. (b.0, none_merge m (x ∷ xs) ys a b.1))

-- a join of lists in order is in order
pub order_merge : (xs ys : List Step) → InOrder xs → InOrder ys → InOrder (merge xs ys)
order_merge [] ys a b = b
order_merge (x ∷ xs) [] a b = subst InOrder (sym (merge_nil (x ∷ xs))) a
order_merge (x ∷ xs) (y ∷ ys) a b =
    by_head InOrder x xs y ys
    (λ h. (none_merge (moment_of x) xs (y ∷ ys) a.0 (h, none_sooner (moment_of x) (moment_of y) ys h b.0), order_merge xs (y ∷ ys) a.1 b))
    (λ h. (none_merge (moment_of y) (x ∷ xs) ys (omega (arith, h), none_sooner (moment_of y) (moment_of x) xs (omega (arith, h)) a.0) b.0, order_merge (x ∷ xs) ys a b.1))

-- The steps of a list in order before a moment are its front, and none after it is before.
pub all_from : (at : ℕ) (ss : List Step) → NoneBefore at ss → before at ss ≡ []
all_from at [] h = refl
all_from at (s ∷ ss) h = let k = all_from at ss h.1 in rw (lt-leb (suc (moment_of s)) at (omega (arith, h.0)), k)

pub before_yes : (at : ℕ) (s : Step) (ss : List Step) → moment_of s < at → before at (s ∷ ss) ≡ s ∷ before at ss
before_yes at s ss h = ap (λ (v : Bool). if v then s ∷ before at ss else before at ss) (le-leb (suc (moment_of s)) at (omega (arith, h)))

pub before_no : (at : ℕ) (s : Step) (ss : List Step) → at ≤ moment_of s → before at (s ∷ ss) ≡ before at ss
before_no at s ss h = ap (λ (v : Bool). if v then s ∷ before at ss else before at ss) (lt-leb (suc (moment_of s)) at (omega (arith, h)))

pub cut_front : (at : ℕ) (ss : List Step) → InOrder ss → (back : List Step) × (ss ≡ before at ss ++ back) × NoneBefore at back
cut_front at [] h = ([], refl, tt)
cut_front at (s ∷ ss) h = elim (leb_tells (suc (moment_of s)) at) [
  | inl x ↦ (
      let k = cut_front at ss h.1 in
      (k.0, subst (λ (zs : List Step). s ∷ ss ≡ zs ++ k.0) (sym (before_yes at s ss (omega (arith, x.1)))) (ap (λ (zs : List Step). s ∷ zs) k.1), k.2)
      )
  | inr x ↦ (
      let all : NoneBefore at (s ∷ ss) = (omega (arith, x.1), none_sooner at (moment_of s) ss (omega (arith, x.1)) h.0) in
      (s ∷ ss, subst (λ (zs : List Step). s ∷ ss ≡ zs ++ s ∷ ss) (sym (all_from at (s ∷ ss) all)) refl, all)
      )
]

-- and the front is before
abbrev pub AllBefore : ℕ → List Step → Type 0
AllBefore at [] = Unit {0}
AllBefore at (s ∷ ss) = (moment_of s < at) × AllBefore at ss

pub front_before : (at : ℕ) (ss : List Step) → AllBefore at (before at ss)
front_before at [] = tt
front_before at (s ∷ ss) = elim (leb_tells (suc (moment_of s)) at) [
  | inl x ↦ subst (AllBefore at) (sym (before_yes at s ss (omega (arith, x.1)))) (omega (arith, x.1), front_before at ss)
  | inr x ↦ subst (AllBefore at) (sym (before_no at s ss (omega (arith, x.1)))) (front_before at ss)
]

pub all_sooner : (m n : ℕ) (ss : List Step) → m ≤ n → AllBefore m ss → AllBefore n ss
all_sooner m n [] h k = tt
all_sooner m n (s ∷ ss) h k = (omega (arith, h, k.0), all_sooner m n ss h k.1)

pub before_after : (m : ℕ) (xs ys : List Step) → AllBefore m (xs ++ ys) → AllBefore m ys
before_after m [] ys h = h
before_after m (x ∷ xs) ys h = before_after m xs ys h.1

-- a list that is before up to a place, and isn't after that place, is cut there
pub cut_is : (at : ℕ) (front back : List Step) → AllBefore at front → NoneBefore at back → before at (front ++ back) ≡ front
cut_is at [] back a b = all_from at back b
cut_is at (s ∷ front) back a b = let k = cut_is at front back a.1 b in rw (le-leb (suc (moment_of s)) at (omega (arith, a.0)), k)
