-- The order of ties: of two drives' steps of a piece at one moment the first is of the drive that stands first.
use Rattle.std.proofs.Common.{◌≡◌, ℕ, ◌≤◌, ◌<◌, ◌⊎◌, inl, inr, List, [], ◌∷◌, map, sym, ◌∙◌, subst, arith, refl}
use Rattle.std.proofs.lemmas.Bool.Decides.{leb_tells}
use Rattle.cbm_iec.specs.declared.event.Who.TheVariants.{Host, Drive}
use Rattle.cbm_session.proofs.alone.Sessions.{AllHost}
use Rattle.cbm_session.proofs.headline.BusStep.{Comes, here, there, NoneEarlier, Tied}
use Rattle.cbm_session.proofs.joining.Merging.{merge_here, merge_there, merge_nil, NoneBefore, InOrder, order_merge}
use Rattle.cbm_session.proofs.joining.Owning.{AllOwned}
use Rattle.cbm_session.specs.Seats.{Seat, device}
use Rattle.cbm_session.specs.Steps.{Step, moment_of, merge, merge_all}

-- what comes in a join comes in one of its lists
comes_merge : (d t : ℕ) (xs ys : List Step) → Comes d t (merge xs ys) → Comes d t xs ⊎ Comes d t ys
comes_merge d t [] ys c = inr c
comes_merge d t (x ∷ xs) [] c = inl (subst (Comes d t) (merge_nil (x ∷ xs)) c)
comes_merge d t (x ∷ xs) (y ∷ ys) c = elim (leb_tells (moment_of x) (moment_of y)) [
  | inl e ↦ first (subst (Comes d t) (merge_here x xs y ys e.1) c) (λ h. comes_merge d t xs (y ∷ ys) h)
  | inr e ↦ second (subst (Comes d t) (merge_there x xs y ys e.1) c) (λ h. comes_merge d t (x ∷ xs) ys h)
]
  where
    first : Comes d t (x ∷ merge xs (y ∷ ys)) → (Comes d t (merge xs (y ∷ ys)) → Comes d t xs ⊎ Comes d t (y ∷ ys)) → Comes d t (x ∷ xs) ⊎ Comes d t (y ∷ ys)
    first (here w m) f = inl (here w m)
    first (there k) f = elim (f k) [
      | inl a ↦ inl (there a)
      | inr b ↦ inr b
    ]

    second : Comes d t (y ∷ merge (x ∷ xs) ys) → (Comes d t (merge (x ∷ xs) ys) → Comes d t (x ∷ xs) ⊎ Comes d t ys) → Comes d t (x ∷ xs) ⊎ Comes d t (y ∷ ys)
    second (here w m) f = inr (here w m)
    second (there k) f = elim (f k) [
      | inl a ↦ inl a
      | inr b ↦ inr (there b)
    ]

none_comes : (d t m : ℕ) (ss : List Step) → NoneBefore m ss → t < m → Comes d t ss → ⊥
none_comes d t m [] n l c = elim c [ ]
none_comes d t m (s ∷ ss) n l (here w e) = let k = n.0 in absurd (omega (arith, k, l, e))
none_comes d t m (s ∷ ss) n l (there c) = none_comes d t m ss n.1 l c

-- all drives of the first list stand before those of the second
abbrev Over : (ℕ → ℕ) → List Step → List Step → Type 0
Over place xs ys = (d e t u : ℕ) → Comes d t xs → Comes e u ys → place d ≤ place e

tied_merge : (place : ℕ → ℕ) (xs ys : List Step) → Tied place xs → Tied place ys → InOrder xs → InOrder ys → Over place xs ys → Tied place (merge xs ys)
tied_merge place [] ys a b o p v = b
tied_merge place (x ∷ xs) [] a b o p v = subst (Tied place) (sym (merge_nil (x ∷ xs))) a
tied_merge place (x ∷ xs) (y ∷ ys) a b o p v = elim (leb_tells (moment_of x) (moment_of y)) [
  | inl e ↦ subst (Tied place) (sym (merge_here x xs y ys e.1)) (first, tied_merge place xs (y ∷ ys) a.1 b o.1 p (λ d e t u c k. v d e t u (there c) k))
  | inr e ↦ subst (Tied place) (sym (merge_there x xs y ys e.1)) (second e.1, tied_merge place (x ∷ xs) ys a b.1 o p.1 (λ d e t u c k. v d e t u c (there k)))
]
  where
    first : (d : ℕ) → x.event.who ≡ Drive d → NoneEarlier place d (moment_of x) (merge xs (y ∷ ys))
    first d w e c = elim (comes_merge e (moment_of x) xs (y ∷ ys) c) [
      | inl k ↦ a.0 d w e k
      | inr k ↦ v d e (moment_of x) (moment_of x) (here w refl) k
    ]

    second : moment_of y < moment_of x → (d : ℕ) → y.event.who ≡ Drive d → NoneEarlier place d (moment_of y) (merge (x ∷ xs) ys)
    second l d w e c = elim (comes_merge e (moment_of y) (x ∷ xs) ys c) [
      | inl k ↦ absurd (none_comes e (moment_of y) (moment_of x) (x ∷ xs) (omega arith, o.0) l k)
      | inr k ↦ b.0 d w e k
    ]

-- a list of one drive, or of the host, is tied
owned_comes : (o d t : ℕ) (ss : List Step) → AllOwned o ss → Comes d t ss → d ≡ o
owned_comes o d t [] a c = elim c [ ]
owned_comes o d t (s ∷ ss) a (here w e) = let k : Drive d ≡ Drive o = sym w ∙ a.0 in cc
owned_comes o d t (s ∷ ss) a (there c) = owned_comes o d t ss a.2 c

host_comes : (d t : ℕ) (ss : List Step) → AllHost ss → Comes d t ss → ⊥
host_comes d t [] a c = elim c [ ]
host_comes d t (s ∷ ss) a (here w e) = let k : Drive d ≡ Host = sym w ∙ a.0 in cc
host_comes d t (s ∷ ss) a (there c) = host_comes d t ss a.1 c

owned_tied : (place : ℕ → ℕ) (o : ℕ) (ss : List Step) → AllOwned o ss → Tied place ss
owned_tied place o [] a = tt
owned_tied place o (s ∷ ss) a = (λ d w e c. let k : Drive d ≡ Drive o = sym w ∙ a.0 in let same = owned_comes o e (moment_of s) ss a.2 c in let is : d ≡ o = cc in subst (λ (v : ℕ). place v ≤ place e) (sym is) (subst (λ (v : ℕ). place o ≤ place v) (sym same) (omega arith)), owned_tied place o ss a.2)

host_tied : (place : ℕ → ℕ) (ss : List Step) → AllHost ss → Tied place ss
host_tied place [] a = tt
host_tied place (s ∷ ss) a = (λ d w e c. let k : Drive d ≡ Host = sym w ∙ a.0 in absurd cc, host_tied place ss a.1)

-- the seats stand in the order of their places
abbrev pub PlacedFrom : (ℕ → ℕ) → ℕ → List Seat → Type 0
PlacedFrom place p [] = Unit {0}
PlacedFrom place p (s ∷ ss) = (p ≤ place (device s)) × PlacedFrom place p ss

abbrev pub Placed : (ℕ → ℕ) → List Seat → Type 0
Placed place [] = Unit {0}
Placed place (s ∷ ss) = PlacedFrom place (place (device s)) ss × Placed place ss

module _ (place : ℕ → ℕ) (own : Seat → List Step) (owned : (x : Seat) → AllOwned (device x) (own x)) (order : (x : Seat) → InOrder (own x)) where
  comes_from : (p d t : ℕ) (o : ℕ) (l : List Step) (ss : List Seat) → AllOwned o l → p ≤ place o → PlacedFrom place p ss → Comes d t (merge_all l (map own ss)) → p ≤ place d
  comes_from p d t o l [] a h f c = let same = owned_comes o d t l a c in subst (λ (v : ℕ). p ≤ place v) (sym same) h
  comes_from p d t o l (s ∷ ss) a h f c = elim (comes_merge d t l (merge_all (own s) (map own ss)) c) [
    | inl k ↦ (let same = owned_comes o d t l a k in subst (λ (v : ℕ). p ≤ place v) (sym same) h)
    | inr k ↦ comes_from p d t (device s) (own s) ss (owned s) f.0 f.1 k
  ]

  in_order : (l : List Step) (ss : List Seat) → InOrder l → InOrder (merge_all l (map own ss))
  in_order l [] o = o
  in_order l (s ∷ ss) o = order_merge l (merge_all (own s) (map own ss)) o (in_order (own s) ss (order s))

  tied_own : (s : Seat) (ss : List Seat) → PlacedFrom place (place (device s)) ss → Placed place ss → Tied place (merge_all (own s) (map own ss))
  tied_own s [] f p = owned_tied place (device s) (own s) (owned s)
  tied_own s (x ∷ xs) f p =
      tied_merge place (own s) (merge_all (own x) (map own xs)) (owned_tied place (device s) (own s) (owned s)) (tied_own x xs p.0 p.1) (order s) (in_order (own x) xs (order x))
      (λ d e t u c k. let same = owned_comes (device s) d t (own s) (owned s) c in subst (λ (v : ℕ). place v ≤ place e) (sym same) (comes_from (place (device s)) e u (device x) (own x) xs (owned x) f.0 f.1 k))

  pub tied_all : (hs : List Step) (ss : List Seat) → AllHost hs → InOrder hs → Placed place ss → Tied place (merge_all hs (map own ss))
  tied_all hs [] h o p = host_tied place hs h
  tied_all hs (s ∷ ss) h o p =
      tied_merge place hs (merge_all (own s) (map own ss)) (host_tied place hs h) (tied_own s ss p.0 p.1) o (in_order (own s) ss (order s))
      (λ d e t u c k. absurd (host_comes d t hs h c))
