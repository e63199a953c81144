-- The join of lists: the computed one is a join, and there is only one.
use Rattle.std.proofs.Common.{◌≡◌, ℕ, suc, ◌≤◌, ◌<◌, inl, inr, List, [], ◌∷◌, ap, sym, ◌∙◌, subst, arith, refl}
use Rattle.std.proofs.lemmas.Bool.Decides.{leb_tells}
use Rattle.cbm_session.proofs.joining.Merging.{merge_here, merge_there}
use Rattle.cbm_session.specs.Joins.{NotBefore, Sooner, Clear, AllEmpty, TakesPieces, Joins, JoinsItsParts, IsOnlyJoin}
use Rattle.cbm_session.specs.Steps.{Step, moment_of, merge, merge_all}

-- the first step of a join is the first of all
takes_least : (ls : List (List Step)) (s : Step) (ls2 : List (List Step)) → TakesPieces ls s ls2 → Clear (moment_of s) ls
takes_least [] s ls2 t = elim t [ ]
takes_least (l ∷ ls) s [] t = elim t [ ]
takes_least (l ∷ ls) s (l2 ∷ ls2) (inl t) = (subst (NotBefore (moment_of s)) (sym t.0) (omega arith), t.2)
takes_least ([] ∷ ls) s (l2 ∷ ls2) (inr t) = (tt, takes_least ls s ls2 t.2)
takes_least ((x ∷ l) ∷ ls) s (l2 ∷ ls2) (inr t) = (omega (arith, t.0), takes_least ls s ls2 t.2)

joins_least : (l : List Step) (ls : List (List Step)) (s : Step) (ss : List Step) → Joins l ls (s ∷ ss) → Clear (moment_of s) (l ∷ ls)
joins_least l ls s ss (inl j) = (subst (NotBefore (moment_of s)) (sym j.1) (omega arith), j.2)
joins_least [] ls s ss (inr j) = (tt, takes_least ls s j.0 j.1)
joins_least (x ∷ l) ls s ss (inr j) = (omega (arith, j.2), takes_least ls s j.0 j.1)

pub earlier : (m n : ℕ) (ls : List (List Step)) → m ≤ n → Clear n ls → Clear m ls
earlier m n [] h c = tt
earlier m n ([] ∷ ls) h c = (tt, earlier m n ls h c.1)
earlier m n ((x ∷ l) ∷ ls) h c = (omega (arith, h, c.0), earlier m n ls h c.1)

empty_clear : (m : ℕ) (ls : List (List Step)) → AllEmpty ls → Clear m ls
empty_clear m [] e = tt
empty_clear m (l ∷ ls) e = (subst (NotBefore m) (sym e.0) tt, empty_clear m ls e.1)

-- a join of a list with others, seen as lists of drives
as_drives : (l : List Step) (ls : List (List Step)) (s : Step) (ss : List Step) → Joins l ls (s ∷ ss)
    → (l2 : List Step) × ((ls2 : List (List Step)) × TakesPieces (l ∷ ls) s (l2 ∷ ls2) × Joins l2 ls2 ss)
as_drives l ls s ss (inl j) = (j.0, (ls, inl (j.1, refl, j.2), j.3))
as_drives l ls s ss (inr j) = (l, (j.0, inr (j.2, refl, j.1), j.3))

-- the host's list is joined with the join of the others
joins_more : (hs : List Step) (ds : List Step) (l : List Step) (ls : List (List Step)) → Joins l ls ds → Joins hs (l ∷ ls) (merge hs ds)
joins_more [] [] l ls j = (refl, (j.0, j.1))
joins_more [] (d ∷ ds) l ls j = let t = as_drives l ls d ds j in inr (t.0 ∷ t.1.0, t.1.1, tt, joins_more [] ds t.0 t.1.0 t.1.2)
joins_more (x ∷ hs) [] l ls j = inl (hs, refl, empty_clear (moment_of x) (l ∷ ls) (j.0, j.1), joins_more hs [] l ls j)
joins_more (x ∷ hs) (d ∷ ds) l ls j = elim (leb_tells (moment_of x) (moment_of d)) [
  | inl h ↦ subst (Joins (x ∷ hs) (l ∷ ls)) (sym (merge_here x hs d ds h.1)) (inl (hs, refl, earlier (moment_of x) (moment_of d) (l ∷ ls) h.1 (joins_least l ls d ds j), joins_more hs (d ∷ ds) l ls j))
  | inr h ↦ (
      let t = as_drives l ls d ds j in
      subst (Joins (x ∷ hs) (l ∷ ls)) (sym (merge_there x hs d ds h.1)) (inr (t.0 ∷ t.1.0, t.1.1, h.1, joins_more (x ∷ hs) ds t.0 t.1.0 t.1.2))
      )
]

joins_alone : (hs : List Step) → Joins hs [] hs
joins_alone [] = (refl, tt)
joins_alone (x ∷ hs) = inl (hs, refl, tt, joins_alone hs)

-- so the steps of a piece are a join of its parts
pub joins : JoinsItsParts
joins hs [] = joins_alone hs
joins hs (l ∷ ls) = joins_more hs (merge_all l ls) l ls (joins l ls)

takes_late : (m : ℕ) (fs : List (List Step)) (s : Step) (fs2 : List (List Step)) → TakesPieces fs s fs2 → Clear m fs → m ≤ moment_of s
takes_late m [] s fs2 t c = elim t [ ]
takes_late m (f ∷ fs) s [] t c = elim t [ ]
takes_late m (f ∷ fs) s (f2 ∷ fs2) (inl t) c = subst (NotBefore m) t.0 c.0
takes_late m (f ∷ fs) s (f2 ∷ fs2) (inr t) c = takes_late m fs s fs2 t.2 c.1

-- there is one join
takes_same : (ls : List (List Step)) (s t : Step) (ls2 ls3 : List (List Step)) → TakesPieces ls s ls2 → TakesPieces ls t ls3 → (s ≡ t) × (ls2 ≡ ls3)
takes_same [] s t ls2 ls3 a b = elim a [ ]
takes_same (l ∷ ls) s t [] ls3 a b = elim a [ ]
takes_same (l ∷ ls) s t (l2 ∷ ls2) [] a b = elim b [ ]
takes_same (l ∷ ls) s t (l2 ∷ ls2) (l3 ∷ ls3) (inl a) (inl b) =
    let x = a.0 in
    let y = b.0 in
    let u = a.1 in
    let v = b.1 in
    (cc, cc)
takes_same (l ∷ ls) s t (l2 ∷ ls2) (l3 ∷ ls3) (inl a) (inr b) =
    let late = takes_late (moment_of s) ls t ls3 b.2 a.2 in
    let soon : moment_of t < moment_of s = subst (Sooner t) a.0 b.0 in
    absurd (omega (arith, late, soon))
takes_same (l ∷ ls) s t (l2 ∷ ls2) (l3 ∷ ls3) (inr a) (inl b) =
    let late = takes_late (moment_of t) ls s ls2 a.2 b.2 in
    let soon : moment_of s < moment_of t = subst (Sooner s) b.0 a.0 in
    absurd (omega (arith, late, soon))
takes_same (l ∷ ls) s t (l2 ∷ ls2) (l3 ∷ ls3) (inr a) (inr b) =
    let k = takes_same ls s t ls2 ls3 a.2 b.2 in
    (k.0, ap (λ (g : List (List Step)). l2 ∷ g) k.1 ∙ ap (λ (g : List Step). g ∷ ls3) (a.1 ∙ sym b.1))

pub only_join : IsOnlyJoin
only_join hs ls [] [] a b = refl
only_join hs ls [] (t ∷ tt2) a (inl b) = let x = a.0 in let y = b.1 in let no : [] ≡ t ∷ b.0 = sym x ∙ y in absurd cc
only_join hs ls [] (t ∷ tt2) a (inr b) = let late = takes_late (suc (moment_of t)) ls t b.0 b.1 (empty_clear (suc (moment_of t)) ls a.1) in absurd (omega (arith, late))
only_join hs ls (s ∷ ss) [] (inl a) b = let no : [] ≡ s ∷ a.0 = sym b.0 ∙ a.1 in absurd cc
only_join hs ls (s ∷ ss) [] (inr a) b = let late = takes_late (suc (moment_of s)) ls s a.0 a.1 (empty_clear (suc (moment_of s)) ls b.1) in absurd (omega (arith, late))
only_join hs ls (s ∷ ss) (t ∷ ss2) (inl a) (inl b) =
    let e : s ∷ a.0 ≡ t ∷ b.0 = sym a.1 ∙ b.1 in
    let same : s ≡ t = cc in
    let others : b.0 ≡ a.0 = cc in
    ap (λ (u : Step). u ∷ ss) same ∙ ap (λ (us : List Step). t ∷ us) (only_join a.0 ls ss ss2 a.3 (subst (λ (h : List Step). Joins h ls ss2) others b.3))
only_join hs ls (s ∷ ss) (t ∷ ss2) (inl a) (inr b) =
    let late = takes_late (moment_of s) ls t b.0 b.1 a.2 in
    let soon : moment_of t < moment_of s = subst (Sooner t) a.1 b.2 in
    absurd (omega (arith, late, soon))
only_join hs ls (s ∷ ss) (t ∷ ss2) (inr a) (inl b) =
    let late = takes_late (moment_of t) ls s a.0 a.1 b.2 in
    let soon : moment_of s < moment_of t = subst (Sooner s) b.1 a.2 in
    absurd (omega (arith, late, soon))
only_join hs ls (s ∷ ss) (t ∷ ss2) (inr a) (inr b) =
    let k = takes_same ls s t a.0 b.0 a.1 b.1 in
    ap (λ (u : Step). u ∷ ss) k.0 ∙ ap (λ (us : List Step). t ∷ us) (only_join hs a.0 ss ss2 a.3 (subst (λ (g : List (List Step)). Joins hs g ss2) (sym k.1) b.3))
