-- What a join of lists is, said without computing it: always the earliest step comes next, at one moment that of the list which stands first.
use Rattle.std.specs.Prelude.{◌≡◌, ℕ, ◌≤◌, ◌<◌, ◌⊎◌, List, [], ◌∷◌}
use Rattle.cbm_session.specs.Steps.{Step, moment_of, merge_all}

-- the first of these isn't before m, or there is none
abbrev pub NotBefore : ℕ → List Step → Type 0
NotBefore m [] = Unit {0}
NotBefore m (s ∷ ss) = m ≤ moment_of s

-- the step is sooner than the first of these, or there is none
abbrev pub Sooner : Step → List Step → Type 0
Sooner s [] = Unit {0}
Sooner s (x ∷ xs) = moment_of s < moment_of x

-- none of the lists begins before m
abbrev pub Clear : ℕ → List (List Step) → Type 0
Clear m [] = Unit {0}
Clear m (l ∷ ls) = NotBefore m l × Clear m ls

-- no list has a step
abbrev pub AllEmpty : List (List Step) → Type 0
AllEmpty [] = Unit {0}
AllEmpty (l ∷ ls) = (l ≡ []) × AllEmpty ls

-- the step is the first of one list: sooner than those of the lists before it, not later than those of the lists after it
abbrev pub TakesPieces : List (List Step) → Step → List (List Step) → Type 0
TakesPieces [] s ls2 = ⊥
TakesPieces (l ∷ ls) s [] = ⊥
TakesPieces (l ∷ ls) s (l2 ∷ ls2) = ((l ≡ s ∷ l2) × (ls2 ≡ ls) × Clear (moment_of s) ls) ⊎ (Sooner s l × (l2 ≡ l) × TakesPieces ls s ls2)

-- the host's list and the drives' lists, taken step by step
abbrev pub Joins : List Step → List (List Step) → List Step → Type 0
Joins hs ls [] = (hs ≡ []) × AllEmpty ls
Joins hs ls (s ∷ ss) =
    ((hs2 : List Step) × (hs ≡ s ∷ hs2) × Clear (moment_of s) ls × Joins hs2 ls ss) ⊎ ((ls2 : List (List Step)) × TakesPieces ls s ls2 × Sooner s hs × Joins hs ls2 ss)

-- what `merge_all` makes of the host's list and the drives' lists is a join of them
abbrev pub JoinsItsParts : Type 0
JoinsItsParts = (hs : List Step) (ls : List (List Step)) → Joins hs ls (merge_all hs ls)

-- lists have only one join
abbrev pub IsOnlyJoin : Type 0
IsOnlyJoin = (hs : List Step) (ls : List (List Step)) (ss ss2 : List Step) → Joins hs ls ss → Joins hs ls ss2 → ss ≡ ss2
