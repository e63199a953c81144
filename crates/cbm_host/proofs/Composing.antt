-- What the host performs one list after another it performs as one.
use Rattle.std.proofs.Common.{ℕ, List, [], ◌∷◌, ◌++◌, subst}
use Rattle.cbm_session.specs.Steps.{Step}
use Rattle.cbm_host.specs.Engines.{Engined}
use Rattle.cbm_host.specs.Performing.{Performs, IsSilent, ends, makes, sees, passes}

silent_then : (until : ℕ) (xs ys : List Step) → IsSilent until xs → IsSilent until (xs ++ ys)
silent_then until [] ys h = elim h [ ]
silent_then until (x ∷ xs) ys h = h

pub performs_then : {e e1 e2 : Engined} {xs ys : List Step} → Performs e xs e1 → Performs e1 ys e2 → Performs e (xs ++ ys) e2
performs_then {e2} {ys} (ends same) k = subst (λ (x : Engined). Performs x ys e2) same k
performs_then (makes due taken h) k = makes due taken (performs_then h k)
performs_then (sees early h) k = sees early (performs_then h k)
performs_then {xs} {ys} (passes until due silent h) k = passes until due (silent_then until xs ys silent) (performs_then h k)
