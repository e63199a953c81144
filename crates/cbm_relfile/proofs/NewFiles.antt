-- The two claims for a new relative file: the second one finds no block.
use Rattle.std.proofs.Common.{◌≡◌, ◌≢◌, ℕ, sym, subst, inr, Option, Some, None}
use Rattle.std.specs.Prelude.{MatchOption}
use Rattle.cbm_medium.specs.Place.{Place, Has}
use Rattle.cbm_medium.specs.Content.{Content}
use Rattle.cbm_bam.specs.Map.{map_of, IsFull, Claims}
use Rattle.cbm_relfile.specs.Making.{LacksBlocks}

-- what a claim answers
abbrev pub IsOneClaimed : ℕ → Content → Content → Option Place → Type 0
IsOneClaimed tracks c c' o = MatchOption o (IsFull tracks (map_of c) × (c' ≡ c)) (λ p. Claims tracks c c' p)

pub is_claimed : (tracks : ℕ) (c c' : Content) (o : Option Place) (p : Place) → o ≡ Some p → IsOneClaimed tracks c c' o → Claims tracks c c' p
is_claimed tracks c c' o p some h = subst (λ (x : Option Place). IsOneClaimed tracks c c' x) some h

pub no_second : (tracks : ℕ) (c c1 c2 : Content) (o : Option Place) (p : Place) → Claims tracks c c1 p → o ≡ None → (Has tracks p → p.track ≢ 18 → IsOneClaimed tracks c1 c2 o) → LacksBlocks tracks c c2
no_second tracks c c1 c2 o p k none h =
    let full : IsOneClaimed tracks c1 c2 None = subst (λ (x : Option Place). IsOneClaimed tracks c1 c2 x) none (h k.has k.off_18) in
    inr (p, subst (λ (x : Content). Claims tracks c x p) (sym full.1) k, subst (λ (x : Content). IsFull tracks (map_of x)) (sym full.1) full.0)
