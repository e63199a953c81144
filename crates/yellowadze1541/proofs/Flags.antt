-- Answers of yes and no, as C has them.
use Rattle.std.proofs.Common.{◌≡◌, ℕ, Bool, true, false, refl, sym, ◌∙◌}
use Rattle.std.specs.Prelude.{IsTrue, ◌↔◌}
use Rattle.yellowadze1541.specs.Looks.{flag}

-- a flag that is 1 says yes
pub says_yes : (b : Bool) (n : ℕ) (P : Type 0) → n ≡ flag b → (IsTrue b ↔ P) → ((n ≡ 1) ↔ P)
says_yes true n P e both = ((λ one. both.0 refl), (λ p. e))
says_yes false n P e both = ((λ one. absurd (let z = sym e ∙ one in cc)), (λ p. absurd (let t = both.1 p in cc)))
