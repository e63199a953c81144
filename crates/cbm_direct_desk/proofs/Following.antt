-- What a drive with direct access shows, after a byte was said.
use Rattle.std.proofs.Common.{◌≡◌, ℕ, Option, Some, None, false, sym, subst}
use Rattle.std.specs.Prelude.{IsSome}
use Rattle.cbm_direct.specs.Directs.{Direct, direct_shown}
use Rattle.cbm_direct_desk.specs.DirectDesks.{direct_shown_from}

-- a talker's channel has another byte, so its desk does
pub next_shown_from : {M : Type 0} (o : Option ℕ) (ch n : ℕ) (k now : Direct M) → Some ch ≡ o → ((m : ℕ) → direct_shown ch k ≡ Some (m, false) → IsSome (direct_shown ch now)) → direct_shown_from o k ≡ Some (n, false) → IsSome (direct_shown_from o now)
next_shown_from o ch n k now is more e = subst (λ (p : Option ℕ). IsSome (direct_shown_from p now)) is (more n (subst (λ (p : Option ℕ). direct_shown_from p k ≡ Some (n, false)) (sym is) e))

-- no channel is talked from, and nothing is shown
pub none_shown_from : {M : Type 0} (o : Option ℕ) (n : ℕ) (k : Direct M) (P : Type 0) → None ≡ o → direct_shown_from o k ≡ Some (n, false) → P
none_shown_from o n k P is e = absurd (let z = subst (λ (p : Option ℕ). direct_shown_from p k ≡ Some (n, false)) (sym is) e in cc)
