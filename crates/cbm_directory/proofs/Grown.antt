-- The directory is walked to its last sector, and grows there.
use Rattle.std.proofs.Common.{◌≡◌, ◌⊎◌, ◌≤◌, ℕ, List, [], ◌∷◌, ◌++◌, Bool, true, false, Some, Ok, IsOk, refl, sym, ap, ◌∙◌, subst, inl, inr, arith, if◌then◌else◌}
use Rattle.cbm_medium.specs.Place.{Place, Has, is_place, directory_head}
use Rattle.cbm_medium.specs.Content.{Cell, Content, written, refusal, header_fault}
use Rattle.cbm_medium.specs.Links.{Chain, link, or_nothing, bytes_at}
use Rattle.cbm_medium.specs.Seen.{Seen, with_content, write_refusal, HasFailed}
use Rattle.cbm_bam.specs.Causes.{HasCause}

-- a sector that reads goes before the chain that its link leads to
pub chained_on : (tracks : ℕ) (c : Content) (a next : Place) (bytes : List ℕ) (xs : List Place) → Has tracks a → c a ≡ Ok bytes → next ≡ link bytes → Chain tracks c next xs → Chain tracks c a (a ∷ xs)
chained_on tracks c a next bytes xs h ok e k =
    (refl, h, subst (λ (x : Cell). IsOk x) (sym ok) refl, subst (λ (p : Place). Chain tracks c p xs) (e ∙ sym (ap (λ (x : Cell). link (or_nothing x)) ok)) k)

-- what refuses a sector's write refused it before another sector was written
refused : (b : Bool) (c : Content) (p q : Place) (s : List ℕ) (code : ℕ) → refusal b (written c p s q) ≡ Some code → refusal b (c q) ≡ Some code
refused true c p q s code e = e
refused false c p q s code e = by_place (is_place p q) e
  where
    by_place : (x : Bool) → header_fault (if x then Ok s else c q) ≡ Some code → header_fault (c q) ≡ Some code
    by_place true k = absurd (cc)
    by_place false k = k

pub refused_before : (tracks : ℕ) (old mid new : Seen) (p q : Place) (s : List ℕ) (code : ℕ) → Has tracks q → mid.content ≡ written old.content p s → mid.protected ≡ old.protected → old.failures ≤ mid.failures
    → (write_refusal mid q ≡ Some code) ⊎ HasFailed mid new → HasCause old new directory_head code ⊎ ((x : Place) × (Has tracks x × (write_refusal old x ≡ Some code)))
refused_before tracks old mid new p q s code has w e l (inl r) =
    inr (q, (has, refused old.protected old.content p q s code (ap (λ (x : Content). refusal old.protected (x q)) (sym w) ∙ ap (λ (b : Bool). refusal b (mid.content q)) (sym e) ∙ r)))
refused_before tracks old mid new p q s code has w e l (inr f) = inl (inr (inr (omega arith)))

-- the same where another sector was written since
pub refused_on : (mid later new : Seen) (p q : Place) (s : List ℕ) (code : ℕ) → later ≡ with_content (written mid.content p s) mid → (write_refusal later q ≡ Some code) ⊎ HasFailed later new → (write_refusal mid q ≡ Some code) ⊎ HasFailed mid new
refused_on mid later new p q s code e (inl r) = inl (refused mid.protected mid.content p q s code (ap (λ (x : Seen). write_refusal x q) (sym e) ∙ r))
refused_on mid later new p q s code e (inr f) = inr (subst (λ (x : Seen). HasFailed x new) e f)

-- the last sector of a directory is on the disk
pub ends_on_disk : (tracks : ℕ) (c : Content) (a p : Place) (xs : List Place) → Chain tracks c a (xs ++ p ∷ []) → Has tracks p
ends_on_disk tracks c a p [] h = h.1
ends_on_disk tracks c a p (b ∷ rest) h = ends_on_disk tracks c (link (bytes_at c b)) p rest h.3
