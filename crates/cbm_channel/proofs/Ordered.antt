-- What V changes, on any disk.
use Rattle.std.proofs.Common.{◌≡◌, ◌≢◌, ◌⊎◌, ℕ, true, sym, ap, subst, ◌∙◌, inl, inr}
use Rattle.std.specs.Prelude.{◌==◌, List, Option, Some, None, IfSome}
use Rattle.std.proofs.lemmas.Bool.{and_parts, eqb-true}
use Rattle.cbm_medium.specs.Seen.{Seen}
use Rattle.cbm_medium.specs.declared.fault.Trouble.{Trouble}
use Rattle.cbm_bam.specs.Map.{geometry_of}
use Rattle.cbm_volume.specs.Sweeps.{IsPutInOrder, IsPartlyInOrder}
use Rattle.cbm_machine.specs.declared.code.Code.{Code}
use Rattle.cbm_machine.specs.declared.code.Code.TheVariants.{Fine}
use Rattle.cbm_machine.specs.declared.status.Status.{Status}
use Rattle.cbm_machine.specs.Codes.{code_number}
use Rattle.cbm_machine.specs.Statuses.{plain, trouble_status}
use Rattle.cbm_machine.specs.Told.{ToldStatus}
use Rattle.cbm_channel.specs.Commanded.{end_validates}
use Rattle.cbm_channel.specs.Grounds.{is_fault_number}
use Rattle.cbm_channel.proofs.Refused.{trouble_told}

-- no fault is told as 00
pub trouble_not_fine : (t : Trouble) (s : Status) → s ≡ trouble_status t → s.code ≡ Fine → ⊥
trouble_not_fine t s e f = let z = sym (ap (λ (x : Code). is_fault_number (code_number x)) f) ∙ trouble_told t s e in absurd (cc)

-- the same over the parts that it speaks of
abbrev pub OrdersFor : {M : Type 0} → (M → Seen) → M → M → ToldStatus → Type 0
OrdersFor seen a b told =
    ((told.status.code ≡ Fine) × IsPutInOrder (geometry_of (seen a).tracks (seen a).content) (seen a).content (seen b).content)
    ⊎ ((told.status.code ≢ Fine) × IsPartlyInOrder (geometry_of (seen a).tracks (seen a).content) (seen a).content (seen b).content)

-- 00 is told, and the disk is in order
pub fine_ordered : {M : Type 0} (seen : M → Seen) (a b : M) (now : ToldStatus) (before after : Seen) → before ≡ seen a → seen b ≡ after → now ≡ record { status = plain Fine; told = 0 }
    → IsPutInOrder (geometry_of before.tracks before.content) before.content after.content → OrdersFor seen a b now
fine_ordered seen a b now before after was is told h = inl (
  ap (λ (t : ToldStatus). t.status.code) told,
  subst (λ (s : Seen). IsPutInOrder (geometry_of (seen a).tracks (seen a).content) (seen a).content s.content) (sym is)
      (subst (λ (s : Seen). IsPutInOrder (geometry_of s.tracks s.content) s.content after.content) was h),
)

-- a refusal or a fault is told
pub refused_ordered : {M : Type 0} (seen : M → Seen) (a b : M) (now : ToldStatus) (before after : Seen) (s : Status) → (s.code ≡ Fine → ⊥) → before ≡ seen a → seen b ≡ after → now ≡ record { status = s; told = 0 }
    → IsPartlyInOrder (geometry_of before.tracks before.content) before.content after.content → OrdersFor seen a b now
refused_ordered seen a b now before after s other was is told h = inr (
  (λ e. other (sym (ap (λ (t : ToldStatus). t.status.code) told) ∙ e)),
  subst (λ (s : Seen). IsPartlyInOrder (geometry_of (seen a).tracks (seen a).content) (seen a).content s.content) (sym is)
      (subst (λ (s : Seen). IsPartlyInOrder (geometry_of s.tracks s.content) s.content after.content) was h),
)

-- ---- which text is V

pub ended_15 : (ch : ℕ) (o : Option (ℕ × List ℕ)) → end_validates ch o ≡ true → ch ≡ 15
ended_15 ch None v = absurd cc
ended_15 ch (Some t) v = eqb-true ch 15 (and_parts (ch == 15) _ v).0

pub not_ended : (ch : ℕ) (o : Option (ℕ × List ℕ)) → IfSome o (λ t. t.0 ≢ ch) → end_validates ch o ≡ true → ⊥
not_ended ch None h v = absurd cc
not_ended ch (Some t) h v =
    let p = and_parts (ch == 15) _ v in
    let q = and_parts (t.0 == 15) _ p.1 in
    h (eqb-true t.0 15 q.0 ∙ sym (eqb-true ch 15 p.0))
