-- What the parts of a call make of the medium: how often it refused a write by itself, and whether the status says so.
use Rattle.std.proofs.Common.{◌≡◌, ℕ, suc, ◌+◌, ◌≤◌, List, Option, None, ap, sym, subst, ◌∙◌, inl, inr, arith, Result, Err, Some}
use Rattle.std.specs.Prelude.{IfErr, OnOk}
use Rattle.std.proofs.lemmas.Bool.{cases_eq}
use Rattle.cbm_medium.specs.declared.fault.Trouble.{Trouble}
use Rattle.cbm_medium.specs.Seen.{Seen, HasFailed, OnlyContent}
use Rattle.cbm_volume.specs.NewDisks.{OnlyNew}
use Rattle.cbm_machine.specs.Statuses.{trouble_status}
use Rattle.cbm_channel.specs.ChannelCalls.{KeepsElse}
use Rattle.cbm_channel.specs.Standing.{Kept}
use Rattle.cbm_channel.specs.Going.{IsFailureCounted, AreCounted}

module _ {M : Type 0} (seen : M → Seen) (old new : Kept M) (before after : M) (was : before ≡ old.medium) (is : new.medium ≡ after) where
  -- a call that went well
  pub counted_well : (seen after).failures ≡ (seen before).failures → IsFailureCounted seen old new
  counted_well same = inl (ap (λ k. (seen k).failures) is ∙ same ∙ ap (λ k. (seen k).failures) was)

  -- a call whose error is the status
  pub counted_by : {A : Type 0} (r : Result A Trouble) (t : Trouble) → r ≡ Err t → (seen before).failures ≤ (seen after).failures → (seen after).failures ≤ (seen before).failures + 1
      → IfErr r (λ u. HasFailed (seen before) (seen after) → (seen after).refused ≡ Some u) → new.told.status ≡ trouble_status t → IsFailureCounted seen old new
  counted_by {A} r t err counted once own told = elim (cases_eq (seen after).failures (seen before).failures) [
    | inl same ↦ counted_well same
    | inr other ↦
        (let failed : HasFailed (seen before) (seen after) = omega (arith, other, counted) in
        let more : (seen after).failures ≡ (seen before).failures + 1 = omega (arith, failed, once) in
        let last = subst (λ (x : Result A Trouble). IfErr x (λ u. HasFailed (seen before) (seen after) → (seen after).refused ≡ Some u)) err own failed in
        inr (t, ap (λ k. (seen k).failures) is ∙ more ∙ ap (λ k. (seen k).failures + 1) was, ap (λ k. (seen k).refused) is ∙ last, told))
  ]

  pub counted_told : {disk : ℕ} {A : Type 0} (r : Result A Trouble) (t : Trouble) → r ≡ Err t → OnlyContent disk r (seen before) (seen after) → new.told.status ≡ trouble_status t → IsFailureCounted seen old new
  counted_told r t err only told = counted_by r t err only.counted only.once only.own told

  -- or whose error was handed on
  pub counted_else : {A : Type 0} (r : Result A Trouble) (t : Trouble) → r ≡ Err t → KeepsElse r (seen before) (seen after) → new.told.status ≡ trouble_status t → IsFailureCounted seen old new
  counted_else r t err kept told = counted_by r t err kept.counted kept.once kept.own told

-- what a part makes of it, where the drive's text alone is another before or after that
pub counted_from : {M : Type 0} (seen : M → Seen) (old first new : Kept M) → first.medium ≡ old.medium → IsFailureCounted seen first new → IsFailureCounted seen old new
counted_from seen old first new same (inl e) = inl (e ∙ ap (λ k. (seen k).failures) same)
counted_from seen old first new same (inr f) = inr (f.0, f.1 ∙ ap (λ k. (seen k).failures + 1) same, f.2, f.3)

pub counted_to : {M : Type 0} (seen : M → Seen) (old last new : Kept M) → new.medium ≡ last.medium → new.told ≡ last.told → IsFailureCounted seen old last → IsFailureCounted seen old new
counted_to seen old last new same told (inl e) = inl (ap (λ k. (seen k).failures) same ∙ e)
counted_to seen old last new same told (inr f) = inr (f.0, ap (λ k. (seen k).failures) same ∙ f.1, ap (λ k. (seen k).refused) same ∙ f.2, ap (λ x. x.status) told ∙ f.3)

-- two steps of one part: where the first was refused, the second writes nothing and leaves the status
pub counted_then : {M : Type 0} (seen : M → Seen) (old mid new : Kept M) → IsFailureCounted seen old mid → IsFailureCounted seen mid new → (HasFailed (seen old.medium) (seen mid.medium) → (new.told ≡ mid.told) × (new.medium ≡ mid.medium)) → IsFailureCounted seen old new
counted_then seen old mid new (inl e) (inl f) quiet = inl (f ∙ e)
counted_then seen old mid new (inl e) (inr f) quiet = inr (f.0, f.1 ∙ ap (λ (n : ℕ). n + 1) e, f.2, f.3)
counted_then seen old mid new (inr e) second quiet =
    let still = quiet (omega (arith, e.1)) in
    counted_to seen old mid new still.1 still.0 (inr e)

-- one part more
pub counted_more : {M : Type 0} (seen : M → Seen) (n k : ℕ) (old mid new : Kept M) → k ≡ n + 1 → AreCounted seen n old mid → IsFailureCounted seen mid new → AreCounted seen k old new
counted_more seen n k old mid new e many one = subst (λ (x : ℕ). AreCounted seen x old new) (sym e) (plus n many)
  where
    one_more : (n : ℕ) → n + 1 ≡ suc n
    one_more n = omega arith

    plus : (n : ℕ) → AreCounted seen n old mid → AreCounted seen (n + 1) old new
    plus n h = subst (λ (x : ℕ). AreCounted seen x old new) (sym (one_more n)) (mid, h, one)

-- NEW, with an id and without one
pub new_counts : (r : Result (Unit {0}) Trouble) (o : Option (List ℕ)) (old new : Seen) → OnlyNew r o old new
    → (old.failures ≤ new.failures) × (new.failures ≤ old.failures + 1) × IfErr r (λ t. HasFailed old new → new.refused ≡ Some t) × OnOk r (new.failures ≡ old.failures)
new_counts r None old new h = (h.counted, h.once, h.own, h.uncounted)
new_counts r (Some id) old new (inl h) = (h.counted, h.once, h.own, h.uncounted)
new_counts r (Some id) old new (inr (err, h)) = (h.counted, h.once, h.own, h.uncounted)
