-- Where the faults that are told come from.
use Rattle.std.proofs.Common.{◌≡◌, ◌⊎◌, ℕ, suc, ◌+◌, Bool, true, false, List, [], ◌∷◌, refl, sym, ap, ◌∙◌, subst, arith, inl, inr}
use Rattle.std.specs.Prelude.{if◌then◌else◌, slice_get, Option, Some, None, Result, Ok, Err, IfErr, IsErrAnd}
use Rattle.std.specs.List.{Contains}
use Rattle.std.proofs.lemmas.Option.{slice_get-get_or}
use Rattle.cbm_medium.specs.declared.fault.Trouble.{Trouble}
use Rattle.cbm_medium.specs.Place.{Place, sector_count}
use Rattle.cbm_medium.specs.Links.{follow}
use Rattle.cbm_medium.specs.Seen.{Seen, HasFailed}
use Rattle.cbm_medium.specs.Met.{IsMetFrom}
use Rattle.cbm_medium.proofs.Reached.{one_of, met_more}
use Rattle.cbm_volume.specs.RecordFaults.{IsMislisted, IsOfEntry}
use Rattle.cbm_medium.specs.Content.{Content}
use Rattle.cbm_chain.specs.Reading.{RestOfFile, held_from}
use Rattle.cbm_bam.specs.Map.{geometry_of}
use Rattle.cbm_directory.specs.Entries.{first_block, first_side}
use Rattle.cbm_directory.specs.Slots.{first_from, directory_of}
use Rattle.cbm_channel.specs.declared.finding.Found.{Found}
use Rattle.cbm_channel.specs.declared.plan.Plan.{Plan}
use Rattle.cbm_channel.specs.declared.plan.Plan.TheVariants.{ReadFile, OpenRecords}
use Rattle.cbm_channel.specs.Standing.{Kept}
use Rattle.cbm_channel.specs.Grounds.{ShowsTrouble, HidesRecords, IsFromDirectory, HasGround, IsToldFor}

abbrev entry_in : List ℕ → Option (ℕ × List ℕ) → List ℕ
entry_in e None = e
entry_in e (Some t) = t.1

-- an entry that is found is one of the directory's
pub first_contained : (test : List ℕ → Bool) (n : ℕ) (entries : List (List ℕ)) (j : ℕ) (e : List ℕ) → first_from test n entries ≡ Some (j, e) → Contains entries e
first_contained test n [] j e h = absurd (cc)
first_contained test n (x ∷ entries) j e h = by_test (test x) refl (first_contained test (n + 1) entries j e)
  where
    by_test : (b : Bool) → test x ≡ b → (first_from test (n + 1) entries ≡ Some (j, e) → Contains entries e) → Contains (x ∷ entries) e
    by_test true t more = (0, omega arith, ap (entry_in e) (sym (ap (λ (b : Bool). if b then Some (n, x) else first_from test (n + 1) entries) t) ∙ h))
    by_test false t more =
        let k = more (sym (ap (λ (b : Bool). if b then Some (n, x) else first_from test (n + 1) entries) t) ∙ h) in
        (suc k.0, omega (arith, k.1), k.2)

-- a chain that breaks off at once
pub broken_at_once : (tracks : ℕ) (c : Content) (left : ℕ) (at : Place) (t : Trouble) → held_from tracks c left at ≡ record { bytes = []; trouble = Some t } → (follow tracks c left at).trouble ≡ Some t
unfolding held_from
broken_at_once tracks c left at t e = ap (λ (r : RestOfFile). r.trouble) e

-- the chain of one of the directory's entries breaks off at once
pub entry_broken : (tracks : ℕ) (c : Content) (entry : List ℕ) (t : Trouble) → Contains (directory_of tracks c).entries entry
    → held_from tracks c (sector_count tracks) (first_block entry) ≡ record { bytes = []; trouble = Some t } → ShowsTrouble tracks c t
entry_broken tracks c entry t there e = inr (inr (inl (entry, there, broken_at_once tracks c (sector_count tracks) (first_block entry) t e)))

-- why a record can't be read
pub record_broken : (now : Seen) (t : Trouble) → HidesRecords now t → ShowsTrouble (geometry_of now.tracks now.content) now.content t
record_broken now t (slot, inl e) = inr (inl e)
record_broken now t (slot, inr m) = inr (inr (inr (inr (slot, m))))

-- an entry of the directory has a slot
slot_of : (entries : List (List ℕ)) (entry : List ℕ) → Contains entries entry → (n : ℕ) × (slice_get entries n ≡ Some entry)
slot_of entries entry (n, within, is) = (n, slice_get-get_or entries n entry within ∙ ap (λ (e : List ℕ). Some e) is)

-- why the records of one of the directory's entries can't be opened
pub records_broken : (tracks : ℕ) (c : Content) (entry : List ℕ) (t : Trouble) → Contains (directory_of tracks c).entries entry → IsMetFrom tracks c (λ q. q ≡ first_side entry) t ⊎ IsMislisted tracks c entry t → ShowsTrouble tracks c t
records_broken tracks c entry t there (inl m) =
    let slot = slot_of (directory_of tracks c).entries entry there in
    inr (inr (inr (inr (slot.0, (entry, slot.1, met_more tracks c (λ q. q ≡ first_side entry) (IsOfEntry tracks c entry) (one_of tracks c (IsOfEntry tracks c entry) (first_side entry) (inr (inl (inl refl)))) t m)))))
records_broken tracks c entry t there (inr h) = inr (inr (inr (inl (entry, there, h))))

-- the file that is read is one of the directory's
pub read_from : {M : Type 0} (seen : M → Seen) (m : M) (p : Plan) (found : Found) → p ≡ ReadFile found → IsFromDirectory seen m p
    → Contains (directory_of (geometry_of (seen m).tracks (seen m).content) (seen m).content).entries found.entry
read_from seen m p found e from = subst (IsFromDirectory seen m) e from

-- so is the one whose records are opened
pub relates_from : {M : Type 0} (seen : M → Seen) (m : M) (p : Plan) (found : Found) → p ≡ OpenRecords found → IsFromDirectory seen m p
    → Contains (directory_of (geometry_of (seen m).tracks (seen m).content) (seen m).content).entries found.entry
relates_from seen m p found e from = subst (IsFromDirectory seen m) e from

-- what an error is passed on as
pub passed_on : {A E : Type 0} (r : Result A E) (x : E) (P : E → Type 0) → IsErrAnd r (λ e. e ≡ x) → P x → IfErr r P
passed_on (Ok a) x P is h = tt
passed_on (Err e) x P is h = subst P (sym is) h

-- what is told is told of a drive with the same medium and status
pub told_for : {M : Type 0} (seen : M → Seen) (old old' new : Kept M) → old'.medium ≡ old.medium → old'.told ≡ old.told → IsToldFor seen old' new → IsToldFor seen old new
told_for seen old old' new e f (inl x) = inl (x ∙ f)
told_for seen old old' new e f (inr (inl x)) = inr (inl (subst (λ v. HasGround seen v new.told.status) e x))
told_for seen old old' new e f (inr (inr x)) = inr (inr (x.0, x.1, subst (λ v. HasFailed (seen v) (seen new.medium)) e x.2))
