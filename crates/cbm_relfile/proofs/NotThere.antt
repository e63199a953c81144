-- A None that is handed on, and what it says.
use Rattle.std.proofs.Common.{◌≡◌, ◌≢◌, ℕ, zero, suc, ◌+◌, ◌-◌, ◌*◌, ◌/◌, ◌%◌, ◌≤◌, ◌<◌, List, Option, Some, None, Ok, Err, sym, ap, subst, ◌∙◌, arith, inl, inr}
use Rattle.std.specs.Prelude.{Result, IfOk, IfNone, IfSome}
use Rattle.cbm_medium.specs.Place.{Place, Has}
use Rattle.cbm_medium.specs.Content.{Content}
use Rattle.cbm_medium.specs.Links.{link}
use Rattle.cbm_medium.specs.declared.fault.Trouble.{Trouble}
use Rattle.cbm_medium.proofs.Passed.{WalksTo}
use Rattle.cbm_relfile.specs.Records.{Relative, EndsBefore}
use Rattle.cbm_relfile.specs.Counting.{ChainEndsBy, BlocksLeadTo}
use Rattle.cbm_relfile.specs.Missing.{IsBlockMissing, IsBlockReached, IsStretchMissing, IsRecordMissing, IsNextMissing}

-- what a None says says more
pub none_more : {A : Type 0} (P Q : Type 0) (r : Result (Option A) Trouble) → (P → Q) → IfOk r (λ o. IfNone o P) → IfOk r (λ o. IfNone o Q)
none_more P Q (Err t) more h = tt
none_more P Q (Ok (Some x)) more h = tt
none_more P Q (Ok None) more h = more h

-- and what a Some says
pub some_more : {A : Type 0} (P Q : A → Type 0) (r : Result (Option A) Trouble) → ((x : A) → P x → Q x) → IfOk r (λ o. IfSome o P) → IfOk r (λ o. IfSome o Q)
some_more P Q (Err t) more h = tt
some_more P Q (Ok None) more h = tt
some_more P Q (Ok (Some x)) more h = more x h

-- the one that came
pub none_says : {A : Type 0} (P : Type 0) (o : Option A) → o ≡ None → IfNone o P → P
none_says {A = A} P o is h = subst (λ (x : Option A). IfNone x P) is h

pub some_says : {A : Type 0} (P : A → Type 0) (o : Option A) (x : A) → o ≡ Some x → IfSome o P → P x
some_says {A = A} P o x is h = subst (λ (y : Option A). IfSome y P) is h

-- a walk has come to track 0
pub walk_ends : (tracks : ℕ) (c : Content) (first at : Place) (k number : ℕ) → WalksTo tracks c first at k → k ≤ number → at.track ≡ 0 → ChainEndsBy tracks c first number
walk_ends tracks c first at k number w l z = inr (k, l, record { blocks = w.blocks; afterwards = at; number = w.number; leads = w.leads; ends = inl z })

-- or goes on
pub walk_leads : (tracks : ℕ) (c : Content) (first at : Place) (k number : ℕ) → WalksTo tracks c first at k → k ≡ number → at.track ≢ 0 → BlocksLeadTo tracks c first number at
walk_leads tracks c first at k number w e ne = record { blocks = w.blocks; count = w.number ∙ e; leads = w.leads; going = ne }

-- the block in which it begins is missing
pub record_missing : (tracks : ℕ) (c : Content) (file : Relative) (number width : ℕ) → width ≡ file.width → IsBlockMissing tracks c file ((number - 1) * width / 254) → IsRecordMissing tracks c file number
record_missing tracks c file number width e h = inl (subst (λ (w : ℕ). IsBlockMissing tracks c file ((number - 1) * w / 254)) e h)

-- or the chain ends before it does
pub record_short : (tracks : ℕ) (c : Content) (file : Relative) (number width count : ℕ) (at : Place) (sector : List ℕ) → width ≡ file.width → count ≡ file.width → IsBlockReached tracks c file ((number - 1) * width / 254) at → Has tracks at → c at ≡ Ok sector
    → EndsBefore c sector ((number - 1) * width % 254 + count) → IsRecordMissing tracks c file number
record_short tracks c file number width count at sector e f reached has holds ends =
    inr (at, sector, subst (λ (w : ℕ). IsBlockReached tracks c file ((number - 1) * w / 254) at) e reached, has, holds, subst (λ (n : ℕ). EndsBefore c sector n) (λ i. (number - 1) * e i % 254 + f i) ends)

-- ---- the stretch after another one

-- in this block the chain ends
pub none_here : (c : Content) (sector : List ℕ) (from count : ℕ) → from < 254 → EndsBefore c sector (from + count) → IsStretchMissing c sector from count
none_here c sector from count l h = inl (l, h)

-- there is no next one
pub none_after : (c : Content) (sector : List ℕ) (at : Place) (from count : ℕ) → 254 ≤ from → at ≡ link sector → at.track ≡ 0 → IsStretchMissing c sector from count
none_after c sector at from count l is z = inr (l, inl (ap (λ (p : Place). p.track) (sym is) ∙ z))

-- in the next one it ends
pub none_next : (c : Content) (sector more : List ℕ) (at : Place) (from count : ℕ) → 254 ≤ from → at ≡ link sector → c at ≡ Ok more → EndsBefore c more (from - 254 + count) → IsStretchMissing c sector from count
none_next c sector more at from count l is holds h = inr (l, inr (more, ap c (sym is) ∙ holds, h))

-- and the stretch after a record's is the next one's
pub next_missing : (tracks : ℕ) (c : Content) (file : Relative) (number width count : ℕ) (at : Place) (sector : List ℕ) → width ≡ file.width → count ≡ file.width → IsBlockReached tracks c file ((number - 1) * width / 254) at → Has tracks at → c at ≡ Ok sector
    → IsStretchMissing c sector ((number - 1) * width % 254 + count) count → IsNextMissing tracks c file number
next_missing tracks c file number width count at sector e f reached has holds none =
    (at, sector, subst (λ (w : ℕ). IsBlockReached tracks c file ((number - 1) * w / 254) at) e reached, has, holds, subst (λ (x : ℕ × ℕ). IsStretchMissing c sector (x.0 % 254 + x.1) x.1) (λ i. ((number - 1) * e i, f i)) none)

-- ---- 768 blocks have at most so many records

few_number : (n w : ℕ) → 1 ≤ w → (n - 1) * w / 254 < 768 → n ≤ 195072
few_number n zero l h = absurd (omega (arith, l))
few_number n (suc k) l h = omega (arith, h)

pub few_records : {A B : Type 0} (n w : ℕ) (o : Option A) (at : A) (r : Result (Option B) Trouble) → o ≡ Some at → IfSome o (λ x. (n - 1) * w / 254 < 768) → 1 ≤ w → IfOk r (λ x. IfSome x (λ y. n ≤ 195072))
few_records n w o at (Err t) is h l = tt
few_records n w o at (Ok None) is h l = tt
few_records n w o at (Ok (Some y)) is h l = few_number n w l (some_says (λ x. (n - 1) * w / 254 < 768) o at is h)
