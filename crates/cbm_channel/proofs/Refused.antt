-- What is refused has changed nothing of the disk.
use Rattle.std.proofs.Common.{◌≡◌, ◌≢◌, ℕ, Bool, true, false, refl, sym, ap, ◌∙◌, inl, inr, IsErrAnd}
use Rattle.std.specs.Prelude.{if◌then◌else◌, ◌==◌, Result, Ok, Err, IfOk, IfErr}
use Rattle.std.proofs.lemmas.Bool.Decides.{eqb_tells}
use Rattle.cbm_medium.specs.declared.fault.Trouble.{Trouble}
use Rattle.cbm_machine.specs.declared.code.Code.{Code}
use Rattle.cbm_machine.specs.declared.code.Code.TheVariants.{WriteProtected, WriteFailed, EndlessChain}
use Rattle.cbm_machine.specs.declared.status.Status.{Status}
use Rattle.cbm_machine.specs.Codes.{code_number, code_of_fault}
use Rattle.cbm_machine.specs.Statuses.{plain, trouble_status}
use Rattle.cbm_machine.specs.Told.{ToldStatus}
use Rattle.cbm_channel.specs.declared.plan.Plan.{Plan}
use Rattle.cbm_channel.specs.Grounds.{is_refusal, is_fault_number}
use Rattle.cbm_channel.specs.Planned.{plan_writes}

abbrev IsNone : Code → Type 0
IsNone code = is_refusal code ≡ false

abbrev IsFault : Code → Type 0
IsFault code = is_fault_number (code_number code) ≡ true

-- it has a fault's number, and this is no refusal but where the test says so
abbrev IsTold : Bool → Code → Type 0
IsTold is_26 code = IsFault code × (is_26 ≡ false → IsNone code)

either_way : (P : Code → Type 0) (b : Bool) (x y : Code) → (b ≡ true → P x) → P y → P (if b then x else y)
either_way P true x y p q = p refl
either_way P false x y p q = q

plainly : (is_26 b : Bool) (x y : Code) → IsFault x → IsNone x → IsTold is_26 y → IsTold is_26 (if b then x else y)
plainly is_26 b x y fault none rest = either_way (IsTold is_26) b x y (λ is. (fault, λ other. none)) rest

-- a fault is told by a code of a fault, and none but 26 by that of a refusal
code_told : (n : ℕ) → IsTold (n == 26) (code_of_fault n)
code_told n =
    plainly (n == 26) (n == 20) _ _ refl refl
    (plainly (n == 26) (n == 21) _ _ refl refl
    (plainly (n == 26) (n == 22) _ _ refl refl
    (plainly (n == 26) (n == 23) _ _ refl refl
    (plainly (n == 26) (n == 24) _ _ refl refl
    (plainly (n == 26) (n == 25) _ _ refl refl
    (either_way (IsTold (n == 26)) (n == 26) _ _ (λ is. (refl, λ other. absurd (cc)))
    (plainly (n == 26) (n == 27) _ _ refl refl
    (plainly (n == 26) (n == 28) _ _ refl refl
    (plainly (n == 26) (n == 29) _ _ refl refl
    (plainly (n == 26) (n == 66) _ _ refl refl
    (plainly (n == 26) (n == 71) EndlessChain WriteFailed refl refl (refl, λ other. refl))))))))))))

trouble_none : (t : Trouble) → (t.code == 26) ≡ false → is_refusal (trouble_status t).code ≡ false
trouble_none t other =
    ap (λ (b : Bool). is_refusal ((if b then plain WriteProtected else record { code = code_of_fault t.code; first = t.track; second = t.sector }).code)) other ∙ (code_told t.code).1 other

trouble_26 : (t : Trouble) (s : Status) → s ≡ trouble_status t → is_refusal s.code ≡ true → t.code ≡ 26
trouble_26 t s e is = elim (eqb_tells t.code 26) [
  | inl x ↦ x.1
  | inr x ↦ let z = sym (ap (λ (y : Status). is_refusal y.code) e ∙ trouble_none t x.0) ∙ is in absurd (cc)
]

-- a trouble that is told as a refusal is 26
pub refused_26 : (t : Trouble) (s : Status) (new : ToldStatus) → s ≡ trouble_status t → new ≡ record { status = s; told = 0 } → is_refusal new.status.code ≡ true → t.code ≡ 26
refused_26 t s new e told is = trouble_26 t s e (sym (ap (λ (x : ToldStatus). is_refusal x.status.code) told) ∙ is)

-- what is told is no refusal
pub not_refused : {P : Type 0} (s : Status) (new : ToldStatus) → new ≡ record { status = s; told = 0 } → is_refusal s.code ≡ false → is_refusal new.status.code ≡ true → P
not_refused s new told none is = let z = sym none ∙ sym (ap (λ (x : ToldStatus). is_refusal x.status.code) told) ∙ is in absurd (cc)

-- a plan that reads asks nothing of the disk
pub only_reads : {E : Type 0} (r : Result Plan E) (P : Type 0) → IfOk r (λ p. plan_writes p ≡ false) → IfOk r (λ p. plan_writes p ≡ true → P)
only_reads (Ok p) P reads = λ writes. let z = sym reads ∙ writes in absurd (cc)
only_reads (Err e) P reads = tt

-- ---- what is told

-- a trouble of the disk is told by a fault's number
pub trouble_told : (t : Trouble) (s : Status) → s ≡ trouble_status t → is_fault_number (code_number s.code) ≡ true
trouble_told t s e = ap (λ (x : Status). is_fault_number (code_number x.code)) e ∙ by_test (t.code == 26)
  where
    by_test : (b : Bool) → IsFault ((if b then plain WriteProtected else record { code = code_of_fault t.code; first = t.track; second = t.sector }).code)
    by_test true = refl
    by_test false = (code_told t.code).0

-- so a trouble isn't told as what isn't a fault
trouble_other : (t : Trouble) (s : Status) (code : Code) → is_fault_number (code_number code) ≡ false → s ≡ trouble_status t → s.code ≢ code
trouble_other t s code none e is = let z = sym none ∙ sym (ap (λ (x : Code). is_fault_number (code_number x)) is) ∙ trouble_told t s e in absurd (cc)

pub never_told : {A : Type 0} (r : Result A Status) (t : Trouble) (code : Code) → is_fault_number (code_number code) ≡ false → IsErrAnd r (λ s. s ≡ trouble_status t) → IfErr r (λ s. s.code ≢ code)
never_told (Ok x) t code none is = tt
never_told (Err s) t code none is = trouble_other t s code none is

pub trouble_never : {P : Type 0} (t : Trouble) (s : Status) (new : ToldStatus) (code : Code) → is_fault_number (code_number code) ≡ false → s ≡ trouble_status t → new ≡ record { status = s; told = 0 } → new.status.code ≡ code → P
trouble_never t s new code none e told is = absurd (trouble_other t s code none e (sym (ap (λ (x : ToldStatus). x.status.code) told) ∙ is))

-- nor is another code than the one that was meant
pub other_never : {P : Type 0} (s : Status) (new : ToldStatus) (code : Code) → s.code ≢ code → new ≡ record { status = s; told = 0 } → new.status.code ≡ code → P
other_never s new code not told is = absurd (not (sym (ap (λ (x : ToldStatus). x.status.code) told) ∙ is))
