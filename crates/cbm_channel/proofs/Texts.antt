-- Of a text for channel 15 the first 256 bytes tell all.
use Rattle.std.proofs.Common.{◌≡◌, ◌≢◌, ℕ, zero, suc, ◌+◌, ◌≤◌, Bool, true, false, List, [], ◌∷◌, ◌++◌, length, take, refl, sym, ap, ◌∙◌, arith, inl, inr}
use Rattle.std.specs.Prelude.{◌==◌, nat_lt, if◌then◌else◌, Result, Ok, Err}
use Rattle.std.proofs.lemmas.Bool.{cases_lt, ne_eqb}
use Rattle.std.proofs.lemmas.Bool.Decides.{nat_tests}
use Rattle.cbm_command.specs.declared.command.Command.{Command}
use Rattle.cbm_command.specs.declared.refusal.Refusal.{Refusal}
use Rattle.cbm_command.specs.declared.refusal.Refusal.TheVariants.{LongText}
use Rattle.cbm_command.specs.Commands.{command_of}
use Rattle.cbm_command.specs.Refusals.{◌>>=◌}
use Rattle.cbm_machine.specs.Codes.{code_of_refusal}
use Rattle.cbm_machine.specs.Machines.{Machine, say, answered}
use Rattle.cbm_machine.specs.Plans.{asked}
use Rattle.cbm_machine.specs.Running.{run}
use Rattle.cbm_machine.specs.Calls.{without_return, command, command_text}
use Rattle.cbm_channel.specs.Commanded.{formats}
use Rattle.cbm_channel.proofs.Kept.{take_all}

take_length : (n : ℕ) (xs : List ℕ) → n ≤ length xs → length (take n xs) ≡ n
take_length zero xs h = refl
take_length (suc n) [] h = absurd (omega (arith, h))
take_length (suc n) (x ∷ xs) h = ap suc (take_length n xs (omega (arith, h)))

pub some_kept : (xs : List ℕ) → 1 ≤ length (take 256 xs) → 1 ≤ length xs
some_kept [] h = h
some_kept (x ∷ xs) h = omega arith

one_return : (c : ℕ) (b : Bool) → length (if b then [] else c ∷ []) ≤ 1
one_return c true = omega arith
one_return c false = omega arith

-- at most one byte is dropped
shorter_by_one : (xs : List ℕ) → length xs ≤ length (without_return xs) + 1
shorter_by_one [] = omega arith
shorter_by_one (c ∷ []) = omega arith
shorter_by_one (c ∷ d ∷ xs) = omega (arith, shorter_by_one (d ∷ xs))

-- ---- what a text that isn't empty leads to

pub refused : (w : List ℕ) (e : Refusal) (m : Machine) → 1 ≤ length w → command_of w ≡ Err e → command_text w m ≡ say (code_of_refusal e) m
refused [] e m some is = absurd (omega (arith, some))
refused (c ∷ w) e m some is = ap (λ (r : Result Command Refusal). answered m (asked r >>= λ x. run x m)) is

pub asked_for : (w : List ℕ) (x : Command) (m : Machine) → 1 ≤ length w → command_of w ≡ Ok x → command_text w m ≡ answered m (run x m)
asked_for [] x m some is = absurd (omega (arith, some))
asked_for (c ∷ w) x m some is = ap (λ (r : Result Command Refusal). answered m (asked r >>= λ y. run y m)) is

-- ---- long texts

long_of : (xs : List ℕ) → 59 ≤ length xs → command_of xs ≡ Err LongText
long_of xs h =
    let over : nat_lt 58 (length xs) ≡ true = grind (arith, nat_tests, h) in
    rw over refl

long_said : (xs : List ℕ) (m : Machine) → 59 ≤ length xs → command_text xs m ≡ say (code_of_refusal LongText) m
long_said xs m h = refused xs LongText m (omega (arith, h)) (long_of xs h)

pub command_kept : (w : List ℕ) (m : Machine) → command w m ≡ command (take 256 w) m
command_kept w m = elim (cases_lt 256 (length w)) [
  | inl over ↦ (let a : 59 ≤ length (without_return w) = omega (arith, over, shorter_by_one w) in
      let b : 59 ≤ length (without_return (take 256 w)) = omega (arith, take_length 256 w (omega (arith, over)), shorter_by_one (take 256 w)) in
      long_said (without_return w) m a ∙ sym (long_said (without_return (take 256 w)) m b))
  | inr short ↦ ap (λ x. command x m) (sym (take_all 256 w (omega (arith, short))))
]

-- whether what was read is NEW
abbrev pub formats_of : Result Command Refusal → Bool
formats_of (Ok command) = formats command
formats_of (Err e) = false

-- a text that isn't empty
pub not_empty : (xs : List ℕ) → (length xs == 0) ≡ false → 1 ≤ length xs
not_empty [] h = absurd (cc)
not_empty (x ∷ xs) h = omega arith

-- a return at the end is dropped, another byte stays
pub return_dropped : (xs : List ℕ) → without_return (xs ++ 13 ∷ []) ≡ xs
return_dropped [] = refl
return_dropped (x ∷ []) = refl
return_dropped (x ∷ y ∷ xs) = ap (λ zs. x ∷ zs) (return_dropped (y ∷ xs))

pub last_stays : (xs : List ℕ) (b : ℕ) → b ≢ 13 → without_return (xs ++ b ∷ []) ≡ xs ++ b ∷ []
last_stays [] b ne = rw (ne_eqb b 13 ne) refl
last_stays (x ∷ []) b ne = rw (ne_eqb b 13 ne) refl
last_stays (x ∷ y ∷ xs) b ne = ap (λ zs. x ∷ zs) (last_stays (y ∷ xs) b ne)
