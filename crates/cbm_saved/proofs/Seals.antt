-- What is under a seal is what it was made for.
use Rattle.std.proofs.Common.{◌≡◌, ℕ, ◌/◌, ◌%◌, ◌&&◌, List, length, Option, Some, refl, ap, ◌∙◌, sym, arith}
use Rattle.std.specs.Prelude.{◌==◌, if◌then◌else◌, None, Bool, true, false}
use Rattle.std.proofs.lemmas.Bool.{eq-eqb}
use Rattle.cbm_saved.specs.Numbers.{number_of_four}
use Rattle.cbm_saved.specs.Seals.{checksum, is_whole, seal_opened, sealed}

number_back : (n : ℕ) → number_of_four (n % 256) (n / 256 % 256) (n / 65536 % 256) (n / 16777216) ≡ n
number_back n = omega arith

both : (a b : Bool) → a ≡ true → b ≡ true → (a && b) ≡ true
both true true e f = refl
both true false e f = f
both false b e f = e

whole : (count sum : ℕ) (body : List ℕ) → count ≡ length body → sum ≡ checksum body → is_whole count sum body ≡ true
whole count sum body e f = both (length body == count) (checksum body == sum) (eq-eqb _ _ (sym e)) (eq-eqb _ _ (sym f))

pub seal_opens : (version : ℕ) (body : List ℕ) → seal_opened version (sealed version body) ≡ Some body
seal_opens version body = ap (λ (b : Bool). if b then Some body else None)
    (both (version == version) _ (eq-eqb version version refl)
    (whole _ _ body (number_back (length body)) (number_back (checksum body))))
