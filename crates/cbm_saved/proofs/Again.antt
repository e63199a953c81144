-- Numbers and texts that were saved are read again.
use Rattle.std.proofs.Common.{◌≡◌, ℕ, ◌/◌, ◌%◌, List, ◌++◌, length, Option, Some, refl, ap, ◌∙◌, arith}
use Rattle.std.proofs.lemmas.Bool.{le-ltb}
use Rattle.std.proofs.lemmas.List.{take_at, drop_at, length-append}
use Rattle.cbm_saved.specs.Numbers.{two, pair_at, number_of_two, eight_bytes, eight_at, number_of_eight}
use Rattle.cbm_saved.specs.Texts.{counted_text, text_at, front_of}

pub two_back : (n : ℕ) → number_of_two (n % 256) (n / 256) ≡ n
two_back n = omega arith

pub two_again : (n : ℕ) (rest : List ℕ) → pair_at (two n ++ rest) ≡ Some (n, rest)
two_again n rest = ap (λ (k : ℕ). Some (k, rest)) (two_back n)

pub eight_back : (n : ℕ) → number_of_eight (n % 256) (n / 256 % 256) (n / 65536 % 256) (n / 16777216 % 256)
    (n / 4294967296 % 256) (n / 1099511627776 % 256) (n / 281474976710656 % 256) (n / 72057594037927936) ≡ n
eight_back n = omega arith

pub eight_again : (n : ℕ) (rest : List ℕ) → eight_at (eight_bytes n ++ rest) ≡ Some (n, rest)
eight_again n rest = ap (λ (k : ℕ). Some (k, rest)) (eight_back n)

pub front_again : (bytes rest : List ℕ) → front_of (length bytes) (bytes ++ rest) ≡ Some (bytes, rest)
front_again bytes rest =
    rw (le-ltb (length (bytes ++ rest)) (length bytes) (omega (arith, length-append bytes rest)), take_at bytes rest (length bytes) refl, drop_at bytes rest (length bytes) refl) refl

pub text_again : (bytes rest : List ℕ) → text_at (counted_text bytes ++ rest) ≡ Some (bytes, rest)
text_again bytes rest = ap (λ (k : ℕ). front_of k (bytes ++ rest)) (two_back (length bytes)) ∙ front_again bytes rest
