-- The tables of nibbles, place by place.
use Rattle.std.proofs.Common.{◌≡◌, ◌∙◌, ℕ, ◌*◌, ◌/◌, ◌<◌, [], ◌∷◌, get_or, refl, sym, ap, Bool, true, ltb, eqb, lt-ltb, eqb-true}
use Rattle.std.specs.Prelude.{◌||◌, not}
use Rattle.std.proofs.lemmas.Bool.{agree_below_at, ltb-true}
use Rattle.cbm_gcr.specs.Code.{nibble_code}

-- where a table has a byte, what a test says of each of its 32 places it says of one
said : (table : ℕ → ℕ) (test : ℕ → Bool) (five : ℕ) → table five < 256 → (not (ltb (table five) 256) || test five) ≡ true → test five ≡ true
said table test five l e = sym (ap (λ (b : Bool). not b || test five) (lt-ltb (table five) 256 l)) ∙ e

abbrev pub low : ℕ → ℕ
low five = get_or (256 ∷ 256 ∷ 256 ∷ 256 ∷ 256 ∷ 256 ∷ 256 ∷ 256 ∷ 256 ∷ 8 ∷ 0 ∷ 1 ∷ 256 ∷ 12 ∷ 4 ∷ 5 ∷ 256 ∷ 256 ∷ 2 ∷ 3 ∷ 256 ∷ 15 ∷ 6 ∷ 7 ∷ 256 ∷ 9 ∷ 10 ∷ 11 ∷ 256 ∷ 13 ∷ 14 ∷ 256 ∷ []) five 0

pub low_small : (five : ℕ) → five < 32 → low five < 256 → low five < 16
low_small five h l = ltb-true (low five) 16 (said low (λ f. ltb (low f) 16) five l
    (agree_below_at (λ f. not (ltb (low f) 256) || ltb (low f) 16) (λ f. true) 32 five refl h))

pub low_code : (five : ℕ) → five < 32 → low five < 256 → five ≡ nibble_code (low five)
low_code five h l = eqb-true five (nibble_code (low five)) (said low (λ f. eqb f (nibble_code (low f))) five l
    (agree_below_at (λ f. not (ltb (low f) 256) || eqb f (nibble_code (low f))) (λ f. true) 32 five refl h))

pub low_most : (five : ℕ) → five < 32 → low five < 257
low_most five h = ltb-true (low five) 257 (agree_below_at (λ f. ltb (low f) 257) (λ f. true) 32 five refl h)

abbrev pub high : ℕ → ℕ
high five = get_or (256 ∷ 256 ∷ 256 ∷ 256 ∷ 256 ∷ 256 ∷ 256 ∷ 256 ∷ 256 ∷ 128 ∷ 0 ∷ 16 ∷ 256 ∷ 192 ∷ 64 ∷ 80 ∷ 256 ∷ 256 ∷ 32 ∷ 48 ∷ 256 ∷ 240 ∷ 96 ∷ 112 ∷ 256 ∷ 144 ∷ 160 ∷ 176 ∷ 256 ∷ 208 ∷ 224 ∷ 256 ∷ []) five 0

pub high_whole : (five : ℕ) → five < 32 → high five < 256 → high five ≡ 16 * (high five / 16)
high_whole five h l = eqb-true (high five) (16 * (high five / 16)) (said high (λ f. eqb (high f) (16 * (high f / 16))) five l
    (agree_below_at (λ f. not (ltb (high f) 256) || eqb (high f) (16 * (high f / 16))) (λ f. true) 32 five refl h))

pub high_code : (five : ℕ) → five < 32 → high five < 256 → five ≡ nibble_code (high five / 16)
high_code five h l = eqb-true five (nibble_code (high five / 16)) (said high (λ f. eqb f (nibble_code (high f / 16))) five l
    (agree_below_at (λ f. not (ltb (high f) 256) || eqb f (nibble_code (high f / 16))) (λ f. true) 32 five refl h))

pub high_most : (five : ℕ) → five < 32 → high five < 257
high_most five h = ltb-true (high five) 257 (agree_below_at (λ f. ltb (high f) 257) (λ f. true) 32 five refl h)
