-- The sectors that pass a test, a sector and a track at a time.
use Rattle.std.proofs.Common.{◌≡◌, ℕ, suc, ◌+◌, List, [], ◌++◌, Bool, refl, sym, ap, ◌∙◌, arith, append_assoc, append-nil}
use Rattle.cbm_medium.specs.Place.{Place, sectors_on}
use Rattle.cbm_shell.specs.Passing.{place_if, places_on, places_in}

pub places_on-none : (xs : List Place) (test : Place → Bool) (track : ℕ) → xs ≡ xs ++ places_on test track 0
unfolding places_on
places_on-none xs test track = sym (append-nil xs)

places_on-next : (test : Place → Bool) (track n : ℕ) → places_on test track (n + 1) ≡ places_on test track n ++ place_if (test (record { track = track; sector = n })) (record { track = track; sector = n })
unfolding places_on
places_on-next test track n = ap (places_on test track) (let e : n + 1 ≡ suc n = omega arith in e)

pub places_on-more : (xs ys zs : List Place) (test : Place → Bool) (track n : ℕ) (at : Place) (b : Bool) → ys ≡ xs ++ places_on test track n → b ≡ test at → zs ≡ ys ++ place_if b at
    → at ≡ record { track = track; sector = n } → zs ≡ xs ++ places_on test track (n + 1)
places_on-more xs ys zs test track n at b before is added same =
    added ∙ ap (λ (c : Bool). ys ++ place_if c at) is ∙ ap (λ (p : Place). ys ++ place_if (test p) p) same
    ∙ ap (λ (l : List Place). l ++ place_if (test (record { track = track; sector = n })) (record { track = track; sector = n })) before
    ∙ append_assoc xs (places_on test track n) (place_if (test (record { track = track; sector = n })) (record { track = track; sector = n }))
    ∙ ap (λ (l : List Place). xs ++ l) (sym (places_on-next test track n))

pub places_in-none : (test : Place → Bool) → [] ≡ places_in test 0
unfolding places_in
places_in-none test = refl

pub places_in-more : (xs ys : List Place) (test : Place → Bool) (n : ℕ) → xs ≡ places_in test n → ys ≡ xs ++ places_on test (n + 1) (sectors_on (n + 1)) → ys ≡ places_in test (n + 1)
unfolding places_in
places_in-more xs ys test n before added =
    let next : n + 1 ≡ suc n = omega arith in
    added ∙ ap (λ (l : List Place). l ++ places_on test (n + 1) (sectors_on (n + 1))) before
    ∙ ap (λ (k : ℕ). places_in test n ++ places_on test k (sectors_on k)) next
    ∙ sym (ap (places_in test) next)
