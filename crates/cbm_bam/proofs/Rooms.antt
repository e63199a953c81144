-- Track 18 has a sector for the directory exactly where its room isn't none.
use Rattle.std.proofs.Common.{◌≡◌, ℕ, ◌<◌, List, [], ◌∷◌, Bool, true, false, refl, sym, ap, subst, ◌∙◌, arith, Option, Some, None}
use Rattle.std.specs.Prelude.{find, is_some, nat_lt}
use Rattle.std.specs.List.{list_all}
use Rattle.std.proofs.lemmas.Bool.{lt-ltb, le-ltb}
use Rattle.cbm_medium.specs.Place.{Place, directory_head}
use Rattle.cbm_bam.specs.Map.{at, one_if, tally}
use Rattle.cbm_bam.specs.Orders.{on_18, directory_order}
use Rattle.cbm_bam.proofs.Counts.{tally_less}
use Rattle.cbm_bam.proofs.Rings.{Each, FoundIs, found_is, IsTaken, none_each}

-- one of the nineteen sectors of track 18
abbrev IsOf18 : Place → Type 0
IsOf18 p = (p.track ≡ 18) × (p.sector < 19)

each_of_18 : (sectors : List ℕ) → list_all (λ s. nat_lt s 19) sectors ≡ true → Each IsOf18 (on_18 sectors)
each_of_18 [] h = tt
each_of_18 (s ∷ rest) h = ((refl, grind arith), each_of_18 rest (grind arith))

order_is : directory_order ≡ on_18 (1 ∷ 4 ∷ 7 ∷ 10 ∷ 13 ∷ 16 ∷ 2 ∷ 5 ∷ 8 ∷ 11 ∷ 14 ∷ 17 ∷ 3 ∷ 6 ∷ 9 ∷ 12 ∷ 15 ∷ 18 ∷ [])
unfolding directory_order
order_is = refl

-- no room where none is found
none_room : (f : Place → Bool) → f directory_head ≡ false → Each (IsTaken f) (on_18 (1 ∷ 4 ∷ 7 ∷ 10 ∷ 13 ∷ 16 ∷ 2 ∷ 5 ∷ 8 ∷ 11 ∷ 14 ∷ 17 ∷ 3 ∷ 6 ∷ 9 ∷ 12 ∷ 15 ∷ 18 ∷ [])) → tally f 18 19 ≡ 0
none_room f head h =
    let a0 : one_if (f (at 18 0)) ≡ 0 = ap one_if head in
    let a1 : one_if (f (at 18 1)) ≡ 0 = ap one_if h.0 in
    let a4 : one_if (f (at 18 4)) ≡ 0 = ap one_if h.1.0 in
    let a7 : one_if (f (at 18 7)) ≡ 0 = ap one_if h.1.1.0 in
    let a10 : one_if (f (at 18 10)) ≡ 0 = ap one_if h.1.1.1.0 in
    let a13 : one_if (f (at 18 13)) ≡ 0 = ap one_if h.1.1.1.1.0 in
    let a16 : one_if (f (at 18 16)) ≡ 0 = ap one_if h.1.1.1.1.1.0 in
    let a2 : one_if (f (at 18 2)) ≡ 0 = ap one_if h.1.1.1.1.1.1.0 in
    let a5 : one_if (f (at 18 5)) ≡ 0 = ap one_if h.1.1.1.1.1.1.1.0 in
    let a8 : one_if (f (at 18 8)) ≡ 0 = ap one_if h.1.1.1.1.1.1.1.1.0 in
    let a11 : one_if (f (at 18 11)) ≡ 0 = ap one_if h.1.1.1.1.1.1.1.1.1.0 in
    let a14 : one_if (f (at 18 14)) ≡ 0 = ap one_if h.1.1.1.1.1.1.1.1.1.1.0 in
    let a17 : one_if (f (at 18 17)) ≡ 0 = ap one_if h.1.1.1.1.1.1.1.1.1.1.1.0 in
    let a3 : one_if (f (at 18 3)) ≡ 0 = ap one_if h.1.1.1.1.1.1.1.1.1.1.1.1.0 in
    let a6 : one_if (f (at 18 6)) ≡ 0 = ap one_if h.1.1.1.1.1.1.1.1.1.1.1.1.1.0 in
    let a9 : one_if (f (at 18 9)) ≡ 0 = ap one_if h.1.1.1.1.1.1.1.1.1.1.1.1.1.1.0 in
    let a12 : one_if (f (at 18 12)) ≡ 0 = ap one_if h.1.1.1.1.1.1.1.1.1.1.1.1.1.1.1.0 in
    let a15 : one_if (f (at 18 15)) ≡ 0 = ap one_if h.1.1.1.1.1.1.1.1.1.1.1.1.1.1.1.1.0 in
    let a18 : one_if (f (at 18 18)) ≡ 0 = ap one_if h.1.1.1.1.1.1.1.1.1.1.1.1.1.1.1.1.1.0 in
    omega arith

-- some room where one is found
some_room : (f : Place → Bool) (p : Place) → f p ≡ true → p.track ≡ 18 → p.sector < 19 → 0 < tally f 18 19
some_room f p h on small =
    let less = tally_less f p 19 small h in
    subst (λ (t : ℕ). 0 < tally f t 19) on (omega (arith, less))

-- THERE IS ROOM exactly where a sector is found
pub room_found : (f : Place → Bool) → f directory_head ≡ false → is_some (find f directory_order) ≡ nat_lt 0 (tally f 18 19)
room_found f head = by_find (find f directory_order) refl (subst (λ (xs : List Place). FoundIs f IsOf18 (find f xs)) (sym order_is) (found_is f IsOf18 (on_18 (1 ∷ 4 ∷ 7 ∷ 10 ∷ 13 ∷ 16 ∷ 2 ∷ 5 ∷ 8 ∷ 11 ∷ 14 ∷ 17 ∷ 3 ∷ 6 ∷ 9 ∷ 12 ∷ 15 ∷ 18 ∷ [])) (each_of_18 (1 ∷ 4 ∷ 7 ∷ 10 ∷ 13 ∷ 16 ∷ 2 ∷ 5 ∷ 8 ∷ 11 ∷ 14 ∷ 17 ∷ 3 ∷ 6 ∷ 9 ∷ 12 ∷ 15 ∷ 18 ∷ []) refl)))
  where
    by_find : (o : Option Place) → find f directory_order ≡ o → FoundIs f IsOf18 (find f directory_order) → is_some (find f directory_order) ≡ nat_lt 0 (tally f 18 19)
    by_find None e k = ap is_some e ∙ sym (le-ltb 0 (tally f 18 19) (omega (arith, none_room f head (none_each f (on_18 (1 ∷ 4 ∷ 7 ∷ 10 ∷ 13 ∷ 16 ∷ 2 ∷ 5 ∷ 8 ∷ 11 ∷ 14 ∷ 17 ∷ 3 ∷ 6 ∷ 9 ∷ 12 ∷ 15 ∷ 18 ∷ [])) (ap (find f) (sym order_is) ∙ e)))))
    by_find (Some p) e k =
        let found : FoundIs f IsOf18 (Some p) = subst (FoundIs f IsOf18) e k in
        ap is_some e ∙ sym (lt-ltb 0 (tally f 18 19) (some_room f p found.0 found.1.0 found.1.1))
