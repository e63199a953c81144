-- No call but a format changes how many tracks a disk uses.
use Rattle.std.proofs.Common.{◌≡◌, ℕ, ◌+◌, ◌*◌, ◌/◌, ◌%◌, ◌≤◌, List, get_or, Bool, true, false, refl, sym, ap, ◌∙◌, arith, inl, inr}
use Rattle.std.specs.Prelude.{◌==◌, ◌&&◌}
use Rattle.std.specs.Int.{bit_at}
use Rattle.std.proofs.lemmas.Bool.{eq-eqb, le-ltb}
use Rattle.cbm_medium.specs.Place.{Place}
use Rattle.cbm_bam.specs.Map.{count_index, is_free_in, count_in, tally, IsCounted, IsMapped, is_wide, tracks_if, geometry, at}
use Rattle.cbm_bam.proofs.Counts.{tally_same}

-- the map of a sound disk of forty tracks tells of them
pub wide : (map : List ℕ) → IsCounted 40 map → is_wide map ≡ true
wide map h =
    let a : (count_in map 36 == tally (is_free_in map) 36 17) ≡ true = eq-eqb (count_in map 36) (tally (is_free_in map) 36 17) (h 36 (omega arith) (omega arith)) in
    let b : (count_in map 37 == tally (is_free_in map) 37 17) ≡ true = eq-eqb (count_in map 37) (tally (is_free_in map) 37 17) (h 37 (omega arith) (omega arith)) in
    let c : (count_in map 38 == tally (is_free_in map) 38 17) ≡ true = eq-eqb (count_in map 38) (tally (is_free_in map) 38 17) (h 38 (omega arith) (omega arith)) in
    let d : (count_in map 39 == tally (is_free_in map) 39 17) ≡ true = eq-eqb (count_in map 39) (tally (is_free_in map) 39 17) (h 39 (omega arith) (omega arith)) in
    let e : (count_in map 40 == tally (is_free_in map) 40 17) ≡ true = eq-eqb (count_in map 40) (tally (is_free_in map) 40 17) (h 40 (omega arith) (omega arith)) in
    simp (a, b, c, d, e)

high : (t : ℕ) → 36 ≤ t → count_index t ≡ 4 * t + 48
unfolding count_index
high t h = rw (le-ltb t 36 h) refl

bits_stay : (old new : List ℕ) (p : Place) → 36 ≤ p.track → ((i : ℕ) → 144 ≤ i → get_or new i 0 ≡ get_or old i 0) → is_free_in new p ≡ is_free_in old p
unfolding is_free_in
bits_stay old new p h same = ap (λ (v : ℕ). bit_at v (p.sector % 8) == 1) (same (count_index p.track + 1 + p.sector / 8) (omega (arith, high p.track h)))

count_stays : (old new : List ℕ) (t : ℕ) → 36 ≤ t → ((i : ℕ) → 144 ≤ i → get_or new i 0 ≡ get_or old i 0) → count_in new t ≡ count_in old t
unfolding count_in
count_stays old new t h same = same (count_index t) (omega (arith, high t h))

one : (old new : List ℕ) (t : ℕ) → 36 ≤ t → ((i : ℕ) → 144 ≤ i → get_or new i 0 ≡ get_or old i 0) → (count_in new t == tally (is_free_in new) t 17) ≡ (count_in old t == tally (is_free_in old) t 17)
one old new t h same = ap (λ (x : ℕ). x == tally (is_free_in new) t 17) (count_stays old new t h same)
    ∙ ap (λ (x : ℕ). count_in old t == x) (tally_same (is_free_in new) (is_free_in old) t 17 (λ s k. bits_stay old new (at t s) h same))

-- a write of the map of 35 tracks leaves the rest
pub narrow : (old new : List ℕ) (free : Place → Bool) → IsMapped 35 old new free → is_wide new ≡ is_wide old
narrow old new free m =
    let same : (i : ℕ) → 144 ≤ i → get_or new i 0 ≡ get_or old i 0 = λ i h. m.outside i (inr (h, inl (omega arith))) in
    simp (one old new 36 (omega arith) same, one old new 37 (omega arith) same, one old new 38 (omega arith) same, one old new 39 (omega arith) same, one old new 40 (omega arith) same)

-- THE GEOMETRY STAYS at each write of the map
pub geometry_stays : (medium : ℕ) (old new : List ℕ) (free : Place → Bool) → IsCounted (geometry medium old) old → IsMapped (geometry medium old) old new free → geometry medium new ≡ geometry medium old
geometry_stays medium old new free c m = go (medium == 40) (is_wide old) refl c m
  where
    go : (a b : Bool) → is_wide old ≡ b → IsCounted (tracks_if (a && b)) old → IsMapped (tracks_if (a && b)) old new free → tracks_if (a && is_wide new) ≡ tracks_if (a && is_wide old)
    go true true e c m = ap tracks_if (wide new (m.counted c) ∙ sym e)
    go true false e c m = ap tracks_if (narrow old new free m)
    go false b e c m = refl
