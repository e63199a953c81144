-- A map whose counts are right anew, and that is as it was outside its rows, tells of as many tracks.
use Rattle.std.proofs.Common.{◌≡◌, ℕ, ◌+◌, ◌*◌, ◌/◌, ◌%◌, ◌≤◌, List, get_or, Bool, true, false, Ok, refl, sym, ap, subst, ◌∙◌, arith, inl, inr}
use Rattle.std.specs.Prelude.{◌==◌, ◌&&◌, slice_index}
use Rattle.std.specs.Int.{bit_at}
use Rattle.std.proofs.lemmas.Bool.{le-ltb}
use Rattle.cbm_medium.specs.Place.{Place, directory_head}
use Rattle.cbm_medium.specs.Content.{Content}
use Rattle.cbm_bam.specs.Map.{count_index, is_free_in, count_in, tally, IsCounted, IsOutsideMap, is_wide, tracks_if, geometry, geometry_in, geometry_of, at}
use Rattle.cbm_bam.proofs.Counts.{tally_same}
use Rattle.cbm_bam.proofs.Geometries.{wide}

pub record IsRecounted (tracks : ℕ) (old new : List ℕ) : Type 0 where
  pub counted : IsCounted tracks new
  pub outside : (i : ℕ) → IsOutsideMap tracks i → slice_index new i ≡ slice_index old i

high : (t : ℕ) → 36 ≤ t → count_index t ≡ 4 * t + 48
unfolding count_index
high t h = rw (le-ltb t 36 h) refl

bits_stay : (old new : List ℕ) (p : Place) → 36 ≤ p.track → ((i : ℕ) → 144 ≤ i → get_or new i 0 ≡ get_or old i 0) → is_free_in new p ≡ is_free_in old p
unfolding is_free_in
bits_stay old new p h same = ap (λ (v : ℕ). bit_at v (p.sector % 8) == 1) (same (count_index p.track + 1 + p.sector / 8) (omega (arith, high p.track h)))

count_stays : (old new : List ℕ) (t : ℕ) → 36 ≤ t → ((i : ℕ) → 144 ≤ i → get_or new i 0 ≡ get_or old i 0) → count_in new t ≡ count_in old t
unfolding count_in
count_stays old new t h same = same (count_index t) (omega (arith, high t h))

one : (old new : List ℕ) (t : ℕ) → 36 ≤ t → ((i : ℕ) → 144 ≤ i → get_or new i 0 ≡ get_or old i 0) → (count_in new t == tally (is_free_in new) t 17) ≡ (count_in old t == tally (is_free_in old) t 17)
one old new t h same = ap (λ (x : ℕ). x == tally (is_free_in new) t 17) (count_stays old new t h same)
    ∙ ap (λ (x : ℕ). count_in old t == x) (tally_same (is_free_in new) (is_free_in old) t 17 (λ s k. bits_stay old new (at t s) h same))

narrow : (old new : List ℕ) → IsRecounted 35 old new → is_wide new ≡ is_wide old
narrow old new m =
    let same : (i : ℕ) → 144 ≤ i → get_or new i 0 ≡ get_or old i 0 = λ i h. m.outside i (inr (h, inl (omega arith))) in
    simp (one old new 36 (omega arith) same, one old new 37 (omega arith) same, one old new 38 (omega arith) same, one old new 39 (omega arith) same, one old new 40 (omega arith) same)

map_geometry : (medium : ℕ) (old new : List ℕ) → IsRecounted (geometry medium old) old new → geometry medium new ≡ geometry medium old
map_geometry medium old new m = go (medium == 40) (is_wide old) refl m
  where
    go : (a b : Bool) → is_wide old ≡ b → IsRecounted (tracks_if (a && b)) old new → tracks_if (a && is_wide new) ≡ tracks_if (a && is_wide old)
    go true true e m = ap tracks_if (wide new m.counted ∙ sym e)
    go true false e m = ap tracks_if (narrow old new m)
    go false b e m = refl

-- THE GEOMETRY STAYS
pub recounted_geometry : (medium : ℕ) (c c' : Content) (old new : List ℕ) → c directory_head ≡ Ok old → c' directory_head ≡ Ok new → IsRecounted (geometry_of medium c) old new → geometry_of medium c' ≡ geometry_of medium c
recounted_geometry medium c c' old new a b m =
    let g : geometry_of medium c ≡ geometry medium old = ap (geometry_in medium) a in
    ap (geometry_in medium) b ∙ map_geometry medium old new (subst (λ (n : ℕ). IsRecounted n old new) g m) ∙ sym g
