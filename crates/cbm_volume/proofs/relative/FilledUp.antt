-- A file whose last bytes are those of fresh records: it has its records, and fresh ones after them.
use Rattle.std.proofs.Common.{◌≡◌, ℕ, zero, suc, ◌+◌, ◌-◌, ◌*◌, ◌/◌, ◌%◌, ◌<◌, ◌≤◌, List, ◌++◌, length, take, drop, get_or, refl, sym, ap, subst, ◌∙◌, arith, inl, inr}
use Rattle.std.specs.Prelude.{replicate, if◌then◌else◌, ◌==◌}
use Rattle.std.proofs.lemmas.Bool.{cases_lt}
use Rattle.std.proofs.lemmas.Grind.{same_number_lists}
use Rattle.std.proofs.lemmas.List.{length-append, length-take-le, length-drop, append-nil, get_or-take, get_or-drop, length-replicate}
use Rattle.std.proofs.lemmas.Nat.{le-div}
use Rattle.std.proofs.Math.Nat.{add-mul, add-mul-mod_self_right, add-div_right, div-eq_of_lt, div-mul-le_self, lt-div-mul-add}
use Rattle.cbm_file.specs.Records.{record_count}
use Rattle.cbm_relfile.specs.Making.{fresh_byte}
use Rattle.cbm_relfile.specs.Fresh.{fresh_in}
use Rattle.cbm_relfile.specs.Filling.{fresh_begin}
use Rattle.cbm_volume.specs.Blocks.{slices}
use Rattle.cbm_volume.proofs.held.Slices.{joined}
use Rattle.cbm_volume.proofs.relative.Fresh.{inside, afterwards, fresh_at}
use Rattle.cbm_volume.proofs.relative.Grown.{fresh, short_one, one_more, all_fresh, joined_length, records_grown}

-- how many whole records there are
pub slices_count : (most w : ℕ) (bytes : List ℕ) → 0 < w → length bytes ≤ most → length (slices most w bytes) ≡ length bytes / w
slices_count zero w bytes s h = sym (div-eq_of_lt {n = length bytes} {m = w} (omega (arith, h, s)))
slices_count (suc n) w bytes s h = elim (cases_lt (length bytes) w) [
  | inl short ↦ ap length (short_one n w bytes short) ∙ sym (div-eq_of_lt {n = length bytes} {m = w} short)
  | inr enough ↦
      (let left : length (drop w bytes) ≡ length bytes - w = length-drop w bytes in
      let whole : length bytes ≡ length (drop w bytes) + w = omega (arith, left, enough) in
      ap length (one_more n w bytes enough)
      ∙ ap suc (slices_count n w (drop w bytes) s (omega (arith, left, h, s)))
      ∙ omega (arith, ap (λ (m : ℕ). m / w) whole, add-div_right (length (drop w bytes)) {k = w} s))
]

-- fresh bytes counted from the first fresh record on
fresh_from : (w j k o : ℕ) → fresh_byte w (j + k) (j * w + o) ≡ fresh_byte w k o
fresh_from w j k o = elim (cases_lt o (k * w)) [
  | inl l ↦ inside w (j + k) (j * w + o) (omega (arith, l, add-mul j k w))
      ∙ ap (λ (m : ℕ). if m == 0 then 255 else 0) ((let e : j * w + o ≡ o + j * w = omega arith in ap (λ (m : ℕ). m % w) e) ∙ add-mul-mod_self_right o j w)
      ∙ sym (inside w k o l)
  | inr past ↦ afterwards w (j + k) (j * w + o) (omega (arith, past, add-mul j k w)) ∙ sym (afterwards w k o past)
]

-- the records of a file, and how far they go
record Counted (w b n r : ℕ) : Type 0 where
  fits : r * w ≤ n
  close : n < r * w + w
  fewer : r ≤ record_count w b

counted : (w b n r : ℕ) → 0 < w → n ≤ 254 * b → r ≡ n / w → Counted w b n r
counted w b n r s few e =
    let fits : r * w ≤ n = subst (λ (m : ℕ). m * w ≤ n) (sym e) (div-mul-le_self n w) in
    record {
      fits = fits;
      close = subst (λ (m : ℕ). n < m * w + w) (sym e) (lt-div-mul-add {a = n} {b = w} s);
      fewer = le-div r (254 * b) w s (omega (arith, fits, few));
    }

-- THE FILE IS FILLED UP: its bytes stay up to the end of its last whole record, and are fresh from there on to the end of its blocks
pub filled_records : (w b : ℕ) (bytes bytes' : List ℕ) → 0 < w → length bytes ≤ 254 * b → length bytes' ≡ 254 * b → ((o : ℕ) → o < fresh_begin w (length bytes) → get_or bytes' o 0 ≡ get_or bytes o 0)
    → ((o : ℕ) → fresh_begin w (length bytes) ≤ o → o < 254 * b → get_or bytes' o 0 ≡ fresh_in w b o)
    → slices (length bytes') w bytes' ≡ slices (length bytes) w bytes ++ replicate (record_count w b - length (slices (length bytes) w bytes)) (fresh w)
filled_records w b bytes bytes' s few full front back =
    let r : ℕ = length (slices (length bytes) w bytes) in
    let n : ℕ = r * w in
    let count : r ≡ length bytes / w = slices_count (length bytes) w bytes s (omega arith) in
    let at : n ≡ fresh_begin w (length bytes) = ap (λ (m : ℕ). m * w) count in
    let g = counted w b (length bytes) r s few count in
    let j : ℕ = record_count w b - r in
    let all : r + j ≡ record_count w b = omega (arith, g.fewer) in
    let spread : (r + j) * w ≡ n + j * w = add-mul r j w in
    let room : n + j * w ≤ 254 * b = omega (arith, spread, ap (λ (m : ℕ). m * w) all, div-mul-le_self (254 * b) w) in
    let close : 254 * b < n + j * w + w = omega (arith, spread, ap (λ (m : ℕ). m * w) all, lt-div-mul-add {a = 254 * b} {b = w} s) in
    let tail : ℕ = 254 * b - (n + j * w) in
    let zeros_long : length (replicate {A = ℕ} tail 0) ≡ tail = length-replicate {A = ℕ} tail 0 in
    let fresh_long : length (joined (replicate j (fresh w))) ≡ j * w = joined_length w (replicate j (fresh w)) (all_fresh w j s) ∙ ap (λ (m : ℕ). m * w) (length-replicate j (fresh w)) in
    let old_front : length (take n bytes) ≡ n = length-take-le n bytes g.fits in
    let new_front : length (take n bytes') ≡ n = length-take-le n bytes' (omega (arith, full, room)) in
    let rest : length (drop n bytes') ≡ 254 * b - n = omega (arith, length-drop n bytes', full) in
    records_grown w j bytes bytes' (replicate tail 0) s
    (same_number_lists (take n bytes') (take n bytes) (omega (arith, old_front, new_front)) (λ k h. (let l : k < n = omega (arith, h, new_front) in
    get_or-take n bytes' k 0 l ∙ front k (omega (arith, l, at)) ∙ sym (get_or-take n bytes k 0 l))))
    (same_number_lists (drop n bytes') (joined (replicate j (fresh w)) ++ replicate tail 0) (omega (arith, rest, length-append (joined (replicate j (fresh w))) (replicate tail 0), fresh_long, zeros_long, room))
    (λ k h. get_or-drop n bytes' k 0 ∙ back (n + k) (omega (arith, at)) (omega (arith, h, rest)) ∙ ap (λ (m : ℕ). fresh_byte w m (n + k)) (sym all) ∙ fresh_from w r j k ∙ sym (fresh_at w j tail k s)))
    (omega (arith, zeros_long, close))

-- another tail after the last whole record changes no record
pub same_records : (w : ℕ) (bytes bytes' : List ℕ) → 0 < w → length bytes' ≡ length bytes → ((o : ℕ) → o < fresh_begin w (length bytes) → get_or bytes' o 0 ≡ get_or bytes o 0) → slices (length bytes') w bytes' ≡ slices (length bytes) w bytes
same_records w bytes bytes' s same front =
    let r : ℕ = length (slices (length bytes) w bytes) in
    let n : ℕ = r * w in
    let count : r ≡ length bytes / w = slices_count (length bytes) w bytes s (omega arith) in
    let at : n ≡ fresh_begin w (length bytes) = ap (λ (m : ℕ). m * w) count in
    let fits : n ≤ length bytes = omega (arith, at, div-mul-le_self (length bytes) w) in
    let close : length bytes < n + w = omega (arith, at, lt-div-mul-add {a = length bytes} {b = w} s) in
    let old_front : length (take n bytes) ≡ n = length-take-le n bytes fits in
    let new_front : length (take n bytes') ≡ n = length-take-le n bytes' (omega (arith, same, fits)) in
    records_grown w 0 bytes bytes' (drop n bytes') s
    (same_number_lists (take n bytes') (take n bytes) (omega (arith, old_front, new_front)) (λ k h. (let l : k < n = omega (arith, h, new_front) in
    get_or-take n bytes' k 0 l ∙ front k (omega (arith, l, at)) ∙ sym (get_or-take n bytes k 0 l))))
    refl (omega (arith, length-drop n bytes', same, close, fits))
    ∙ append-nil (slices (length bytes) w bytes)
