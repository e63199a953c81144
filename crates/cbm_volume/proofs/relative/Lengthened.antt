-- The bytes of a file that has one data block more: those that were there up to the last whole record, and fresh ones from there on.
use Rattle.std.proofs.Common.{◌≡◌, ◌≢◌, ◌⊎◌, ℕ, zero, suc, ◌+◌, ◌-◌, ◌*◌, ◌/◌, ◌%◌, ◌<◌, ◌≤◌, List, [], ◌∷◌, ◌++◌, length, take, drop, get_or, Bool, Ok, refl, sym, ap, subst, ◌∙◌, arith, inl, inr}
use Rattle.std.specs.Prelude.{replicate, if◌then◌else◌, ◌==◌, nat_lt, slice_index}
use Rattle.std.proofs.lemmas.Bool.{cases_lt, eq-eqb, ne_eqb, lt-ltb, le-ltb}
use Rattle.std.proofs.lemmas.List.{append_assoc, append-nil, length-append, length-take, length-take-le, length-drop, length-replicate, get_or-take, get_or-drop, get_or_append_left, get_or-append_right, drop-drop, ext_get_or, take_all}
use Rattle.std.proofs.lemmas.Nat.{div-add-mod', div-mul-add, le-div}
use Rattle.std.proofs.Math.Nat.{suc-mul, add-mul-mod_self_right, mod-lt}
use Rattle.cbm_medium.specs.Place.{Place, directory_head}
use Rattle.cbm_medium.specs.Content.{Cell, Content}
use Rattle.cbm_medium.specs.Links.{bytes_at, or_nothing, link, Chain}
use Rattle.cbm_file.specs.Records.{record_count, fresh_record}
use Rattle.cbm_chain.specs.Data.{data_of, data_end, chain_bytes}
use Rattle.cbm_chain.specs.Writing.{last_of}
use Rattle.cbm_relfile.specs.Fresh.{fresh_in, full_end, IsFilledFrom}
use Rattle.cbm_relfile.specs.Growing.{fresh_place}
use Rattle.cbm_relfile.specs.Making.{fresh_byte}
use Rattle.cbm_relfile.specs.Records.{AllWhole}
use Rattle.cbm_relfile.proofs.Positions.{whole_bytes, full_length}
use Rattle.cbm_volume.specs.Blocks.{slices}
use Rattle.cbm_volume.proofs.layouts.Chained.{chain_distinct}
use Rattle.cbm_volume.proofs.held.Slices.{joined}
use Rattle.cbm_volume.proofs.relative.Fresh.{fresh_at}
use Rattle.cbm_volume.proofs.relative.Grown.{Split, short_one, one_more, slices_front, joined_length, all_fresh, records_grown}
use Rattle.cbm_volume.proofs.relative.Sides.{OnlyAt}

-- ---- the records of bytes that are fresh from the last whole record on

times_add : (w count j : ℕ) → (count + j) * w ≡ count * w + j * w
times_add w zero j = let z : 0 * w ≡ 0 = omega arith in omega (arith, z)
times_add w (suc count) j = omega (arith, times_add w count j, suc-mul count w, suc-mul (count + j) w)

-- a fresh byte counted from the first fresh record
fresh_moved : (w count j o : ℕ) → fresh_byte w (count + j) (count * w + o) ≡ fresh_byte w j o
fresh_moved w count j o =
    let all : (count + j) * w ≡ count * w + j * w = times_add w count j in
    (λ i. if nat_lt (count * w + o) (all i) then (if (count * w + o) % w == 0 then 255 else 0) else 0)
    ∙ ap (λ (b : Bool). if b then (if (count * w + o) % w == 0 then 255 else 0) else 0) (by_test (cases_lt o (j * w)))
    ∙ (let e : (count * w + o) % w ≡ o % w = (let z : count * w + o ≡ o + count * w = omega arith in ap (λ (m : ℕ). m % w) z) ∙ add-mul-mod_self_right o count w in ap (λ (m : ℕ). if nat_lt o (j * w) then (if m == 0 then 255 else 0) else 0) e)
  where
    by_test : (o < j * w) ⊎ (j * w ≤ o) → nat_lt (count * w + o) (count * w + j * w) ≡ nat_lt o (j * w)
    by_test (inl l) = lt-ltb (count * w + o) (count * w + j * w) (omega (arith, l)) ∙ sym (lt-ltb o (j * w) l)
    by_test (inr l) = le-ltb (count * w + o) (count * w + j * w) (omega (arith, l)) ∙ sym (le-ltb o (j * w) l)

-- THE RECORDS OF BYTES that were there up to the last whole record, and are fresh from there up to the end of b blocks
pub filled_records : (w b : ℕ) (bytes bytes' : List ℕ) (rs : List (List ℕ)) → 0 < w → slices (length bytes) w bytes ≡ rs → length bytes' ≡ 254 * b → length rs ≤ record_count w b
    → ((k : ℕ) → k < length rs * w → get_or bytes' k 0 ≡ get_or bytes k 0) → ((k : ℕ) → length rs * w ≤ k → k < 254 * b → get_or bytes' k 0 ≡ fresh_in w b k)
    → slices (length bytes') w bytes' ≡ rs ++ replicate (record_count w b - length rs) (fresh_record w)
filled_records w b bytes bytes' rs some sl size few front back =
    let count : ℕ = length rs in
    let most : ℕ = record_count w b in
    let j : ℕ = most - count in
    let m : ℕ = 254 * b - most * w in
    let n : ℕ = count * w in
    let split : Split w bytes rs = subst (Split w bytes) sl (slices_front (length bytes) w bytes) in
    let room : n ≤ length bytes = omega (arith, ap (λ (xs : List ℕ). length xs) split.front, length-append (joined rs) (drop n bytes), joined_length w rs split.all) in
    let sum : count + j ≡ most = omega (arith, few) in
    let times : most * w ≡ n + j * w = ap (λ (x : ℕ). x * w) (sym sum) ∙ times_add w count j in
    let whole : most * w + 254 * b % w ≡ 254 * b = div-add-mod' (254 * b) w in
    let rest : 254 * b % w < w = mod-lt (254 * b) some in
    let fresh : List ℕ = joined (replicate j (fresh_record w)) in
    let fresh_size : length fresh ≡ j * w = joined_length w (replicate j (fresh_record w)) (all_fresh w j some) ∙ ap (λ (x : ℕ). x * w) (length-replicate j (fresh_record w)) in
    let begins : take n bytes' ≡ take n bytes = ext_get_or 0 (take n bytes') (take n bytes) (length-take-le n bytes' (omega (arith, size, times, whole)) ∙ sym (length-take-le n bytes room))
    (λ k l. (let here : k < n = omega (arith, l, length-take-le n bytes' (omega (arith, size, times, whole))) in get_or-take n bytes' k 0 here ∙ front k here ∙ sym (get_or-take n bytes k 0 here))) in
    let long : length (drop n bytes') ≡ length (fresh ++ replicate m 0) = omega (arith, length-drop n bytes', size, length-append fresh (replicate m 0), fresh_size, length-replicate {A = ℕ} m 0, times, whole) in
    let ends : drop n bytes' ≡ fresh ++ replicate m 0 = ext_get_or 0 (drop n bytes') (fresh ++ replicate m 0) long
    (λ o l. get_or-drop n bytes' o 0 ∙ back (n + o) (omega arith) (omega (arith, l, length-drop n bytes', size))
    ∙ ap (λ (x : ℕ). fresh_byte w x (n + o)) (sym sum) ∙ fresh_moved w count j o ∙ sym (fresh_at w j m o some)) in
    let short : length (replicate m 0) < w = omega (arith, length-replicate {A = ℕ} m 0, whole, rest) in
    subst (λ (xs : List (List ℕ)). slices (length bytes') w bytes' ≡ xs ++ replicate j (fresh_record w)) sl
    (records_grown w j bytes bytes' (replicate m 0) some (subst (λ (xs : List (List ℕ)). take (length xs * w) bytes' ≡ take (length xs * w) bytes) (sym sl) begins)
    (subst (λ (xs : List (List ℕ)). drop (length xs * w) bytes' ≡ fresh ++ replicate m 0) (sym sl) ends) short)

-- what is left after the whole records is less than one
slices_rest : (n w : ℕ) (bytes : List ℕ) → 0 < w → length bytes ≤ n → length (drop (length (slices n w bytes) * w) bytes) < w
slices_rest zero w bytes s h = omega (arith, s, h, length-drop (0 * w) bytes)
slices_rest (suc n) w bytes s h = elim (cases_lt (length bytes) w) [
  | inl short ↦ subst (λ (xs : List (List ℕ)). length (drop (length xs * w) bytes) < w) (sym (short_one n w bytes short)) (omega (arith, short, length-drop (0 * w) bytes))
  | inr more ↦ subst (λ (xs : List (List ℕ)). length (drop (length xs * w) bytes) < w) (sym (one_more n w bytes more))
      (let rest = slices_rest n w (drop w bytes) s (omega (arith, h, s, length-drop w bytes)) in
      let k : ℕ = length (slices n w (drop w bytes)) in
      let e : suc k * w ≡ w + k * w = omega (arith, suc-mul k w) in
      subst (λ (m : ℕ). m < w) (ap (λ (xs : List ℕ). length xs) (drop-drop (k * w) w bytes) ∙ sym (ap (λ (m : ℕ). length (drop m bytes)) e)) rest)
]

-- HOW MANY WHOLE RECORDS bytes have
pub slices_count : (w : ℕ) (bytes : List ℕ) → 0 < w → length (slices (length bytes) w bytes) ≡ length bytes / w
slices_count w bytes s =
    let rs : List (List ℕ) = slices (length bytes) w bytes in
    let split : Split w bytes rs = slices_front (length bytes) w bytes in
    let rest : ℕ = length (drop (length rs * w) bytes) in
    let all : length bytes ≡ length rs * w + rest = omega (arith, ap (λ (xs : List ℕ). length xs) split.front, length-append (joined rs) (drop (length rs * w) bytes), joined_length w rs split.all) in
    sym (ap (λ (m : ℕ). m / w) all ∙ div-mul-add (length rs) w rest (slices_rest (length bytes) w bytes s (omega arith)))

-- ---- the data of a full block

pub record FullData (bytes : List ℕ) : Type 0 where
  pub size : length (data_of bytes) ≡ 254
  pub each : (o : ℕ) → o < 254 → get_or (data_of bytes) o 0 ≡ get_or bytes (2 + o) 0

pub full_data : (bytes : List ℕ) → length bytes ≡ 256 → 256 ≤ data_end bytes → FullData bytes
full_data bytes size e =
    let is : data_of bytes ≡ drop 2 bytes = take_all (data_end bytes - 2) (drop 2 bytes) (omega (arith, length-drop 2 bytes, size, e)) in
    record {
      size = omega (arith, ap (λ (xs : List ℕ). length xs) is, length-drop 2 bytes, size);
      each = λ o l. ap (λ (xs : List ℕ). get_or xs o 0) is ∙ get_or-drop 2 bytes o 0;
    }

-- a block of 254 bytes of data is full
pub enough_full : (bytes : List ℕ) → length bytes ≡ 256 → length (data_of bytes) ≡ 254 → 256 ≤ data_end bytes
enough_full bytes size e = omega (arith, e, length-take (data_end bytes - 2) (drop 2 bytes), length-drop 2 bytes, size)

-- a block that goes on, and one that is the last and full
pub goes_full : (bytes : List ℕ) → get_or bytes 0 0 ≢ 0 → data_end bytes ≡ 256
goes_full bytes ne = ap (λ (b : Bool). if b then slice_index bytes 1 + 1 else 256) (ne_eqb (get_or bytes 0 0) 0 ne)

pub ends_full : (bytes : List ℕ) → get_or bytes 0 0 ≡ 0 → get_or bytes 1 0 ≡ 255 → data_end bytes ≡ 256
ends_full bytes z f = ap (λ (b : Bool). if b then slice_index bytes 1 + 1 else 256) (eq-eqb (get_or bytes 0 0) 0 z) ∙ ap (λ (n : ℕ). n + 1) f

-- ---- the chain whose last block is written

pub last_nth : (b : Place) (rest : List Place) (d : Place) → get_or (b ∷ rest) (length rest) d ≡ last_of b rest
last_nth b [] d = refl
last_nth b (x ∷ xs) d = last_nth x xs d

pub record LastWritten (c c' : Content) (b : Place) (rest : List Place) (new : List ℕ) : Type 0 where
  pub front : List ℕ
  pub size : length front ≡ 254 * length rest
  pub was : chain_bytes c (b ∷ rest) ≡ front ++ data_of (bytes_at c (last_of b rest))
  pub is : chain_bytes c' (b ∷ rest) ≡ front ++ data_of new

pub last_written : (tracks : ℕ) (c c' : Content) (a b : Place) (rest : List Place) (new : List ℕ) → AllWhole c → Chain tracks c a (b ∷ rest) → OnlyAt c c' (last_of b rest) → c' (last_of b rest) ≡ Ok new → LastWritten c c' b rest new
last_written tracks c c' a b [] new w h o n = record {
  front = [];
  size = omega arith;
  was = append-nil (data_of (bytes_at c b));
  is = append-nil (data_of (bytes_at c' b)) ∙ ap (λ (x : Cell). data_of (or_nothing x)) n;
}
last_written tracks c c' a b (x ∷ xs) new w h o n =
    let apart : last_of x xs ≢ b = λ e. (let z = chain_distinct tracks c a (b ∷ x ∷ xs) (suc (length xs)) 0 directory_head h (omega arith) (omega arith) (last_nth x xs directory_head ∙ e) in omega (arith, z)) in
    let same : c' b ≡ c b = o b apart in
    let full : length (data_of (bytes_at c b)) ≡ 254 = full_length (bytes_at c b) (whole_bytes c b w h.2) (λ z. (let t = ap (λ (p : Place). p.track) h.3.0 in omega (arith, z, t, h.3.1.0))) in
    let rest = last_written tracks c c' (link (bytes_at c b)) x xs new w h.3 o n in
    record {
      front = data_of (bytes_at c b) ++ rest.front;
      size = omega (arith, length-append (data_of (bytes_at c b)) rest.front, full, rest.size);
      was = ap (λ (ys : List ℕ). data_of (bytes_at c b) ++ ys) rest.was ∙ sym (append_assoc (data_of (bytes_at c b)) rest.front (data_of (bytes_at c (last_of x xs))));
      is = (λ i. data_of (or_nothing (same i)) ++ rest.is i) ∙ sym (append_assoc (data_of (bytes_at c b)) rest.front (data_of new));
    }

pub chain_more : (c : Content) (xs : List Place) (q : Place) → chain_bytes c (xs ++ q ∷ []) ≡ chain_bytes c xs ++ data_of (bytes_at c q)
chain_more c [] q = append-nil (data_of (bytes_at c q))
chain_more c (x ∷ xs) q = ap (λ (ys : List ℕ). data_of (bytes_at c x) ++ ys) (chain_more c xs q) ∙ sym (append_assoc (data_of (bytes_at c x)) (chain_bytes c xs) (data_of (bytes_at c q)))

-- ---- one block more

-- THE RECORDS OF ONE BLOCK MORE: the front stays, the old last block is fresh after its last whole record, and the new one is fresh
pub more_records : (w b : ℕ) (front sector linked fresh : List ℕ) (q : Place) (rs : List (List ℕ)) → 0 < w → w ≤ 254 → 1 ≤ b → length front ≡ 254 * (b - 1) → length (data_of sector) ≡ 254 → length sector ≡ 256 → q.track ≢ 0
    → IsFilledFrom w (b + 1) b 0 [] full_end fresh → IsFilledFrom w (b + 1) (b - 1) (fresh_place w b) sector q linked
    → length rs ≡ record_count w b → slices (length (front ++ data_of sector)) w (front ++ data_of sector) ≡ rs
    → (length (front ++ data_of linked ++ data_of fresh) ≡ 254 * (b + 1))
    × (slices (length (front ++ data_of linked ++ data_of fresh)) w (front ++ data_of linked ++ data_of fresh) ≡ rs ++ replicate (record_count w (b + 1) - length rs) (fresh_record w))
more_records w b front sector linked fresh q rs some most blocks size data_size whole track new old count sl =
    let l = full_data linked old.whole (omega (arith, goes_full linked (λ z. track (sym old.track ∙ z)))) in
    let f = full_data fresh new.whole (omega (arith, ends_full fresh new.track new.sector)) in
    let s = full_data sector whole (enough_full sector whole data_size) in
    let all : List ℕ = front ++ data_of linked ++ data_of fresh in
    let two : length (front ++ data_of linked) ≡ 254 * b = omega (arith, length-append front (data_of linked), size, l.size, blocks) in
    let long : length all ≡ 254 * (b + 1) = omega (arith, length-append (front ++ data_of linked) (data_of fresh), two, f.size) in
    let parts : record_count w b * w + 254 * b % w ≡ 254 * b = div-add-mod' (254 * b) w in
    let small : 254 * b % w < w = mod-lt (254 * b) some in
    let n : length rs * w ≡ record_count w b * w = ap (λ (x : ℕ). x * w) count in
    let place : length rs * w ≡ 254 * (b - 1) + fresh_place w b = omega (arith, n, parts, small, most, blocks) in
    let more : length rs ≤ record_count w (b + 1) = subst (λ (x : ℕ). x ≤ record_count w (b + 1)) (sym count) (le-div (record_count w b) (254 * (b + 1)) w some (omega (arith, parts))) in (
      long,
      filled_records w (b + 1) (front ++ data_of sector) all rs some sl long more
          (λ k h. in_front k (omega (arith, h, place)) h l s place) (λ k h g. afterwards k h g l f two place),
    )
  where
    all : List ℕ
    all = front ++ data_of linked ++ data_of fresh

    -- a byte of the old blocks
    in_old : (k : ℕ) → k < length (front ++ data_of linked) → get_or all k 0 ≡ get_or (front ++ data_of linked) k 0
    in_old k h = get_or_append_left (front ++ data_of linked) (data_of fresh) 0 k h

    in_front : (k : ℕ) → k < 254 * (b - 1) + fresh_place w b → k < length rs * w → FullData linked → FullData sector → length rs * w ≡ 254 * (b - 1) + fresh_place w b → get_or all k 0 ≡ get_or (front ++ data_of sector) k 0
    in_front k h g l s place =
        in_old k (omega (arith, length-append front (data_of linked), size, l.size, h))
        ∙ (elim (cases_lt k (254 * (b - 1))) [
          | inl before ↦ get_or_append_left front (data_of linked) 0 k (omega (arith, before, size)) ∙ sym (get_or_append_left front (data_of sector) 0 k (omega (arith, before, size)))
          | inr past ↦
              (let o : ℕ = k - 254 * (b - 1) in
              get_or-append_right front (data_of linked) (254 * (b - 1)) k 0 size past
              ∙ l.each o (omega (arith, h, past))
              ∙ old.front o (omega (arith, h, past))
              ∙ sym (s.each o (omega (arith, h, past)))
              ∙ sym (get_or-append_right front (data_of sector) (254 * (b - 1)) k 0 size past))
        ])

    afterwards : (k : ℕ) → length rs * w ≤ k → k < 254 * (b + 1) → FullData linked → FullData fresh → length (front ++ data_of linked) ≡ 254 * b → length rs * w ≡ 254 * (b - 1) + fresh_place w b → get_or all k 0 ≡ fresh_in w (b + 1) k
    afterwards k h g l f two place = elim (cases_lt k (254 * b)) [
      | inl in_last ↦
          (let o : ℕ = k - 254 * (b - 1) in
          let at : 254 * (b - 1) + o ≡ k = omega (arith, h, place) in
          in_old k (omega (arith, two, in_last))
          ∙ get_or-append_right front (data_of linked) (254 * (b - 1)) k 0 size (omega (arith, h, place))
          ∙ l.each o (omega (arith, in_last, h, place, blocks))
          ∙ old.fresh o (omega (arith, h, place)) (omega (arith, in_last, h, place, blocks))
          ∙ ap (fresh_in w (b + 1)) at)
      | inr in_new ↦
          (let o : ℕ = k - 254 * b in
          let at : 254 * b + o ≡ k = omega (arith, in_new) in
          get_or-append_right (front ++ data_of linked) (data_of fresh) (254 * b) k 0 two in_new
          ∙ f.each o (omega (arith, g, in_new))
          ∙ new.fresh o (omega arith) (omega (arith, g, in_new))
          ∙ ap (fresh_in w (b + 1)) at)
    ]
