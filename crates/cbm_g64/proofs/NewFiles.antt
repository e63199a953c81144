use Rattle.std.proofs.Common.{◌≡◌, ◌⊎◌, ℕ, zero, suc, ◌+◌, ◌*◌, ◌<◌, ◌≤◌, List, [], ◌++◌, length, get_or, replicate, refl, sym, ap, ◌∙◌, arith, inl, inr, Bool, true, false, leb, ltb}
use Rattle.std.specs.Prelude.{◌||◌, ◌==◌}
use Rattle.std.proofs.lemmas.List.{get_or_append_left, get_or-append-add, length-append, length-replicate}
use Rattle.std.proofs.lemmas.Bool.{false≢true, cases_eq, cases_order, and_from, lt-ltb, le-leb, eq-eqb, or_left}
use Rattle.byteorder.specs.Endian.{little_bytes}
use Rattle.byteorder.specs.Numbers.{little_number-reads_back}
use Rattle.cbm_sector.specs.Fresh.{bytes_on}
use Rattle.cbm_track.specs.Circle.{each_below}
use Rattle.cbm_track.proofs.Firsts.{each_from}
use Rattle.cbm_g64.specs.File.{two_at, offset, size, is_track_inside, is_sized, is_apart, are_inside, are_sized, are_apart, entries, tables_end, has_signature, has_version, has_entries, has_greatest}
use Rattle.cbm_g64.specs.NewFile.{new_place, new_zone, entries_of, new_track_blocks, front, new_file}
use Rattle.cbm_g64.proofs.Sound.{Passes}

length-entry : (x : ℕ) → length (little_bytes 4 x ++ replicate 4 0) ≡ 8
length-entry x = refl

length-block : (x : ℕ) → length (little_bytes 2 x ++ replicate 7928 0) ≡ 7930
length-block x = length-append (little_bytes 2 x) (replicate 7928 0) ∙ ap (λ (n : ℕ). 2 + n) (length-replicate {A = ℕ} 7928 0)

pub length-entries_of : (f : ℕ → ℕ) (n : ℕ) → length (entries_of f n) ≡ 8 * n
unfolding entries_of
length-entries_of f zero = refl
length-entries_of f (suc n) = omega (arith, length-append (entries_of f n) (little_bytes 4 (f n) ++ replicate 4 0), length-entries_of f n, length-entry (f n))

pub length-blocks_of : (n : ℕ) → length (new_track_blocks n) ≡ 7930 * n
unfolding new_track_blocks
length-blocks_of zero = refl
length-blocks_of (suc n) = omega (arith, length-append (new_track_blocks n) (little_bytes 2 (bytes_on (n + 1)) ++ replicate 7928 0), length-blocks_of n, length-block (bytes_on (n + 1)))

skip : (xs ys : List ℕ) (n k q : ℕ) → length xs ≡ n → q ≡ n + k → get_or (xs ++ ys) q 0 ≡ get_or ys k 0
skip xs ys n k q e f = ap (λ (p : ℕ). get_or (xs ++ ys) p 0) (omega arith) ∙ get_or-append-add xs ys k 0

entry_at : (f : ℕ → ℕ) (n i k : ℕ) → i < n → k < 8 → get_or (entries_of f n) (8 * i + k) 0 ≡ get_or (little_bytes 4 (f i) ++ replicate 4 0) k 0
unfolding entries_of
entry_at f zero i k h l = absurd (omega arith)
entry_at f (suc n) i k h l = elim (cases_eq i n) [
  | inr ne ↦ get_or_append_left (entries_of f n) (little_bytes 4 (f n) ++ replicate 4 0) 0 (8 * i + k) (omega (arith, length-entries_of f n)) ∙ entry_at f n i k (omega arith) l
  | inl e ↦ skip (entries_of f n) (little_bytes 4 (f n) ++ replicate 4 0) (8 * n) k (8 * i + k) (length-entries_of f n) (omega arith) ∙ ap (λ (m : ℕ). get_or (little_bytes 4 (f m) ++ replicate 4 0) k 0) (sym e)
]

block_at : (n i k : ℕ) → i < n → k < 7930 → get_or (new_track_blocks n) (7930 * i + k) 0 ≡ get_or (little_bytes 2 (bytes_on (i + 1)) ++ replicate 7928 0) k 0
unfolding new_track_blocks
block_at zero i k h l = absurd (omega arith)
block_at (suc n) i k h l = elim (cases_eq i n) [
  | inr ne ↦ get_or_append_left (new_track_blocks n) (little_bytes 2 (bytes_on (n + 1)) ++ replicate 7928 0) 0 (7930 * i + k) (omega (arith, length-blocks_of n)) ∙ block_at n i k (omega arith) l
  | inl e ↦ skip (new_track_blocks n) (little_bytes 2 (bytes_on (n + 1)) ++ replicate 7928 0) (7930 * n) k (7930 * i + k) (length-blocks_of n) (omega arith) ∙ ap (λ (m : ℕ). get_or (little_bytes 2 (bytes_on (m + 1)) ++ replicate 7928 0) k 0) (sym e)
]

-- ---- the parts of the new file

abbrev p5 : List ℕ
p5 = replicate 56 0 ++ new_track_blocks 35

abbrev p4 : List ℕ
p4 = entries_of new_zone 35 ++ p5

abbrev p3 : List ℕ
p3 = replicate 56 0 ++ p4

abbrev p2 : List ℕ
p2 = entries_of new_place 35 ++ p3

pub length-new_file : length new_file ≡ 278234
unfolding new_file
length-new_file = omega (
  arith,
  length-append (entries_of new_place 35) p3,
  length-append (replicate 56 0) p4,
  length-append (entries_of new_zone 35) p5,
  length-append (replicate 56 0) (new_track_blocks 35),
  length-entries_of new_place 35,
  length-entries_of new_zone 35,
  length-blocks_of 35,
  length-replicate {A = ℕ} 56 0,
)

in_front : (k : ℕ) → k < 12 → get_or new_file k 0 ≡ get_or front k 0
unfolding new_file
in_front k h = get_or_append_left front p2 0 k h

in_offsets : (i k : ℕ) → i < 35 → k < 4 → get_or new_file (12 + 8 * i + k) 0 ≡ get_or (little_bytes 4 (new_place i)) k 0
unfolding new_file
in_offsets i k h l =
    skip front p2 12 (8 * i + k) (12 + 8 * i + k) refl (omega arith)
    ∙ get_or_append_left (entries_of new_place 35) p3 0 (8 * i + k) (omega (arith, length-entries_of new_place 35))
    ∙ entry_at new_place 35 i k h (omega arith)
    ∙ get_or_append_left (little_bytes 4 (new_place i)) (replicate 4 0) 0 k l

in_blocks : (i k : ℕ) → i < 35 → k < 2 → get_or new_file (684 + 7930 * i + k) 0 ≡ get_or (little_bytes 2 (bytes_on (i + 1))) k 0
unfolding new_file
in_blocks i k h l =
    skip front p2 12 (672 + 7930 * i + k) (684 + 7930 * i + k) refl (omega arith)
    ∙ skip (entries_of new_place 35) p3 280 (392 + 7930 * i + k) (672 + 7930 * i + k) (length-entries_of new_place 35) (omega arith)
    ∙ skip (replicate 56 0) p4 56 (336 + 7930 * i + k) (392 + 7930 * i + k) (length-replicate {A = ℕ} 56 0) (omega arith)
    ∙ skip (entries_of new_zone 35) p5 280 (56 + 7930 * i + k) (336 + 7930 * i + k) (length-entries_of new_zone 35) (omega arith)
    ∙ skip (replicate 56 0) (new_track_blocks 35) 56 (7930 * i + k) (56 + 7930 * i + k) (length-replicate {A = ℕ} 56 0) (omega arith)
    ∙ block_at 35 i k h (omega arith)
    ∙ get_or_append_left (little_bytes 2 (bytes_on (i + 1))) (replicate 7928 0) 0 k l

few_bytes : (i : ℕ) → i < 35 → (0 < bytes_on (i + 1)) × (bytes_on (i + 1) ≤ 7692)
few_bytes i h = (grind arith, grind arith)

pub new_offset : (i : ℕ) → i < 35 → offset new_file i ≡ new_place i
unfolding offset
new_offset i h =
    let a : get_or new_file (12 + 8 * i) 0 ≡ get_or (little_bytes 4 (new_place i)) 0 0 = ap (λ (p : ℕ). get_or new_file p 0) (omega arith) ∙ in_offsets i 0 h (omega arith) in
    let d : get_or new_file (12 + 8 * i + 2 + 1) 0 ≡ get_or (little_bytes 4 (new_place i)) 3 0 = ap (λ (p : ℕ). get_or new_file p 0) (omega arith) ∙ in_offsets i 3 h (omega arith) in
    omega (arith, a, in_offsets i 1 h (omega arith), in_offsets i 2 h (omega arith), d, little_number-reads_back 4 (new_place i) [] (omega arith))

pub new_size : (i : ℕ) → i < 35 → size new_file i ≡ bytes_on (i + 1)
unfolding size
new_size i h =
    let a : get_or new_file (new_place i) 0 ≡ get_or (little_bytes 2 (bytes_on (i + 1))) 0 0 = ap (λ (p : ℕ). get_or new_file p 0) (omega arith) ∙ in_blocks i 0 h (omega arith) in
    ap (two_at new_file) (new_offset i h)
    ∙ omega (arith, a, in_blocks i 1 h (omega arith), little_number-reads_back 2 (bytes_on (i + 1)) [] (omega (arith, (few_bytes i h).1)))

-- ---- the new file has no fault

front_byte : (k x : ℕ) → k < 12 → get_or front k 0 ≡ x → get_or new_file k 0 ≡ x
front_byte k x h e = in_front k h ∙ e

new_inside : (i : ℕ) → i < 35 → is_track_inside new_file i ≡ true
unfolding is_track_inside
new_inside i h =
    let o = new_offset i h in
    let s = new_size i h in
    let e : entries new_file ≡ 84 = front_byte 9 84 (omega arith) refl in
    or_second (offset new_file i == 0) _ (
    and_from (leb (tables_end new_file) (offset new_file i)) _ (le-leb (tables_end new_file) (offset new_file i) (omega arith))
    (and_from (leb (offset new_file i + 2) (length new_file)) (leb (offset new_file i + 2 + size new_file i) (length new_file))
    (le-leb (offset new_file i + 2) (length new_file) (omega (arith, length-new_file)))
    (le-leb (offset new_file i + 2 + size new_file i) (length new_file) (omega (arith, length-new_file, (few_bytes i h).1)))))
  where
    or_second : (x y : Bool) → y ≡ true → (x || y) ≡ true
    or_second true y h = refl
    or_second false y h = h

new_sized : (i : ℕ) → i < 35 → is_sized new_file i ≡ true
unfolding is_sized
new_sized i h =
    let s = new_size i h in
    let a : get_or new_file 10 0 ≡ 248 = front_byte 10 248 (omega arith) refl in
    let b : get_or new_file (10 + 1) 0 ≡ 30 = front_byte 11 30 (omega arith) refl in
    or_second (offset new_file i == 0) _ (
    and_from (ltb 0 (size new_file i)) (leb (size new_file i) (two_at new_file 10))
    (lt-ltb 0 (size new_file i) (omega (arith, (few_bytes i h).0)))
    (le-leb (size new_file i) (two_at new_file 10) (omega (arith, (few_bytes i h).1))))
  where
    or_second : (x y : Bool) → y ≡ true → (x || y) ≡ true
    or_second true y h = refl
    or_second false y h = h

new_apart : (i j : ℕ) → i < 35 → j < 35 → is_apart new_file i j ≡ true
unfolding is_apart
new_apart i j h l =
    let o = new_offset i h in
    let q = new_offset j l in
    let s = new_size i h in
    let t = new_size j l in
    elim (cases_order i j) [
      | inl e ↦ or_left (i == j) _ (eq-eqb i j e)
      | inr u ↦ elim u [
        | inl w ↦ four (i == j) (offset new_file i == 0) (offset new_file j == 0) _ _ (inl (le-leb (offset new_file i + 2 + size new_file i) (offset new_file j) (omega (arith, (few_bytes i h).1))))
        | inr w ↦ four (i == j) (offset new_file i == 0) (offset new_file j == 0) _ _ (inr (le-leb (offset new_file j + 2 + size new_file j) (offset new_file i) (omega (arith, (few_bytes j l).1))))
      ]
    ]
  where
    four : (a b c x y : Bool) → ((x ≡ true) ⊎ (y ≡ true)) → (a || (b || (c || (x || y)))) ≡ true
    four true b c x y h = refl
    four false true c x y h = refl
    four false false true x y h = refl
    four false false false true y h = refl
    four false false false false y (inl h) = absurd (false≢true h)
    four false false false false y (inr h) = h

new_are_inside : are_inside new_file ≡ true
unfolding are_inside
new_are_inside =
    let e : entries new_file ≡ 84 = front_byte 9 84 (omega arith) refl in
    and_from (leb (tables_end new_file) (length new_file)) (each_below (is_track_inside new_file) 35) (le-leb (tables_end new_file) (length new_file) (omega (arith, length-new_file)))
    (each_from (is_track_inside new_file) 35 new_inside)

new_are_sized : are_sized new_file ≡ true
unfolding are_sized
new_are_sized = each_from (is_sized new_file) 35 new_sized

new_are_apart : are_apart new_file ≡ true
unfolding are_apart
new_are_apart = each_from (λ i. each_below (is_apart new_file i) 35) 35 (λ i h. each_from (is_apart new_file i) 35 (λ j l. new_apart i j h l))

longer : (n : ℕ) → n ≤ 12 → leb n (length new_file) ≡ true
longer n h = le-leb n (length new_file) (omega (arith, length-new_file))

new_signature : has_signature new_file ≡ true
new_signature = rw (longer 8 (omega arith), in_front 0 (omega arith), in_front 1 (omega arith), in_front 2 (omega arith), in_front 3 (omega arith), in_front 4 (omega arith), in_front 5 (omega arith), in_front 6 (omega arith), in_front 7 (omega arith)) refl

new_version : has_version new_file ≡ true
new_version = rw (longer 9 (omega arith), in_front 8 (omega arith)) refl

new_entries : has_entries new_file ≡ true
new_entries = rw (longer 10 (omega arith), in_front 9 (omega arith)) refl

new_greatest : has_greatest new_file ≡ true
new_greatest = rw (longer 12 (omega arith), in_front 10 (omega arith), in_front 11 (omega arith)) refl

pub new_passes : Passes new_file
new_passes = record { signature = new_signature; version = new_version; few_entries = new_entries; few_bytes = new_greatest; inside = new_are_inside; sized = new_are_sized; apart = new_are_apart }
