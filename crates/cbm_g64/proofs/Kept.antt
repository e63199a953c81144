use Rattle.std.proofs.Common.{◌≡◌, ◌≢◌, ◌⊎◌, ℕ, zero, suc, ◌+◌, ◌*◌, ◌-◌, ◌<◌, ◌≤◌, List, [], ◌∷◌, length, get_or, take, drop, refl, sym, ap, ◌∙◌, arith, inl, inr, Bool, true, false, None, leb}
use Rattle.std.specs.Prelude.{◌||◌, ◌&&◌, ◌==◌, not, if◌then◌else◌}
use Rattle.std.proofs.lemmas.List.{get_or-take, get_or-drop, get_or_default, get_or_past, length-take-le, length-drop, same_lists}
use Rattle.std.proofs.lemmas.Grind.{same_number_lists}
use Rattle.std.proofs.lemmas.Bool.{cases_eq, cases_lt, and_from, le-leb, lt-ltb, eq-eqb, ne_eqb, or_left, false≢true}
use mathlib.Core.Path.{fun_ext}
use Rattle.cbm_sector.specs.Decoding.{IsBytes}
use Rattle.cbm_sector.proofs.Coding.{byte_from_bits}
use Rattle.cbm_track.specs.Circle.{circle_bits, circle_bits_of, each_below}
use Rattle.cbm_track.proofs.Firsts.{each_from, each_at}
use Rattle.cbm_g64.specs.File.{two_at, offset, size, tables_end, g64_fault, is_track_inside, is_sized, is_apart, are_inside, are_sized, are_apart, track_in, g64_circles}
use Rattle.cbm_g64.specs.Rest.{is_in_track, is_outside, g64_rest}
use Rattle.cbm_g64.specs.Image.{IsOutsideTracks, track_bytes, IsImageOf, IsHeld}
use Rattle.cbm_g64.proofs.Sound.{Passes, no_fault, stands, apart, many_entries, inside_at, sized_at, apart_at, tables_inside}
use Rattle.cbm_g64.proofs.Imaging.{held_passes}
use Rattle.cbm_g64.proofs.Held.{length-tracks_in, tracks_at, present, absent}

-- ---- what is outside the tracks

many : (file : List ℕ) → Passes file → 564 ≤ tables_end file
many file p = omega (arith, (many_entries file p.few_entries).1)

tables_kept : (file : List ℕ) (tracks : List (List Bool)) (image : List ℕ) → Passes file → IsImageOf file tracks image → (q : ℕ) → q < tables_end file → get_or image q 0 ≡ get_or file q 0
tables_kept file tracks image p m q h = m.others q (λ i l ne. inl (omega (arith, (stands file p i l ne).tables)))

offset_kept : (file : List ℕ) (tracks : List (List Bool)) (image : List ℕ) → Passes file → IsImageOf file tracks image → (i : ℕ) → i < 35 → offset image i ≡ offset file i
unfolding offset
offset_kept file tracks image p m i h =
    let t = many file p in
    omega (
      arith,
      tables_kept file tracks image p m (12 + 8 * i) (omega arith),
      tables_kept file tracks image p m (12 + 8 * i + 1) (omega arith),
      tables_kept file tracks image p m (12 + 8 * i + 2) (omega arith),
      tables_kept file tracks image p m (12 + 8 * i + 2 + 1) (omega arith),
    )

field_outside : (file : List ℕ) → Passes file → (i q : ℕ) → i < 35 → offset file i ≢ 0 → offset file i ≤ q → q < offset file i + 2 → IsOutsideTracks file q
field_outside file p i q h ne a b j l z = elim (cases_eq i j) [
  | inl e ↦ inl (let f : offset file i ≡ offset file j = ap (offset file) e in omega arith)
  | inr apart' ↦ elim (apart file p i j h l apart' ne z) [
    | inl u ↦ inl (omega arith)
    | inr u ↦ inr (omega arith)
  ]
]

size_kept : (file : List ℕ) (tracks : List (List Bool)) (image : List ℕ) → Passes file → IsImageOf file tracks image → (i : ℕ) → i < 35 → offset file i ≢ 0 → size image i ≡ size file i
unfolding size
size_kept file tracks image p m i h ne =
    ap (two_at image) (offset_kept file tracks image p m i h)
    ∙ omega (
      arith,
      m.others (offset file i) (field_outside file p i (offset file i) h ne (omega arith) (omega arith)),
      m.others (offset file i + 1) (field_outside file p i (offset file i + 1) h ne (omega arith) (omega arith)),
    )

-- ---- the image passes what its file passes

inside_kept : (file : List ℕ) (tracks : List (List Bool)) (image : List ℕ) → Passes file → IsImageOf file tracks image → (i : ℕ) → i < 35 → is_track_inside image i ≡ true
unfolding is_track_inside
inside_kept file tracks image p m i h = elim (cases_eq (offset file i) 0) [
  | inl z ↦ or_left (offset image i == 0) _ (eq-eqb (offset image i) 0 (offset_kept file tracks image p m i h ∙ z))
  | inr ne ↦ (let t = many file p in
      rw (size_kept file tracks image p m i h ne, offset_kept file tracks image p m i h, tables_kept file tracks image p m 9 (omega arith), m.same_length) (inside_at file p.inside i h))
]

sized_kept : (file : List ℕ) (tracks : List (List Bool)) (image : List ℕ) → Passes file → IsImageOf file tracks image → (i : ℕ) → i < 35 → is_sized image i ≡ true
unfolding is_sized
sized_kept file tracks image p m i h = elim (cases_eq (offset file i) 0) [
  | inl z ↦ or_left (offset image i == 0) _ (eq-eqb (offset image i) 0 (offset_kept file tracks image p m i h ∙ z))
  | inr ne ↦ (let t = many file p in
      rw (size_kept file tracks image p m i h ne, offset_kept file tracks image p m i h, tables_kept file tracks image p m 10 (omega arith), tables_kept file tracks image p m 11 (omega arith)) (sized_at file p.sized i h))
]

second : (x y : Bool) → y ≡ true → (x || y) ≡ true
second true y h = refl
second false y h = h

apart_kept : (file : List ℕ) (tracks : List (List Bool)) (image : List ℕ) → Passes file → IsImageOf file tracks image → (i j : ℕ) → i < 35 → j < 35 → is_apart image i j ≡ true
unfolding is_apart
apart_kept file tracks image p m i j h l = elim (cases_eq (offset file i) 0) [
  | inl z ↦ second (i == j) _ (or_left (offset image i == 0) _ (eq-eqb (offset image i) 0 (offset_kept file tracks image p m i h ∙ z)))
  | inr ne ↦ elim (cases_eq (offset file j) 0) [
    | inl z ↦ second (i == j) _ (second (offset image i == 0) _ (or_left (offset image j == 0) _ (eq-eqb (offset image j) 0 (offset_kept file tracks image p m j l ∙ z))))
    | inr ne' ↦ rw (size_kept file tracks image p m i h ne, size_kept file tracks image p m j l ne', offset_kept file tracks image p m i h, offset_kept file tracks image p m j l) (apart_at file p.apart i j h l)
  ]
]

are_inside_kept : (file : List ℕ) (tracks : List (List Bool)) (image : List ℕ) → Passes file → IsImageOf file tracks image → are_inside image ≡ true
unfolding are_inside
are_inside_kept file tracks image p m =
    let t = many file p in
    and_from (leb (tables_end image) (length image)) (each_below (is_track_inside image) 35)
    (le-leb (tables_end image) (length image) (omega (arith, tables_kept file tracks image p m 9 (omega arith), m.same_length, tables_inside file p.inside)))
    (each_from (is_track_inside image) 35 (inside_kept file tracks image p m))

are_sized_kept : (file : List ℕ) (tracks : List (List Bool)) (image : List ℕ) → Passes file → IsImageOf file tracks image → are_sized image ≡ true
unfolding are_sized
are_sized_kept file tracks image p m = each_from (is_sized image) 35 (sized_kept file tracks image p m)

are_apart_kept : (file : List ℕ) (tracks : List (List Bool)) (image : List ℕ) → Passes file → IsImageOf file tracks image → are_apart image ≡ true
unfolding are_apart
are_apart_kept file tracks image p m = each_from (λ i. each_below (is_apart image i) 35) 35 (λ i h. each_from (is_apart image i) 35 (λ j l. apart_kept file tracks image p m i j h l))

pub passes_kept : (file : List ℕ) (tracks : List (List Bool)) (image : List ℕ) → Passes file → IsImageOf file tracks image → Passes image
passes_kept file tracks image p m =
    let t = many file p in
    let b : (q : ℕ) → q < 12 → get_or image q 0 ≡ get_or file q 0 = λ q h. tables_kept file tracks image p m q (omega arith) in
    record {
      signature = rw (m.same_length, b 0 (omega arith), b 1 (omega arith), b 2 (omega arith), b 3 (omega arith), b 4 (omega arith), b 5 (omega arith), b 6 (omega arith), b 7 (omega arith)) p.signature;
      version = rw (m.same_length, b 8 (omega arith)) p.version;
      few_entries = rw (m.same_length, b 9 (omega arith)) p.few_entries;
      few_bytes = rw (m.same_length, b 10 (omega arith), b 11 (omega arith)) p.few_bytes;
      inside = are_inside_kept file tracks image p m;
      sized = are_sized_kept file tracks image p m;
      apart = are_apart_kept file tracks image p m;
    }

-- ---- the tracks that are read again

track_kept : (file : List ℕ) (tracks : List (List Bool)) (image : List ℕ) → IsHeld file tracks → IsImageOf file tracks image → (i : ℕ) → i < 35 → track_in image i ≡ get_or tracks i []
track_kept file tracks image h m i l =
    let p = held_passes file tracks h in
    elim (cases_eq (offset file i) 0) [
      | inl z ↦ absent image i (offset_kept file tracks image p m i l ∙ z) ∙ sym (h.absent i l z)
      | inr ne ↦ present image i (λ e. ne (sym (offset_kept file tracks image p m i l) ∙ e))
          ∙ ap (λ (n : ℕ). circle_bits_of (take n (drop (offset image i + 2) image))) (size_kept file tracks image p m i l ne)
          ∙ ap (λ (n : ℕ). circle_bits_of (take (size file i) (drop (n + 2) image))) (offset_kept file tracks image p m i l)
          ∙ m.circles i l ne
    ]

pub tracks_kept : (file : List ℕ) (tracks : List (List Bool)) (image : List ℕ) → IsHeld file tracks → IsImageOf file tracks image → g64_circles image 35 ≡ tracks
tracks_kept file tracks image h m = same_lists _ _ (length-tracks_in image 35 ∙ sym h.count) (λ k d l.
    let b : k < 35 = omega (arith, length-tracks_in image 35) in
    get_or_default (g64_circles image 35) k d [] l
    ∙ tracks_at image 35 k b
    ∙ track_kept file tracks image h m k b
    ∙ get_or_default tracks k [] d (omega (arith, h.count)))

pub read_again : (file : List ℕ) (tracks : List (List Bool)) (image : List ℕ) → IsHeld file tracks → IsImageOf file tracks image → (g64_fault image ≡ None) × (g64_circles image 35 ≡ tracks)
read_again file tracks image h m = (no_fault image (passes_kept file tracks image (held_passes file tracks h) m), tracks_kept file tracks image h m)

-- ---- a disk that nobody wrote

tail_bytes : (x : ℕ) (xs : List ℕ) → IsBytes (x ∷ xs) → IsBytes xs
tail_bytes x xs h i = h (suc i)

-- bits give their bytes back
bytes_back : (xs ys : List ℕ) → length xs ≡ length ys → IsBytes xs → IsBytes ys → circle_bits_of xs ≡ circle_bits_of ys → xs ≡ ys
bytes_back [] [] l a b e = refl
bytes_back [] (y ∷ ys) l a b e = absurd (omega arith)
bytes_back (x ∷ xs) [] l a b e = absurd (omega arith)
bytes_back (x ∷ xs) (y ∷ ys) l a b e =
    let front : circle_bits 8 x ≡ circle_bits 8 y = ap (λ (t : List Bool). take 8 t) e in
    let same : x ≡ y = byte_from_bits x y (a 0) (b 0) front in
    let rest : xs ≡ ys = bytes_back xs ys (omega arith) (tail_bytes x xs a) (tail_bytes y ys b) (ap (λ (t : List Bool). drop 8 t) e) in
    ap (λ (n : ℕ). n ∷ xs) same ∙ ap (λ (v : List ℕ). y ∷ v) rest

part_bytes : (xs : List ℕ) (n k : ℕ) → n + k ≤ length xs → IsBytes xs → IsBytes (take n (drop k xs))
part_bytes xs n k h b i = elim (cases_lt i n) [
  | inl l ↦ rw (get_or-take n (drop k xs) i 0 l, get_or-drop k xs i 0) (b (k + i))
  | inr g ↦ rw (get_or_past (take n (drop k xs)) i 0 (omega (arith, length-take-le n (drop k xs) (omega (arith, length-drop k xs))))) (omega arith)
]

-- a byte stands in a track, or outside each
in_track : (file : List ℕ) (q n : ℕ) → n ≤ 35
    → ((j : ℕ) × (j < 35) × (offset file j ≢ 0) × (offset file j + 2 ≤ q) × (q < offset file j + 2 + size file j))
    ⊎ ((j : ℕ) → j < n → offset file j ≢ 0 → (q < offset file j + 2) ⊎ (offset file j + 2 + size file j ≤ q))
in_track file q zero h = inr (λ j l. absurd (omega arith))
in_track file q (suc n) h = elim (in_track file q n (omega arith)) [
  | inl f ↦ inl f
  | inr out ↦ elim (cases_eq (offset file n) 0) [
    | inl z ↦ inr (λ j l ne. elim (cases_eq j n) [ inl e ↦ absurd (ne (ap (offset file) e ∙ z)) | inr u ↦ out j (omega arith) ne ])
    | inr ne ↦ elim (cases_lt q (offset file n + 2)) [
      | inl a ↦ inr (λ j l z. elim (cases_eq j n) [ inl e ↦ (let f : offset file j ≡ offset file n = ap (offset file) e in inl (omega arith)) | inr u ↦ out j (omega arith) z ])
      | inr a ↦ elim (cases_lt q (offset file n + 2 + size file n)) [
        | inl b ↦ inl (n, omega arith, ne, a, b)
        | inr b ↦ inr (λ j l z. elim (cases_eq j n) [ inl e ↦ (let f : offset file j ≡ offset file n = ap (offset file) e in let g : size file j ≡ size file n = ap (size file) e in inr (omega arith)) | inr u ↦ out j (omega arith) z ])
      ]
    ]
  ]
]

pub unwritten : (file : List ℕ) (image : List ℕ) → IsHeld file (g64_circles file 35) → IsBytes file → IsBytes image → IsImageOf file (g64_circles file 35) image → image ≡ file
unwritten file image h a b m = same_number_lists image file m.same_length (λ q l. elim (in_track file q 35 (omega arith)) [
  | inr out ↦ m.others q out
  | inl f ↦ here q f.0 f.1 f.2 f.3 f.4
])
  where
    here : (q j : ℕ) → j < 35 → offset file j ≢ 0 → offset file j + 2 ≤ q → q < offset file j + 2 + size file j → get_or image q 0 ≡ get_or file q 0
    here q j l ne g u =
        let s = stands file (held_passes file (g64_circles file 35) h) j l ne in
        let x : length (track_bytes file image j) ≡ size file j = length-take-le (size file j) (drop (offset file j + 2) image) (omega (arith, length-drop (offset file j + 2) image, s.within, m.same_length)) in
        let y : length (track_bytes file file j) ≡ size file j = length-take-le (size file j) (drop (offset file j + 2) file) (omega (arith, length-drop (offset file j + 2) file, s.within)) in
        let same : track_bytes file image j ≡ track_bytes file file j =
        bytes_back (track_bytes file image j) (track_bytes file file j) (x ∙ sym y)
        (part_bytes image (size file j) (offset file j + 2) (omega (arith, s.within, m.same_length)) b)
        (part_bytes file (size file j) (offset file j + 2) (omega (arith, s.within)) a)
        (m.circles j l ne ∙ tracks_at file 35 j l ∙ present file j ne) in
        let at : q ≡ offset file j + 2 + (q - (offset file j + 2)) = omega arith in
        ap (λ (n : ℕ). get_or image n 0) at
        ∙ sym (get_or-take (size file j) (drop (offset file j + 2) image) (q - (offset file j + 2)) 0 (omega arith) ∙ get_or-drop (offset file j + 2) image (q - (offset file j + 2)) 0)
        ∙ ap (λ (v : List ℕ). get_or v (q - (offset file j + 2)) 0) same
        ∙ get_or-take (size file j) (drop (offset file j + 2) file) (q - (offset file j + 2)) 0 (omega arith) ∙ get_or-drop (offset file j + 2) file (q - (offset file j + 2)) 0
        ∙ ap (λ (n : ℕ). get_or file n 0) (sym at)

-- ---- what is outside the tracks is the same

each_same : (f g : ℕ → Bool) (n : ℕ) → ((k : ℕ) → k < n → f k ≡ g k) → each_below f n ≡ each_below g n
unfolding each_below
each_same f g zero h = refl
each_same f g (suc n) h = λ i. h n (omega arith) i && each_same f g n (λ k l. h k (omega arith)) i

in_track_kept : (file : List ℕ) (tracks : List (List Bool)) (image : List ℕ) → Passes file → IsImageOf file tracks image → (p i : ℕ) → i < 35 → is_in_track image p i ≡ is_in_track file p i
unfolding is_in_track
in_track_kept file tracks image passing m p i h = elim (cases_eq (offset file i) 0) [
  | inl z ↦ rw (offset_kept file tracks image passing m i h, z) refl
  | inr ne ↦ rw (size_kept file tracks image passing m i h ne, offset_kept file tracks image passing m i h) refl
]

outside_kept : (file : List ℕ) (tracks : List (List Bool)) (image : List ℕ) → Passes file → IsImageOf file tracks image → (p : ℕ) → is_outside image p ≡ is_outside file p
unfolding is_outside
outside_kept file tracks image passing m p = each_same (λ i. not (is_in_track image p i)) (λ i. not (is_in_track file p i)) 35 (λ i h. ap not (in_track_kept file tracks image passing m p i h))

-- a byte of no track by the test is one
outside_is : (file : List ℕ) (p : ℕ) → is_outside file p ≡ true → IsOutsideTracks file p
unfolding is_outside is_in_track
outside_is file p h i l ne = by_tests (each_at (λ k. not (is_in_track file p k)) 35 i h l)
  where
    by_tests : not (is_in_track file p i) ≡ true → (p < offset file i + 2) ⊎ (offset file i + 2 + size file i ≤ p)
    by_tests out = elim (cases_lt p (offset file i + 2)) [
      | inl below ↦ inl below
      | inr past ↦ elim (cases_lt p (offset file i + 2 + size file i)) [
        | inl within ↦ absurd (false≢true (sym (ap not (and_from (not (offset file i == 0)) _ (ap not (ne_eqb (offset file i) 0 ne)) (and_from _ _ (le-leb (offset file i + 2) p past) (lt-ltb p (offset file i + 2 + size file i) within)))) ∙ out))
        | inr after ↦ inr after
      ]
    ]

-- THE REST OF AN IMAGE OF A DISK is that of its file.
pub rest_kept : (file : List ℕ) (tracks : List (List Bool)) (image : List ℕ) → IsHeld file tracks → IsImageOf file tracks image → g64_rest image ≡ g64_rest file
unfolding g64_rest
rest_kept file tracks image h m = λ k. record { size = m.same_length k; byte = fun_ext (λ p. at_place p (is_outside file p) refl) k }
  where
    passing : Passes file
    passing = held_passes file tracks h

    same_byte : (p : ℕ) (b : Bool) → is_outside file p ≡ b → (if b then get_or image p 0 else 0) ≡ (if b then get_or file p 0 else 0)
    same_byte p true out = m.others p (outside_is file p out)
    same_byte p false out = refl

    at_place : (p : ℕ) (b : Bool) → is_outside file p ≡ b → (if is_outside image p then get_or image p 0 else 0) ≡ (if is_outside file p then get_or file p 0 else 0)
    at_place p b is = ap (λ (t : Bool). if t then get_or image p 0 else 0) (outside_kept file tracks image passing m p) ∙ rw is (same_byte p b is)
