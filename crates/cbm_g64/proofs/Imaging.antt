use Rattle.std.proofs.Common.{◌≡◌, ◌≢◌, ℕ, suc, ◌+◌, ◌*◌, ◌-◌, ◌/◌, ◌<◌, ◌≤◌, List, [], ◌++◌, length, get_or, take, drop, replicate, refl, sym, ap, ◌∙◌, arith, inl, inr, Bool, false, Option, Some, None}
use Rattle.std.specs.Prelude.{is_some}
use Rattle.std.proofs.lemmas.List.{append_assoc, append-nil, get_or_append_left, get_or-append-add, get_or-take, get_or-drop, length-append, length-drop, length-take-le, get_or_default, take-append-drop, same_lists}
use Rattle.std.proofs.lemmas.Grind.{same_number_lists}
use Rattle.std.proofs.lemmas.Bool.{cases_eq}
use Rattle.std.proofs.lemmas.Slice.{drop-put_mid, take-put_mid}
use borrow.Rule.Slice.PartMut.{put_mid, post_of}
use Rattle.cbm_track.specs.Circle.{circle_bits_of, circle_bit, stretch}
use Rattle.cbm_track.proofs.Places.{length-stretch, get_or-stretch, bit_below}
use Rattle.cbm_g64.specs.declared.fault.G64Fault.{G64Fault}
use Rattle.cbm_g64.specs.File.{offset, size, g64_fault}
use Rattle.byteorder.specs.Endian.{little_bytes}
use Rattle.cbm_sector.specs.Fresh.{bytes_on}
use Rattle.cbm_g64.specs.NewFile.{entries_of, new_track_blocks, front, new_file, new_place, new_zone}
use Rattle.cbm_g64.specs.Image.{IsOutsideTracks, track_bytes, IsImageOf, IsHeld}
use Rattle.cbm_g64.proofs.Sound.{Passes, passes, Stands, stands, apart}

-- ---- a new file, by parts

pub entries_none : (f : ℕ → ℕ) (xs : List ℕ) → xs ≡ xs ++ entries_of f 0
unfolding entries_of
entries_none f xs = sym (append-nil xs)

pub entries_more : (f : ℕ → ℕ) (o xs e : List ℕ) (n : ℕ) → xs ≡ o ++ entries_of f n → e ≡ little_bytes 4 (f n) ++ replicate 4 0 → xs ++ e ≡ o ++ entries_of f (n + 1)
unfolding entries_of
entries_more f o xs e n h g =
    let m : suc n ≡ n + 1 = omega arith in
    ap (λ (v : List ℕ). v ++ e) h ∙ append_assoc o (entries_of f n) e ∙ ap (λ (v : List ℕ). o ++ (entries_of f n ++ v)) g ∙ ap (λ (k : ℕ). o ++ entries_of f k) m

pub blocks_none : (xs : List ℕ) → xs ≡ xs ++ new_track_blocks 0
unfolding new_track_blocks
blocks_none xs = sym (append-nil xs)

pub blocks_more : (o xs e : List ℕ) (n : ℕ) → xs ≡ o ++ new_track_blocks n → e ≡ little_bytes 2 (bytes_on (n + 1)) → (xs ++ e) ++ replicate 7928 0 ≡ o ++ new_track_blocks (n + 1)
unfolding new_track_blocks
blocks_more o xs e n h g =
    let m : suc n ≡ n + 1 = omega arith in
    append_assoc xs e (replicate 7928 0)
    ∙ ap (λ (v : List ℕ). v ++ (e ++ replicate 7928 0)) h
    ∙ append_assoc o (new_track_blocks n) (e ++ replicate 7928 0)
    ∙ ap (λ (v : List ℕ). o ++ (new_track_blocks n ++ (v ++ replicate 7928 0))) g
    ∙ ap (λ (k : ℕ). o ++ new_track_blocks k) m

pub file_built : (a b c d e f : List ℕ) → a ≡ front → b ≡ a ++ entries_of new_place 35 → c ≡ b ++ replicate 56 0 → d ≡ c ++ entries_of new_zone 35 → e ≡ d ++ replicate 56 0 → f ≡ e ++ new_track_blocks 35 → f ≡ new_file
unfolding new_file
file_built a b c d e f ha hb hc hd he hf =
    hf ∙ ap (λ (v : List ℕ). v ++ new_track_blocks 35) (he ∙ ap (λ (v : List ℕ). v ++ replicate 56 0) (hd ∙ ap (λ (v : List ℕ). v ++ entries_of new_zone 35) (hc ∙ ap (λ (v : List ℕ). v ++ replicate 56 0) (hb ∙ ap (λ (v : List ℕ). v ++ entries_of new_place 35) ha))))
    ∙ append_assoc (((front ++ entries_of new_place 35) ++ replicate 56 0) ++ entries_of new_zone 35) (replicate 56 0) (new_track_blocks 35)
    ∙ append_assoc ((front ++ entries_of new_place 35) ++ replicate 56 0) (entries_of new_zone 35) (replicate 56 0 ++ new_track_blocks 35)
    ∙ append_assoc (front ++ entries_of new_place 35) (replicate 56 0) (entries_of new_zone 35 ++ (replicate 56 0 ++ new_track_blocks 35))
    ∙ append_assoc front (entries_of new_place 35) (replicate 56 0 ++ (entries_of new_zone 35 ++ (replicate 56 0 ++ new_track_blocks 35)))

-- ---- a list with a part put into it

pub put_before : (a k : ℕ) (xs ys : List ℕ) (p : ℕ) → a ≤ length xs → p < a → get_or (put_mid a k xs ys) p 0 ≡ get_or xs p 0
put_before a k xs ys p h l =
    get_or_append_left (take a xs) (ys ++ post_of a k xs) 0 p (omega (arith, length-take-le a xs h))
    ∙ get_or-take a xs p 0 l

skip : (xs ys : List ℕ) (n k q : ℕ) → length xs ≡ n → q ≡ n + k → get_or (xs ++ ys) q 0 ≡ get_or ys k 0
skip xs ys n k q e f = ap (λ (p : ℕ). get_or (xs ++ ys) p 0) (omega arith) ∙ get_or-append-add xs ys k 0

pub put_there : (a k : ℕ) (xs ys : List ℕ) (p : ℕ) → a ≤ length xs → a ≤ p → p < a + length ys → get_or (put_mid a k xs ys) p 0 ≡ get_or ys (p - a) 0
put_there a k xs ys p h l u =
    skip (take a xs) (ys ++ post_of a k xs) a (p - a) p (length-take-le a xs h) (omega arith)
    ∙ get_or_append_left ys (post_of a k xs) 0 (p - a) (omega arith)

pub put_after_it : (a k : ℕ) (xs ys : List ℕ) (p : ℕ) → a ≤ length xs → k ≡ length ys → a + length ys ≤ p → get_or (put_mid a k xs ys) p 0 ≡ get_or xs p 0
put_after_it a k xs ys p h e l =
    let q : p ≡ (a + k) + (p - (a + k)) = omega arith in
    ap (λ (n : ℕ). get_or (put_mid a k xs ys) n 0) q
    ∙ sym (get_or-drop (a + k) (put_mid a k xs ys) (p - (a + k)) 0)
    ∙ ap (λ (v : List ℕ). get_or v (p - (a + k)) 0) (drop-put_mid a k xs ys (a + k) (omega arith) h (sym e))
    ∙ get_or-drop (a + k) xs (p - (a + k)) 0
    ∙ ap (λ (n : ℕ). get_or xs n 0) (sym q)

length-put : (a k : ℕ) (xs ys : List ℕ) → a + k ≤ length xs → k ≡ length ys → length (put_mid a k xs ys) ≡ length xs
length-put a k xs ys h e =
    let f : length (drop (a + k) (put_mid a k xs ys)) ≡ length (drop (a + k) xs) = ap length (drop-put_mid a k xs ys (a + k) (omega arith) (omega arith) (sym e)) in
    let g : length (take (a + k) (put_mid a k xs ys)) ≡ length (take a xs ++ ys) = ap length (take-put_mid a k xs ys (a + k) (omega arith) (omega arith)) in
    let w : length (put_mid a k xs ys) ≡ length (take (a + k) (put_mid a k xs ys)) + length (drop (a + k) (put_mid a k xs ys)) = ap length (sym (take-append-drop (a + k) (put_mid a k xs ys))) ∙ length-append (take (a + k) (put_mid a k xs ys)) (drop (a + k) (put_mid a k xs ys)) in
    omega (arith, f, g, w, length-append (take a xs) ys, length-take-le a xs (omega arith), length-drop (a + k) xs)

-- ---- tracks put into a file

pub whole_circle : (t : List Bool) (n : ℕ) → n ≡ length t → stretch t 0 n ≡ t
whole_circle t n e = same_lists _ _ (length-stretch t 0 n ∙ e) (λ k d l. at k d (omega (arith, length-stretch t 0 n)))
  where
    at : (k : ℕ) (d : Bool) → k < n → get_or (stretch t 0 n) k d ≡ get_or t k d
    at k d l = get_or-stretch t 0 n k d l ∙ ap (circle_bit t) (omega arith) ∙ bit_below t k (omega arith) ∙ get_or_default t k false d (omega arith)

pub none_is : (o : Option G64Fault) → is_some o ≡ false → o ≡ None
none_is None h = refl
none_is (Some x) h = cc

pub held_passes : (file : List ℕ) (tracks : List (List Bool)) → IsHeld file tracks → Passes file
held_passes file tracks h = passes file (none_is (g64_fault file) h.right)

-- the first n tracks were put in
pub record IsPut (file : List ℕ) (tracks : List (List Bool)) (image : List ℕ) (n : ℕ) : Type 0 where
  pub same_length : length image ≡ length file
  pub circles : (i : ℕ) → i < n → offset file i ≢ 0 → circle_bits_of (track_bytes file image i) ≡ get_or tracks i []
  pub others : (p : ℕ) → IsOutsideTracks file p → get_or image p 0 ≡ get_or file p 0

pub put_none : (file : List ℕ) (tracks : List (List Bool)) (image : List ℕ) → image ≡ file → IsPut file tracks image 0
put_none file tracks image e = record { same_length = ap length e; circles = λ i h. absurd (omega arith); others = λ p h. ap (λ (xs : List ℕ). get_or xs p 0) e }

pub put_all : (file : List ℕ) (tracks : List (List Bool)) (image : List ℕ) → IsPut file tracks image 35 → IsImageOf file tracks image
put_all file tracks image p = record { same_length = p.same_length; circles = p.circles; others = p.others }

pub put_skip : (file : List ℕ) (tracks : List (List Bool)) (image : List ℕ) (n : ℕ) → IsPut file tracks image n → offset file n ≡ 0 → IsPut file tracks image (n + 1)
put_skip file tracks image n p z = record {
  same_length = p.same_length;
  circles = λ i h ne. elim (cases_eq i n) [
    | inl e ↦ absurd (ne (ap (offset file) e ∙ z))
    | inr apart ↦ p.circles i (omega arith) ne
  ];
  others = p.others;
}

-- the same bytes of a track
same_bytes : (file xs ys : List ℕ) (i : ℕ) → length xs ≡ length ys → offset file i + 2 + size file i ≤ length xs
    → ((p : ℕ) → offset file i + 2 ≤ p → p < offset file i + 2 + size file i → get_or xs p 0 ≡ get_or ys p 0) → track_bytes file xs i ≡ track_bytes file ys i
same_bytes file xs ys i e h same =
    let l : length (track_bytes file xs i) ≡ size file i = length-take-le (size file i) (drop (offset file i + 2) xs) (omega (arith, length-drop (offset file i + 2) xs)) in
    let m : length (track_bytes file ys i) ≡ size file i = length-take-le (size file i) (drop (offset file i + 2) ys) (omega (arith, length-drop (offset file i + 2) ys)) in
    same_number_lists _ _ (l ∙ sym m) (λ k b.
    get_or-take (size file i) (drop (offset file i + 2) xs) k 0 (omega (arith, l)) ∙ get_or-drop (offset file i + 2) xs k 0
    ∙ same (offset file i + 2 + k) (omega arith) (omega (arith, l))
    ∙ sym (get_or-take (size file i) (drop (offset file i + 2) ys) k 0 (omega (arith, l)) ∙ get_or-drop (offset file i + 2) ys k 0))

pub put_more : (file : List ℕ) (tracks : List (List Bool)) (image ys : List ℕ) (n k : ℕ) → IsHeld file tracks → n < 35 → IsPut file tracks image n → offset file n ≢ 0 → k ≡ length ys → length ys ≡ size file n
    → circle_bits_of ys ≡ stretch (get_or tracks n []) 0 (8 * size file n) → IsPut file tracks (put_mid (offset file n + 2) k image ys) (n + 1)
put_more file tracks image ys n k h l p ne e f g =
    let q = held_passes file tracks h in
    let s = stands file q n l ne in
    let a : offset file n + 2 ≤ length image = omega (arith, s.within, p.same_length) in
    let size' : length (put_mid (offset file n + 2) k image ys) ≡ length image = length-put (offset file n + 2) k image ys (omega (arith, s.within, p.same_length)) e in
    record {
      same_length = size' ∙ p.same_length;
      circles = λ i b z. elim (cases_eq i n) [
        | inl c ↦ (let own : track_bytes file (put_mid (offset file n + 2) k image ys) n ≡ ys = own_bytes size' s a in
            ap (λ (j : ℕ). circle_bits_of (track_bytes file (put_mid (offset file n + 2) k image ys) j)) c
            ∙ ap circle_bits_of own ∙ g
            ∙ whole_circle (get_or tracks n []) (8 * size file n) (sym (h.lengths n l ne))
            ∙ ap (λ (j : ℕ). get_or tracks j []) (sym c))
        | inr c ↦ ap circle_bits_of (same_bytes file (put_mid (offset file n + 2) k image ys) image i size' (omega (arith, size', p.same_length, (stands file q i (omega arith) z).within)) (λ r x y.
            elim (apart file q i n (omega arith) l c z ne) [
              | inl u ↦ put_before (offset file n + 2) k image ys r a (omega arith)
              | inr u ↦ put_after_it (offset file n + 2) k image ys r a e (omega arith)
            ]))
            ∙ p.circles i (omega arith) z
      ];
      others = λ r out. elim (out n l ne) [
        | inl u ↦ put_before (offset file n + 2) k image ys r a u ∙ p.others r out
        | inr u ↦ put_after_it (offset file n + 2) k image ys r a e (omega arith) ∙ p.others r out
      ];
    }
  where
    own_bytes : length (put_mid (offset file n + 2) k image ys) ≡ length image → Stands file n → offset file n + 2 ≤ length image → track_bytes file (put_mid (offset file n + 2) k image ys) n ≡ ys
    own_bytes size' s a =
        let m : length (track_bytes file (put_mid (offset file n + 2) k image ys) n) ≡ size file n = length-take-le (size file n) (drop (offset file n + 2) (put_mid (offset file n + 2) k image ys)) (omega (arith, length-drop (offset file n + 2) (put_mid (offset file n + 2) k image ys), s.within, p.same_length)) in
        same_number_lists _ _ (m ∙ sym f) (λ r b.
        get_or-take (size file n) (drop (offset file n + 2) (put_mid (offset file n + 2) k image ys)) r 0 (omega (arith, m))
        ∙ get_or-drop (offset file n + 2) (put_mid (offset file n + 2) k image ys) r 0
        ∙ put_there (offset file n + 2) k image ys (offset file n + 2 + r) a (omega arith) (omega (arith, m))
        ∙ ap (λ (t : ℕ). get_or ys t 0) (omega arith))

-- where a track ends in its file, and how many bytes it has by its circle
pub track_ends : (file image : List ℕ) (tracks : List (List Bool)) (t : List Bool) (n at bits : ℕ) → IsHeld file tracks → n < 35 → length image ≡ length file → at ≡ offset file n → at ≢ 0 → bits ≡ length t → t ≡ get_or tracks n []
    → (bits / 8 ≡ size file n) × (at + 2 + bits / 8 ≤ length image)
track_ends file image tracks t n at bits h l e f ne b g =
    let z : offset file n ≢ 0 = λ y. ne (f ∙ y) in
    let s = stands file (held_passes file tracks h) n l z in
    let m : length t ≡ 8 * size file n = ap length g ∙ h.lengths n l z in
    (omega arith, omega (arith, s.within))

pub put_at : (file image ys out : List ℕ) (tracks : List (List Bool)) (t : List Bool) (n at bits k m : ℕ) → IsHeld file tracks → n < 35 → IsPut file tracks image n → at ≡ offset file n → at ≢ 0 → bits ≡ length t → t ≡ get_or tracks n []
    → out ≡ put_mid (at + 2) k image ys → k ≡ bits / 8 → circle_bits_of ys ≡ stretch t 0 (8 * m) → m ≡ bits / 8 → length ys ≡ m → IsPut file tracks out (n + 1)
put_at file image ys out tracks t n at bits k m h l p f ne b g o e r q y =
    let z : offset file n ≢ 0 = λ x. ne (f ∙ x) in
    let d = track_ends file image tracks t n at bits h l p.same_length f ne b g in
    let d0 = d.0 in
    rw (o, f) (put_more file tracks image ys n k h l p z (omega arith) (omega arith)
    (r ∙ ap (λ (w : ℕ). stretch t 0 (8 * w)) (omega arith) ∙ ap (λ (u : List Bool). stretch u 0 (8 * size file n)) g))
