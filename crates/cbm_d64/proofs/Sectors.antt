-- Sectors in the bytes of an image.
use Rattle.std.proofs.Common.{◌≡◌, ◌≢◌, ℕ, ◌+◌, ◌*◌, ◌-◌, ◌<◌, ◌≤◌, List, ◌++◌, length, take, drop, set, get_or, refl, sym, ap, subst, ◌∙◌, arith, inl, inr, Bool, true, false, Some, None, Ok, Option, replicate}
use Rattle.std.proofs.lemmas.List.{take_at, drop_at, length-take-le, drop-take, get_or-drop, take-set-le, get_or-set_other, get_or-set_same, length-set, take-append-le, drop-append-le, length-replicate, drop-replicate, take-replicate, get_or-append_right, get_or-replicate, length-append, length-drop}
use Rattle.std.proofs.lemmas.Slice.{take-put_mid_below, drop-put_mid}
use Rattle.std.specs.Prelude.{is_some, if◌then◌else◌}
use Rattle.std.proofs.lemmas.Bool.{cases_lt, cases_eq, false≢true, eq-eqb, ne_eqb}
use Rattle.cbm_medium.proofs.Places.{place_cases, places_apart, place_is_itself, written_there, written_elsewhere}
use Rattle.cbm_medium.proofs.Walks.{has_true, true_has, on_a_track, bool_cases}
use borrow.Rule.Slice.PartMut.{put_mid, post_of}
use mathlib.Core.Path.{fun_ext}
use Rattle.cbm_medium.specs.Place.{Place, sectors_on, IsOnDisk, Has, has, is_place}
use Rattle.cbm_medium.specs.Content.{Cell, Content, IsWhole, written, blank}
use Rattle.cbm_medium.specs.Seen.{OutsideBytes, with_content, formatted_as}
use Rattle.cbm_d64.specs.Image.{Image, IsImageSize, IsSectorStored, IsErased, mended, d64_tracks, sectors_in, index_of, sectors_before, code_of_error, cell_of, error_at, sector_at, d64_content, d64_seen, is_error_byte, d64_rest, d64_rest_formatted}

-- a sector by the bytes up to its end
sector_in_front : (xs : List ℕ) (j : ℕ) → sector_at xs j ≡ drop (256 * j) (take (256 * j + 256) xs)
sector_in_front xs j = sym (drop-take (256 * j) 256 xs)

pub sector-put_same : (xs ys : List ℕ) (i k : ℕ) → length ys ≡ 256 → 256 * i ≤ length xs → sector_at (put_mid (256 * i) k xs ys) i ≡ ys
sector-put_same xs ys i k e h =
    ap (take 256) (drop_at (take (256 * i) xs) (ys ++ post_of (256 * i) k xs) (256 * i) (length-take-le (256 * i) xs h))
    ∙ take_at ys (post_of (256 * i) k xs) 256 e

pub sector-put_other : (xs ys : List ℕ) (i j k : ℕ) → length ys ≡ 256 → k ≡ 256 → 256 * i ≤ length xs → j ≢ i → sector_at (put_mid (256 * i) k xs ys) j ≡ sector_at xs j
sector-put_other xs ys i j k e f h ne = elim (cases_lt j i) [
  | inl below ↦ sector_in_front (put_mid (256 * i) k xs ys) j
      ∙ ap (drop (256 * j)) (take-put_mid_below (256 * i) k xs ys (256 * j + 256) (omega arith) h)
      ∙ sym (sector_in_front xs j)
  | inr above ↦ ap (take 256) (drop-put_mid (256 * i) k xs ys (256 * j) (omega arith) h (e ∙ sym f))
]

-- error bytes are looked at in images of one size alone
pub error-same : (xs ys : List ℕ) (j : ℕ) → length ys ≡ length xs → (length xs ≡ 175531 → get_or ys (174848 + j) 0 ≡ get_or xs (174848 + j) 0) → error_at ys j ≡ error_at xs j
error-same xs ys j l h = elim (cases_eq (length xs) 175531) [
  | inl e ↦ rw (eq-eqb (length xs) 175531 e, eq-eqb (length ys) 175531 (l ∙ e)) (h e)
  | inr ne ↦ rw (ne_eqb (length xs) 175531 ne, ne_eqb (length ys) 175531 (λ e. ne (sym l ∙ e))) refl
]

pub length-put : (xs ys : List ℕ) (i k : ℕ) → length ys ≡ 256 → k ≡ 256 → 256 * i + 256 ≤ length xs → length (put_mid (256 * i) k xs ys) ≡ length xs
length-put xs ys i k e f h =
    let shape : length (put_mid (256 * i) k xs ys) ≡ length (take (256 * i) xs ++ (ys ++ post_of (256 * i) k xs)) = refl in
    let rest : length (post_of (256 * i) k xs) ≡ length (drop (256 * i) xs) - k = length-drop {A = ℕ} k (drop (256 * i) xs) in
    let afterwards : length (drop (256 * i) xs) ≡ length xs - 256 * i = length-drop {A = ℕ} (256 * i) xs in
    omega (
      arith,
      length-append {A = ℕ} (take (256 * i) xs) (ys ++ post_of (256 * i) k xs),
      length-append {A = ℕ} ys (post_of (256 * i) k xs),
      length-take-le (256 * i) xs (omega arith),
    )

pub error-put : (xs ys : List ℕ) (i j k : ℕ) → length ys ≡ 256 → k ≡ 256 → i < sectors_in (length xs) → 256 * i + 256 ≤ length xs
    → error_at (put_mid (256 * i) k xs ys) j ≡ error_at xs j
error-put xs ys i j k e f b h = error-same xs (put_mid (256 * i) k xs ys) j (length-put xs ys i k e f h) (λ w.
    let below : i < 683 = subst (λ (n : ℕ). i < sectors_in n) w b in
    sym (get_or-drop 174848 (put_mid (256 * i) k xs ys) j 0)
    ∙ ap (λ (zs : List ℕ). get_or zs j 0) (drop-put_mid (256 * i) k xs ys 174848 (omega arith) (omega arith) (e ∙ sym f))
    ∙ get_or-drop 174848 xs j 0)

pub sector-set : (xs : List ℕ) (i j y : ℕ) → length xs ≡ 175531 → j < sectors_in (length xs) → sector_at (set xs (174848 + i) y) j ≡ sector_at xs j
sector-set xs i j y e b = let h : j < 683 = subst (λ (n : ℕ). j < sectors_in n) e b in
    sector_in_front (set xs (174848 + i) y) j
    ∙ ap (drop (256 * j)) (take-set-le (256 * j + 256) xs (174848 + i) y (omega arith))
    ∙ sym (sector_in_front xs j)

-- what a content is at a sector of the image
pub content_on_disk : (image : List ℕ) (p : Place) → IsOnDisk p → p.track ≤ d64_tracks (length image)
    → d64_content image p ≡ cell_of (code_of_error (error_at image (index_of p))) (sector_at image (index_of p))
unfolding d64_content
content_on_disk image p h t = rw (has_true (d64_tracks (length image)) p (on_a_track p h, t, h)) refl

content_off_disk : (image : List ℕ) (p : Place) → has (d64_tracks (length image)) p ≡ false → d64_content image p ≡ Ok (replicate 256 0)
unfolding d64_content
content_off_disk image p h = rw h refl

-- an index of a disk of so many tracks
below_683 : (p : Place) → IsOnDisk p → p.track ≤ 35 → index_of p < 683
below_683 p h t = grind arith

below_768 : (p : Place) → IsOnDisk p → index_of p < 768
below_768 p h = grind arith

pub index_in : (n : ℕ) (p : Place) → IsOnDisk p → p.track ≤ d64_tracks n → index_of p < sectors_in n
index_in n p h t = elim (cases_eq n 196608) [
  | inl e ↦ subst (λ (k : ℕ). index_of p < sectors_in k) (sym e) (below_768 p h)
  | inr ne ↦ rw (ne_eqb n 196608 ne) (below_683 p h (rw (ne_eqb n 196608 ne) at t))
]

pub sector_room : (n i : ℕ) → IsImageSize n → i < sectors_in n → 256 * i + 256 ≤ n
sector_room n i (inl e) h = let b : i < 683 = subst (λ (k : ℕ). i < sectors_in k) e h in omega arith
sector_room n i (inr (inl e)) h = let b : i < 683 = subst (λ (k : ℕ). i < sectors_in k) e h in omega arith
sector_room n i (inr (inr e)) h = let b : i < 768 = subst (λ (k : ℕ). i < sectors_in k) e h in omega arith

-- the sectors of a track stand before those of a later one
tracks_in_order : (t u s : ℕ) → s < sectors_on t → t < u → u < 41 → sectors_before t + s < sectors_before u
tracks_in_order t u s h k b = grind arith

below_41 : (p : Place) → IsOnDisk p → p.track < 41
below_41 p h = grind arith

same_track : (p q : Place) → IsOnDisk p → IsOnDisk q → index_of p ≡ index_of q → p.track ≡ q.track
same_track p q h k e = elim (cases_lt p.track q.track) [
  | inl less ↦ (let o = tracks_in_order p.track q.track p.sector h less (below_41 q k) in absurd (omega arith))
  | inr more ↦ elim (cases_lt q.track p.track) [
    | inl less ↦ (let o = tracks_in_order q.track p.track q.sector k less (below_41 p h) in absurd (omega arith))
    | inr same ↦ omega arith
  ]
]

pub index_apart : (p q : Place) → IsOnDisk p → IsOnDisk q → index_of p ≡ index_of q → is_place p q ≡ true
index_apart p q h k e =
    let t : p.track ≡ q.track = same_track p q h k e in
    let b : sectors_before p.track ≡ sectors_before q.track = ap sectors_before t in
    let s : p.sector ≡ q.sector = omega arith in
    grind arith

pub mended_good : (e : ℕ) → code_of_error (mended e) ≡ None
mended_good e = go (code_of_error e) refl
  where
    go : (o : Option ℕ) → code_of_error e ≡ o → code_of_error (elim o [ None ↦ e | Some code ↦ 1 ]) ≡ None
    go None h = h
    go (Some code) h = refl

abbrev one_or : ℕ → Option ℕ → ℕ
one_or e None = e
one_or e (Some code) = 1

pub mended_fault : (e : ℕ) → is_some (code_of_error e) ≡ true → mended e ≡ 1
mended_fault e h = go (code_of_error e) h
  where
    go : (o : Option ℕ) → is_some o ≡ true → one_or e o ≡ 1
    go None h = absurd (cc)
    go (Some code) h = refl

pub mended_same : (e : ℕ) → is_some (code_of_error e) ≡ false → mended e ≡ e
mended_same e h = go (code_of_error e) h
  where
    go : (o : Option ℕ) → is_some o ≡ false → elim o [ None ↦ e | Some code ↦ 1 ] ≡ e
    go None h = refl
    go (Some code) h = absurd (cc)

-- the content after a write
pub content_written : (old new : List ℕ) (at : Place) (bytes : List ℕ) → IsOnDisk at → at.track ≤ d64_tracks (length old) → IsSectorStored old new (index_of at) bytes
    → d64_content new ≡ written (d64_content old) at bytes
content_written old new at bytes h room stored = fun_ext (λ p. at_place p)
  where
    size : length new ≡ length old
    size = stored.size

    good : code_of_error (error_at new (index_of at)) ≡ None
    good = ap code_of_error stored.error ∙ mended_good (error_at old (index_of at))

    tracks : d64_tracks (length new) ≡ d64_tracks (length old)
    tracks = ap d64_tracks size

    elsewhere : (p : Place) → at ≢ p → d64_content new p ≡ d64_content old p
    elsewhere p ne = elim (bool_cases (has (d64_tracks (length old)) p)) [
      | inl on ↦ (let here : Has (d64_tracks (length old)) p = true_has (d64_tracks (length old)) p on in
          let apart : index_of p ≢ index_of at = λ e. false≢true (sym (places_apart at p ne) ∙ index_apart at p h here.2 (sym e)) in
          content_on_disk new p here.2 (subst (λ (n : ℕ). p.track ≤ n) (sym tracks) here.1)
          ∙ ap (λ (e : ℕ). cell_of (code_of_error e) (sector_at new (index_of p))) (stored.other_errors (index_of p) apart)
          ∙ ap (cell_of (code_of_error (error_at old (index_of p)))) (stored.other_sectors (index_of p) (index_in (length old) p here.2 here.1) apart)
          ∙ sym (content_on_disk old p here.2 here.1))
      | inr off ↦ content_off_disk new p (ap (λ (n : ℕ). has n p) tracks ∙ off) ∙ sym (content_off_disk old p off)
    ]

    there : d64_content new at ≡ Ok bytes
    there = content_on_disk new at h (subst (λ (n : ℕ). at.track ≤ n) (sym tracks) room) ∙ ap (λ o. cell_of o (sector_at new (index_of at))) good ∙ ap (cell_of None) stored.sector

    at_place : (p : Place) → d64_content new p ≡ written (d64_content old) at bytes p
    at_place p = elim (place_cases at p) [
      | inl e ↦ subst (λ (q : Place). d64_content new q ≡ written (d64_content old) at bytes q) e (there ∙ sym (written_there (d64_content old) at bytes))
      | inr f ↦ (let apart : at ≢ p = λ e. false≢true (sym f ∙ subst (λ (q : Place). is_place at q ≡ true) e (place_is_itself at)) in
          elsewhere p apart ∙ sym (written_elsewhere (d64_content old) at p bytes apart))
    ]

pub content_blank : (old new : List ℕ) → IsErased old new → d64_content new ≡ blank
content_blank old new erased = fun_ext (λ p. at_place p)
  where
    at_place : (p : Place) → d64_content new p ≡ blank p
    at_place p = elim (bool_cases (has (d64_tracks (length new)) p)) [
      | inl on ↦ (let here : Has (d64_tracks (length new)) p = true_has (d64_tracks (length new)) p on in
          let below : index_of p < sectors_in (length old) = subst (λ (n : ℕ). index_of p < sectors_in n) erased.size (index_in (length new) p here.2 here.1) in
          content_on_disk new p here.2 here.1
          ∙ ap (λ (e : ℕ). cell_of (code_of_error e) (sector_at new (index_of p))) (erased.errors (index_of p) below)
          ∙ ap (cell_of None) (erased.sectors (index_of p) below))
      | inr off ↦ content_off_disk new p off
    ]

-- a sector of a front of zeros
pub sector_in_zeros : (n : ℕ) (ys : List ℕ) (j : ℕ) → 256 * j + 256 ≤ n → sector_at (replicate n 0 ++ ys) j ≡ replicate 256 0
sector_in_zeros n ys j h =
    ap (take 256) (drop-append-le (256 * j) (replicate n 0) ys (omega (arith, length-replicate {A = ℕ} n 0)) ∙ ap (λ (zs : List ℕ). zs ++ ys) (drop-replicate (256 * j) n 0))
    ∙ take-append-le 256 (replicate (n - 256 * j) 0) ys (omega (arith, length-replicate {A = ℕ} (n - 256 * j) 0))
    ∙ take-replicate 256 (n - 256 * j) 0 (omega arith)

-- the error bytes of a front and ones after it
pub ones_are_good : (front : List ℕ) (n j : ℕ) → (length (front ++ replicate n 1) ≡ 175531 → length front ≡ 174848) → j < sectors_in (length (front ++ replicate n 1))
    → error_at (front ++ replicate n 1) j ≡ 1
ones_are_good front n j l h = elim (cases_eq (length (front ++ replicate n 1)) 175531) [
  | inl e ↦ (let f : length front ≡ 174848 = l e in
      let b : j < 683 = subst (λ (k : ℕ). j < sectors_in k) e h in
      rw (eq-eqb (length (front ++ replicate n 1)) 175531 e)
      (get_or-append_right front (replicate n 1) 174848 (174848 + j) 0 f (omega arith)
      ∙ get_or-replicate n (174848 + j - 174848) 1 0 (omega (arith, length-append {A = ℕ} front (replicate n 1), length-replicate {A = ℕ} n 1))))
  | inr ne ↦ rw (ne_eqb (length (front ++ replicate n 1)) 175531 ne) refl
]

-- a fault is told in images of one size alone
pub fault_told : (image : List ℕ) (i : ℕ) → is_some (code_of_error (error_at image i)) ≡ true → length image ≡ 175531
fault_told image i h = elim (cases_eq (length image) 175531) [
  | inl e ↦ e
  | inr ne ↦ absurd (false≢true (ap (λ (e : ℕ). is_some (code_of_error e)) (sym (no_error ne)) ∙ h))
]
  where
    no_error : length image ≢ 175531 → error_at image i ≡ 1
    no_error ne = rw (ne_eqb (length image) 175531 ne) refl

pub error-set_same : (image : List ℕ) (i : ℕ) → length image ≡ 175531 → i < sectors_in (length image) → error_at (set image (174848 + i) 1) i ≡ 1
error-set_same image i l h =
    let below : i < 683 = subst (λ (n : ℕ). i < sectors_in n) l h in
    rw (eq-eqb (length (set image (174848 + i) 1)) 175531 (length-set image (174848 + i) 1 ∙ l))
    (get_or-set_same image (174848 + i) 1 0 (omega arith))

pub error-set_other : (image : List ℕ) (i j : ℕ) → j ≢ i → error_at (set image (174848 + i) 1) j ≡ error_at image j
error-set_other image i j ne = error-same image (set image (174848 + i) 1) j (length-set image (174848 + i) 1)
    (λ _. get_or-set_other image (174848 + i) (174848 + j) 1 0 (omega arith))

-- each sector that reads has 256 bytes
pub image_whole : (image : List ℕ) (p : Place) → IsImageSize (length image) → IsWhole (d64_content image p)
image_whole image p size = by_test (has (d64_tracks (length image)) p) refl
  where
    cell_whole : (o : Option ℕ) → length (sector_at image (index_of p)) ≡ 256 → IsWhole (cell_of o (sector_at image (index_of p)))
    cell_whole None e = e
    cell_whole (Some code) e = tt

    by_test : (b : Bool) → has (d64_tracks (length image)) p ≡ b → IsWhole (d64_content image p)
    by_test true h =
        let t = true_has (d64_tracks (length image)) p h in
        let room : 256 * index_of p + 256 ≤ length image = sector_room (length image) (index_of p) size (index_in (length image) p t.2 t.1) in
        subst (λ (x : Cell). IsWhole x) (sym (content_on_disk image p t.2 t.1))
        (cell_whole (code_of_error (error_at image (index_of p))) (length-take-le 256 (drop (256 * index_of p) image) (omega (arith, room, length-drop {A = ℕ} (256 * index_of p) image))))
    by_test false h = subst (λ (x : Cell). IsWhole x) (sym (content_off_disk image p h)) (length-replicate {A = ℕ} 256 0)

-- ---- outside the sectors

-- a sector that was written once is mended no further
mended_twice : (e : ℕ) → mended (mended e) ≡ mended e
mended_twice e = mended_same (mended e) (ap is_some (mended_good e))

-- a write keeps the rest
pub rest_stored : (old new : List ℕ) (i : ℕ) (bytes : List ℕ) → IsSectorStored old new i bytes → d64_rest new ≡ d64_rest old
unfolding d64_rest
rest_stored old new i bytes stored = λ k. record { size = stored.size k; byte = λ p. if is_error_byte (stored.size k) p then error (p - 174848) k else 0 }
  where
    error : (j : ℕ) → mended (error_at new j) ≡ mended (error_at old j)
    error j = elim (cases_eq j i) [
      | inl e ↦ subst (λ (n : ℕ). mended (error_at new n) ≡ mended (error_at old n)) (sym e) (ap mended stored.error ∙ mended_twice (error_at old i))
      | inr ne ↦ ap mended (stored.other_errors j ne)
    ]

-- a format leaves each error byte good
pub rest_erased : (old new : List ℕ) → IsErased old new → d64_rest new ≡ d64_rest_formatted (length old)
unfolding d64_rest d64_rest_formatted
rest_erased old new erased = same ∙ ap d64_rest_formatted erased.size
  where
    good : (n j : ℕ) → length new ≡ n → n ≡ 175531 → j < 683 → mended (error_at new j) ≡ 1
    good n j is e h = ap mended (erased.errors j (subst (λ (m : ℕ). j < sectors_in m) (sym (sym erased.size ∙ is ∙ e)) h))

    at_place : (p : ℕ) (b : Bool) → is_error_byte (length new) p ≡ b → (if b then mended (error_at new (p - 174848)) else 0) ≡ (if b then 1 else 0)
    at_place p true h = grind (arith, good (length new) (p - 174848) refl)
    at_place p false h = refl

    bytes : (p : ℕ) → (if is_error_byte (length new) p then mended (error_at new (p - 174848)) else 0) ≡ (if is_error_byte (length new) p then 1 else 0)
    bytes p = at_place p (is_error_byte (length new) p) refl

    same : d64_rest new ≡ d64_rest_formatted (length new)
    same = λ k. record { size = length new; byte = fun_ext bytes k }

-- an image of as many bytes and the same rest shows another content, and nothing else that is new
pub seen_with : (old new : Image) (content : Content) → d64_content new.bytes ≡ content → length new.bytes ≡ length old.bytes
    → d64_rest new.bytes ≡ d64_rest old.bytes → new.protected ≡ old.protected → d64_seen new ≡ with_content content (d64_seen old)
seen_with old new content is size rest protected = rw (is, rest, size, protected) refl

-- an image of as many bytes that was formatted shows that
pub seen_formatted : (old new : Image) (id : List ℕ) → d64_content new.bytes ≡ blank → length new.bytes ≡ length old.bytes
    → d64_rest new.bytes ≡ d64_rest_formatted (length old.bytes) → new.protected ≡ old.protected → d64_seen new ≡ formatted_as id (with_content blank (d64_seen old))
seen_formatted old new id is size rest protected = rw (is, rest, size, protected) refl
