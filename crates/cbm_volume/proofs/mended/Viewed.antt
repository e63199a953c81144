-- What VALIDATE looks at: what its sectors are, beside those of the disk.
use Rattle.std.proofs.Common.{◌≡◌, ◌≢◌, ℕ, zero, suc, ◌+◌, ◌-◌, ◌*◌, ◌<◌, ◌≤◌, List, length, get_or, take, drop, replicate, ◌++◌, Bool, true, false, Ok, Err, IsOk, refl, sym, ap, subst, ◌∙◌, arith}
use Rattle.std.specs.Prelude.{◌==◌, nat_lt, if◌then◌else◌, slice_set}
use Rattle.std.proofs.lemmas.List.{length-take, length-drop, length-append, length-set, length-replicate}
use Rattle.cbm_medium.specs.Place.{Place, Has, directory_head}
use Rattle.cbm_medium.specs.Content.{Cell, Content, IsWhole}
use Rattle.cbm_medium.specs.Links.{bytes_at, link, or_nothing}
use Rattle.cbm_directory.specs.Entries.{entry_of, is_closed, type_byte}
use Rattle.std.proofs.Common.{◌⊎◌, inl, inr}
use Rattle.std.specs.Prelude.{◌&&◌}
use Rattle.std.proofs.lemmas.Bool.{eq-eqb, ne_eqb, cases_eq, cases_lt}
use Rattle.std.proofs.lemmas.List.{get_or-set_other, get_or-set_same, get_or-take, get_or-drop}
use Rattle.cbm_bam.specs.Map.{geometry_of, geometry_in, IsCounted, is_free_in}
use Rattle.cbm_bam.specs.WrittenAnew.{IsAnew, is_place_before}
use Rattle.cbm_bam.proofs.WholeMaps.{IsZero, IsRest, begun_35, begun_40}
use Rattle.cbm_chain.proofs.Filling.{zeros_at}
use Rattle.cbm_directory.proofs.Written.{range_same, mid_below, mid_above, mid_inside}
use Rattle.cbm_volume.proofs.mended.Recounts.{IsRecounted, recounted_geometry}
use Rattle.cbm_volume.specs.Sweeps.{IsSweptAs}
use Rattle.cbm_volume.specs.Views.{zeroed, taken_map, clear_open, swept, on_cell, view_at, view_of}

-- ---- lengths

zeroed_length : (from n : ℕ) (xs : List ℕ) → from + n ≤ length xs → length (zeroed from n xs) ≡ length xs
zeroed_length from n xs h =
    length-append (take from xs) (replicate n 0 ++ drop n (drop from xs))
    ∙ omega (arith, h, length-take from xs, length-append (replicate n 0) (drop n (drop from xs)), length-replicate {A = ℕ} n 0, length-drop n (drop from xs), length-drop from xs)

taken_length : (tracks : ℕ) (xs : List ℕ) → length xs ≡ 256 → length (taken_map tracks xs) ≡ 256
taken_length tracks xs h = by_test (nat_lt tracks 40)
  where
    inner : length (zeroed 4 140 xs) ≡ 256
    inner = zeroed_length 4 140 xs (omega (arith, h)) ∙ h

    by_test : (b : Bool) → length (if b then zeroed 4 140 xs else zeroed 192 20 (zeroed 4 140 xs)) ≡ 256
    by_test true = inner
    by_test false = zeroed_length 192 20 (zeroed 4 140 xs) (omega (arith, inner)) ∙ inner

pub clear_length : (n : ℕ) (xs : List ℕ) → length (clear_open n xs) ≡ length xs
clear_length n xs = by_test (is_closed (entry_of xs n))
  where
    by_test : (b : Bool) → length (if b then xs else slice_set xs (32 * n + 2) 0) ≡ length xs
    by_test true = refl
    by_test false = length-set xs (32 * n + 2) 0

pub swept_length : (n : ℕ) (xs : List ℕ) → length (swept n xs) ≡ length xs
unfolding swept
swept_length zero xs = refl
swept_length (suc n) xs = clear_length n (swept n xs) ∙ swept_length n xs

shown_length : (tracks : ℕ) (p : Place) (xs : List ℕ) → length xs ≡ 256 → length (view_at tracks p xs) ≡ 256
shown_length tracks p xs h = by_test (p.track == 18) (p.sector == 0)
  where
    by_test : (a b : Bool) → length (if a then (if b then taken_map tracks xs else swept 8 xs) else xs) ≡ 256
    by_test true true = taken_length tracks xs h
    by_test true false = swept_length 8 xs ∙ h
    by_test false b = h

-- a sector that reads has 256 bytes
pub view_whole : (tracks : ℕ) (c : Content) (p : Place) → IsWhole (c p) → IsWhole (view_of tracks c p)
unfolding view_of
view_whole tracks c p h = by_cell (c p) h
  where
    by_cell : (cell : Cell) → IsWhole cell → IsWhole (on_cell (view_at tracks p) cell)
    by_cell (Ok bytes) l = shown_length tracks p bytes l
    by_cell (Err code) l = tt

-- ---- one more entry

one_more : (n : ℕ) (xs : List ℕ) → clear_open n (swept n xs) ≡ swept (suc n) xs
unfolding swept
one_more n xs = refl

pub swept_next : (n m : ℕ) (xs ys zs : List ℕ) → m ≡ n + 1 → ys ≡ swept n xs → zs ≡ clear_open n ys → zs ≡ swept m xs
swept_next n m xs ys zs at before e = e ∙ ap (clear_open n) before ∙ one_more n xs ∙ ap (λ (k : ℕ). swept k xs) (let z : suc n ≡ m = omega (arith, at) in z)

pub swept_none : (xs ys : List ℕ) → ys ≡ xs → ys ≡ swept 0 xs
unfolding swept
swept_none xs ys e = e

-- ---- what a sector shows, by what it is

pub view_reads : (tracks : ℕ) (c : Content) (p : Place) (bytes : List ℕ) → c p ≡ Ok bytes → view_of tracks c p ≡ Ok (view_at tracks p bytes)
unfolding view_of
view_reads tracks c p bytes e = ap (on_cell (view_at tracks p)) e

pub view_faults : (tracks : ℕ) (c : Content) (p : Place) (code : ℕ) → c p ≡ Err code → view_of tracks c p ≡ Err code
unfolding view_of
view_faults tracks c p code e = ap (on_cell (view_at tracks p)) e

pub view_reads_too : (tracks : ℕ) (c : Content) (p : Place) → IsOk (view_of tracks c p) → IsOk (c p)
unfolding view_of
view_reads_too tracks c p h = by_cell (c p) h
  where
    by_cell : (cell : Cell) → IsOk (on_cell (view_at tracks p) cell) → IsOk cell
    by_cell (Ok bytes) k = refl
    by_cell (Err code) k = k

pub view_reads_so : (tracks : ℕ) (c : Content) (p : Place) → IsOk (c p) → IsOk (view_of tracks c p)
unfolding view_of
view_reads_so tracks c p h = by_cell (c p) h
  where
    by_cell : (cell : Cell) → IsOk cell → IsOk (on_cell (view_at tracks p) cell)
    by_cell (Ok bytes) k = refl
    by_cell (Err code) k = k

-- off track 18 each sector shows what it holds
pub view_elsewhere : (tracks : ℕ) (c : Content) (p : Place) → p.track ≢ 18 → view_of tracks c p ≡ c p
unfolding view_of
view_elsewhere tracks c p off = ap (λ (b : Bool). on_cell (λ xs. if b then (if p.sector == 0 then taken_map tracks xs else swept 8 xs) else xs) (c p)) (ne_eqb p.track 18 off) ∙ by_cell (c p)
  where
    by_cell : (cell : Cell) → on_cell (λ xs. xs) cell ≡ cell
    by_cell (Ok bytes) = refl
    by_cell (Err code) = refl

-- ---- the map that is shown

zero_part : (from n end : ℕ) (xs : List ℕ) → end ≡ from + n → from + n ≤ length xs → IsZero (zeroed from n xs) from end
zero_part from n end xs e l i a b = mid_inside from n xs (replicate n 0) i l (length-replicate {A = ℕ} n 0) a (omega (arith, e, b)) ∙ zeros_at n (i - from)

rest_part : (from n end : ℕ) (xs : List ℕ) → end ≡ from + n → from + n ≤ length xs → IsRest xs (zeroed from n xs) from end
rest_part from n end xs e l i (inl a) = mid_below from n xs (replicate n 0) i l (length-replicate {A = ℕ} n 0) a
rest_part from n end xs e l i (inr a) = mid_above from n xs (replicate n 0) i l (length-replicate {A = ℕ} n 0) (omega (arith, e, a))

pub taken_anew : (tracks : ℕ) (xs : List ℕ) (used : Place → Bool) → (tracks ≡ 35) ⊎ (tracks ≡ 40) → length xs ≡ 256 → IsAnew tracks xs (taken_map tracks xs) used 1 0
taken_anew tracks xs used (inl e) l = subst (λ (n : ℕ). IsAnew n xs (taken_map n xs) used 1 0) (sym e)
    (begun_35 35 xs (zeroed 4 140 xs) used (inl refl) (omega arith) (zeroed_length 4 140 xs (omega (arith, l)) ∙ l) (zero_part 4 140 144 xs refl (omega (arith, l))) (rest_part 4 140 144 xs refl (omega (arith, l))))
taken_anew tracks xs used (inr e) l =
    let inner : length (zeroed 4 140 xs) ≡ 256 = zeroed_length 4 140 xs (omega (arith, l)) ∙ l in
    subst (λ (n : ℕ). IsAnew n xs (taken_map n xs) used 1 0) (sym e)
    (begun_40 40 xs (zeroed 4 140 xs) (zeroed 192 20 (zeroed 4 140 xs)) used (inr refl) (omega arith) (zeroed_length 192 20 (zeroed 4 140 xs) (omega (arith, inner)) ∙ inner)
    (zero_part 4 140 144 xs refl (omega (arith, l))) (rest_part 4 140 144 xs refl (omega (arith, l)))
    (zero_part 192 20 212 (zeroed 4 140 xs) refl (omega (arith, inner))) (rest_part 192 20 212 (zeroed 4 140 xs) refl (omega (arith, inner))))

-- what 18/0 shows
pub record ShowsMap (tracks : ℕ) (c : Content) (map : List ℕ) : Type 0 where
  pub shown : view_of tracks c directory_head ≡ Ok (taken_map tracks map)
  pub counted : IsCounted tracks (taken_map tracks map)
  pub taken : (p : Place) → Has tracks p → is_free_in (taken_map tracks map) p ≡ false
  pub recounted : IsRecounted tracks map (taken_map tracks map)

and_false : (b : Bool) → (b && false) ≡ false
and_false true = refl
and_false false = refl

pub shows_map : (tracks : ℕ) (c : Content) (map : List ℕ) → (tracks ≡ 35) ⊎ (tracks ≡ 40) → ((p : Place) → IsWhole (c p)) → c directory_head ≡ Ok map → ShowsMap tracks c map
shows_map tracks c map either whole e =
    let a : IsAnew tracks map (taken_map tracks map) (λ _. true) 1 0 = taken_anew tracks map (λ _. true) either (subst (λ (x : Cell). IsWhole x) e (whole directory_head)) in
    record {
      shown = view_reads tracks c directory_head map e;
      counted = a.counted;
      taken = λ p h. a.bits p h ∙ and_false (is_place_before 1 0 p);
      recounted = record { counted = a.counted; outside = a.outside };
    }

-- a disk of so many tracks is shown as one of so many
pub view_geometry : (medium : ℕ) (c : Content) → (geometry_of medium c ≡ 35) ⊎ (geometry_of medium c ≡ 40) → ((p : Place) → IsWhole (c p)) → geometry_of medium (view_of (geometry_of medium c) c) ≡ geometry_of medium c
view_geometry medium c either whole = by_cell (c directory_head) refl
  where
    by_cell : (cell : Cell) → c directory_head ≡ cell → geometry_of medium (view_of (geometry_of medium c) c) ≡ geometry_of medium c
    by_cell (Ok map) e =
        let s : ShowsMap (geometry_of medium c) c map = shows_map (geometry_of medium c) c map either whole e in
        recounted_geometry medium c (view_of (geometry_of medium c) c) map (taken_map (geometry_of medium c) map) e s.shown s.recounted
    by_cell (Err code) e = ap (geometry_in medium) (view_faults (geometry_of medium c) c directory_head code e) ∙ sym (ap (geometry_in medium) e)

-- ---- the entries that are shown

-- a sector in which some bytes are others than the two of its link
set_link : (xs : List ℕ) (n : ℕ) → link (slice_set xs (32 * n + 2) 0) ≡ link xs
set_link xs n = λ i. record { track = get_or-set_other xs (32 * n + 2) 0 0 0 (λ e. omega (arith, e)) i; sector = get_or-set_other xs (32 * n + 2) 1 0 0 (λ e. omega (arith, e)) i }

set_entry : (xs : List ℕ) (n k : ℕ) → k ≢ n → entry_of (slice_set xs (32 * n + 2) 0) k ≡ entry_of xs k
set_entry xs n k ne = range_same (slice_set xs (32 * n + 2) 0) xs (32 * k + 2) (32 * k + 32) (length-set xs (32 * n + 2) 0)
    (λ i a b. get_or-set_other xs (32 * n + 2) i 0 0 (λ e. elim (cases_lt k n) [ inl l ↦ omega (arith, l, e, a, b) | inr l ↦ ne (omega (arith, l, e, a, b)) ]))

set_type : (xs : List ℕ) (n : ℕ) → length xs ≡ 256 → n < 8 → type_byte (entry_of (slice_set xs (32 * n + 2) 0) n) ≡ 0
set_type xs n l h =
    let m : 32 * n + 32 - (32 * n + 2) ≡ 30 = omega arith in
    get_or-take (32 * n + 32 - (32 * n + 2)) (drop (32 * n + 2) (slice_set xs (32 * n + 2) 0)) 0 0 (omega (arith, m))
    ∙ get_or-drop (32 * n + 2) (slice_set xs (32 * n + 2) 0) 0 0
    ∙ ap (λ (i : ℕ). get_or (slice_set xs (32 * n + 2) 0) i 0) (let z : 32 * n + 2 + 0 ≡ 32 * n + 2 = omega arith in z)
    ∙ get_or-set_same xs (32 * n + 2) 0 0 (omega (arith, l, h))

clear_link : (n : ℕ) (xs : List ℕ) → link (clear_open n xs) ≡ link xs
clear_link n xs = by_test (is_closed (entry_of xs n))
  where
    by_test : (b : Bool) → link (if b then xs else slice_set xs (32 * n + 2) 0) ≡ link xs
    by_test true = refl
    by_test false = set_link xs n

clear_other : (n k : ℕ) (xs : List ℕ) → k ≢ n → entry_of (clear_open n xs) k ≡ entry_of xs k
clear_other n k xs ne = by_test (is_closed (entry_of xs n))
  where
    by_test : (b : Bool) → entry_of (if b then xs else slice_set xs (32 * n + 2) 0) k ≡ entry_of xs k
    by_test true = refl
    by_test false = set_entry xs n k ne

clear_here : (n : ℕ) (xs : List ℕ) → length xs ≡ 256 → n < 8 → IsSweptAs (entry_of xs n) (entry_of (clear_open n xs) n)
clear_here n xs l h = by_test (is_closed (entry_of xs n)) refl
  where
    by_test : (b : Bool) → is_closed (entry_of xs n) ≡ b → IsSweptAs (entry_of xs n) (entry_of (if b then xs else slice_set xs (32 * n + 2) 0) n)
    by_test true e = record { closed = λ _. refl; unclosed = λ z. absurd (let y = sym e ∙ z in cc) }
    by_test false e = record { closed = λ z. absurd (let y = sym e ∙ z in cc); unclosed = λ _. set_type xs n l h }

swept_link : (n : ℕ) (xs : List ℕ) → link (swept n xs) ≡ link xs
unfolding swept
swept_link zero xs = refl
swept_link (suc n) xs = clear_link n (swept n xs) ∙ swept_link n xs

swept_after : (n k : ℕ) (xs : List ℕ) → n ≤ k → entry_of (swept n xs) k ≡ entry_of xs k
unfolding swept
swept_after zero k xs h = refl
swept_after (suc n) k xs h = clear_other n k (swept n xs) (λ e. omega (arith, e, h)) ∙ swept_after n k xs (omega (arith, h))

swept_before : (n k : ℕ) (xs : List ℕ) → length xs ≡ 256 → n ≤ 8 → k < n → IsSweptAs (entry_of xs k) (entry_of (swept n xs) k)
unfolding swept
swept_before zero k xs l m h = absurd (omega (arith, h))
swept_before (suc n) k xs l m h = elim (cases_eq k n) [
  | inl e ↦ subst (λ (j : ℕ). IsSweptAs (entry_of xs j) (entry_of (clear_open n (swept n xs)) j)) (sym e)
      (subst (λ (x : List ℕ). IsSweptAs x (entry_of (clear_open n (swept n xs)) n)) (swept_after n n xs (omega arith)) (clear_here n (swept n xs) (swept_length n xs ∙ l) (omega (arith, m))))
  | inr ne ↦ subst (λ (x : List ℕ). IsSweptAs (entry_of xs k) x) (sym (clear_other n k (swept n xs) ne)) (swept_before n k xs l (omega (arith, m)) (omega (arith, h, ne)))
]

-- a sector of the directory links where it did, and its entries are swept
pub view_links : (tracks : ℕ) (c : Content) (p : Place) → p.track ≡ 18 → p ≢ directory_head → link (bytes_at (view_of tracks c) p) ≡ link (bytes_at c p)
unfolding view_of
view_links tracks c p on ne = by_cell (c p)
  where
    inner : (q : Place) (xs : List ℕ) → q.track ≡ 18 → q.sector ≢ 0 → link (view_at tracks q xs) ≡ link xs
    inner q xs a b = ap (λ (x : Bool). link (if x then (if q.sector == 0 then taken_map tracks xs else swept 8 xs) else xs)) (eq-eqb q.track 18 a)
        ∙ ap (λ (x : Bool). link (if x then taken_map tracks xs else swept 8 xs)) (ne_eqb q.sector 0 b) ∙ swept_link 8 xs

    by_cell : (cell : Cell) → link (or_nothing (on_cell (view_at tracks p) cell)) ≡ link (or_nothing cell)
    by_cell (Ok bytes) = inner p bytes on (λ z. ne (λ i. record { track = on i; sector = z i }))
    by_cell (Err code) = refl

pub view_entries : (tracks : ℕ) (c : Content) (p : Place) (k : ℕ) → p.track ≡ 18 → p ≢ directory_head → IsWhole (c p) → IsOk (c p) → k < 8 → IsSweptAs (entry_of (bytes_at c p) k) (entry_of (bytes_at (view_of tracks c) p) k)
unfolding view_of
view_entries tracks c p k on ne whole ok h = by_cell (c p) whole ok
  where
    shown : (xs : List ℕ) → view_at tracks p xs ≡ swept 8 xs
    shown xs = ap (λ (x : Bool). if x then (if p.sector == 0 then taken_map tracks xs else swept 8 xs) else xs) (eq-eqb p.track 18 on)
        ∙ ap (λ (x : Bool). if x then taken_map tracks xs else swept 8 xs) (ne_eqb p.sector 0 (λ z. ne (λ i. record { track = on i; sector = z i })))

    by_cell : (cell : Cell) → IsWhole cell → IsOk cell → IsSweptAs (entry_of (or_nothing cell) k) (entry_of (or_nothing (on_cell (view_at tracks p) cell)) k)
    by_cell (Ok bytes) l o = subst (λ (x : List ℕ). IsSweptAs (entry_of bytes k) (entry_of x k)) (sym (shown bytes)) (swept_before 8 k bytes l (omega arith) h)
    by_cell (Err code) l o = absurd (let z = o in cc)
