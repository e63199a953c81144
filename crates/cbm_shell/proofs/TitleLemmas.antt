-- 18/0 gets another title: the disk is the same but for it.
use Rattle.std.proofs.Common.{◌≡◌, ◌⊎◌, ℕ, ◌+◌, ◌-◌, ◌*◌, ◌/◌, ◌%◌, ◌<◌, ◌≤◌, List, ◌++◌, length, take, drop, get_or, Bool, Ok, Err, IsOk, refl, sym, ap, subst, ◌∙◌, arith, inl, inr, length-append}
use Rattle.std.specs.Prelude.{◌==◌, ◌&&◌, replicate, slice_range}
use Rattle.std.specs.Int.{bit_at}
use Rattle.std.proofs.lemmas.Bool.{cases_lt, lt-ltb, le-ltb}
use Rattle.std.proofs.lemmas.List.{length-replicate, length-take, length-drop}
use Rattle.std.proofs.Math.Seq.{take-append_seam, drop-append_seam}
use Rattle.cbm_medium.specs.Place.{Place, sectors_on, directory_head}
use Rattle.cbm_medium.specs.Content.{Cell, Content, IsWhole}
use Rattle.cbm_medium.specs.Links.{or_nothing, bytes_at}
use Rattle.cbm_medium.proofs.Places.{written_there}
use Rattle.cbm_file.specs.Padding.{padded}
use Rattle.cbm_file.specs.Files.{Disk}
use Rattle.cbm_bam.specs.Map.{count_index, is_free_in, count_in, tally, free_in, IsCounted, is_wide, tracks_if, geometry_in, geometry_of, map_of, at}
use Rattle.cbm_bam.proofs.Bits.{few_sectors}
use Rattle.cbm_bam.proofs.Counts.{tally_same, summed_same}
use Rattle.cbm_directory.specs.Entries.{type_byte, entry_at, first_directory}
use Rattle.cbm_directory.proofs.Written.{range_same, mid_below, mid_above}
use Rattle.cbm_volume.specs.Blocks.{Lies, slot_of}
use Rattle.cbm_volume.specs.Layouts.{Directory, DataOf, SideOf, Layout, Sound, Describes, HasLayout}
use Rattle.cbm_volume.specs.Holding.{HoldsDisk}
use Rattle.cbm_volume.proofs.layouts.Frames.{Keeps, chain_kept, lies_kept, slot_kept}
use Rattle.cbm_volume.proofs.layouts.Loose.{entry_kept, writable_written}
use Rattle.cbm_volume.proofs.layouts.Remaps.{with_map, map_is, map_keeps}
use Rattle.cbm_shell.specs.Locking.{with_title, titled, entitled}

-- ---- the sector

pub padded_length : (title : List ℕ) → length title ≤ 16 → length (padded title) ≡ 16
padded_length title h = length-append title (replicate (16 - length title) 160) ∙ omega (arith, length-replicate {A = ℕ} (16 - length title) 160)

-- all but the sixteen bytes of the title is as it was
abbrev IsSameAround : List ℕ → List ℕ → Type 0
IsSameAround old new = (i : ℕ) → (i < 144) ⊎ (160 ≤ i) → get_or new i 0 ≡ get_or old i 0

around : (title head : List ℕ) → length head ≡ 256 → length title ≤ 16 → IsSameAround head (with_title title head)
around title head l h i (inl low) = mid_below 144 16 head (padded title) i (omega arith) (padded_length title h) low
around title head l h i (inr high) = mid_above 144 16 head (padded title) i (omega arith) (padded_length title h) high

as_long : (title head : List ℕ) → length head ≡ 256 → length title ≤ 16 → length (with_title title head) ≡ length head
as_long title head l h =
    let front : length (take 144 head) ≡ 144 = length-take 144 head ∙ omega arith in
    length-append (take 144 head) (padded title ++ drop 16 (drop 144 head)) ∙ omega (arith, front, length-append (padded title) (drop 16 (drop 144 head)), padded_length title h, length-drop 16 (drop 144 head), length-drop 144 head)

title_is : (title head : List ℕ) → length head ≡ 256 → length title ≤ 16 → slice_range (with_title title head) 144 160 ≡ padded title
title_is title head l h =
    let front : length (take 144 head) ≡ 144 = length-take 144 head ∙ omega arith in
    ap (λ (n : ℕ). take 16 (drop n (with_title title head))) (sym front)
    ∙ ap (take 16) (drop-append_seam (take 144 head) (padded title ++ drop 16 (drop 144 head)))
    ∙ ap (λ (n : ℕ). take n (padded title ++ drop 16 (drop 144 head))) (sym (padded_length title h))
    ∙ take-append_seam (padded title) (drop 16 (drop 144 head))

-- ---- the map is the same

low : (t : ℕ) → t < 36 → count_index t ≡ 4 * t
unfolding count_index
low t h = rw (lt-ltb t 36 h) refl

high : (t : ℕ) → 36 ≤ t → count_index t ≡ 4 * t + 48
unfolding count_index
high t h = rw (le-ltb t 36 h) refl

-- a track's four bytes stand before the title, or after it
apart : (t i : ℕ) → count_index t ≤ i → i < count_index t + 4 → (i < 144) ⊎ (160 ≤ i)
apart t i a b = elim (cases_lt t 36) [ inl h ↦ inl (omega (arith, low t h)) | inr h ↦ inr (omega (arith, high t h)) ]

bits_stay : (old new : List ℕ) (p : Place) → IsSameAround old new → p.sector < 24 → is_free_in new p ≡ is_free_in old p
unfolding is_free_in
bits_stay old new p same h =
    ap (λ (v : ℕ). bit_at v (p.sector % 8) == 1) (same (count_index p.track + 1 + p.sector / 8) (apart p.track (count_index p.track + 1 + p.sector / 8) (omega arith) (omega arith)))

count_stays : (old new : List ℕ) (t : ℕ) → IsSameAround old new → count_in new t ≡ count_in old t
unfolding count_in
count_stays old new t same = same (count_index t) (apart t (count_index t) (omega arith) (omega arith))

tally_stays : (old new : List ℕ) (t n : ℕ) → IsSameAround old new → n < 24 → tally (is_free_in new) t n ≡ tally (is_free_in old) t n
tally_stays old new t n same h = tally_same (is_free_in new) (is_free_in old) t n (λ s k. bits_stay old new (at t s) same (omega arith))

counted_stays : (tracks : ℕ) (old new : List ℕ) → IsSameAround old new → IsCounted tracks old → IsCounted tracks new
counted_stays tracks old new same h t a b = count_stays old new t same ∙ h t a b ∙ sym (tally_stays old new t (sectors_on t) same (omega (arith, few_sectors t)))

free_stays : (tracks : ℕ) (old new : List ℕ) → IsSameAround old new → free_in tracks new ≡ free_in tracks old
unfolding free_in
free_stays tracks old new same = summed_same (count_in new) (count_in old) tracks (λ t a b. count_stays old new t same)

one : (old new : List ℕ) (t : ℕ) → IsSameAround old new → (count_in new t == tally (is_free_in new) t 17) ≡ (count_in old t == tally (is_free_in old) t 17)
one old new t same = ap (λ (x : ℕ). x == tally (is_free_in new) t 17) (count_stays old new t same) ∙ ap (λ (x : ℕ). count_in old t == x) (tally_stays old new t 17 same (omega arith))

wide_stays : (old new : List ℕ) → IsSameAround old new → is_wide new ≡ is_wide old
wide_stays old new same = simp (one old new 36 same, one old new 37 same, one old new 38 same, one old new 39 same, one old new 40 same)

geometry_stays : (medium : ℕ) (c c' : Content) (old new : List ℕ) → c directory_head ≡ Ok old → c' directory_head ≡ Ok new → IsSameAround old new → geometry_of medium c' ≡ geometry_of medium c
geometry_stays medium c c' old new a b same =
    ap (geometry_in medium) b ∙ ap (λ (w : Bool). tracks_if ((medium == 40) && w)) (wide_stays old new same) ∙ sym (ap (geometry_in medium) a)

-- ---- the disk

stands_titled : (tracks : ℕ) (c : Content) (l : Layout) (d : Disk) (head title : List ℕ) → HasLayout tracks c l d → c directory_head ≡ Ok head → length head ≡ 256 → length title ≤ 16
    → HasLayout tracks (with_map c (with_title title head)) l (entitled title d)
stands_titled tracks c l d head title stands reads long short = record {
  sound = record {
    owned = s.owned;
    writable = writable_written tracks c directory_head map s.writable;
    map_reads = subst (λ (x : Cell). IsOk x) (sym (written_there c directory_head map)) refl;
    directory = chain_kept tracks c c' l.owner Directory dir first_directory l.directory s.owned.directory s.directory;
    kinds = λ n k. subst (λ (x : List ℕ). type_byte x % 16 < 5) (sym (entry_kept c c' l s.owned dir n k)) (s.kinds n k);
    lies = λ n k. lies_kept tracks c c' l.owner (DataOf n) (SideOf n) (entry_at c' l.directory n) (l.files n)
        (map_keeps c l map (DataOf n) s.owned (λ e. (cc))) (map_keeps c l map (SideOf n) s.owned (λ e. (cc))) (s.owned.blocks n k) (s.owned.sides n k)
        (subst (λ (x : List ℕ). Lies tracks c x (l.files n)) (sym (entry_kept c c' l s.owned dir n k)) (s.lies n k));
    free = λ p k e. s.free p k (ap (λ (x : List ℕ). is_free_in x p) was ∙ sym (bits_stay head map p same (omega (arith, k.2, few_sectors p.track))) ∙ ap (λ (x : List ℕ). is_free_in x p) (sym now) ∙ e);
    counted = subst (λ (x : List ℕ). IsCounted tracks x) (sym now) (counted_stays tracks head map same (subst (λ (x : List ℕ). IsCounted tracks x) was s.counted));
  };
  describes = record {
    title = sym (ap (λ (x : List ℕ). slice_range x 144 160) now ∙ title_is title head long short);
    mark = m.mark ∙ ap (λ (x : List ℕ). slice_range x 162 167) was ∙ sym (range_same map head 162 167 (as_long title head long short) (λ i a b. same i (inr (omega arith)))) ∙ ap (λ (x : List ℕ). slice_range x 162 167) (sym now);
    size = m.size;
    slots = λ n k. m.slots n k ∙ sym (slot_kept c c' l.owner (DataOf n) (entry_at c l.directory n) (l.files n) (map_keeps c l map (DataOf n) s.owned (λ e. (cc))) (s.owned.blocks n k))
        ∙ ap (λ (x : List ℕ). slot_of c' x (l.files n)) (sym (entry_kept c c' l s.owned dir n k));
    total = m.total;
    room = m.room ∙ ap (λ (x : List ℕ). tally (is_free_in x) 18 19) was ∙ sym (tally_stays head map 18 19 same (omega arith)) ∙ ap (λ (x : List ℕ). tally (is_free_in x) 18 19) (sym now);
    free = m.free ∙ ap (λ (x : List ℕ). free_in tracks x) was ∙ sym (free_stays tracks head map same) ∙ ap (λ (x : List ℕ). free_in tracks x) (sym now);
  };
}
  where
    s : Sound tracks c l
    s = stands.sound

    m : Describes tracks c l d
    m = stands.describes

    map : List ℕ
    map = with_title title head

    c' : Content
    c' = with_map c map

    was : map_of c ≡ head
    was = ap or_nothing reads

    now : map_of c' ≡ map
    now = map_is c map

    same : IsSameAround head map
    same = around title head long short

    dir : Keeps c c' l.owner Directory
    dir = map_keeps c l map Directory s.owned (λ e. (cc))

-- A DISK WITH ANOTHER TITLE is sound, and the same but for that
pub titled_holds : (medium : ℕ) (c c2 : Content) (title : List ℕ) (d : Disk) → ((p : Place) → IsWhole (c p)) → length title ≤ 16 → c2 ≡ titled title c → HoldsDisk medium c d → HoldsDisk medium c2 (entitled title d)
titled_holds medium c c2 title d whole short is h = subst (λ (x : Content). HoldsDisk medium x (entitled title d)) (sym is) (by_cell (c directory_head) refl h.stands.sound.map_reads (whole directory_head))
  where
    by_cell : (cell : Cell) → c directory_head ≡ cell → IsOk cell → IsWhole cell → HoldsDisk medium (titled title c) (entitled title d)
    by_cell (Ok head) e ok long =
        let was : bytes_at c directory_head ≡ head = ap or_nothing e in
        let now : titled title c ≡ with_map c (with_title title head) = ap (λ (x : List ℕ). with_map c (with_title title x)) was in
        let same : geometry_of medium (with_map c (with_title title head)) ≡ geometry_of medium c =
        geometry_stays medium c (with_map c (with_title title head)) head (with_title title head) e (written_there c directory_head (with_title title head)) (around title head long short) in
        subst (λ (x : Content). HoldsDisk medium x (entitled title d)) (sym now) (record {
          layout = h.layout;
          stands = subst (λ (n : ℕ). HasLayout n (with_map c (with_title title head)) h.layout (entitled title d)) (sym same)
              (stands_titled (geometry_of medium c) c h.layout d head title h.stands e long short);
        })
    by_cell (Err code) e ok long = absurd (cc)
