-- A disk whose sectors are all zeros is sound, with no block free, so NEW is refused by none of its sectors.
use Rattle.std.proofs.Common.{◌≡◌, ◌≢◌, ◌⊎◌, ℕ, zero, suc, ◌+◌, ◌/◌, ◌%◌, ◌<◌, ◌≤◌, List, [], ◌∷◌, get_or, Bool, true, false, Ok, IsOk, refl, sym, ap, subst, ◌∙◌, arith, inl, inr, Some, None, replicate}
use Rattle.std.specs.Prelude.{if◌then◌else◌, ◌==◌, slice_range}
use Rattle.std.specs.Int.{bit_at}
use Rattle.std.proofs.lemmas.Bool.{eq-eqb, eqb-true}
use Rattle.std.proofs.lemmas.List.{get_or-replicate}
use Rattle.std.proofs.lemmas.Nat.Bits.{bit_at-zero}
use Rattle.cbm_medium.specs.Place.{Place, directory_head, Has, sectors_on}
use Rattle.cbm_medium.specs.Content.{Cell, Content}
use Rattle.cbm_medium.specs.Links.{or_nothing, bytes_at, link}
use Rattle.cbm_medium.specs.Seen.{Seen}
use Rattle.cbm_medium.specs.declared.fault.Trouble.{Trouble}
use Rattle.cbm_file.specs.Files.{Disk, blocks_on}
use Rattle.cbm_bam.specs.Map.{is_free_in, count_in, count_index, map_of, tally, free_in, IsCounted, geometry_of, geometry_in, geometry, tracks_if, at}
use Rattle.cbm_bam.proofs.Counts.{tally_none}
use Rattle.cbm_bam.proofs.Geometries.{wide}
use Rattle.cbm_directory.specs.Entries.{entry_of, type_byte, bit_of, is_relative, entry_at, first_directory}
use Rattle.cbm_volume.specs.Blocks.{no_blocks, LiesAs, file_of}
use Rattle.cbm_volume.specs.Layouts.{Owner, Nobody, TheMap, Directory, DataOf, SideOf, Layout, IsCellWritable, HasLayout}
use Rattle.cbm_volume.specs.Opens.{IsHindered}
use Rattle.cbm_volume.specs.Writers.{Idle, HoldsNow}

-- ---- where it lies

-- on track 18 the map has sector 0, and the directory counts as the owner of the others
abbrev owner_by : Bool → Bool → Owner
owner_by true true = TheMap
owner_by true false = Directory
owner_by false first = Nobody

abbrev owner_of : Place → Owner
owner_of p = owner_by (p.track == 18) (p.sector == 0)

abbrev layout_of : Layout
layout_of = record { directory = first_directory ∷ []; files = λ n. no_blocks; owner = owner_of }

on_track_18 : (p : Place) → owner_of p ≡ Directory → p.track ≡ 18
on_track_18 p h = go (p.track == 18) (p.sector == 0) refl h
  where
    go : (there first : Bool) → (p.track == 18) ≡ there → owner_by there first ≡ Directory → p.track ≡ 18
    go true first e h = eqb-true p.track 18 e
    go false first e h = absurd (cc)

no_file : (p : Place) (n : ℕ) → (owner_of p ≢ DataOf n) × (owner_of p ≢ SideOf n)
no_file p n = go (p.track == 18) (p.sector == 0)
  where
    go : (there first : Bool) → (owner_by there first ≢ DataOf n) × (owner_by there first ≢ SideOf n)
    go true true = ((λ z. (cc)), (λ z. (cc)))
    go true false = ((λ z. (cc)), (λ z. (cc)))
    go false first = ((λ z. (cc)), (λ z. (cc)))

-- ---- what zeros say

abbrev zeros : List ℕ
zeros = replicate 256 0

zero_at : (n i : ℕ) → get_or {A = ℕ} (replicate n 0) i 0 ≡ 0
zero_at zero i = refl
zero_at (suc n) zero = refl
zero_at (suc n) (suc i) = zero_at n i

none_free : (n : ℕ) (p : Place) → is_free_in (replicate n 0) p ≡ false
unfolding is_free_in
none_free n p =
    ap (λ (x : ℕ). bit_at x (p.sector % 8) == 1) (zero_at n (count_index p.track + 1 + p.sector / 8))
    ∙ ap (λ (x : ℕ). x == 1) (bit_at-zero (p.sector % 8))

no_count : (n t : ℕ) → count_in (replicate n 0) t ≡ 0
unfolding count_in
no_count n t = zero_at n (count_index t)

counted : (n tracks : ℕ) → IsCounted tracks (replicate n 0)
counted n tracks = λ t some few. no_count n t ∙ sym (tally_none (is_free_in (replicate n 0)) t (sectors_on t) (λ s k. none_free n (at t s)))

no_type : (k : ℕ) → k < 8 → type_byte (entry_of zeros k) ≡ 0
no_type zero h = refl
no_type (suc zero) h = refl
no_type (suc (suc zero)) h = refl
no_type (suc (suc (suc zero))) h = refl
no_type (suc (suc (suc (suc zero)))) h = refl
no_type (suc (suc (suc (suc (suc zero))))) h = refl
no_type (suc (suc (suc (suc (suc (suc zero)))))) h = refl
no_type (suc (suc (suc (suc (suc (suc (suc zero))))))) h = refl
no_type (suc (suc (suc (suc (suc (suc (suc (suc k)))))))) h = absurd (omega arith)

-- the disk that zeros mean: a title and an id of zeros, no file, no free block
abbrev disk_of : ℕ → Content → Disk
disk_of tracks c = record {
  title = slice_range (map_of c) 144 160;
  mark = slice_range (map_of c) 162 167;
  slots = replicate 8 None;
  room = tally (is_free_in (map_of c)) 18 19;
  free = free_in tracks (map_of c);
  total = blocks_on tracks;
}

-- all sectors of the medium are zeros
abbrev pub AreZeros : ℕ → Content → Type 0
AreZeros tracks c = (p : Place) → Has tracks p → c p ≡ Ok (replicate 256 0)

stands_blank : (tracks : ℕ) (c : Content) → 35 ≤ tracks → AreZeros tracks c → HasLayout tracks c layout_of (disk_of tracks c)
stands_blank tracks c wide z = record {
  sound = record {
    owned = record {
      map = refl;
      directory = (refl, tt);
      blocks = λ n k. tt;
      sides = λ n k. tt;
      on_18 = on_track_18;
      off_18 = λ p t n. no_file p n;
    };
    writable = λ p h. subst (λ (x : Cell). IsCellWritable x) (sym (z p h)) tt;
    map_reads = subst (λ (x : Cell). IsOk x) (sym at_head) refl;
    directory = (refl, (omega arith, omega (arith, wide), omega arith), subst (λ (x : Cell). IsOk x) (sym at_first) refl, ap (λ (x : Cell). (link (or_nothing x)).track) at_first);
    kinds = λ n k. subst (λ (x : ℕ). x % 16 < 5) (sym (empty n k)) (omega arith);
    lies = λ n k. subst (λ (x : Bool). LiesAs x (is_relative (entry n)) tracks c (entry n) no_blocks) (sym (ap (λ (x : ℕ). bit_of x 7) (empty n k))) refl;
    free = λ p h f. absurd (let e = sym (none_free 256 p) ∙ (ap (λ (x : List ℕ). is_free_in x p) (sym map_is) ∙ f) in (cc));
    counted = subst (λ (x : List ℕ). IsCounted tracks x) (sym map_is) (counted 256 tracks);
  };
  describes = record {
    title = refl;
    mark = refl;
    size = refl;
    slots = λ n k. get_or-replicate 8 n None None k
        ∙ sym (ap (λ (x : Bool). if x then None else Some (file_of [] (entry n) no_blocks)) (eq-eqb (type_byte (entry n)) 0 (empty n k)));
    total = refl;
    room = refl;
    free = refl;
  };
}
  where
    at_head : c directory_head ≡ Ok zeros
    at_head = z directory_head (omega arith, omega (arith, wide), omega arith)

    at_first : c first_directory ≡ Ok zeros
    at_first = z first_directory (omega arith, omega (arith, wide), omega arith)

    map_is : map_of c ≡ zeros
    map_is = ap or_nothing at_head

    entry : ℕ → List ℕ
    entry n = entry_at c (first_directory ∷ []) n

    empty : (n : ℕ) → n < 8 → type_byte (entry_at c (first_directory ∷ []) n) ≡ 0
    empty n k =
        let e : n / 8 ≡ 0 = omega arith in
        ap (λ (i : ℕ). type_byte (entry_of (bytes_at c (get_or (first_directory ∷ []) i directory_head)) (n % 8))) e
        ∙ ap (λ (x : Cell). type_byte (entry_of (or_nothing x) (n % 8))) at_first ∙ no_type (n % 8) (omega arith)

-- the map of zeros is one of as many tracks as the medium has
all_used : (tracks : ℕ) (c : Content) → (tracks ≡ 35) ⊎ (tracks ≡ 40) → c directory_head ≡ Ok zeros → geometry_of tracks c ≡ tracks
all_used tracks c (inl e) h = ap (geometry_in tracks) h ∙ (ap (λ (n : ℕ). geometry n zeros) e ∙ sym e)
all_used tracks c (inr e) h = ap (geometry_in tracks) h ∙ (ap (λ (n : ℕ). geometry n zeros) e ∙ (ap tracks_if (wide zeros (counted 256 40)) ∙ sym e))

enough : (tracks : ℕ) → (tracks ≡ 35) ⊎ (tracks ≡ 40) → 35 ≤ tracks
enough tracks (inl e) = omega (arith, e)
enough tracks (inr e) = omega (arith, e)

-- A DISK OF ZEROS IS SOUND, and no channel uses it
pub blank_holds : (tracks : ℕ) (c : Content) → (tracks ≡ 35) ⊎ (tracks ≡ 40) → AreZeros tracks c → (d : Disk) × HoldsNow tracks c d (λ ch. Idle)
blank_holds tracks c either z =
    let head : c directory_head ≡ Ok zeros = z directory_head (omega arith, omega (arith, enough tracks either), omega arith) in (
      disk_of tracks c,
      record {
        layout = layout_of;
        so = record {
          stands = subst (λ (n : ℕ). HasLayout n c layout_of (disk_of tracks c)) (sym (all_used tracks c either head)) (stands_blank tracks c (enough tracks either) z);
          each = λ ch. tt;
          alone = λ a b n w h. absurd (cc);
        };
      },
    )

-- nothing stops a call on a disk that isn't protected and never fails
pub never_hindered : (old new : Seen) (t : Trouble) → old.protected ≡ false → old.failures ≡ 0 → new.failures ≡ 0 → IsHindered old new t → ⊥
never_hindered old new t free before afterwards (inl p) = let z = sym free ∙ p.0 in cc
never_hindered old new t free before afterwards (inr f) = omega (arith, before, afterwards, f)
