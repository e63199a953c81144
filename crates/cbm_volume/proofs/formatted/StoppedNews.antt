-- Where NEW was stopped after its first write, the medium holds a disk without files.
use Rattle.std.proofs.Common.{◌≡◌, ◌⊎◌, ℕ, zero, suc, ◌+◌, ◌/◌, ◌%◌, ◌<◌, ◌≤◌, List, [], ◌∷◌, get_or, Bool, true, false, Ok, Err, IsOk, refl, sym, ap, subst, ◌∙◌, arith, inl, inr, Option, Some, None, Result, replicate}
use Rattle.std.specs.Prelude.{if◌then◌else◌, slice_range, OnErr, ◌==◌}
use Rattle.std.specs.Int.{bit_at}
use Rattle.std.proofs.lemmas.Bool.{eq-eqb, cases_lt}
use Rattle.std.proofs.lemmas.Nat.Bits.{bit_at-zero}
use Rattle.std.proofs.lemmas.List.{get_or-replicate, get_or_past, length-replicate}
use Rattle.cbm_medium.specs.Place.{Place, Has, directory_head, sectors_on}
use Rattle.cbm_medium.specs.Content.{Cell, Content, written, blank}
use Rattle.cbm_medium.specs.Links.{or_nothing, bytes_at, link, Chain}
use Rattle.cbm_medium.specs.declared.fault.Trouble.{Trouble}
use Rattle.cbm_file.specs.Files.{Disk, File, blocks_on}
use Rattle.cbm_bam.specs.Map.{is_free_in, count_in, count_index, free_in, map_of, tally, at, IsCounted, geometry_of, geometry_in}
use Rattle.cbm_bam.proofs.Counts.{tally_none}
use Rattle.cbm_directory.specs.Entries.{entry_of, type_byte, bit_of, is_relative, entry_at, first_directory}
use Rattle.cbm_directory.specs.Growth.{new_sector}
use Rattle.cbm_volume.specs.Blocks.{no_blocks, LiesAs, file_of}
use Rattle.cbm_chain.specs.Data.{chain_bytes}
use Rattle.cbm_volume.specs.Layouts.{Owner, Nobody, TheMap, Directory, OwnedBy, Layout, IsCellWritable, HasLayout, Sound}
use Rattle.cbm_volume.specs.NewDisks.{HoldsNoFile, IsNewOrNothing}
use Rattle.cbm_volume.specs.Writers.{Use, HoldsNow}
use Rattle.cbm_volume.proofs.layouts.Loose.{writable_written}
use Rattle.cbm_volume.proofs.opened.OpenedSlots.{blank_entry}
use Rattle.cbm_volume.proofs.formatted.NewDisks.{new_layout, new_owner, owner_cases, on_track_18, no_file, enough_tracks}

-- A DIRECTORY WITHOUT FILES under any BAM that has 18/0 and 18/1 as taken, and whose counts are right.
pub record IsBare (tracks : ℕ) (c : Content) (map first : List ℕ) : Type 0 where
  pub enough : 35 ≤ tracks
  pub at_head : c directory_head ≡ Ok map
  pub at_first : c first_directory ≡ Ok first
  pub last : (link first).track ≡ 0
  pub no_type : (n : ℕ) → n < 8 → type_byte (entry_of first n) ≡ 0
  pub writable : (p : Place) → Has tracks p → IsCellWritable (c p)
  pub free : (p : Place) → Has tracks p → is_free_in map p ≡ true → new_owner p ≡ Nobody
  pub counted : IsCounted tracks map

-- the disk that it means
abbrev bare_disk : ℕ → List ℕ → Disk
bare_disk tracks map = record {
  title = slice_range map 144 160;
  mark = slice_range map 162 167;
  slots = replicate 8 None;
  room = tally (is_free_in map) 18 19;
  free = free_in tracks map;
  total = blocks_on tracks;
}

bare_stands : (tracks : ℕ) (c : Content) (map first : List ℕ) → IsBare tracks c map first → HasLayout tracks c new_layout (bare_disk tracks map)
bare_stands tracks c map first b = record {
  sound = record {
    owned = record {
      map = refl;
      directory = (refl, tt);
      blocks = λ n k. tt;
      sides = λ n k. tt;
      on_18 = on_track_18;
      off_18 = λ p t n. no_file p n;
    };
    writable = b.writable;
    map_reads = subst (λ (x : Cell). IsOk x) (sym b.at_head) refl;
    directory = (refl, (omega arith, omega (arith, b.enough), omega arith), subst (λ (x : Cell). IsOk x) (sym b.at_first) refl, ap (λ (x : Cell). (link (or_nothing x)).track) b.at_first ∙ b.last);
    kinds = λ n k. subst (λ (x : ℕ). x % 16 < 5) (sym (no_type n k)) (omega arith);
    lies = λ n k. subst (λ (x : Bool). LiesAs x (is_relative (entry n)) tracks c (entry n) no_blocks) (sym (ap (λ (x : ℕ). bit_of x 7) (no_type n k))) refl;
    free = λ p h f. b.free p h (ap (λ (x : List ℕ). is_free_in x p) (sym map_is) ∙ f);
    counted = rw map_is b.counted;
  };
  describes = record {
    title = ap (λ (x : List ℕ). slice_range x 144 160) (sym map_is);
    mark = ap (λ (x : List ℕ). slice_range x 162 167) (sym map_is);
    size = refl;
    slots = λ n k. get_or-replicate 8 n None None k
        ∙ sym (ap (λ (x : Bool). if x then None else Some (file_of (chain_bytes c []) (entry n) no_blocks)) (eq-eqb (type_byte (entry n)) 0 (no_type n k)));
    total = refl;
    room = ap (λ (x : List ℕ). tally (is_free_in x) 18 19) (sym map_is);
    free = ap (λ (x : List ℕ). free_in tracks x) (sym map_is);
  };
}
  where
    map_is : map_of c ≡ map
    map_is = ap or_nothing b.at_head

    entry : ℕ → List ℕ
    entry n = entry_at c (first_directory ∷ []) n

    no_type : (n : ℕ) → n < 8 → type_byte (entry_at c (first_directory ∷ []) n) ≡ 0
    no_type n k =
        let z : n / 8 ≡ 0 = omega arith in
        ap (λ (i : ℕ). type_byte (entry_of (bytes_at c (get_or (first_directory ∷ []) i directory_head)) (n % 8))) z
        ∙ ap (λ (x : Cell). type_byte (entry_of (or_nothing x) (n % 8))) b.at_first ∙ b.no_type (n % 8) (omega arith)

-- no slot of it has a file
slots_empty : (n : ℕ) → get_or (replicate {A = Option File} 8 None) n None ≡ None
slots_empty n = elim (cases_lt n 8) [
  | inl below ↦ get_or-replicate 8 n None None below
  | inr past ↦ get_or_past (replicate 8 None) n None past
]

pub bare_holds : (medium : ℕ) (c : Content) (map first : List ℕ) → IsBare (geometry_of medium c) c map first → HoldsNoFile medium c
bare_holds medium c map first b = (bare_disk (geometry_of medium c) map, record { layout = new_layout; stands = bare_stands (geometry_of medium c) c map first b }, slots_empty)

-- ---- without an id

-- a cell that reads
ok_is : (x : Cell) → IsOk x → x ≡ Ok (or_nothing x)
ok_is (Ok bytes) h = refl
ok_is (Err code) h = absurd (cc)

-- the directory of a sound disk begins with 18/1
first_owned : (tracks : ℕ) (c : Content) (owner : Place → Owner) (xs : List Place) → Chain tracks c first_directory xs → OwnedBy owner Directory xs → owner first_directory ≡ Directory
first_owned tracks c owner [] h o = absurd (omega (arith, h))
first_owned tracks c owner (x ∷ xs) h o = subst (λ (p : Place). owner p ≡ Directory) (sym h.0) o.0

-- what a sound disk has as free is neither 18/0 nor 18/1
free_elsewhere : (l : Layout) (p : Place) → l.owner directory_head ≡ TheMap → l.owner first_directory ≡ Directory → l.owner p ≡ Nobody → new_owner p ≡ Nobody
free_elsewhere l p head first none = elim (owner_cases p) [
  | inl e ↦ absurd (let z = sym first ∙ (ap l.owner e ∙ none) in (cc))
  | inr (inl e) ↦ absurd (let z = sym head ∙ (ap l.owner e ∙ none) in (cc))
  | inr (inr e) ↦ e
]

-- an empty 18/1 under the BAM of a sound disk
pub emptied_directory : (medium : ℕ) (c c' : Content) (d : Disk) (uses : ℕ → Use) → HoldsNow medium c d uses → c' ≡ written c first_directory new_sector → HoldsNoFile medium c'
emptied_directory medium c c' d uses h e = bare_holds medium c' (map_of c) new_sector (subst (λ (t : ℕ). IsBare t c' (map_of c) new_sector) (sym tracks_same) bare)
  where
    tracks : ℕ
    tracks = geometry_of medium c

    head_same : c' directory_head ≡ c directory_head
    head_same = ap (λ (x : Content). x directory_head) e

    tracks_same : geometry_of medium c' ≡ geometry_of medium c
    tracks_same = ap (geometry_in medium) head_same

    sound : Sound (geometry_of medium c) c h.layout
    sound = h.so.stands.sound

    bare : IsBare (geometry_of medium c) c' (map_of c) new_sector
    bare = record {
      enough = enough_tracks medium c;
      at_head = head_same ∙ ok_is (c directory_head) sound.map_reads;
      at_first = ap (λ (x : Content). x first_directory) e;
      last = refl;
      no_type = blank_entry;
      writable = subst (λ (x : Content). (p : Place) → Has (geometry_of medium c) p → IsCellWritable (x p)) (sym e)
          (writable_written (geometry_of medium c) c first_directory new_sector sound.writable);
      free = λ p has f. free_elsewhere h.layout p sound.owned.map (first_owned (geometry_of medium c) c h.layout.owner h.layout.directory sound.directory sound.owned.directory) (sound.free p has f);
      counted = sound.counted;
    }

-- ---- on a disk that was formatted

abbrev zeros : List ℕ
zeros = replicate 256 0

zero_byte : (i : ℕ) → get_or zeros i 0 ≡ 0
zero_byte i = elim (cases_lt i 256) [
  | inl below ↦ get_or-replicate 256 i 0 0 below
  | inr past ↦ get_or_past zeros i 0 (omega (arith, past, length-replicate {A = ℕ} 256 0))
]

never_free : (p : Place) → is_free_in zeros p ≡ false
unfolding is_free_in
never_free p = ap (λ (v : ℕ). bit_at v (p.sector % 8) == 1) (zero_byte (count_index p.track + 1 + p.sector / 8)) ∙ ap (λ (v : ℕ). v == 1) (bit_at-zero (p.sector % 8))

none_counted : (tracks : ℕ) → IsCounted tracks zeros
unfolding count_in
none_counted tracks t a b = zero_byte (count_index t) ∙ sym (tally_none (is_free_in zeros) t (sectors_on t) (λ s k. never_free (at t s)))

zero_entry : (k : ℕ) → k < 8 → type_byte (entry_of zeros k) ≡ 0
zero_entry zero h = refl
zero_entry (suc zero) h = refl
zero_entry (suc (suc zero)) h = refl
zero_entry (suc (suc (suc zero))) h = refl
zero_entry (suc (suc (suc (suc zero)))) h = refl
zero_entry (suc (suc (suc (suc (suc zero))))) h = refl
zero_entry (suc (suc (suc (suc (suc (suc zero)))))) h = refl
zero_entry (suc (suc (suc (suc (suc (suc (suc zero))))))) h = refl
zero_entry (suc (suc (suc (suc (suc (suc (suc (suc k)))))))) h = absurd (omega arith)

-- zeros in 18/0, and a directory without files
bare_blank : (medium : ℕ) (c : Content) (first : List ℕ) → c directory_head ≡ Ok zeros → c first_directory ≡ Ok first → (link first).track ≡ 0 → ((n : ℕ) → n < 8 → type_byte (entry_of first n) ≡ 0)
    → ((p : Place) → IsCellWritable (c p)) → HoldsNoFile medium c
bare_blank medium c first head at last types writable = bare_holds medium c zeros first (record {
  enough = enough_tracks medium c;
  at_head = head;
  at_first = at;
  last = last;
  no_type = types;
  writable = λ p h. writable p;
  free = λ p h f. absurd (let z = sym (never_free p) ∙ f in (cc));
  counted = none_counted (geometry_of medium c);
})

blank_holds : (medium : ℕ) (c : Content) → c ≡ blank → HoldsNoFile medium c
blank_holds medium c e = bare_blank medium c zeros (ap (λ (x : Content). x directory_head) e) (ap (λ (x : Content). x first_directory) e) refl zero_entry
    (λ p. subst (λ (x : Content). IsCellWritable (x p)) (sym e) tt)

-- 18/1 written over zeros
over_blank : (p : Place) (b : Bool) → IsCellWritable (if b then Ok new_sector else blank p)
over_blank p true = tt
over_blank p false = tt

emptied_blank : (medium : ℕ) (c : Content) → c ≡ written blank first_directory new_sector → HoldsNoFile medium c
emptied_blank medium c e = bare_blank medium c new_sector (ap (λ (x : Content). x directory_head) e) (ap (λ (x : Content). x first_directory) e) refl blank_entry
    (λ p. subst (λ (x : Content). IsCellWritable (x p)) (sym e) (over_blank p _))

-- ---- NEW was stopped

pub stopped_short : (r : Result (Unit {0}) Trouble) (medium : ℕ) (c c' : Content) → OnErr r ((c' ≡ c) ⊎ (c' ≡ written c first_directory new_sector))
    → (d : Disk) (uses : ℕ → Use) → HoldsNow medium c d uses → OnErr r (IsNewOrNothing medium c c')
stopped_short (Ok x) medium c c' h d uses holds = tt
stopped_short (Err t) medium c c' (inl same) d uses holds = inl same
stopped_short (Err t) medium c c' (inr e) d uses holds = inr (emptied_directory medium c c' d uses holds e)

pub stopped_long : (r : Result (Unit {0}) Trouble) (medium : ℕ) (c mid c' : Content) → mid ≡ blank → OnErr r ((c' ≡ mid) ⊎ (c' ≡ written mid first_directory new_sector)) → OnErr r (IsNewOrNothing medium c c')
stopped_long (Ok x) medium c mid c' was h = tt
stopped_long (Err t) medium c mid c' was (inl same) = inr (blank_holds medium c' (same ∙ was))
stopped_long (Err t) medium c mid c' was (inr e) = inr (emptied_blank medium c' (e ∙ ap (λ (x : Content). written x first_directory new_sector) was))
