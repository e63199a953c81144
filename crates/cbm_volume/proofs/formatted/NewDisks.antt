-- After NEW the medium holds the empty disk.
use Rattle.std.proofs.Common.{◌≡◌, ◌≢◌, ◌⊎◌, ℕ, ◌/◌, ◌%◌, ◌<◌, ◌≤◌, List, [], ◌∷◌, take, drop, get_or, Bool, true, false, Ok, Err, IsOk, refl, sym, ap, subst, ◌∙◌, arith, inl, inr, Option, Some, None, Result}
use Rattle.std.specs.Prelude.{if◌then◌else◌, not, slice_range, OnOk, IfErr, IsErr}
use Rattle.std.proofs.lemmas.Bool.{cases_lt, eq-eqb}
use Rattle.std.proofs.lemmas.List.{get_or-replicate}
use Rattle.cbm_medium.specs.Place.{Place, directory_head, Has}
use Rattle.cbm_medium.specs.Content.{Cell, Content, written, blank, header_fault, is_header_fault}
use Rattle.cbm_medium.specs.Links.{or_nothing, bytes_at, link}
use Rattle.cbm_medium.specs.Seen.{Seen, with_content, formatted_as, IsGrounded, OnlyContent}
use Rattle.cbm_medium.specs.declared.fault.Trouble.{Trouble}
use Rattle.cbm_file.specs.Files.{Disk, blocks_on}
use Rattle.cbm_file.specs.Changes.{new_disk}
use Rattle.cbm_bam.specs.Map.{is_free_in, map_of, number, at, IsCounted, geometry_of, geometry_in, tracks_if}
use Rattle.cbm_bam.proofs.Counts.{tally_same, number_same, free_is_number}
use Rattle.cbm_bam.proofs.Geometries.{wide}
use Rattle.cbm_directory.specs.Entries.{entry_of, type_byte, bit_of, is_relative, entry_at, first_directory}
use Rattle.cbm_directory.specs.Growth.{new_sector}
use Rattle.cbm_volume.specs.Blocks.{no_blocks, LiesAs, file_of}
use Rattle.cbm_chain.specs.Data.{chain_bytes}
use Rattle.cbm_volume.specs.Holding.{HoldsDisk}
use Rattle.cbm_volume.specs.Layouts.{Owner, Nobody, TheMap, Directory, DataOf, SideOf, Layout, IsCellWritable, HasLayout, Means, own}
use Rattle.cbm_volume.specs.NewDisks.{used_by_new, IsEmptied, OnlyNew, id_after, content_under}
use Rattle.cbm_volume.specs.Writers.{Use, Idle, IsUsed, HoldsNow, writes_slot}
use Rattle.cbm_medium.proofs.Places.{place_decide}
use Rattle.cbm_volume.proofs.layouts.Listing.{geometry_size}
use Rattle.cbm_volume.proofs.layouts.Loose.{writable_written}
use Rattle.cbm_volume.proofs.opened.OpenedSlots.{blank_entry}
use Rattle.cbm_volume.proofs.layouts.Steps.{own_elsewhere}

-- ---- where an empty disk lies

abbrev pub nobody : Place → Owner
nobody p = Nobody

abbrev pub new_owner : Place → Owner
new_owner = own (own nobody directory_head TheMap) first_directory Directory

abbrev pub new_layout : Layout
new_layout = record { directory = first_directory ∷ []; files = λ n. no_blocks; owner = new_owner }

pub owner_cases : (p : Place) → (first_directory ≡ p) ⊎ ((directory_head ≡ p) ⊎ (new_owner p ≡ Nobody))
owner_cases p = elim (place_decide first_directory p) [
  | inl e ↦ inl e
  | inr ne ↦ elim (place_decide directory_head p) [
    | inl e ↦ inr (inl e)
    | inr other ↦ inr (inr (own_elsewhere (own nobody directory_head TheMap) first_directory p Directory ne ∙ own_elsewhere nobody directory_head p TheMap other))
  ]
]

pub on_track_18 : (p : Place) → new_owner p ≡ Directory → p.track ≡ 18
on_track_18 p h = elim (owner_cases p) [
  | inl e ↦ ap (λ (x : Place). x.track) (sym e)
  | inr (inl e) ↦ ap (λ (x : Place). x.track) (sym e)
  | inr (inr e) ↦ absurd (let z = sym e ∙ h in (cc))
]

pub no_file : (p : Place) (n : ℕ) → (new_owner p ≢ DataOf n) × (new_owner p ≢ SideOf n)
no_file p n = elim (owner_cases p) [
  | inl e ↦ subst (λ (x : Place). (new_owner x ≢ DataOf n) × (new_owner x ≢ SideOf n)) e ((λ z. (cc)), (λ z. (cc)))
  | inr (inl e) ↦ subst (λ (x : Place). (new_owner x ≢ DataOf n) × (new_owner x ≢ SideOf n)) e ((λ z. (cc)), (λ z. (cc)))
  | inr (inr e) ↦ ((λ z. let y = sym e ∙ z in (cc)), (λ z. let y = sym e ∙ z in (cc)))
]

free_is_nobodys : (p : Place) → not (used_by_new p) ≡ true → new_owner p ≡ Nobody
free_is_nobodys p h = elim (owner_cases p) [
  | inl e ↦ absurd (let used : used_by_new p ≡ true = subst (λ (x : Place). used_by_new x ≡ true) e refl in let z = sym (ap not used) ∙ h in (cc))
  | inr (inl e) ↦ absurd (let used : used_by_new p ≡ true = subst (λ (x : Place). used_by_new x ≡ true) e refl in let z = sym (ap not used) ∙ h in (cc))
  | inr (inr e) ↦ e
]

-- ---- the content after NEW

abbrev free_in_new : Place → Bool
free_in_new p = not (used_by_new p)

some_tracks : (tracks : ℕ) → (tracks ≡ 35) ⊎ (tracks ≡ 40) → 35 ≤ tracks
some_tracks tracks (inl e) = omega arith
some_tracks tracks (inr e) = omega arith

all_blocks : (tracks : ℕ) → (tracks ≡ 35) ⊎ (tracks ≡ 40) → number tracks free_in_new ≡ blocks_on tracks
all_blocks tracks (inl e) = subst (λ (n : ℕ). number n free_in_new ≡ blocks_on n) (sym e) refl
all_blocks tracks (inr e) = subst (λ (n : ℕ). number n free_in_new ≡ blocks_on n) (sym e) refl

stands_new : (tracks : ℕ) (title id : List ℕ) (c c' : Content) (d : Disk) → (tracks ≡ 35) ⊎ (tracks ≡ 40) → ((p : Place) → Has tracks p → IsCellWritable (c p)) → IsEmptied tracks title id c c' → HasLayout tracks c' new_layout (new_disk tracks title (Some id) d)
stands_new tracks title id c c' d either writable e = record {
  sound = record {
    owned = record {
      map = refl;
      directory = (refl, tt);
      blocks = λ n k. tt;
      sides = λ n k. tt;
      on_18 = on_track_18;
      off_18 = λ p t n. no_file p n;
    };
    writable = subst (λ (x : Content). (p : Place) → Has tracks p → IsCellWritable (x p)) (sym e.written)
        (writable_written tracks (written c first_directory new_sector) directory_head e.head (writable_written tracks c first_directory new_sector writable));
    map_reads = subst (λ (x : Cell). IsOk x) (sym at_head) refl;
    directory = (refl, (omega arith, omega (arith, some_tracks tracks either), omega arith), subst (λ (x : Cell). IsOk x) (sym at_first) refl, ap (λ (x : Cell). (link (or_nothing x)).track) at_first);
    kinds = λ n k. subst (λ (x : ℕ). x % 16 < 5) (sym (no_type n k)) (omega arith);
    lies = λ n k. subst (λ (x : Bool). LiesAs x (is_relative (entry n)) tracks c' (entry n) no_blocks) (sym (ap (λ (x : ℕ). bit_of x 7) (no_type n k))) refl;
    free = λ p h f. free_is_nobodys p (sym (e.is_head.free p h) ∙ ap (λ (x : List ℕ). is_free_in x p) (sym map_is) ∙ f);
    counted = rw map_is e.is_head.counted;
  };
  describes = record {
    title = sym (ap (λ (x : List ℕ). slice_range x 144 160) map_is ∙ e.is_head.titled);
    mark = sym (ap (λ (x : List ℕ). slice_range x 162 167) map_is ∙ e.is_head.marked);
    size = refl;
    slots = λ n k. get_or-replicate 8 n None None k
        ∙ sym (ap (λ (x : Bool). if x then None else Some (file_of (chain_bytes c' []) (entry n) no_blocks)) (eq-eqb (type_byte (entry n)) 0 (no_type n k)));
    total = refl;
    room = rw map_is (sym (tally_same (is_free_in e.head) free_in_new 18 19 (λ s k. e.is_head.free (at 18 s) (omega arith, omega (arith, some_tracks tracks either), k))));
    free = rw map_is (sym (free_is_number tracks e.head e.is_head.counted ∙ number_same tracks (is_free_in e.head) free_in_new e.is_head.free ∙ all_blocks tracks either));
  };
}
  where
    at_head : c' directory_head ≡ Ok e.head
    at_head = ap (λ (x : Content). x directory_head) e.written

    at_first : c' first_directory ≡ Ok new_sector
    at_first = ap (λ (x : Content). x first_directory) e.written

    map_is : map_of c' ≡ e.head
    map_is = ap or_nothing at_head

    entry : ℕ → List ℕ
    entry n = entry_at c' (first_directory ∷ []) n

    no_type : (n : ℕ) → n < 8 → type_byte (entry_at c' (first_directory ∷ []) n) ≡ 0
    no_type n k =
        let z : n / 8 ≡ 0 = omega arith in
        ap (λ (i : ℕ). type_byte (entry_of (bytes_at c' (get_or (first_directory ∷ []) i directory_head)) (n % 8))) z
        ∙ ap (λ (x : Cell). type_byte (entry_of (or_nothing x) (n % 8))) at_first ∙ blank_entry (n % 8) (omega arith)

-- the disk uses all tracks of the medium
all_used : (medium : ℕ) (title id : List ℕ) (c c' : Content) → (medium ≡ 35) ⊎ (medium ≡ 40) → IsEmptied medium title id c c' → geometry_of medium c' ≡ medium
all_used medium title id c c' (inl e) h = subst (λ (n : ℕ). geometry_of n c' ≡ n) (sym e) (ap (geometry_in 35) (ap (λ (x : Content). x directory_head) h.written))
all_used medium title id c c' (inr e) h = subst (λ (n : ℕ). geometry_of n c' ≡ n) (sym e)
    (ap (geometry_in 40) (ap (λ (x : Content). x directory_head) h.written) ∙ ap tracks_if (wide h.head (subst (λ (n : ℕ). IsCounted n h.head) e h.is_head.counted)))

-- THE MEDIUM HOLDS THE EMPTY DISK
new_holds : (medium : ℕ) (title id : List ℕ) (c c' : Content) (d : Disk) → (medium ≡ 35) ⊎ (medium ≡ 40) → ((p : Place) → Has medium p → IsCellWritable (c p)) → IsEmptied medium title id c c' → HoldsDisk medium c' (new_disk medium title (Some id) d)
new_holds medium title id c c' d either writable e =
    subst (λ (n : ℕ). Means n c' (new_disk medium title (Some id) d)) (sym (all_used medium title id c c' either e))
    (record { layout = new_layout; stands = stands_new medium title id c c' d either writable e })

-- a disk that no channel uses
pub idle_holds : (medium : ℕ) (c : Content) (d : Disk) (uses : ℕ → Use) → HoldsDisk medium c d → ((ch : ℕ) → uses ch ≡ Idle) → HoldsNow medium c d uses
idle_holds medium c d uses m idle = record {
  layout = m.layout;
  so = record {
    stands = m.stands;
    each = λ ch. subst (λ (u : Use). IsUsed (geometry_of medium c) c m.layout d ch u) (sym (idle ch)) tt;
    alone = λ a b n w h. absurd (let z = sym (ap (writes_slot n) (idle a)) ∙ w in (cc));
  };
}

-- ---- without an id

no_fault : (x : Cell) → header_fault x ≡ None → IsCellWritable x
no_fault (Ok bytes) h = tt
no_fault (Err code) h = go (is_header_fault code) refl h
  where
    go : (b : Bool) → is_header_fault code ≡ b → (if b then Some code else None) ≡ None → is_header_fault code ≡ false
    go false e h = e
    go true e h = absurd (cc)

-- no sector of the tracks 36 to 40 has a fault of its header
abbrev pub OuterGood : ℕ → Content → Type 0
OuterGood medium c = (p : Place) → medium ≡ 40 → 35 < p.track → header_fault (c p) ≡ None

all_writable : (medium tracks : ℕ) (c : Content) → (medium ≡ 35) ⊎ (medium ≡ 40) → 35 ≤ tracks → OuterGood medium c → ((p : Place) → Has tracks p → IsCellWritable (c p)) → (p : Place) → Has medium p → IsCellWritable (c p)
all_writable medium tracks c either enough outer writable p h = elim (cases_lt 35 p.track) [
  | inl far ↦ elim either [ inl e ↦ absurd (omega (arith, h.1)) | inr e ↦ no_fault (c p) (outer p e far) ]
  | inr near ↦ writable p (h.0, omega arith, h.2)
]

pub enough_tracks : (medium : ℕ) (c : Content) → 35 ≤ geometry_of medium c
enough_tracks medium c = elim (geometry_size medium c) [ inl e ↦ omega (arith, e) | inr e ↦ omega (arith, e) ]

-- 18/0 and 18/1 take a write on a disk that is sound
pub head_writable : (medium : ℕ) (c : Content) (d : Disk) (uses : ℕ → Use) → HoldsNow medium c d uses → IsCellWritable (c directory_head)
head_writable medium c d uses h = h.so.stands.sound.writable directory_head (omega arith, omega (arith, enough_tracks medium c), omega arith)

pub first_writable : (medium : ℕ) (c : Content) (d : Disk) (uses : ℕ → Use) → HoldsNow medium c d uses → IsCellWritable (c first_directory)
first_writable medium c d uses h = h.so.stands.sound.writable first_directory (omega arith, omega (arith, enough_tracks medium c), omega arith)

two_of_five : (xs : List ℕ) → take 2 (take 5 xs) ≡ take 2 xs
two_of_five [] = refl
two_of_five (x ∷ []) = refl
two_of_five (x ∷ y ∷ rest) = refl

-- the id stays
same_id : (medium : ℕ) (c : Content) (d : Disk) (uses : ℕ → Use) (id : List ℕ) → HoldsNow medium c d uses → id ≡ slice_range (map_of c) 162 164 → take 2 d.mark ≡ id
same_id medium c d uses id h e = ap (take 2) h.so.stands.describes.mark ∙ two_of_five (drop 162 (map_of c)) ∙ sym e

with_mark_of : (medium : ℕ) (title id : List ℕ) (d : Disk) → take 2 d.mark ≡ id → new_disk medium title (Some id) d ≡ new_disk medium title None d
with_mark_of medium title id d e = ap (λ (x : List ℕ). new_disk medium title (Some x) d) (sym e)

-- NEW WITHOUT AN ID
pub made_short : (r : Result (Unit {0}) Trouble) (medium : ℕ) (title id : List ℕ) (o : Option (List ℕ)) (c c' : Content) → (medium ≡ 35) ⊎ (medium ≡ 40) → OuterGood medium c → o ≡ None → id ≡ slice_range (map_of c) 162 164
    → OnOk r (IsEmptied medium title id c c') → (d : Disk) (uses : ℕ → Use) → HoldsNow medium c d uses → ((ch : ℕ) → uses ch ≡ Idle) → OnOk r (HoldsNow medium c' (new_disk medium title o d) uses)
made_short (Err t) medium title id o c c' either outer none is e d uses h idle = tt
made_short (Ok x) medium title id o c c' either outer none is e d uses h idle =
    let writable : (p : Place) → Has medium p → IsCellWritable (c p) = all_writable medium (geometry_of medium c) c either (enough_tracks medium c) outer h.so.stands.sound.writable in
    let same : new_disk medium title (Some id) d ≡ new_disk medium title o d = with_mark_of medium title id d (same_id medium c d uses id h is) ∙ ap (λ (y : Option (List ℕ)). new_disk medium title y d) (sym none) in
    subst (λ (y : Disk). HoldsNow medium c' y uses) same (idle_holds medium c' (new_disk medium title (Some id) d) uses (new_holds medium title id c c' d either writable e) idle)

-- ---- with an id

blank_writable : (medium : ℕ) (p : Place) → Has medium p → IsCellWritable (blank p)
blank_writable medium p h = tt

-- NEW WITH AN ID, on any content
pub made_long : (r : Result (Unit {0}) Trouble) (old mid : Seen) (new : Content) (title id : List ℕ) (o : Option (List ℕ)) → mid ≡ formatted_as id (with_content blank old) → (mid.tracks ≡ 35) ⊎ (mid.tracks ≡ 40) → o ≡ Some id
    → OnOk r (IsEmptied mid.tracks title id mid.content new) → (d : Disk) → OnOk r (HoldsDisk old.tracks new (new_disk old.tracks title o d))
made_long (Err t) old mid new title id o was either some e d = tt
made_long (Ok x) old mid new title id o was either some e d =
    let sized : (old.tracks ≡ 35) ⊎ (old.tracks ≡ 40) = subst (λ (m : Seen). (m.tracks ≡ 35) ⊎ (m.tracks ≡ 40)) was either in
    let emptied : IsEmptied old.tracks title id blank new = subst (λ (m : Seen). IsEmptied m.tracks title id m.content new) was e in
    subst (λ (y : Option (List ℕ)). HoldsDisk old.tracks new (new_disk old.tracks title y d)) (sym some) (new_holds old.tracks title id blank new d sized (blank_writable old.tracks) emptied)

-- the same where the medium held a disk that no channel used
pub made_idle : (r : Result (Unit {0}) Trouble) (medium : ℕ) (c : Content) (d : Disk) (uses : ℕ → Use) → OnOk r (HoldsDisk medium c d) → ((ch : ℕ) → uses ch ≡ Idle) → OnOk r (HoldsNow medium c d uses)
made_idle (Err t) medium c d uses h idle = tt
made_idle (Ok x) medium c d uses h idle = idle_holds medium c d uses h idle

pub no_id : (o : Option (List ℕ)) → ((id : List ℕ) → o ≡ Some id → ⊥) → o ≡ None
no_id None h = refl
no_id (Some id) h = absurd (h id refl)

-- ---- on any content

-- what stands in the two sectors after NEW without an id
pub emptied_short : (r : Result (Unit {0}) Trouble) (old : Seen) (new : Content) (title id : List ℕ) (o : Option (List ℕ)) → o ≡ None → id ≡ slice_range (map_of old.content) 162 164 → OnOk r (IsEmptied old.tracks title id old.content new)
    → OnOk r (IsEmptied old.tracks title (id_after o old.content) (content_under o old.content) new)
emptied_short r old new title id o none is h =
    subst (λ (y : Option (List ℕ)). OnOk r (IsEmptied old.tracks title (id_after y old.content) (content_under y old.content) new)) (sym none) (subst (λ (i : List ℕ). OnOk r (IsEmptied old.tracks title i old.content new)) is h)

-- and with one
pub emptied_long : (r : Result (Unit {0}) Trouble) (old mid : Seen) (new : Content) (title id : List ℕ) (o : Option (List ℕ)) → mid ≡ formatted_as id (with_content blank old) → o ≡ Some id → OnOk r (IsEmptied mid.tracks title id mid.content new)
    → OnOk r (IsEmptied old.tracks title (id_after o old.content) (content_under o old.content) new)
emptied_long r old mid new title id o was some h =
    subst (λ (y : Option (List ℕ)). OnOk r (IsEmptied old.tracks title (id_after y old.content) (content_under y old.content) new)) (sym some) (subst (λ (m : Seen). OnOk r (IsEmptied m.tracks title id m.content new)) was h)

-- what else the medium shows after NEW without an id
pub only_short : (r : Result (Unit {0}) Trouble) (o : Option (List ℕ)) (old new : Seen) → o ≡ None → OnlyContent 18 r old new → OnlyNew r o old new
only_short r o old new none h = subst (λ (y : Option (List ℕ)). OnlyNew r y old new) (sym none) h

-- and with one, where the format was refused
pub only_stopped : (r : Result (Unit {0}) Trouble) (id : List ℕ) (o : Option (List ℕ)) (old new : Seen) → o ≡ Some id → IsErr r → OnlyContent 18 r old new → OnlyNew r o old new
only_stopped r id o old new some err h = subst (λ (y : Option (List ℕ)). OnlyNew r y old new) (sym some) (inr (err, h))

-- or done
pub only_long : (r : Result (Unit {0}) Trouble) (id : List ℕ) (o : Option (List ℕ)) (old mid new : Seen) → mid ≡ formatted_as id (with_content blank old) → o ≡ Some id → OnlyContent 18 r mid new → OnlyNew r o old new
only_long r id o old mid new was some h =
    subst (λ (y : Option (List ℕ)). OnlyNew r y old new) (sym some) (inl (subst (λ (s : Seen). OnlyContent 18 r s new) was h))

-- tracks and protection stay, and failures are counted
pub new_keeps : (r : Result (Unit {0}) Trouble) (o : Option (List ℕ)) (old new : Seen) → OnlyNew r o old new → (new.tracks ≡ old.tracks) × (new.protected ≡ old.protected) × (old.failures ≤ new.failures)
new_keeps r None old new h = (h.tracks, h.protected, h.counted)
new_keeps r (Some id) old new (inl h) = (h.tracks, h.protected, h.counted)
new_keeps r (Some id) old new (inr (err, h)) = (h.tracks, h.protected, h.counted)

-- the code 26 says that the medium was protected
pub new_refusal : (r : Result (Unit {0}) Trouble) (o : Option (List ℕ)) (old new : Seen) → OnlyNew r o old new → IfErr r (λ t. t.code ≡ 26 → old.protected ≡ true)
new_refusal r None old new h = h.guarded
new_refusal r (Some id) old new (inl h) = h.guarded
new_refusal r (Some id) old new (inr (err, h)) = h.guarded

-- and a trouble has its ground
pub new_grounded : (r : Result (Unit {0}) Trouble) (o : Option (List ℕ)) (old new : Seen) → OnlyNew r o old new → IfErr r (IsGrounded old new)
new_grounded r None old new h = h.shown
new_grounded r (Some id) old new (inl h) = h.shown
new_grounded r (Some id) old new (inr (err, h)) = h.shown
