-- OPEN for writing: the slot takes the name, and the channel has a first block. What each of its ends leaves.
use Rattle.std.proofs.Common.{◌≡◌, ◌≢◌, ℕ, suc, ◌+◌, ◌-◌, ◌*◌, ◌%◌, ◌<◌, ◌≤◌, length, get_or, arith, List, [], ◌∷◌, false, refl, sym, ap, subst, ◌∙◌, inl, Option, Some, None}
use Rattle.std.specs.Prelude.{◌==◌, ◌&&◌, if◌then◌else◌, slice_index, slice_set, unwrap_or}
use Rattle.cbm_medium.specs.Place.{Place, directory_head}
use Rattle.cbm_medium.specs.Content.{Content}
use Rattle.cbm_medium.specs.Links.{Chain}
use Rattle.cbm_medium.proofs.Places.{written_elsewhere}
use Rattle.cbm_file.specs.declared.file_type.FileType.{FileType}
use Rattle.cbm_file.specs.declared.file_type.FileType.TheVariants.{Del, Seq, Prg, Usr, Rel}
use Rattle.cbm_file.specs.Padding.{before_filler}
use Rattle.cbm_file.specs.Types.{type_number, is_same_type}
use Rattle.cbm_file.specs.Files.{File, Disk, file_at, empty_from, with_slot}
use Rattle.cbm_file.specs.Changes.{grown, new_slot, with_file, unclosed}
use Rattle.cbm_bam.specs.Map.{map_of, is_free_in, number, geometry_of, Claims, IsFull}
use Rattle.cbm_chain.specs.Writing.{State, begun_at}
use Rattle.cbm_directory.specs.Entries.{Enters, first_directory, sector_of, type_byte, bit_of, type_of_number, is_closed, name_in}
use Rattle.cbm_directory.specs.EntryChanges.{IsFreshAs}
use Rattle.cbm_volume.specs.Blocks.{no_blocks, body_as, slot_of, file_of}
use Rattle.cbm_volume.specs.Layouts.{Layout, slot_count}
use Rattle.cbm_volume.specs.Staying.{LeavesClosed}
use Rattle.cbm_volume.specs.Writers.{Filling, Use, Idle, Writes, Holds, HoldsNow, with_use, known, Stopped}
use Rattle.cbm_volume.specs.Opens.{BeginsFile}
use Rattle.cbm_volume.proofs.opened.Beginning.{begun_over}
use Rattle.cbm_volume.proofs.layouts.Loose.{sector_owned}
use Rattle.cbm_volume.proofs.opened.OpenedSlots.{Reached, reached_now, claimed_too, SlotReady, grown_is, grown_none}
use Rattle.cbm_volume.proofs.layouts.Staying.{KeepsClosed, kept_opened, kept_later, empty_open, leaves_in}
use Rattle.cbm_volume.proofs.layouts.Steps.{one_less, Claimed, stands_claim}
use Rattle.cbm_volume.proofs.written.Storing.{few, geometry_elsewhere, none_free}
use Rattle.cbm_volume.proofs.layouts.Vacant.{free_of_disk}

-- ---- the new entry's file

-- what an entry of this type byte, name and number of blocks tells of a file that holds nothing
made : List ℕ → ℕ → List ℕ → ℕ → Option File
made e t name shown =
    if t == 0 then None
    else Some (record { kind = type_of_number (t % 16); closed = bit_of t 7; locked = bit_of t 6; name = name; shown = shown; held = 0; body = body_as (bit_of t 7 && (t % 16 == 4)) [] e no_blocks })

entry_made : (c : Content) (e : List ℕ) → slot_of c e no_blocks ≡ made e (type_byte e) (name_in e) (slice_index e 28 + 256 * slice_index e 29)
unfolding file_of made
entry_made c e = refl

made_new : (e : List ℕ) (name : List ℕ) (kind : FileType) → kind ≢ Del → made e (type_number kind) name 0 ≡ Some (unclosed kind name)
unfolding made
made_new e name Del ne = absurd (ne refl)
made_new e name Seq ne = refl
made_new e name Prg ne = refl
made_new e name Usr ne = refl
made_new e name Rel ne = refl

pub fresh_file : (c : Content) (e : List ℕ) (kind : FileType) (name : List ℕ) (first : Place) → IsFreshAs e kind name first → kind ≢ Del → slot_of c e no_blocks ≡ Some (unclosed kind (before_filler name))
fresh_file c e kind name first says ne =
    entry_made c e ∙ (λ i. made e (says.typed i) (says.named i) (says.shown i)) ∙ made_new e (before_filler name) kind ne

pub fresh_kind : (e : List ℕ) (kind : FileType) (name : List ℕ) (first : Place) → IsFreshAs e kind name first → type_byte e % 16 < 5
fresh_kind e kind name first says = subst (λ (t : ℕ). t % 16 < 5) (sym says.typed) (small kind)
  where
    small : (k : FileType) → type_number k % 16 < 5
    small Del = omega arith
    small Seq = omega arith
    small Prg = omega arith
    small Usr = omega arith
    small Rel = omega arith

fresh_unclosed : (e : List ℕ) (kind : FileType) (name : List ℕ) (first : Place) → IsFreshAs e kind name first → is_closed e ≡ false
fresh_unclosed e kind name first says = ap (λ (t : ℕ). bit_of t 7) says.typed ∙ open_bit kind
  where
    open_bit : (k : FileType) → bit_of (type_number k) 7 ≡ false
    open_bit Del = refl
    open_bit Seq = refl
    open_bit Prg = refl
    open_bit Usr = refl
    open_bit Rel = refl

-- ---- the empty slot

pub empty_at : (k n : ℕ) (xs : List (Option File)) → empty_from k xs ≡ Some n → (k ≤ n) × ((n - k < length xs) × (get_or xs (n - k) None ≡ None))
empty_at k n [] h = absurd (cc)
empty_at k n (None ∷ xs) h =
    let same : k ≡ n = cc in
    let z : n - k ≡ 0 = omega arith in
    let ys : List (Option File) = None ∷ xs in
    (omega arith, (omega arith, ap (λ (i : ℕ). get_or ys i None) z))
empty_at k n (Some f ∷ xs) h =
    let r = empty_at (k + 1) n xs h in
    let z : n - k ≡ suc (n - (k + 1)) = omega (arith, r.0) in
    (omega (arith, r.0), (omega (arith, r.1.0, z), ap (λ (i : ℕ). get_or (Some f ∷ xs) i None) z ∙ r.1.1))

pub free_grown : (d : Disk) → (grown d).free ≡ d.free
free_grown d = by_empty (empty_from 0 d.slots) refl
  where
    by_empty : (o : Option ℕ) → empty_from 0 d.slots ≡ o → (grown d).free ≡ d.free
    by_empty None e = ap (λ (x : Disk). x.free) (sym (grown_is d e))
    by_empty (Some n) e = ap (λ (x : Disk). x.free) (sym (grown_none d n e))

pub slot_is : (d : Disk) (n : ℕ) → empty_from 0 (grown d).slots ≡ Some n → n ≡ new_slot d
slot_is d n e = ap (λ (o : Option ℕ). unwrap_or o 0) (sym e)

disk_is : (d : Disk) (n : ℕ) (f : File) → empty_from 0 (grown d).slots ≡ Some n → with_slot (one_less (grown d)) n (Some f) ≡ with_file d f 1
disk_is d n f e = λ i. record (grown d) { slots = slice_set (grown d).slots (slot_is d n e i) (Some f); free = free_grown d i - 1 }

-- ---- the name is in its slot

-- where the entry is written
abbrev pub EntersSlot : ℕ → Content → Content → ℕ → List ℕ → Type 0
EntersSlot tracks c c' n body = (directory : List Place) → Chain tracks c first_directory directory → n < 8 * length directory → Enters c c' (sector_of directory n) (n % 8) body

-- what stands before the entry is written
pub record IsSet (medium : ℕ) (c : Content) (l : Layout) (c1 c2 : Content) (d : Disk) (uses : ℕ → Use) (n : ℕ) (q : Place) : Type 0 where
  pub ready : SlotReady medium c l c1 d uses n
  pub claims : Claims (geometry_of medium c) c1 c2 q

pub reached_set : (medium : ℕ) (c : Content) (l : Layout) (c1 c2 : Content) (d : Disk) (uses : ℕ → Use) (n : ℕ) (q : Place) → IsSet medium c l c1 c2 d uses n q → Reached medium c l c2 (one_less (grown d)) uses
reached_set medium c l c1 c2 d uses n q s = claimed_too medium c l c1 c2 (grown d) uses q s.ready.reached s.claims

-- the slot is one of the directory's
pub slot_there : (medium : ℕ) (c : Content) (l : Layout) (c1 : Content) (d : Disk) (uses : ℕ → Use) (n : ℕ) (s : SlotReady medium c l c1 d uses n) → n < slot_count s.reached.layout
slot_there medium c l c1 d uses n s = omega (arith, (empty_at 0 n (grown d).slots s.slot).1.0, s.reached.so.stands.describes.size)

enters_at : (medium : ℕ) (c : Content) (l : Layout) (c1 c2 c3 : Content) (d : Disk) (uses : ℕ → Use) (n : ℕ) (q : Place) (body : List ℕ) (s : IsSet medium c l c1 c2 d uses n q)
    → EntersSlot (geometry_of medium c) c2 c3 n body → Enters c2 c3 (sector_of s.ready.reached.layout.directory n) (n % 8) body
enters_at medium c l c1 c2 c3 d uses n q body s put =
    let r = s.ready.reached in
    let claimed : Claimed (geometry_of medium c) c1 c2 r.layout (grown d) q = stands_claim (geometry_of medium c) c1 c2 r.layout (grown d) q r.so.stands (few medium c) s.claims in
    put r.layout.directory claimed.stands.sound.directory (slot_there medium c l c1 d uses n s.ready)

-- the entry's sector is the directory's
entry_apart : (medium : ℕ) (c : Content) (l : Layout) (c1 : Content) (d : Disk) (uses : ℕ → Use) (n : ℕ) (s : SlotReady medium c l c1 d uses n) → sector_of s.reached.layout.directory n ≢ directory_head
entry_apart medium c l c1 d uses n s k =
    let z = sym (sector_owned s.reached.layout s.reached.so.stands.sound.owned n (slot_there medium c l c1 d uses n s)) ∙ ap s.reached.layout.owner k ∙ s.reached.so.stands.sound.owned.map in (cc)

pub kept_set : (medium : ℕ) (c : Content) (l : Layout) (c1 c2 c3 : Content) (d : Disk) (uses : ℕ → Use) (n : ℕ) (q : Place) (body : List ℕ) → IsSet medium c l c1 c2 d uses n q → EntersSlot (geometry_of medium c) c2 c3 n body → KeepsClosed l c c3 (λ m. false)
kept_set medium c l c1 c2 c3 d uses n q body s put =
    let tracks : ℕ = geometry_of medium c in
    let r = s.ready.reached in
    let there = slot_there medium c l c1 d uses n s.ready in
    let claimed : Claimed tracks c1 c2 r.layout (grown d) q = stands_claim tracks c1 c2 r.layout (grown d) q r.so.stands (few medium c) s.claims in
    let same_n : n - 0 ≡ n = omega arith in
    let none : file_at (grown d) n ≡ None = ap (λ (i : ℕ). file_at (grown d) i) (sym same_n) ∙ (empty_at 0 n (grown d).slots s.ready.slot).1.1 in
    kept_later l r.layout c c2 c3 (λ m. false) r.front r.later (reached_set medium c l c1 c2 d uses n q s).kept
    (kept_opened tracks r.layout c1 c2 c3 n body (λ m. false) r.so.stands.sound there (enters_at medium c l c1 c2 c3 d uses n q body s put)
    (empty_open tracks c2 r.layout (one_less (grown d)) n claimed.stands there none))

-- A CHANNEL WRITES THE FILE
pub begins : (medium : ℕ) (c : Content) (l : Layout) (c1 c2 c3 : Content) (d : Disk) (uses : ℕ → Use) (ch n : ℕ) (q : Place) (kind : FileType) (name body : List ℕ) (first : Place) (chain : State)
    → IsSet medium c l c1 c2 d uses n q → uses ch ≡ Idle → kind ≢ Del → is_same_type Rel kind ≡ false → chain ≡ begun_at (geometry_of medium c) q → IsFreshAs body kind name first → EntersSlot (geometry_of medium c) c2 c3 n body
    → BeginsFile medium c3 (with_file d (unclosed kind (before_filler name)) 1) uses ch (new_slot d) false [] 1 (record { slot = n; replaces = false; chain = chain })
begins medium c l c1 c2 c3 d uses ch n q kind name body first chain s idle ne plain is_begun says put = record {
  holds = subst (λ (w : State). HoldsNow medium c3 (with_file d f 1) (with_use uses ch (Writes (record { slot = n; replaces = false; chain = w }) [] 1))) (sym is_begun)
      (subst (λ (k : ℕ). Holds k c3 (with_file d f 1) (with_use uses ch (Writes w0 [] 1))) (sym same)
      (subst (λ (x : Disk). Holds tracks c3 x (with_use uses ch (Writes w0 [] 1))) (disk_is d n f s.ready.slot) (record {
        layout = _;
        so = begun_over tracks c1 c2 c3 s.ready.reached.layout (grown d) uses ch n q body f (few medium c) s.ready.reached.so idle (slot_there medium c l c1 d uses n s.ready) (omega (arith, at.1.0)) none s.claims e
            (fresh_kind body kind name first says) (fresh_unclosed body kind name first says) (fresh_file c2 body kind name first says ne) refl plain;
      })));
  same_slot = slot_is d n s.ready.slot;
  same_way = refl;
}
  where
    tracks : ℕ
    tracks = geometry_of medium c

    f : File
    f = unclosed kind (before_filler name)

    w0 : Filling
    w0 = record { slot = n; replaces = false; chain = begun_at (geometry_of medium c) q }

    r : Reached medium c l c1 (grown d) uses
    r = s.ready.reached

    at : (0 ≤ n) × ((n - 0 < length (grown d).slots) × (get_or (grown d).slots (n - 0) None ≡ None))
    at = empty_at 0 n (grown d).slots s.ready.slot

    none : file_at (grown d) n ≡ None
    none = ap (λ (i : ℕ). get_or (grown d).slots i None) (let z : n ≡ n - 0 = omega arith in z) ∙ at.1.1

    e : Enters c2 c3 (sector_of s.ready.reached.layout.directory n) (n % 8) body
    e = enters_at medium c l c1 c2 c3 d uses n q body s put

    same : geometry_of medium c3 ≡ tracks
    same = geometry_elsewhere medium c2 c3 (ap (λ (x : Content). x directory_head) e.written ∙ written_elsewhere c2 (sector_of s.ready.reached.layout.directory n) directory_head e.sector (entry_apart medium c l c1 d uses n s.ready))
        ∙ (reached_set medium c l c1 c2 d uses n q s).same

-- ---- no end but these

-- a free block is there where the bits told one
pub not_full : (medium : ℕ) (c c1 : Content) (d : Disk) (uses : ℕ → Use) (n : ℕ) (h : HoldsNow medium c d uses) → SlotReady medium c h.layout c1 d uses n → number (geometry_of medium c) (is_free_in (map_of c)) ≢ 0 → IsFull (geometry_of medium c) (map_of c1) → ⊥
not_full medium c c1 d uses n h s some full =
    some (free_of_disk (geometry_of medium c) c h.layout d h.so.stands ∙ sym (free_grown d) ∙ none_free (geometry_of medium c) c1 s.reached.layout (grown d) s.reached.so.stands full)

-- a disk with the same slots
pub stopped_at : (medium : ℕ) (c : Content) (l : Layout) (c' : Content) (d disk after : Disk) (uses : ℕ → Use) → HoldsNow medium c d uses → Reached medium c l c' disk uses → ((m : ℕ) → file_at disk m ≡ file_at d m) → Stopped medium c' d after uses
stopped_at medium c l c' d disk after uses h r slots = record { disk = disk; holds = reached_now medium c l c' disk uses r; either = λ m. inl (ap known (slots m)); total = r.so.stands.describes.total ∙ sym h.so.stands.describes.total }

-- the closed files are kept
pub untouched_by : (medium : ℕ) (c c' : Content) (d : Disk) (uses : ℕ → Use) (h : HoldsNow medium c d uses) → KeepsClosed h.layout c c' (λ m. false) → LeavesClosed (geometry_of medium c) c c' (λ m. false) (λ m. false)
untouched_by medium c c' d uses h keeps = leaves_in (geometry_of medium c) c c' h.layout (λ m. false) h.so.stands.sound keeps

-- the directory is there when the entry is to be written
pub chain_set : (medium : ℕ) (c : Content) (l : Layout) (c1 c2 : Content) (d : Disk) (uses : ℕ → Use) (n : ℕ) (q : Place) (s : IsSet medium c l c1 c2 d uses n q)
    → Chain (geometry_of medium c) c2 first_directory s.ready.reached.layout.directory × (n < 8 * length s.ready.reached.layout.directory)
chain_set medium c l c1 c2 d uses n q s =
    let r = s.ready.reached in
    let claimed : Claimed (geometry_of medium c) c1 c2 r.layout (grown d) q = stands_claim (geometry_of medium c) c1 c2 r.layout (grown d) q r.so.stands (few medium c) s.claims in
    (claimed.stands.sound.directory, slot_there medium c l c1 d uses n s.ready)

-- a fact of the geometry and the content that the code has, told of those of the call
pub moved : (P : ℕ → Content → Type 0) (k k' : ℕ) (c c' : Content) → k ≡ k' → c ≡ c' → P k c → P k' c'
moved P k k' c c' e f h = subst (λ (x : ℕ). P x c') e (subst (λ (x : Content). P k x) f h)
