-- Relative files that a channel has open: what their bodies are, and the channel beside the others.
use Rattle.std.proofs.Common.{◌≡◌, ℕ, zero, suc, ◌%◌, ◌<◌, ◌≤◌, List, [], ◌∷◌, length, take, drop, Bool, true, false, refl, sym, ap, subst, ◌∙◌, arith, inl, inr, Some, None}
use Rattle.std.specs.Prelude.{◌==◌, ◌&&◌, nat_lt, slice_get, if◌then◌else◌}
use Rattle.std.proofs.lemmas.Bool.{cases_eq, cases_lt, ne_eqb}
use Rattle.std.proofs.lemmas.List.{get_or_past, length-take}
use Rattle.cbm_medium.specs.Content.{Content}
use Rattle.cbm_file.specs.declared.file_type.FileType.TheVariants.{Rel}
use Rattle.cbm_file.specs.Types.{is_same_type}
use Rattle.cbm_file.specs.Files.{File, Disk, Records, file_at}
use Rattle.cbm_bam.specs.Map.{geometry_of}
use Rattle.cbm_chain.specs.Data.{chain_bytes}
use Rattle.cbm_directory.specs.Entries.{type_byte, is_closed, is_relative, type_of_number, width_of, entry_at}
use Rattle.cbm_volume.specs.Blocks.{Blocks, file_of, body_as, slices}
use Rattle.cbm_volume.specs.Holding.{HoldsDisk}
use Rattle.cbm_volume.specs.Layouts.{Layout, slot_count, HasLayout}
use Rattle.cbm_volume.specs.Opens.{IsUnused}
use Rattle.cbm_volume.specs.Writers.{Use, Idle, Reads, Relates, Writes, IsRelating, IsUsed, uses_slot, writes_slot, HoldsAt, HoldsNow, with_use}
use Rattle.cbm_volume.proofs.written.Closing.{some_file}
use Rattle.cbm_volume.proofs.layouts.Listing.{closed_of, body_of}
use Rattle.cbm_volume.proofs.held.RecordsRead.{IsBody, is_body, both, lies_so}
use Rattle.cbm_volume.proofs.layouts.Writers.{use_here, use_other}

-- ---- the body

-- A file of records: they have at least one byte, and none is longer than their length.
pub record IsOfRecords (f : File) : Type 0 where
  pub width : ℕ
  pub records : List (List ℕ)
  pub blocks : ℕ
  pub sides : ℕ
  pub body : f.body ≡ Records width records blocks sides
  pub some : 1 ≤ width
  pub each : (k : ℕ) (r : List ℕ) → slice_get records k ≡ Some r → length r ≤ width

slices_width : (n w : ℕ) (bytes : List ℕ) (k : ℕ) (r : List ℕ) → slice_get (slices n w bytes) k ≡ Some r → length r ≤ w
slices_width zero w bytes k r h = absurd (cc)
slices_width (suc n) w bytes k r h = by_test (nat_lt (length bytes) w) k h (λ j. slices_width n w (drop w bytes) j r)
  where
    by_test : (b : Bool) (j : ℕ) → slice_get (if b then [] else take w bytes ∷ slices n w (drop w bytes)) j ≡ Some r
        → ((i : ℕ) → slice_get (slices n w (drop w bytes)) i ≡ Some r → length r ≤ w) → length r ≤ w
    by_test true j g more = absurd (cc)
    by_test false zero g more = (let e : take w bytes ≡ r = cc in omega (arith, ap length e, length-take w bytes))
    by_test false (suc j) g more = more j g

rel_type : (n : ℕ) → n < 5 → is_same_type Rel (type_of_number n) ≡ true → (n == 4) ≡ true
rel_type zero small h = absurd (cc)
rel_type (suc zero) small h = absurd (cc)
rel_type (suc (suc zero)) small h = absurd (cc)
rel_type (suc (suc (suc zero))) small h = absurd (cc)
rel_type (suc (suc (suc (suc zero)))) small h = refl
rel_type (suc (suc (suc (suc (suc n))))) small h = absurd (omega (arith, small))

rel_entry : (bytes e : List ℕ) (b : Blocks) → type_byte e % 16 < 5 → is_same_type Rel (file_of bytes e b).kind ≡ true → is_relative e ≡ true
unfolding file_of
rel_entry bytes e b small h = rel_type (type_byte e % 16) small h

-- a slot that has a file is one of the layout's
slot_there : (tracks : ℕ) (c : Content) (l : Layout) (d : Disk) (n : ℕ) (f : File) → HasLayout tracks c l d → file_at d n ≡ Some f → n < slot_count l
slot_there tracks c l d n f st at = elim (cases_lt n (length d.slots)) [
  | inl h ↦ subst (λ (m : ℕ). n < m) st.describes.size h
  | inr past ↦ absurd (let z = sym at ∙ get_or_past d.slots n None past in (cc))
]

-- the file in a slot, as its entry has it
record IsEntered (tracks : ℕ) (c : Content) (l : Layout) (n : ℕ) (f : File) : Type 0 where
  pub there : n < slot_count l
  pub is : file_of (chain_bytes c (l.files n).data_blocks) (entry_at c l.directory n) (l.files n) ≡ f

entered : (tracks : ℕ) (c : Content) (l : Layout) (d : Disk) (n : ℕ) (f : File) → HasLayout tracks c l d → file_at d n ≡ Some f → IsEntered tracks c l n f
entered tracks c l d n f st at =
    let k : n < slot_count l = slot_there tracks c l d n f st at in
    record { there = k; is = (some_file (chain_bytes c (l.files n).data_blocks) (entry_at c l.directory n) (l.files n) f (sym (st.describes.slots n k) ∙ at)).1 }

-- the records of a closed relative entry
of_entry : (tracks : ℕ) (c : Content) (l : Layout) (d : Disk) (n : ℕ) (f : File) → HasLayout tracks c l d → IsEntered tracks c l n f → is_closed (entry_at c l.directory n) ≡ true → is_relative (entry_at c l.directory n) ≡ true → IsOfRecords f
of_entry tracks c l d n f st k shut rel =
    let e : List ℕ = entry_at c l.directory n in
    let x : Blocks = l.files n in
    let bytes : List ℕ = chain_bytes c x.data_blocks in
    let lies = lies_so (is_closed e) (is_relative e) tracks c e x shut rel (st.sound.lies n k.there) in
    record {
      width = width_of e;
      records = slices (length bytes) (width_of e) bytes;
      blocks = length x.data_blocks;
      sides = length x.sides;
      body = ap (λ (y : File). y.body) (sym k.is) ∙ body_of bytes e x ∙ (λ i. body_as (shut i && rel i) bytes e x);
      some = lies.1.some_width;
      each = λ j r h. slices_width (length bytes) (width_of e) bytes j r h;
    }

-- A CLOSED RELATIVE FILE of a sound disk has records
pub of_records : (t : ℕ) (c : Content) (d : Disk) (n : ℕ) (f : File) → HoldsDisk t c d → file_at d n ≡ Some f → f.closed ≡ true → is_same_type Rel f.kind ≡ true → IsOfRecords f
of_records t c d n f h at closed relative =
    let l : Layout = h.layout in
    let k = entered (geometry_of t c) c l d n f h.stands at in
    let e : List ℕ = entry_at c l.directory n in
    let bytes : List ℕ = chain_bytes c (l.files n).data_blocks in
    of_entry (geometry_of t c) c l d n f h.stands k (sym (closed_of bytes e (l.files n)) ∙ ap (λ (y : File). y.closed) k.is ∙ closed)
    (rel_entry bytes e (l.files n) (h.stands.sound.kinds n k.there) (ap (λ (y : File). is_same_type Rel y.kind) k.is ∙ relative))

-- A FILE OF RECORDS has none that is longer than their length
pub records_width : (t : ℕ) (c : Content) (d : Disk) (n : ℕ) (f : File) (w b s : ℕ) (rs : List (List ℕ)) → HoldsDisk t c d → file_at d n ≡ Some f → f.body ≡ Records w rs b s → (k : ℕ) (r : List ℕ) → slice_get rs k ≡ Some r → length r ≤ w
records_width t c d n f w b s rs h at is k r there =
    let l : Layout = h.layout in
    let x = entered (geometry_of t c) c l d n f h.stands at in
    let e : List ℕ = entry_at c l.directory n in
    let bytes : List ℕ = chain_bytes c (l.files n).data_blocks in
    let body : IsBody (is_closed e && is_relative e) bytes e w rs = is_body (is_closed e && is_relative e) bytes e (l.files n) w b s rs (sym (body_of bytes e (l.files n)) ∙ ap (λ (y : File). y.body) x.is ∙ is) in
    subst (λ (m : ℕ). length r ≤ m) (sym body.width) (slices_width (length bytes) (width_of e) bytes k r (ap (λ (ys : List (List ℕ)). slice_get ys k) (sym body.records) ∙ there))

-- their length is 254 at most
pub records_most : (t : ℕ) (c : Content) (d : Disk) (n : ℕ) (f : File) (w b s : ℕ) (rs : List (List ℕ)) → HoldsDisk t c d → file_at d n ≡ Some f → f.body ≡ Records w rs b s → w ≤ 254
records_most t c d n f w b s rs h at is =
    let l : Layout = h.layout in
    let x = entered (geometry_of t c) c l d n f h.stands at in
    let e : List ℕ = entry_at c l.directory n in
    let bytes : List ℕ = chain_bytes c (l.files n).data_blocks in
    let body : IsBody (is_closed e && is_relative e) bytes e w rs = is_body (is_closed e && is_relative e) bytes e (l.files n) w b s rs (sym (body_of bytes e (l.files n)) ∙ ap (λ (y : File). y.body) x.is ∙ is) in
    let kind = both (is_closed e) (is_relative e) body.relative in
    let lies = lies_so (is_closed e) (is_relative e) (geometry_of t c) c e (l.files n) kind.0 kind.1 (h.stands.sound.lies n x.there) in
    subst (λ (m : ℕ). m ≤ 254) (sym body.width) lies.1.width

-- ---- the channel

same_slot : (x y : ℕ) → (x == y) ≡ true → x ≡ y
same_slot x y t = elim (cases_eq x y) [ inl e ↦ e | inr ne ↦ absurd (let z = sym (ne_eqb x y ne) ∙ t in (cc)) ]

writes_has : (u : Use) (i : ℕ) → writes_slot i u ≡ true → uses_slot i u ≡ true
writes_has Idle i h = absurd (cc)
writes_has (Reads s r left) i h = absurd (cc)
writes_has (Relates s) i h = h
writes_has (Writes w x k) i h = h

-- one channel has the records of a slot open that no channel had
holds_relating : (tracks : ℕ) (c : Content) (l : Layout) (d : Disk) (uses : ℕ → Use) (ch n : ℕ) → HoldsAt tracks c l d uses → IsUnused uses n → IsRelating l d n → HoldsAt tracks c l d (with_use uses ch (Relates n))
holds_relating tracks c l d uses ch n h unused k = record {
  stands = h.stands;
  each = λ m. elim (cases_eq m ch) [
    | inl e ↦ subst (λ (i : ℕ). IsUsed tracks c l d i (with_use uses ch (Relates n) i)) (sym e) (subst (λ (x : Use). IsUsed tracks c l d ch x) (sym (use_here uses ch (Relates n))) k)
    | inr ne ↦ subst (λ (x : Use). IsUsed tracks c l d m x) (sym (use_other uses ch m (Relates n) ne)) (h.each m)
  ];
  alone = λ a b i wa hb. elim (cases_eq a ch) [
    | inl ea ↦ elim (cases_eq b ch) [
      | inl eb ↦ ea ∙ sym eb
      | inr nb ↦ absurd (let mine : (n == i) ≡ true = ap (writes_slot i) (sym (use_here uses ch (Relates n))) ∙ ap (λ (x : ℕ). writes_slot i (with_use uses ch (Relates n) x)) (sym ea) ∙ wa in
          let z = sym (unused b) ∙ ap (λ (x : ℕ). uses_slot x (uses b)) (same_slot n i mine) ∙ ap (uses_slot i) (sym (use_other uses ch b (Relates n) nb)) ∙ hb in (cc))
    ]
    | inr na ↦ (let wa' : writes_slot i (uses a) ≡ true = ap (writes_slot i) (sym (use_other uses ch a (Relates n) na)) ∙ wa in
        elim (cases_eq b ch) [
          | inl eb ↦ absurd (let mine : (n == i) ≡ true = ap (uses_slot i) (sym (use_here uses ch (Relates n))) ∙ ap (λ (x : ℕ). uses_slot i (with_use uses ch (Relates n) x)) (sym eb) ∙ hb in
              let z = sym (unused a) ∙ ap (λ (x : ℕ). uses_slot x (uses a)) (same_slot n i mine) ∙ writes_has (uses a) i wa' in (cc))
          | inr nb ↦ h.alone a b i wa' (ap (uses_slot i) (sym (use_other uses ch b (Relates n) nb)) ∙ hb)
        ])
  ];
}

-- THE CHANNEL HAS A RELATIVE FILE OPEN, in the layout of the others
pub relates_now : (t : ℕ) (c : Content) (d : Disk) (uses : ℕ → Use) (ch n : ℕ) (f : File) → HoldsNow t c d uses → IsUnused uses n → file_at d n ≡ Some f → f.closed ≡ true → is_same_type Rel f.kind ≡ true
    → HoldsNow t c d (with_use uses ch (Relates n))
relates_now t c d uses ch n f h unused at closed relative = record {
  layout = h.layout;
  so = holds_relating (geometry_of t c) c h.layout d uses ch n h.so unused
      (record { there = slot_there (geometry_of t c) c h.layout d n f h.so.stands at; file = f; in_slot = at; closed = closed; relative = relative });
}
