-- The records of a relative file of a sound disk are those that its chain's bytes have.
use Rattle.std.proofs.Common.{◌≡◌, ◌⊎◌, ℕ, ◌-◌, ◌<◌, ◌≤◌, List, length, Bool, true, false, Option, Some, None, Result, Ok, refl, sym, ap, subst, ◌∙◌, arith, inl, inr}
use Rattle.std.specs.Prelude.{if◌then◌else◌, ◌&&◌, ◌==◌, slice_get, IsOk, IsOkAnd, option_map}
use Rattle.std.proofs.lemmas.List.{get_or_past}
use Rattle.cbm_medium.specs.Place.{Place, Has, sector_count}
use Rattle.cbm_medium.specs.Content.{Content}
use Rattle.cbm_medium.specs.Links.{Chain}
use Rattle.cbm_medium.specs.declared.fault.Trouble.{Trouble}
use Rattle.cbm_file.specs.Files.{Disk, File, Records, file_at}
use Rattle.cbm_chain.specs.Data.{chain_bytes}
use Rattle.cbm_relfile.specs.Records.{AllWhole, IsLaid, Relative, record_in}
use Rattle.cbm_directory.specs.Entries.{entry_at, first_block, first_side, is_closed, is_relative, type_byte, width_of}
use Rattle.cbm_directory.specs.Slots.{Answers, directory_of}
use Rattle.cbm_volume.specs.RecordFaults.{relative_of}
use Rattle.cbm_volume.specs.Blocks.{Blocks, LiesAs, HasRecords, file_of, body_as, slices}
use Rattle.cbm_volume.specs.Layouts.{Layout, slot_count, HasLayout}
use Rattle.cbm_volume.specs.check.SideLists.{are_records}
use Rattle.cbm_relfile.specs.SideSectors.{Numbered}
use Rattle.cbm_volume.proofs.checked.RecordsChecked.{records_pass}
use Rattle.cbm_volume.proofs.layouts.Listing.{entry_found, body_of}
use Rattle.cbm_volume.proofs.layouts.Lengths.{file_length}
use Rattle.cbm_volume.proofs.held.Slices.{record_slice}

-- a body of records is that of a relative entry
pub record IsBody (r : Bool) (bytes e : List ℕ) (w : ℕ) (rs : List (List ℕ)) : Type 0 where
  pub relative : r ≡ true
  pub width : w ≡ width_of e
  pub records : rs ≡ slices (length bytes) (width_of e) bytes

pub is_body : (r : Bool) (bytes e : List ℕ) (b : Blocks) (w n s : ℕ) (rs : List (List ℕ)) → body_as r bytes e b ≡ Records w rs n s → IsBody r bytes e w rs
is_body false bytes e b w n s rs h = absurd (cc)
is_body true bytes e b w n s rs h = record { relative = refl; width = cc; records = cc }

pub both : (a b : Bool) → (a && b) ≡ true → (a ≡ true) × (b ≡ true)
both true true h = (refl, refl)
both true false h = absurd (cc)
both false b h = absurd (cc)

pub lies_so : (cl r : Bool) (tracks : ℕ) (c : Content) (e : List ℕ) (b : Blocks) → cl ≡ true → r ≡ true → LiesAs cl r tracks c e b → Chain tracks c (first_block e) b.data_blocks × HasRecords tracks c e b
lies_so true true tracks c e b h k x = x
lies_so true false tracks c e b h k x = absurd (cc)
lies_so false r tracks c e b h k x = absurd (cc)

-- where the records of an entry's file are
pub record RecordsAt (tracks : ℕ) (c : Content) (entry : List ℕ) (w : ℕ) (rs : List (List ℕ)) : Type 0 where
  pub blocks : List Place
  pub sides : List Place
  pub laid : IsLaid tracks c (relative_of entry) blocks sides
  pub short : length blocks ≤ sector_count tracks
  pub some : 1 ≤ width_of entry
  pub most : width_of entry ≤ 254
  pub width : w ≡ width_of entry
  pub each : (k : ℕ) → 0 < k → record_in (width_of entry) (chain_bytes c blocks) k ≡ slice_get rs (k - 1)

-- the file of a slot with records lies in blocks, and has side sectors
pub record LiesWithRecords (tracks : ℕ) (c : Content) (l : Layout) (n : ℕ) (entry : List ℕ) (w : ℕ) (rs : List (List ℕ)) : Type 0 where
  pub there : n < slot_count l
  pub entry_is : entry ≡ entry_at c l.directory n
  pub body : IsBody (is_closed (entry_at c l.directory n) && is_relative (entry_at c l.directory n)) (chain_bytes c (l.files n).data_blocks) (entry_at c l.directory n) w rs
  pub chain : Chain tracks c (first_block (entry_at c l.directory n)) (l.files n).data_blocks
  pub records : HasRecords tracks c (entry_at c l.directory n) (l.files n)

pub records_lie : (tracks : ℕ) (c : Content) (l : Layout) (d : Disk) (n : ℕ) (entry : List ℕ) (f : File) (w b s : ℕ) (rs : List (List ℕ)) → HasLayout tracks c l d
    → Answers (directory_of tracks c) n (Ok (Some entry)) → file_at d n ≡ Some f → f.body ≡ Records w rs b s → LiesWithRecords tracks c l n entry w rs
records_lie tracks c l d n entry f w b s rs st a at is =
    let found = entry_found tracks c l n entry st.sound a in
    let e : List ℕ = entry_at c l.directory n in
    let x : Blocks = l.files n in
    let bytes : List ℕ = chain_bytes c x.data_blocks in
    let file : f ≡ file_of bytes e x = not_empty (type_byte e == 0) f (file_of bytes e x) (sym at ∙ st.describes.slots n found.0) in
    let body : IsBody (is_closed e && is_relative e) bytes e w rs = is_body (is_closed e && is_relative e) bytes e x w b s rs (sym (body_of bytes e x) ∙ ap (λ (y : File). y.body) (sym file) ∙ is) in
    let kind = both (is_closed e) (is_relative e) body.relative in
    let lies = lies_so (is_closed e) (is_relative e) tracks c e x kind.0 kind.1 (st.sound.lies n found.0) in
    record { there = found.0; entry_is = found.1; body = body; chain = lies.0; records = lies.1 }
  where
    not_empty : (t : Bool) (y z : File) → Some y ≡ (if t then None else Some z) → y ≡ z
    not_empty true y z h = absurd (cc)
    not_empty false y z h = cc

pub records_at : (tracks : ℕ) (c : Content) (l : Layout) (d : Disk) (n : ℕ) (entry : List ℕ) (f : File) (w b s : ℕ) (rs : List (List ℕ)) → (tracks ≡ 35) ⊎ (tracks ≡ 40) → HasLayout tracks c l d
    → Answers (directory_of tracks c) n (Ok (Some entry)) → file_at d n ≡ Some f → f.body ≡ Records w rs b s → RecordsAt tracks c entry w rs
records_at tracks c l d n entry f w b s rs size st a at is =
    let so = records_lie tracks c l d n entry f w b s rs st a at is in
    let e : List ℕ = entry_at c l.directory n in
    let x : Blocks = l.files n in
    let bytes : List ℕ = chain_bytes c x.data_blocks in
    let there : RecordsAt tracks c e w rs = record {
      blocks = x.data_blocks;
      sides = x.sides;
      laid = record {
        chain = so.chain;
        some_block = so.records.some_block;
        some_width = so.records.some_width;
        most_width = so.records.width;
        first_side = so.records.first;
        listed = so.records.listed;
        numbered = so.records.numbered;
        joined = so.records.joined;
      };
      short = file_length tracks c l n (first_block e) x.data_blocks size st.sound so.chain (st.sound.owned.blocks n so.there);
      some = so.records.some_width;
      most = so.records.width;
      width = so.body.width;
      each = λ k h. sym (record_slice (width_of e) bytes k so.records.some_width h) ∙ ap (λ (ys : List (List ℕ)). slice_get ys (k - 1)) (sym so.body.records);
    } in
    subst (λ (y : List ℕ). RecordsAt tracks c y w rs) (sym so.entry_is) there

-- THE SIDE SECTORS OF A SLOT WITH RECORDS ARE RIGHT, and the first of them reads.
pub record OpensRecords (tracks : ℕ) (c : Content) (e : List ℕ) : Type 0 where
  pub has : Has tracks (first_side e)
  pub reads : IsOk (c (first_side e))
  pub right : are_records tracks c e ≡ true

pub records_open : (tracks : ℕ) (c : Content) (l : Layout) (d : Disk) (n : ℕ) (entry : List ℕ) (f : File) (w b s : ℕ) (rs : List (List ℕ)) → HasLayout tracks c l d
    → Answers (directory_of tracks c) n (Ok (Some entry)) → file_at d n ≡ Some f → f.body ≡ Records w rs b s → OpensRecords tracks c entry
records_open tracks c l d n entry f w b s rs st a at is =
    let so = records_lie tracks c l d n entry f w b s rs st a at is in
    let e : List ℕ = entry_at c l.directory n in
    let first = subst (Numbered tracks c (width_of e) 0) so.records.first.1 so.records.numbered in
    subst (λ (y : List ℕ). OpensRecords tracks c y) (sym so.entry_is)
    (record { has = first.0; reads = first.1; right = (records_pass tracks c e (l.files n) so.chain so.records).1 })

-- there is no such slot
pub no_slot : (d : Disk) (n : ℕ) (f : File) → file_at d n ≡ Some f → length d.slots ≤ n → ⊥
no_slot d n f at past = let z = sym at ∙ get_or_past d.slots n None past in (cc)

-- what a call that reads a record of the file answers is the file's record
pub read_means : {X : Type 0} (c0 c1 : Content) (g0 g1 : ℕ) (entry : List ℕ) (file : Relative) (w k : ℕ) (rs : List (List ℕ)) (r : Result (Option X) Trouble) (view : X → List ℕ) → c0 ≡ c1 → g1 ≡ g0
    → file ≡ relative_of entry
    → ((blocks sides : List Place) → AllWhole c1 → IsLaid g1 c1 file blocks sides → length blocks ≤ sector_count g1 → IsOkAnd r (λ o. option_map view o ≡ record_in file.width (chain_bytes c1 blocks) k))
    → AllWhole c0 → RecordsAt g0 c0 entry w rs → 0 < k → IsOkAnd r (λ o. option_map view o ≡ slice_get rs (k - 1))
read_means c0 c1 g0 g1 entry file w k rs r view same_c same_g same_f reads whole at some =
    let whole1 = subst AllWhole same_c whole in
    let laid = subst (λ (g : ℕ). IsLaid g c1 file at.blocks at.sides) (sym same_g) (subst (λ (f : Relative). IsLaid g0 c1 f at.blocks at.sides) (sym same_f) (subst (λ (c : Content). IsLaid g0 c (relative_of entry) at.blocks at.sides) same_c at.laid)) in
    let short = subst (λ (g : ℕ). length at.blocks ≤ sector_count g) (sym same_g) at.short in
    subst (λ (z : Option (List ℕ)). IsOkAnd r (λ o. option_map view o ≡ z))
    ((λ i. record_in (same_f i).width (chain_bytes (sym same_c i) at.blocks) k) ∙ at.each k some)
    (reads at.blocks at.sides whole1 laid short)

pub bad_length : (n w : ℕ) → n ≡ w → 1 ≤ w → w ≤ 254 → (n ≡ 0) ⊎ (((n ≡ 0) → ⊥) × (n ≡ 255)) → ⊥
bad_length n w e some most (inl z) = omega (arith, e, some, z)
bad_length n w e some most (inr z) = omega (arith, e, most, z.1)
