-- One turn of a growth: a file of b1 full blocks has one more, and its side sectors list it.
use Rattle.std.proofs.Common.{◌≡◌, ◌≢◌, ℕ, suc, ◌+◌, ◌-◌, ◌*◌, ◌/◌, ◌<◌, ◌≤◌, List, [], ◌∷◌, ◌++◌, length, get_or, true, Some, Ok, IsOk, refl, sym, ap, subst, ◌∙◌, arith}
use Rattle.std.specs.Prelude.{replicate, ◌&&◌}
use Rattle.std.proofs.lemmas.Nat.{div-add-mod', le-div}
use Rattle.std.proofs.lemmas.List.{append_assoc, length-append, length-replicate, replicate-append-replicate, set-set}
use Rattle.cbm_medium.specs.Place.{Place, directory_head}
use Rattle.cbm_medium.specs.Content.{Cell, Content, written}
use Rattle.cbm_medium.specs.Links.{bytes_at, or_nothing, Chain}
use Rattle.cbm_medium.proofs.Places.{written_there, written_elsewhere}
use Rattle.cbm_file.specs.Files.{Disk, File, Records, file_at, with_slot}
use Rattle.cbm_file.specs.Records.{fresh_record, record_count}
use Rattle.cbm_bam.specs.Map.{geometry_of, Claims}
use Rattle.cbm_chain.specs.Data.{data_of, chain_bytes}
use Rattle.cbm_chain.specs.Writing.{last_of}
use Rattle.cbm_directory.specs.Entries.{entry_at, first_block, first_side, is_closed, is_relative, width_of}
use Rattle.cbm_relfile.specs.Growing.{IsLengthened}
use Rattle.cbm_relfile.specs.Records.{AllWhole, Relative}
use Rattle.cbm_relfile.proofs.Positions.{whole_bytes}
use Rattle.cbm_volume.specs.Blocks.{Blocks, HasRecords, slot_of, slices}
use Rattle.cbm_volume.specs.Growth.{filled_up}
use Rattle.cbm_volume.specs.Growing.{disk_with, IsListed, LeavesAside, HasGrown, HasLonger}
use Rattle.cbm_volume.specs.Layouts.{Owner, Nobody, TheMap, Directory, DataOf, SideOf, OwnedBy, Layout, slot_count, HasLayout, own}
use Rattle.cbm_volume.specs.RecordWrites.{HasRecordsOpen}
use Rattle.cbm_volume.specs.Writers.{Use}
use Rattle.cbm_volume.proofs.written.Closing.{some_file}
use Rattle.cbm_volume.proofs.written.Finishes.{last_owned}
use Rattle.cbm_volume.proofs.layouts.Frames.{Keeps, bytes_kept}
use Rattle.cbm_volume.proofs.grown.GrowingSteps.{Stage, StageClaimed, go_on, claimed, claimed_written, file_there, slot_there, aside_directory, aside_then, aside_written}
use Rattle.cbm_volume.proofs.layouts.Loose.{entry_kept}
use Rattle.cbm_volume.proofs.layouts.Steps.{own_elsewhere}
use Rattle.cbm_volume.proofs.layouts.Listing.{body_of}
use Rattle.cbm_volume.proofs.layouts.OneSlot.{with_file, blocks_here}
use Rattle.cbm_volume.proofs.records_made.RecordsPut.{has_blocks, whole_written}
use Rattle.cbm_volume.proofs.held.RecordsRead.{is_body, both, lies_so}
use Rattle.cbm_volume.proofs.relative.GrownFile.{with_records, slot_grown}
use Rattle.cbm_volume.proofs.relative.Lengthened.{LastWritten, last_nth, last_written, chain_more, more_records, slices_count}
use Rattle.cbm_volume.proofs.relative.Longer.{longer, stands_longer}
use Rattle.cbm_volume.proofs.relative.OneBlock.{listed_kept}
use Rattle.cbm_volume.proofs.written.Storing.{geometry_elsewhere}
use Rattle.cbm_volume.proofs.layouts.Writers.{written_keeps, keeps_then}

-- ---- where a slot's records lie

pub record FileLies (tracks : ℕ) (c : Content) (l : Layout) (n w : ℕ) (rs : List (List ℕ)) (b s : ℕ) : Type 0 where
  pub closed : is_closed (entry_at c l.directory n) ≡ true
  pub relative : is_relative (entry_at c l.directory n) ≡ true
  pub chain : Chain tracks c (first_block (entry_at c l.directory n)) (l.files n).data_blocks
  pub records : HasRecords tracks c (entry_at c l.directory n) (l.files n)
  pub width : w ≡ width_of (entry_at c l.directory n)
  pub list : rs ≡ slices (length (chain_bytes c (l.files n).data_blocks)) w (chain_bytes c (l.files n).data_blocks)
  pub blocks : b ≡ length (l.files n).data_blocks
  pub sides : s ≡ length (l.files n).sides

pub file_lies : (tracks : ℕ) (c : Content) (l : Layout) (d : Disk) (n : ℕ) (f : File) (w b s : ℕ) (rs : List (List ℕ)) → HasLayout tracks c l d → n < slot_count l → file_at d n ≡ Some f → f.body ≡ Records w rs b s → FileLies tracks c l n w rs b s
file_lies tracks c l d n f w b s rs st there at is =
    let e : List ℕ = entry_at c l.directory n in
    let x : Blocks = l.files n in
    let bytes : List ℕ = chain_bytes c x.data_blocks in
    let slot : slot_of c e x ≡ Some f = sym (st.describes.slots n there) ∙ at in
    let body = is_body (is_closed e && is_relative e) bytes e x w b s rs (sym (body_of bytes e x) ∙ ap (λ (y : File). y.body) (some_file bytes e x f slot).1 ∙ is) in
    let kind = both (is_closed e) (is_relative e) body.relative in
    let lies = lies_so (is_closed e) (is_relative e) tracks c e x kind.0 kind.1 (st.sound.lies n there) in
    let count = has_blocks bytes e x f w b s rs slot is in
    record {
      closed = kind.0;
      relative = kind.1;
      chain = lies.0;
      records = lies.1;
      width = body.width;
      list = body.records ∙ ap (λ (m : ℕ). slices (length bytes) m bytes) (sym body.width);
      blocks = count.blocks;
      sides = count.sides;
    }

pub record NotEmpty (xs : List Place) : Type 0 where
  pub first : Place
  pub rest : List Place
  pub is : xs ≡ first ∷ rest

pub not_empty : (xs : List Place) → 1 ≤ length xs → NotEmpty xs
not_empty [] h = absurd (omega (arith, h))
not_empty (x ∷ xs) h = record { first = x; rest = xs; is = refl }

-- ---- more fresh records

pub filled_more : (w b : ℕ) (rs : List (List ℕ)) → length (filled_up w b rs) ≡ record_count w b → record_count w b ≤ record_count w (b + 1) → filled_up w b rs ++ replicate (record_count w (b + 1) - length (filled_up w b rs)) (fresh_record w) ≡ filled_up w (b + 1) rs
filled_more w b rs size more =
    let j : ℕ = record_count w b - length rs in
    let k : ℕ = record_count w (b + 1) - length (filled_up w b rs) in
    let long : length (filled_up w b rs) ≡ length rs + j = length-append rs (replicate j (fresh_record w)) ∙ ap (λ (m : ℕ). length rs + m) (length-replicate j (fresh_record w)) in
    let sum : j + k ≡ record_count w (b + 1) - length rs = omega (arith, long, size, more) in
    append_assoc rs (replicate j (fresh_record w)) (replicate k (fresh_record w)) ∙ ap (λ (xs : List (List ℕ)). rs ++ xs) (replicate-append-replicate j k (fresh_record w) ∙ ap (λ (m : ℕ). replicate m (fresh_record w)) sum)

-- the disk whose slot has another file again
pub disk_again : (d : Disk) (n : ℕ) (f : File) (w : ℕ) (rs1 rs2 : List (List ℕ)) (b1 s1 free b2 s2 : ℕ) → with_slot (disk_with d n f w rs1 b1 s1 free) n (Some (record f { held = b2 + s2; body = Records w rs2 b2 s2 })) ≡ disk_with d n f w rs2 b2 s2 free
disk_again d n f w rs1 rs2 b1 s1 free b2 s2 =
    λ i. record d { slots = set-set d.slots n (Some (record f { held = b1 + s1; body = Records w rs1 b1 s1 })) (Some (record f { held = b2 + s2; body = Records w rs2 b2 s2 })) i; free = free }

-- ---- owners that differ

pub is_not : (o a x : Owner) → o ≡ a → a ≢ x → o ≢ x
is_not o a x e ne z = ne (sym e ∙ z)

pub map_data : (n : ℕ) → TheMap ≢ DataOf n
map_data n = λ z. (cc)

pub map_side : (n : ℕ) → TheMap ≢ SideOf n
map_side n = λ z. (cc)

pub nobody_data : (n : ℕ) → Nobody ≢ DataOf n
nobody_data n = λ z. (cc)

pub nobody_side : (n : ℕ) → Nobody ≢ SideOf n
nobody_side n = λ z. (cc)

pub data_side : (n : ℕ) → DataOf n ≢ SideOf n
data_side n = λ z. (cc)

pub data_nobody : (n : ℕ) → DataOf n ≢ Nobody
data_nobody n = λ z. (cc)

pub data_map : (n : ℕ) → DataOf n ≢ TheMap
data_map n = λ z. (cc)

-- sectors of different owners differ
pub owners_apart : (owner : Place → Owner) (p q : Place) (a x : Owner) → owner p ≡ a → owner q ≡ x → a ≢ x → p ≢ q
owners_apart owner p q a x e f ne z = ne (sym e ∙ ap owner z ∙ f)

-- ---- a block more

module _ (medium : ℕ) (c0 : Content) (d : Disk) (uses : ℕ → Use) (n w b s : ℕ) (rs : List (List ℕ)) (o : HasRecordsOpen medium c0 d uses n w b s rs) where
  abbrev pub tracks : ℕ
  tracks = geometry_of medium c0

  abbrev pub At : Content → Layout → List (List ℕ) → ℕ → ℕ → ℕ → Type 0
  At c l rs1 b1 s1 free = Stage medium c0 o.holds.layout d uses n o.file w c l rs1 b1 s1 free

  abbrev pub Taken : Content → Layout → List (List ℕ) → ℕ → ℕ → ℕ → Place → Type 0
  Taken c l rs1 b1 s1 free q = StageClaimed medium c0 o.holds.layout d uses n o.file w c l rs1 b1 s1 free q

  pub slot_in : (c : Content) (l : Layout) (rs1 : List (List ℕ)) (b1 s1 free : ℕ) → At c l rs1 b1 s1 free → n < slot_count l
  slot_in c l rs1 b1 s1 free h = omega (arith, slot_there medium c0 d uses n w b s rs o, o.holds.so.stands.describes.size, h.count)

  -- the slot's file lies there
  pub lies_at : (c : Content) (l : Layout) (rs1 : List (List ℕ)) (b1 s1 free : ℕ) → At c l rs1 b1 s1 free → FileLies tracks c l n w rs1 b1 s1
  lies_at c l rs1 b1 s1 free h =
      file_lies tracks c l (disk_with d n o.file w rs1 b1 s1 free) n (record o.file { held = b1 + s1; body = Records w rs1 b1 s1 }) w b1 s1 rs1 h.holds.stands (slot_in c l rs1 b1 s1 free h)
      (file_there medium c0 d uses n w b s rs o rs1 b1 s1 free) refl

  pub stage_of : (r : Relative) (c : Content) (b1 s1 : ℕ) (last : Place) → (g : HasGrown medium c0 d uses n w b s rs o r c b1 s1 last) → At c g.layout (filled_up w b1 rs) b1 s1 (d.free - (b1 + s1 - (b + s)))
  stage_of r c b1 s1 last g = record { holds = g.holds; same = g.same; count = g.count; aside = g.aside }

  -- THE FILE HAS ONE BLOCK MORE
  pub turn_longer : (r : Relative) (c c' : Content) (b1 s1 : ℕ) (last q : Place) → HasGrown medium c0 d uses n w b s rs o r c b1 s1 last → AllWhole c → IsLengthened tracks c c' last w b1 q → HasLonger medium c0 d uses n w b s rs o r c' b1 s1 q
  turn_longer r c c' b1 s1 last q g whole k =
      let l : Layout = g.layout in
      let rs1 : List (List ℕ) = filled_up w b1 rs in
      let rs2 : List (List ℕ) = filled_up w (b1 + 1) rs in
      let free : ℕ = d.free - (b1 + s1 - (b + s)) in
      let x : Blocks = l.files n in
      let at0 : At c l rs1 b1 s1 free = stage_of r c b1 s1 last g in
      let there : n < slot_count l = slot_in c l rs1 b1 s1 free at0 in
      let lies : FileLies tracks c l n w rs1 b1 s1 = lies_at c l rs1 b1 s1 free at0 in
      let xs : NotEmpty x.data_blocks = not_empty x.data_blocks lies.records.some_block in
      let p : Place = last_of xs.first xs.rest in
      let b_is : b1 ≡ suc (length xs.rest) = lies.blocks ∙ ap (λ (ys : List Place). length ys) xs.is in
      let index : b1 - 1 ≡ length xs.rest = omega (arith, b_is) in
      let last_here : last ≡ p = sym g.last_is ∙ (λ i. get_or (xs.is i) (index i) directory_head) ∙ last_nth xs.first xs.rest directory_head in
      let own_p : l.owner p ≡ DataOf n = last_owned l.owner (DataOf n) xs.first xs.rest (subst (λ (ys : List Place). OwnedBy l.owner (DataOf n) ys) xs.is (at0.holds.stands.sound.owned.blocks n there)) in
      let c2 : Content = written k.one q k.fresh in
      let one : Taken k.one l rs1 b1 s1 (free - 1) q = claimed medium c0 d uses n w b s rs o c k.one l rs1 b1 s1 free q at0 k.claims in
      let two : Taken c2 l rs1 b1 s1 (free - 1) q = claimed_written medium c0 d uses n w b s rs o k.one c2 l rs1 b1 s1 (free - 1) q q k.fresh one one.taken.nobody refl in
      let data1 : Keeps c k.one l.owner (DataOf n) = written_keeps c k.one directory_head k.claims.remaps.map l.owner (DataOf n) k.claims.remaps.written (is_not (l.owner directory_head) TheMap (DataOf n) at0.holds.stands.sound.owned.map (map_data n)) in
      let data2 : Keeps k.one c2 l.owner (DataOf n) = written_keeps k.one c2 q k.fresh l.owner (DataOf n) refl (is_not (l.owner q) Nobody (DataOf n) one.taken.nobody (nobody_data n)) in
      let data_kept : Keeps c c2 l.owner (DataOf n) = keeps_then c k.one c2 l.owner (DataOf n) data1 data2 in
      let whole1 : AllWhole k.one = subst AllWhole (sym k.claims.remaps.written) (whole_written c directory_head k.claims.remaps.map whole (k.claims.remaps.mapped.length ∙ whole_bytes c directory_head whole at0.holds.stands.sound.map_reads)) in
      let whole2 : AllWhole c2 = whole_written k.one q k.fresh whole1 k.filled.whole in
      let lies2 : FileLies tracks c2 l n w rs1 b1 s1 = lies_at c2 l rs1 b1 s1 (free - 1) two.stage in
      let last2 : bytes_at c2 p ≡ k.sector = ap or_nothing (data_kept p own_p ∙ ap c (sym last_here) ∙ k.reads) in
      let apart : p ≢ q = owners_apart l.owner p q (DataOf n) Nobody own_p one.taken.nobody (data_nobody n) in
      let link_write : c' ≡ written c2 p k.linked = k.written ∙ ap (λ (y : Place). written c2 y k.linked) last_here in
      let at_q2 : c2 q ≡ Ok k.fresh = written_there k.one q k.fresh in
      let at_q3 : bytes_at c' q ≡ k.fresh = ap (λ (y : Content). or_nothing (y q)) link_write ∙ ap or_nothing (written_elsewhere c2 p q k.linked apart ∙ at_q2) in
      -- the bytes
      let wr : LastWritten c2 c' xs.first xs.rest k.linked = last_written tracks c2 c' (first_block (entry_at c2 l.directory n)) xs.first xs.rest k.linked whole2
      (subst (λ (ys : List Place). Chain tracks c2 (first_block (entry_at c2 l.directory n)) ys) xs.is lies2.chain)
      (λ y ne. ap (λ (z : Content). z y) link_write ∙ written_elsewhere c2 p y k.linked ne) (ap (λ (z : Content). z p) link_write ∙ written_there c2 p k.linked) in
      let bytes2 : chain_bytes c2 x.data_blocks ≡ wr.front ++ data_of k.sector = ap (chain_bytes c2) xs.is ∙ wr.was ∙ ap (λ (ys : List ℕ). wr.front ++ data_of ys) last2 in
      let size2 : length (chain_bytes c2 x.data_blocks) ≡ 254 * b1 = ap (λ (ys : List ℕ). length ys) (bytes_kept c c2 l.owner (DataOf n) data_kept x.data_blocks (at0.holds.stands.sound.owned.blocks n there)) ∙ g.full in
      let sector_size : length k.sector ≡ 256 = ap (λ (ys : List ℕ). length ys) (sym last2) ∙ whole_bytes c2 p whole2 (subst (λ (y : Cell). IsOk y) (sym (data_kept p own_p ∙ ap c (sym last_here) ∙ k.reads)) refl) in
      let data_size : length (data_of k.sector) ≡ 254 = omega (arith, size2, ap (λ (ys : List ℕ). length ys) bytes2, length-append wr.front (data_of k.sector), wr.size, b_is) in
      let some : 0 < w = omega (arith, lies.width, lies.records.some_width) in
      let list2 : slices (length (wr.front ++ data_of k.sector)) w (wr.front ++ data_of k.sector) ≡ rs1 = sym (lies2.list ∙ ap (λ (ys : List ℕ). slices (length ys) w ys) bytes2) in
      let count : length rs1 ≡ record_count w b1 = ap (λ (ys : List (List ℕ)). length ys) lies2.list ∙ slices_count w (chain_bytes c2 x.data_blocks) some ∙ ap (λ (m : ℕ). m / w) size2 in
      let more = more_records w b1 wr.front k.sector k.linked k.fresh q rs1 some (omega (arith, lies.width, lies.records.width)) (omega (arith, b_is)) (omega (arith, wr.size, b_is)) data_size sector_size
      (λ z. (let h = one.taken.has in omega (arith, z, h.0))) k.filled k.joined count list2 in
      let bytes3 : chain_bytes c' (x.data_blocks ++ q ∷ []) ≡ wr.front ++ data_of k.linked ++ data_of k.fresh = chain_more c' x.data_blocks q ∙ (λ i. (ap (chain_bytes c') xs.is ∙ wr.is) i ++ data_of (at_q3 i)) in
      let list3 : slices (length (chain_bytes c' (x.data_blocks ++ q ∷ []))) w (chain_bytes c' (x.data_blocks ++ q ∷ [])) ≡ rs2 = ap (λ (ys : List ℕ). slices (length ys) w ys) bytes3 ∙ more.1 ∙ filled_more w b1 rs count (le-div (record_count w b1) (254 * (b1 + 1)) w some (omega (arith, div-add-mod' (254 * b1) w))) in
      -- the disk
      let l3 : Layout = with_file l n (longer x q) (own l.owner q (DataOf n)) in
      let e2 : List ℕ = entry_at c2 l.directory n in
      let f1 : File = record o.file { held = b1 + s1; body = Records w rs1 b1 s1 } in
      let f3 : File = record o.file { held = b1 + 1 + s1; body = Records w rs2 (b1 + 1) s1 } in
      let d2 : Disk = disk_with d n o.file w rs1 b1 s1 (free - 1) in
      let st = stands_longer tracks c2 c' l d2 n xs.first xs.rest q k.linked k.fresh two.stage.holds.stands there (record {
        closed = lies2.closed;
        relative = lies2.relative;
        blocks = xs.is;
        taken = two.taken;
        holds = at_q2;
        last = k.filled.track;
        linked = λ i. record { track = k.joined.track i; sector = k.joined.sector i };
        written = link_write;
      }) in
      let slot = slot_grown c2 c' e2 x (longer x q) f1 w b1 s1 rs1 rs2 (sym (file_there medium c0 d uses n w b s rs o rs1 b1 s1 (free - 1)) ∙ two.stage.holds.stands.describes.slots n there) refl
      (ap (λ (m : ℕ). slices (length (chain_bytes c' (x.data_blocks ++ q ∷ []))) m (chain_bytes c' (x.data_blocks ++ q ∷ []))) (sym lies2.width) ∙ list3) in
      let longer_size : length (x.data_blocks ++ q ∷ []) ≡ b1 + 1 = omega (arith, length-append x.data_blocks (q ∷ []), lies.blocks) in
      let file3 : with_records f1 w rs2 (longer x q) ≡ f3 = λ i. record o.file { held = longer_size i + sym lies.sides i; body = Records w rs2 (longer_size i) (sym lies.sides i) } in
      let less : free - 1 ≡ d.free - (b1 + 1 + s1 - (b + s)) = omega (arith, g.more.0, g.more.1) in
      let disk3 : with_slot d2 n (slot_of c' e2 (longer x q)) ≡ disk_with d n o.file w rs2 (b1 + 1) s1 (d.free - (b1 + 1 + s1 - (b + s))) =
      ap (with_slot d2 n) (slot ∙ ap Some file3) ∙ disk_again d n o.file w rs1 rs2 b1 s1 (free - 1) (b1 + 1) s1 ∙ ap (disk_with d n o.file w rs2 (b1 + 1) s1) less in
      let head : c' directory_head ≡ c2 directory_head = ap (λ (y : Content). y directory_head) link_write ∙ written_elsewhere c2 p directory_head k.linked (owners_apart l.owner p directory_head (DataOf n) TheMap own_p at0.holds.stands.sound.owned.map (data_map n)) in
      let aside3 : LeavesAside n c2 l c' l3 = λ y a z h. (
        written_keeps c2 c' p k.linked l.owner y link_write (λ e. a.not_data (sym e ∙ own_p)) z h,
        own_elsewhere l.owner q z (DataOf n) (λ e. a.not_nobody (sym h ∙ ap l.owner (sym e) ∙ one.taken.nobody)) ∙ h,
      ) in
      let at3 : At c' l3 rs2 (b1 + 1) s1 (d.free - (b1 + 1 + s1 - (b + s))) = go_on medium c0 d uses n w b s rs o c2 c' l l3 rs1 rs2 b1 s1 (free - 1) (b1 + 1) s1 (d.free - (b1 + 1 + s1 - (b + s))) two.stage
      (subst (λ (y : Disk). HasLayout tracks c' l3 y) disk3 st) refl aside3 (geometry_elsewhere medium c2 c' head) in
      let here : l3.files n ≡ longer x q = blocks_here l.files n (longer x q) in
      let entry : entry_at c' l.directory n ≡ entry_at c l.directory n = dir_kept c c' l l3 at0 (aside_then n c c2 c' l l l3 (aside_then n c k.one c2 l l l (step_claim c l q k.one at0 k.claims) (aside_written n k.one c2 l q k.fresh refl (λ y a z. a.not_nobody (sym z ∙ one.taken.nobody)))) aside3) there in
      let side1 : Keeps c k.one l.owner (SideOf n) = written_keeps c k.one directory_head k.claims.remaps.map l.owner (SideOf n) k.claims.remaps.written (is_not (l.owner directory_head) TheMap (SideOf n) at0.holds.stands.sound.owned.map (map_side n)) in
      let side2 : Keeps k.one c2 l.owner (SideOf n) = written_keeps k.one c2 q k.fresh l.owner (SideOf n) refl (is_not (l.owner q) Nobody (SideOf n) one.taken.nobody (nobody_side n)) in
      let side3 : Keeps c2 c' l.owner (SideOf n) = written_keeps c2 c' p k.linked l.owner (SideOf n) link_write (is_not (l.owner p) (DataOf n) (SideOf n) own_p (data_side n)) in
      let owned : OwnedBy l.owner (SideOf n) x.sides = at0.holds.stands.sound.owned.sides n there in
      let listed : IsListed c' x.sides x.data_blocks = listed_kept c c' l.owner (SideOf n) (keeps_then c c2 c' l.owner (SideOf n) (keeps_then c k.one c2 l.owner (SideOf n) side1 side2) side3) x.sides x.data_blocks owned g.listed in
      record {
        layout = l3;
        holds = at3.holds;
        same = at3.same;
        count = at3.count;
        file = g.file ∙ ap (λ (e : List ℕ). record { first = first_block e; side = first_side e; width = w }) (sym entry);
        blocks = x.data_blocks;
        all = ap (λ (y : Blocks). y.data_blocks) here;
        number = sym lies.blocks;
        listed = subst (λ (y : Blocks). IsListed c' y.sides x.data_blocks) (sym here) listed;
        full = ap (λ (y : Blocks). length (chain_bytes c' y.data_blocks)) here ∙ ap (λ (ys : List ℕ). length ys) bytes3 ∙ more.0;
        more = g.more;
        aside = at3.aside;
      }
    where
      step_claim : (c : Content) (l : Layout) (q : Place) (c1 : Content) → At c l (filled_up w b1 rs) b1 s1 (d.free - (b1 + s1 - (b + s))) → Claims tracks c c1 q → LeavesAside n c l c1 l
      step_claim c l q c1 h k = aside_written n c c1 l directory_head k.remaps.map k.remaps.written (λ x a z. a.not_map (sym z ∙ h.holds.stands.sound.owned.map))

      dir_kept : (c c' : Content) (l l' : Layout) → At c l (filled_up w b1 rs) b1 s1 (d.free - (b1 + s1 - (b + s))) → LeavesAside n c l c' l' → n < slot_count l → entry_at c' l.directory n ≡ entry_at c l.directory n
      dir_kept c c' l l' h a k = entry_kept c c' l h.holds.stands.sound.owned (λ p y. (a Directory (aside_directory n) p y).0) n k
