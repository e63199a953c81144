-- A record that crosses two blocks is written in place, by two writes.
use Rattle.std.proofs.Common.{◌≡◌, ◌≢◌, ℕ, suc, ◌+◌, ◌*◌, ◌<◌, ◌≤◌, List, ◌++◌, length, take, drop, set, get_or, Some, Ok, true, refl, sym, ap, subst, ◌∙◌, arith}
use Rattle.std.specs.Prelude.{IsOk}
use Rattle.std.proofs.lemmas.List.{length-append, length-take-le, append_assoc, drop-drop, set-set}
use Rattle.std.proofs.Math.Nat.{suc-mul}
use Rattle.cbm_medium.specs.Place.{Place, directory_head}
use Rattle.cbm_medium.specs.Content.{Cell, Content, written}
use Rattle.cbm_medium.specs.Links.{bytes_at, or_nothing, link}
use Rattle.cbm_medium.proofs.Places.{written_elsewhere}
use Rattle.cbm_file.specs.Files.{Disk, File, Records, with_slot, file_at}
use Rattle.cbm_chain.specs.Data.{data_of, chain_bytes}
use Rattle.cbm_relfile.specs.Records.{AllWhole, put_into}
use Rattle.cbm_relfile.proofs.Positions.{whole_bytes}
use Rattle.cbm_directory.specs.Entries.{entry_at, is_closed, is_relative, width_of, first_block}
use Rattle.cbm_volume.specs.Blocks.{Blocks, slot_of, slices}
use Rattle.cbm_volume.specs.Layouts.{Layout, Directory, DataOf, slot_count, HasLayout}
use Rattle.cbm_volume.proofs.layouts.Chained.{chain_distinct}
use Rattle.cbm_volume.proofs.layouts.Frames.{Keeps, owned_nth}
use Rattle.cbm_volume.proofs.layouts.Loose.{entry_kept}
use Rattle.cbm_volume.proofs.layouts.OneSlot.{with_file, blocks_here}
use Rattle.cbm_volume.proofs.layouts.Writers.{written_keeps}
use Rattle.cbm_volume.proofs.relative.Put.{put_front, put_length, slices_put}
use Rattle.cbm_volume.proofs.relative.InPlace.{Kept, stands_written, put_in_block}
use Rattle.cbm_volume.proofs.relative.GrownFile.{with_records, slot_grown}
use Rattle.cbm_volume.proofs.relative.Longer.{LiesRelative, lies_open}
use Rattle.cbm_volume.proofs.relative.Rewritten.{DataPut, data_put}

-- one part after another
pub put_put : (xs : List ℕ) (a : ℕ) (ys zs : List ℕ) → a ≤ length xs → put_into (put_into xs a ys) (a + length ys) zs ≡ put_into xs a (ys ++ zs)
put_put xs a ys zs h =
    let front : length (take a xs ++ ys) ≡ a + length ys = omega (arith, length-append (take a xs) ys, length-take-le a xs h) in
    let at : a + length ys ≡ length (take a xs ++ ys) + 0 = omega (arith, front) in
    let end : a + length ys + (0 + length zs) ≡ a + length (ys ++ zs) = omega (arith, length-append ys zs) in
    (λ i. put_into (sym (append_assoc (take a xs) ys (drop (a + length ys) xs)) i) (at i) zs)
    ∙ put_front (take a xs ++ ys) (drop (a + length ys) xs) 0 zs
    ∙ ap (λ (us : List ℕ). take a xs ++ ys ++ (zs ++ us)) (drop-drop (0 + length zs) (a + length ys) xs ∙ ap (λ (k : ℕ). drop k xs) end)
    ∙ append_assoc (take a xs) ys (zs ++ drop (a + length (ys ++ zs)) xs)
    ∙ ap (λ (us : List ℕ). take a xs ++ us) (sym (append_assoc ys zs (drop (a + length (ys ++ zs)) xs)))

-- what is written, and where
pub record IsCrossing (tracks : ℕ) (c m c' : Content) (l : Layout) (d : Disk) (n i place k : ℕ) (sector more ys zs : List ℕ) (f : File) (w b s : ℕ) (rs : List (List ℕ)) : Type 0 where
  pub whole : AllWhole c
  pub whole_between : AllWhole m
  pub in_slot : file_at d n ≡ Some f
  pub body : f.body ≡ Records w rs b s
  pub closed : is_closed (entry_at c l.directory n) ≡ true
  pub relative : is_relative (entry_at c l.directory n) ≡ true
  pub width : 0 < width_of (entry_at c l.directory n)
  pub size : length (ys ++ zs) ≡ width_of (entry_at c l.directory n)
  pub position : k * width_of (entry_at c l.directory n) ≡ 254 * i + place
  pub there : suc k * width_of (entry_at c l.directory n) ≤ length (chain_bytes c (l.files n).data_blocks)
  pub blocks : suc i < length (l.files n).data_blocks
  pub holds : c (get_or (l.files n).data_blocks i directory_head) ≡ Ok sector
  pub holds_next : c (get_or (l.files n).data_blocks (suc i) directory_head) ≡ Ok more
  pub seam : place + length ys ≡ 254
  pub full : length (data_of sector) ≡ 254
  pub fits : length zs ≤ length (data_of more)
  pub first : m ≡ written c (get_or (l.files n).data_blocks i directory_head) (put_into sector (2 + place) ys)
  pub second : c' ≡ written m (get_or (l.files n).data_blocks (suc i) directory_head) (put_into more (2 + 0) zs)

pub record Crossed (tracks : ℕ) (c m c' : Content) (l : Layout) (d : Disk) (n i k : ℕ) (sector : List ℕ) (place : ℕ) (ys zs : List ℕ) (f : File) (w : ℕ) (rs : List (List ℕ)) : Type 0 where
  -- after the first write, and after the second
  pub between : HasLayout tracks m (with_file l n (l.files n) l.owner) (with_slot d n (slot_of m (entry_at c l.directory n) (l.files n)))
  pub bytes_between : chain_bytes m (l.files n).data_blocks ≡ put_into (chain_bytes c (l.files n).data_blocks) (254 * i + place) ys
  pub layout : Layout
  pub same_owner : layout.owner ≡ l.owner
  pub same_count : slot_count layout ≡ slot_count l
  pub stands : HasLayout tracks c' layout (with_slot d n (Some (with_records f w (set rs k (ys ++ zs)) (l.files n))))

pub stands_crossed : (tracks : ℕ) (c m c' : Content) (l : Layout) (d : Disk) (n i place k : ℕ) (sector more ys zs : List ℕ) (f : File) (w b s : ℕ) (rs : List (List ℕ)) → HasLayout tracks c l d → n < slot_count l
    → slices (length (chain_bytes c (l.files n).data_blocks)) (width_of (entry_at c l.directory n)) (chain_bytes c (l.files n).data_blocks) ≡ rs
    → IsCrossing tracks c m c' l d n i place k sector more ys zs f w b s rs → Crossed tracks c m c' l d n i k sector place ys zs f w rs
stands_crossed tracks c m c' l d n i place k sector more ys zs f w b s rs st room sl g =
    let e : List ℕ = entry_at c l.directory n in
    let x : Blocks = l.files n in
    let p : Place = get_or x.data_blocks i directory_head in
    let q : Place = get_or x.data_blocks (suc i) directory_head in
    let bytes : List ℕ = chain_bytes c x.data_blocks in
    let was : LiesRelative tracks c e x = lies_open (is_closed e) (is_relative e) tracks c e x g.closed g.relative (st.sound.lies n room) in
    let at : bytes_at c p ≡ sector = ap or_nothing g.holds in
    let size1 : length sector ≡ 256 = sym (ap length at) ∙ whole_bytes c p g.whole (subst (λ (y : Cell). IsOk y) (sym g.holds) refl) in
    let size2 : length more ≡ 256 = sym (ap length (ap or_nothing g.holds_next)) ∙ whole_bytes c q g.whole (subst (λ (y : Cell). IsOk y) (sym g.holds_next) refl) in
    let part1 : DataPut sector place ys = data_put sector place ys size1 (omega (arith, g.seam, g.full)) in
    let part2 : DataPut more 0 zs = data_put more 0 zs size2 (omega (arith, g.fits)) in
    let there1 : i < length x.data_blocks = omega (arith, g.blocks) in
    let done1 = stands_written tracks c m l d n i (put_into sector (2 + place) ys) st room
    (record { closed = g.closed; relative = g.relative; whole = g.whole; there = there1; linked = part1.linked ∙ ap link (sym at); written = g.first }) in
    let bytes1 : chain_bytes m x.data_blocks ≡ put_into bytes (254 * i + place) ys =
    put_in_block done1.kept.front (data_of (bytes_at c p)) done1.kept.back (data_of (put_into sector (2 + place) ys)) bytes (chain_bytes m x.data_blocks) ys i place
    done1.kept.size done1.kept.was done1.kept.is (part1.parts ∙ ap (λ (us : List ℕ). put_into us place ys) (sym (ap data_of at))) (omega (arith, g.seam, g.full, ap length (ap data_of at))) in
    let apart : p ≢ q = λ z. (let y = chain_distinct tracks c (first_block e) x.data_blocks i (suc i) directory_head was.chain there1 g.blocks z in omega (arith, y)) in
    let still : m q ≡ Ok more = ap (λ (y : Content). y q) g.first ∙ written_elsewhere c p q (put_into sector (2 + place) ys) apart ∙ g.holds_next in
    let own_p = owned_nth l.owner (DataOf n) x.data_blocks i directory_head (st.sound.owned.blocks n room) there1 in
    let dir : Keeps c m l.owner Directory = written_keeps c m p (put_into sector (2 + place) ys) l.owner Directory g.first (λ z. (let y = sym own_p ∙ z in (cc))) in
    let same : entry_at m l.directory n ≡ e = entry_kept c m l st.sound.owned dir n room in
    let l1 : Layout = with_file l n x l.owner in
    let d1 : Disk = with_slot d n (slot_of m e x) in
    let here : l1.files n ≡ x = blocks_here l.files n x in
    let can : (y : Blocks) → y ≡ x → c' ≡ written m (get_or y.data_blocks (suc i) directory_head) (put_into more (2 + 0) zs) = λ y h. g.second ∙ ap (λ (t : Blocks). written m (get_or t.data_blocks (suc i) directory_head) (put_into more (2 + 0) zs)) (sym h) in
    let done2 = stands_written tracks m c' l1 d1 n (suc i) (put_into more (2 + 0) zs) done1.stands room
    (record {
      closed = ap is_closed same ∙ g.closed;
      relative = ap is_relative same ∙ g.relative;
      whole = g.whole_between;
      there = subst (λ (t : Blocks). suc i < length t.data_blocks) (sym here) g.blocks;
      linked = part2.linked ∙ sym (ap (λ (y : Cell). link (or_nothing y)) still) ∙ ap (λ (t : Blocks). link (bytes_at m (get_or t.data_blocks (suc i) directory_head))) (sym here);
      written = can (l1.files n) here;
    }) in
    let kept2 : Kept tracks m c' (first_block (entry_at m l.directory n)) x.data_blocks (suc i) (put_into more (2 + 0) zs) = subst (λ (t : Blocks). Kept tracks m c' (first_block (entry_at m l.directory n)) t.data_blocks (suc i) (put_into more (2 + 0) zs)) here done2.kept in
    let old2 : data_of (bytes_at m q) ≡ data_of more = ap (λ (y : Cell). data_of (or_nothing y)) still in
    let bytes2 : chain_bytes c' x.data_blocks ≡ put_into (chain_bytes m x.data_blocks) (254 * suc i + 0) zs =
    put_in_block kept2.front (data_of (bytes_at m q)) kept2.back (data_of (put_into more (2 + 0) zs)) (chain_bytes m x.data_blocks) (chain_bytes c' x.data_blocks) zs (suc i) 0
    kept2.size kept2.was kept2.is (part2.parts ∙ ap (λ (us : List ℕ). put_into us 0 zs) (sym old2)) (omega (arith, g.fits, ap length old2)) in
    let seam : 254 * suc i + 0 ≡ 254 * i + place + length ys = omega (arith, g.seam) in
    let mul = suc-mul k (width_of e) in
    let all : chain_bytes c' x.data_blocks ≡ put_into bytes (k * width_of e) (ys ++ zs) =
    bytes2 ∙ (λ j. put_into (bytes1 j) (seam j) zs) ∙ put_put bytes (254 * i + place) ys zs (omega (arith, g.there, g.position, mul))
    ∙ ap (λ (o : ℕ). put_into bytes o (ys ++ zs)) (sym g.position) in
    let same_length : length (put_into bytes (k * width_of e) (ys ++ zs)) ≡ length bytes = put_length bytes (k * width_of e) (ys ++ zs) (omega (arith, g.there, g.size, mul)) in
    let records : slices (length (chain_bytes c' x.data_blocks)) (width_of e) (chain_bytes c' x.data_blocks) ≡ set rs k (ys ++ zs) =
    (λ j. slices (length (all j)) (width_of e) (all j))
    ∙ ap (λ (o : ℕ). slices o (width_of e) (put_into bytes (k * width_of e) (ys ++ zs))) same_length
    ∙ slices_put (length bytes) (width_of e) bytes k (ys ++ zs) g.width g.size g.there (omega arith)
    ∙ ap (λ (us : List (List ℕ)). set us k (ys ++ zs)) sl in
    let file : slot_of c' e x ≡ Some (with_records f w (set rs k (ys ++ zs)) x) = slot_grown c c' e x x f w b s rs (set rs k (ys ++ zs)) (sym g.in_slot ∙ st.describes.slots n room) g.body records in
    let disk : with_slot d1 n (slot_of c' (entry_at m l.directory n) (l1.files n)) ≡ with_slot d n (Some (with_records f w (set rs k (ys ++ zs)) x)) =
    (λ j. with_slot d1 n (slot_of c' (same j) (here j))) ∙ ap (with_slot d1 n) file ∙ (λ j. record d { slots = set-set d.slots n (slot_of m e x) (Some (with_records f w (set rs k (ys ++ zs)) x)) j }) in
    record {
      between = done1.stands;
      bytes_between = bytes1;
      layout = with_file l1 n (l1.files n) l1.owner;
      same_owner = refl;
      same_count = refl;
      stands = subst (λ (y : Disk). HasLayout tracks c' (with_file l1 n (l1.files n) l1.owner) y) disk done2.stands;
    }
