-- A new relative file is there: what its two sectors hold is its records, and its entry is written, closed, in an empty slot.
use Rattle.std.proofs.Common.{◌≡◌, ◌≢◌, ℕ, ◌+◌, ◌-◌, ◌*◌, ◌/◌, ◌%◌, ◌<◌, ◌≤◌, length, take, drop, arith, List, [], ◌∷◌, ◌++◌, Bool, true, false, IsOk, refl, sym, ap, subst, ◌∙◌, inl, inr, Option, Some, None}
use Rattle.std.specs.Prelude.{◌==◌, ◌&&◌, if◌then◌else◌, replicate, slice_index, slice_range, slice_set}
use Rattle.std.proofs.lemmas.Bool.{eq-eqb, ne_eqb}
use Rattle.std.proofs.lemmas.Grind.{same_number_lists}
use Rattle.std.proofs.lemmas.List.{length-append, length-drop, length-take-le, length-replicate, append-nil, get_or-take, get_or-drop}
use Rattle.std.proofs.lemmas.Nat.{div-add-mod'}
use Rattle.std.proofs.Math.Nat.{mod-lt}
use Rattle.cbm_medium.specs.Place.{Place, directory_head, Has}
use Rattle.cbm_medium.specs.Content.{Cell, Content}
use Rattle.cbm_medium.specs.Links.{bytes_at, or_nothing, link}
use Rattle.cbm_medium.proofs.Places.{written_elsewhere}
use Rattle.cbm_file.specs.declared.file_type.FileType.TheVariants.{Rel}
use Rattle.cbm_file.specs.Padding.{before_filler}
use Rattle.cbm_file.specs.Files.{Records, File, Disk, file_at, empty_from, with_slot}
use Rattle.cbm_file.specs.Changes.{grown, closed_file}
use Rattle.cbm_file.specs.Records.{fresh_record, record_count, new_records, with_new_records}
use Rattle.cbm_bam.specs.Map.{geometry_of}
use Rattle.cbm_chain.specs.Data.{data_of, data_end, chain_bytes}
use Rattle.cbm_directory.specs.Entries.{IsClosedAs, Enters, type_byte, is_closed, is_relative, type_of_number, bit_of, name_in, first_block, first_side, width_of, sector_of}
use Rattle.cbm_directory.specs.EntryChanges.{IsFreshAs, IsRelativeAs}
use Rattle.cbm_relfile.specs.Making.{one_listed, IsFreshBlock}
use Rattle.cbm_relfile.specs.SideSectors.{sides_listed, named_in}
use Rattle.cbm_volume.specs.Blocks.{Blocks, Lies, slices, body_as, file_of, slot_of}
use Rattle.cbm_volume.specs.Copies.{less}
use Rattle.cbm_volume.specs.Layouts.{Owner, Nobody, Directory, DataOf, SideOf, Writer, is_loose, Layout, IsOwned, slot_count, HasLayout, Extends}
use Rattle.cbm_volume.specs.NewRecords.{HasTwo, HoldsNew}
use Rattle.cbm_volume.specs.Opens.{IsUnused}
use Rattle.cbm_volume.specs.Reaches.{is_file, Reached}
use Rattle.cbm_volume.specs.Writers.{Use, uses_slot, HoldsAt}
use Rattle.cbm_volume.proofs.opened.Beginning.{empty_unused}
use Rattle.cbm_volume.proofs.written.Closing.{other_slot}
use Rattle.cbm_volume.proofs.written.Finishes.{own_all, own_all_was, own_all_keeps, all_off_18}
use Rattle.cbm_volume.proofs.layouts.Frames.{Keeps}
use Rattle.cbm_volume.proofs.layouts.Loose.{sector_owned}
use Rattle.cbm_volume.proofs.copied.Making.{holds_on}
use Rattle.cbm_volume.proofs.layouts.OneSlot.{with_file}
use Rattle.cbm_volume.proofs.opened.OpenedFiles.{empty_at, slot_is}
use Rattle.cbm_volume.proofs.held.Slices.{joined, slices_joined}
use Rattle.cbm_volume.proofs.layouts.Steps.{stands_entry, own_there, own_elsewhere}
use Rattle.cbm_volume.proofs.written.Storing.{geometry_elsewhere}
use Rattle.cbm_volume.proofs.layouts.Staying.{KeepsClosed, kept_opened, kept_later, empty_open}
use Rattle.cbm_volume.proofs.layouts.Writers.{written_keeps}
use Rattle.cbm_volume.proofs.relative.Fresh.{fresh_at}
use Rattle.cbm_volume.proofs.relative.Grown.{fresh, all_fresh, joined_length}
use Rattle.cbm_volume.proofs.relative.Longer.{LiesRelative, lies_so}

-- ---- the bytes of the block

-- a full last block: all after the link
full_data : (w : ℕ) (bytes : List ℕ) → IsFreshBlock w bytes → data_of bytes ≡ slice_range bytes 2 256
full_data w bytes f =
    let first : data_end bytes ≡ slice_index bytes 1 + 1 = ap (λ (n : ℕ). if n == 0 then slice_index bytes 1 + 1 else 256) f.last in
    let end : data_end bytes ≡ 256 = first ∙ ap (λ (n : ℕ). n + 1) f.full in
    ap (λ (n : ℕ). slice_range bytes 2 n) end

-- the whole records of 254 bytes, and what is left
left_over : (a r w : ℕ) → a + r ≡ 254 → r < w → (a ≤ 254) × (254 - a < w)
left_over a r w e l = (omega arith, omega arith)

room_for : (w : ℕ) → 0 < w → (254 / w * w ≤ 254) × (254 - 254 / w * w < w)
room_for w s = left_over (254 / w * w) (254 % w) w (div-add-mod' 254 w) (mod-lt 254 s)

sum_is : (x y a : ℕ) → x ≡ a → y ≡ 254 - a → a ≤ 254 → x + y ≡ 254
sum_is x y a e f l = omega arith

-- the bytes of the block are fresh records, and zeros after them
block_bytes : (w : ℕ) (bytes : List ℕ) → 0 < w → IsFreshBlock w bytes → data_of bytes ≡ joined (replicate (254 / w) (fresh w)) ++ replicate (254 - 254 / w * w) 0
block_bytes w bytes s f =
    let j : ℕ = 254 / w in
    let tail : List ℕ = replicate (254 - j * w) 0 in
    let all : List ℕ = joined (replicate j (fresh w)) ++ tail in
    let afterwards : List ℕ = drop 2 bytes in
    let long : length afterwards ≡ 254 = length-drop 2 bytes ∙ (let z : length bytes - 2 ≡ 254 = omega (arith, f.whole) in z) in
    let here : length (take 254 afterwards) ≡ 254 = length-take-le 254 afterwards (omega (arith, long)) in
    let front : length (joined (replicate j (fresh w))) ≡ j * w = joined_length w (replicate j (fresh w)) (all_fresh w j s) ∙ ap (λ (n : ℕ). n * w) (length-replicate j (fresh w)) in
    let back : length tail ≡ 254 - j * w = length-replicate {A = ℕ} (254 - j * w) 0 in
    let there : length all ≡ 254 = length-append (joined (replicate j (fresh w))) tail ∙ sum_is (length (joined (replicate j (fresh w)))) (length tail) (j * w) front back (room_for w s).0 in
    full_data w bytes f
    ∙ same_number_lists (take 254 afterwards) all (here ∙ sym there)
    (λ k h. let below : k < 254 = omega (arith, here) in
    get_or-take 254 afterwards k 0 below ∙ get_or-drop 2 bytes k 0 ∙ f.each k below ∙ sym (fresh_at w j (254 - j * w) k s))

-- ITS RECORDS ARE FRESH
new_slices : (w : ℕ) (bytes : List ℕ) → 0 < w → IsFreshBlock w bytes → slices (length (data_of bytes)) w (data_of bytes) ≡ replicate (record_count w 1) (fresh_record w)
new_slices w bytes s f =
    let j : ℕ = 254 / w in
    let rs : List (List ℕ) = replicate j (fresh w) in
    let tail : List ℕ = replicate (254 - j * w) 0 in
    let one : 254 ≡ 254 * 1 = omega arith in
    let back : length tail ≡ 254 - j * w = length-replicate {A = ℕ} (254 - j * w) 0 in
    let short : length tail < w = subst (λ (n : ℕ). n < w) (sym back) (room_for w s).1 in
    ap (λ (xs : List ℕ). slices (length xs) w xs) (block_bytes w bytes s f)
    ∙ slices_joined (length (joined rs ++ tail)) w rs tail s (all_fresh w j s) short (omega arith)
    ∙ ap (λ (n : ℕ). replicate (n / w) (fresh w)) one

-- ---- where the file lies

abbrev pub new_blocks : Place → Place → Blocks
new_blocks p q = record { data_blocks = p ∷ []; sides = q ∷ [] }

some_track : (tracks : ℕ) (p : Place) → Has tracks p → (p.track == 0) ≡ false
some_track tracks p h = ne_eqb p.track 0 (λ z. (omega (arith, h.0, z)))

-- the side sector lists itself, and the block
side_listed : (tracks : ℕ) (p q : Place) (w : ℕ) → Has tracks q → sides_listed (one_listed p q w) ≡ q ∷ []
side_listed tracks p q w h = ap (λ (b : Bool). if b then [] else q ∷ []) (some_track tracks q h)

block_listed : (tracks : ℕ) (p q : Place) (w : ℕ) → Has tracks p → named_in 120 (drop 16 (one_listed p q w)) ≡ p ∷ []
block_listed tracks p q w h = ap (λ (b : Bool). if b then [] else p ∷ []) (some_track tracks p h)

new_lies : (tracks : ℕ) (c : Content) (e : List ℕ) (p q : Place) (w : ℕ) → Has tracks p → Has tracks q → 1 ≤ w → w ≤ 254 → HoldsNew c p q w → first_block e ≡ p → first_side e ≡ q → width_of e ≡ w → LiesRelative tracks c e (new_blocks p q)
new_lies tracks c e p q w hp hq some most k begins lists long =
    let block_reads : IsOk (c p) = subst (λ (x : Cell). IsOk x) (sym k.at_block) refl in
    let side_reads : IsOk (c q) = subst (λ (x : Cell). IsOk x) (sym k.at_side) refl in
    let named : named_in 120 (drop 16 (bytes_at c q)) ≡ p ∷ [] = ap (λ (x : Cell). named_in 120 (drop 16 (or_nothing x))) k.at_side ∙ block_listed tracks p q w hp in
    record {
      chain = (begins, hp, block_reads, ap (λ (x : Cell). (link (or_nothing x)).track) k.at_block ∙ k.fresh.last);
      records = record {
        some_block = omega arith;
        some_width = omega (arith, long, some);
        width = omega (arith, long, most);
        first = ([], λ i. sym lists i ∷ []);
        listed = sym (ap (λ (x : Place). sides_listed (bytes_at c x)) lists ∙ ap (λ (x : Cell). sides_listed (or_nothing x)) k.at_side ∙ side_listed tracks p q w hq);
        numbered = (hq, side_reads, ap (λ (x : Cell). slice_index (or_nothing x) 2) k.at_side, ap (λ (x : Cell). slice_index (or_nothing x) 3) k.at_side ∙ sym long, tt);
        joined = ([], ap (λ (xs : List Place). (xs ++ []) ++ []) named);
      };
    }

-- ---- what the entry says

new_type : (e0 e1 e name : List ℕ) (at p q : Place) (w : ℕ) → IsFreshAs e0 Rel name at → IsClosedAs e0 e1 p 2 → IsRelativeAs e1 e q w → type_byte e ≡ 132
new_type e0 e1 e name at p q w fresh_is closes says = says.typed ∙ closes.type ∙ ap (λ (n : ℕ). n % 128 + 128) fresh_is.typed

-- THE FILE OF THE ENTRY
new_file : (c : Content) (e0 e1 e name : List ℕ) (at p q : Place) (w : ℕ) → IsFreshAs e0 Rel name at → IsClosedAs e0 e1 p 2 → IsRelativeAs e1 e q w → 1 ≤ w → HoldsNew c p q w → slot_of c e (new_blocks p q) ≡ Some (closed_file Rel (before_filler name) 2 (new_records w))
unfolding file_of name_in
new_file c e0 e1 e name at p q w fresh_is closes says some k =
    let b : Blocks = new_blocks p q in
    let bytes : List ℕ = chain_bytes c (p ∷ []) in
    let t : type_byte e ≡ 132 = new_type e0 e1 e name at p q w fresh_is closes says in
    let used : (type_byte e == 0) ≡ false = ap (λ (n : ℕ). n == 0) t in
    let kind : type_of_number (type_byte e % 16) ≡ Rel = ap (λ (n : ℕ). type_of_number (n % 16)) t in
    let closed : is_closed e ≡ true = ap (λ (n : ℕ). bit_of n 7) t in
    let locked : bit_of (type_byte e) 6 ≡ false = ap (λ (n : ℕ). bit_of n 6) t in
    let named : name_in e ≡ before_filler name = ap before_filler (says.named ∙ closes.name) ∙ fresh_is.named in
    let shown : slice_index e 28 + 256 * slice_index e 29 ≡ 2 = says.shown ∙ closes.shown in
    let data_is : bytes ≡ data_of k.bytes = append-nil (data_of (bytes_at c p)) ∙ ap (λ (x : Cell). data_of (or_nothing x)) k.at_block in
    let body : body_as (is_closed e && is_relative e) bytes e b ≡ new_records w =
    ap (λ (n : ℕ). body_as (bit_of n 7 && (n % 16 == 4)) bytes e b) t
    ∙ (λ i. Records (says.long i) (slices (length (data_is i)) (says.long i) (data_is i)) 1 1)
    ∙ ap (λ (rs : List (List ℕ)). Records w rs 1 1) (new_slices w k.bytes (omega (arith, some)) k.fresh) in
    let z : slot_of c e b ≡ Some (file_of bytes e b) = rw used refl in
    z ∙ (λ i. Some (record { kind = kind i; closed = closed i; locked = locked i; name = named i; shown = shown i; held = 2; body = body i }))

-- ---- the two sectors are the slot's

abbrev given : (Place → Owner) → Place → Place → ℕ → Place → Owner
given owner p q n = own_all (own_all owner (p ∷ []) (DataOf n)) (q ∷ []) (SideOf n)

given_keeps : (owner : Place → Owner) (p q : Place) (n ch : ℕ) (o : Owner) (x : Place) → owner p ≡ Writer ch → owner q ≡ Writer ch → p ≢ q → Writer ch ≢ o → owner x ≡ o → given owner p q n x ≡ o
given_keeps owner p q n ch o x block side apart ne e =
    own_all_keeps (own_all owner (p ∷ []) (DataOf n)) (Writer ch) (SideOf n) o (q ∷ []) x (own_elsewhere owner p q (DataOf n) apart ∙ side, tt) ne (own_all_keeps owner (Writer ch) (DataOf n) o (p ∷ []) x (block, tt) ne e)

given_off : (owner : Place → Owner) (p q : Place) (n : ℕ) (o : Owner) (x : Place) → p.track ≢ 18 → q.track ≢ 18 → x.track ≡ 18 → given owner p q n x ≡ o → owner x ≡ o
given_off owner p q n o x a b t e = all_off_18 owner (p ∷ []) (DataOf n) o x (a, tt) t (all_off_18 (own_all owner (p ∷ []) (DataOf n)) (q ∷ []) (SideOf n) o x (b, tt) t e)

given_directory : (owner : Place → Owner) (p q : Place) (n : ℕ) (x : Place) → given owner p q n x ≡ Directory → owner x ≡ Directory
given_directory owner p q n x e = elim (own_all_was (own_all owner (p ∷ []) (DataOf n)) (q ∷ []) (SideOf n) x) [
  | inl a ↦ absurd (let z = sym a ∙ e in (cc))
  | inr b ↦ (elim (own_all_was owner (p ∷ []) (DataOf n) x) [ inl a ↦ absurd (let z = sym a ∙ sym b ∙ e in (cc)) | inr b2 ↦ sym b2 ∙ sym b ∙ e ])
]

given_file : (owner : Place → Owner) (p q : Place) (n : ℕ) (x : Place) → is_file (owner x) ≡ true → is_file (given owner p q n x) ≡ true
given_file owner p q n x f = elim (own_all_was (own_all owner (p ∷ []) (DataOf n)) (q ∷ []) (SideOf n) x) [
  | inl a ↦ ap is_file a
  | inr b ↦ (elim (own_all_was owner (p ∷ []) (DataOf n) x) [ inl a ↦ ap is_file (b ∙ a) | inr b2 ↦ ap is_file (b ∙ b2) ∙ f ])
]

given_extends : (l : Layout) (p q : Place) (n ch : ℕ) → IsOwned l → l.owner p ≡ Writer ch → l.owner q ≡ Writer ch → p ≢ q → p.track ≢ 18 → q.track ≢ 18 → Extends l n (given l.owner p q n)
given_extends l p q n ch w block side apart a b = record {
  keeps = λ x o k e. given_keeps l.owner p q n ch o x block side apart (λ z. (let y = ap is_loose z ∙ k.part in (cc))) e;
  on_18 = λ x e. w.on_18 x (given_directory l.owner p q n x e);
  off_18 = λ x t m. (λ e. (w.off_18 x t m).0 (given_off l.owner p q n (DataOf m) x a b t e), λ e. (w.off_18 x t m).1 (given_off l.owner p q n (SideOf m) x a b t e));
}

-- ---- the entry

-- THE FILE HAS ITS SLOT
pub records_over : (medium : ℕ) (c : Content) (l : Layout) (d : Disk) (uses : ℕ → Use) (ch : ℕ) (now now' : Content) (p q : Place) (w n : ℕ) (name : List ℕ) (at : Place) (e0 e1 body : List ℕ) → (k : HasTwo medium c l d uses ch now p q) → HoldsNew now p q w → 1 ≤ w → w ≤ 254
    → empty_from 0 (grown d).slots ≡ Some n → IsFreshAs e0 Rel name at → IsClosedAs e0 e1 p 2 → IsRelativeAs e1 body q w → Enters now now' (sector_of k.reached.layout.directory n) (n % 8) body
    → Reached medium c l now' (with_new_records d (before_filler name) w) uses
records_over medium c l d uses ch now now' p q w n name at e0 e1 body k holds some most empty fresh_is closes says enters =
    let tracks : ℕ = geometry_of medium c in
    let r : Reached medium c l now (less 2 d) uses = k.reached in
    let d1 : Disk = less 2 d in
    let l1 : Layout = r.layout in
    let owner : Place → Owner = l1.owner in
    let there : n < slot_count l1 = omega (arith, (empty_at 0 n (grown d).slots empty).1.0, r.so.stands.describes.size) in
    let same_n : n - 0 ≡ n = omega arith in
    let none : file_at d1 n ≡ None = ap (λ (i : ℕ). file_at d1 i) (sym same_n) ∙ (empty_at 0 n (grown d).slots empty).1.1 in
    let unused : IsUnused uses n = empty_unused tracks now l1 d1 uses n r.so none in
    let f : File = closed_file Rel (before_filler name) 2 (new_records w) in
    let b : Blocks = new_blocks p q in
    let owner2 : Place → Owner = given owner p q n in
    let l2 : Layout = with_file l1 n b owner2 in
    let d2 : Disk = with_slot d1 n (Some f) in
    let file : slot_of now body b ≡ Some f = new_file now e0 e1 body name at p q w fresh_is closes says some holds in
    let t : type_byte body ≡ 132 = new_type e0 e1 body name at p q w fresh_is closes says in
    let small : type_byte body % 16 < 5 = omega (arith, t) in
    let begins : first_block body ≡ p = says.begins ∙ (λ i. record { track = closes.track i; sector = closes.sector i }) in
    let lies : Lies tracks now body b = lies_so (is_closed body) (is_relative body) tracks now body b (ap (λ (m : ℕ). bit_of m 7) t) (ap (λ (m : ℕ). m % 16 == 4) t)
    (new_lies tracks now body p q w k.has_block k.has_side some most holds begins says.lists says.long) in
    let keep_other : (o : Owner) (x : Place) → Writer ch ≢ o → owner x ≡ o → owner2 x ≡ o = λ o x ne e. given_keeps owner p q n ch o x k.block k.side k.apart ne e in
    let stands : HasLayout tracks now' l2 (with_slot d1 n (slot_of now body b)) =
    stands_entry tracks now now' l1 d1 n (sector_of l1.directory n) body b owner2 r.so.stands there refl enters small lies
    (given_extends l1 p q n ch r.so.stands.sound.owned k.block k.side k.apart k.block_off k.side_off)
    (own_elsewhere (own_all owner (p ∷ []) (DataOf n)) q p (SideOf n) (λ z. k.apart (sym z)) ∙ own_there owner p (DataOf n), tt)
    (own_there (own_all owner (p ∷ []) (DataOf n)) q (SideOf n), tt)
    (λ x h g. keep_other Nobody x (λ z. (cc)) (r.so.stands.sound.free x h g)) in
    let mine : owner (sector_of l1.directory n) ≡ Directory = sector_owned l1 r.so.stands.sound.owned n there in
    let keeps : (o : Owner) → Directory ≢ o → Keeps now now' owner o = λ o z. written_keeps now now' (sector_of l1.directory n) enters.sector owner o enters.written (λ y. z (sym mine ∙ y)) in
    let head : now' directory_head ≡ now directory_head = ap (λ (x : Content). x directory_head) enters.written ∙ written_elsewhere now (sector_of l1.directory n) directory_head enters.sector (λ z. (let y = sym mine ∙ ap owner z ∙ r.so.stands.sound.owned.map in (cc))) in
    let kept : KeepsClosed l1 now now' (λ m. false) = kept_opened tracks l1 now now now' n body (λ m. false) r.so.stands.sound there enters (empty_open tracks now l1 d1 n r.so.stands there none) in
    let so : HoldsAt tracks now' l2 d2 uses = holds_on tracks now now' l1 l2 d1 d2 uses ch (λ m. m == n) k.idle r.so (subst (λ (x : Option File). HasLayout tracks now' l2 (with_slot d1 n x)) file stands)
    (record {
      writers = λ x out. keeps (Writer x) (λ z. (cc));
      writers_own = λ x y out z. keep_other (Writer x) y (λ v. (let g : x ≡ ch = cc in let s = sym (eq-eqb x ch g) ∙ out in (cc))) z;
      files = λ m no. keeps (DataOf m) (λ z. (cc));
      files_own = λ m y no z. keep_other (DataOf m) y (λ v. (cc)) z;
      more = omega arith;
      slots = λ m no. other_slot d1 n m (Some f) no;
    }) (λ m i h. ne_eqb i n (λ z. (let y = sym (unused m) ∙ ap (λ (j : ℕ). uses_slot j (uses m)) (sym z) ∙ h in (cc)))) in
    let disk : d2 ≡ with_new_records d (before_filler name) w = λ i. record (grown d) { slots = slice_set (grown d).slots (slot_is d n empty i) (Some f); free = d.free - 2 } in
    record {
      layout = l2;
      so = subst (λ (x : Disk). HoldsAt tracks now' l2 x uses) disk so;
      same = geometry_elsewhere medium now now' head ∙ r.same;
      front = r.front;
      kept = kept_later l l1 c now now' (λ m. false) r.front r.later r.kept kept;
      later = λ x g. given_file owner p q n x (r.later x g);
    }
