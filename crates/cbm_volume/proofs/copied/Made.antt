-- A copy is done: its last block is written, then its entry, closed, in an empty slot.
use Rattle.std.proofs.Common.{◌≡◌, ◌≢◌, ℕ, ◌+◌, ◌-◌, ◌/◌, ◌%◌, ◌<◌, ◌≤◌, length, arith, List, [], ◌∷◌, true, false, refl, sym, ap, subst, ◌∙◌, inl, inr, Option, Some, None}
use Rattle.std.specs.Prelude.{◌==◌, slice_set}
use Rattle.std.proofs.lemmas.Bool.{eq-eqb, ne_eqb}
use Rattle.cbm_medium.specs.Place.{Place, directory_head}
use Rattle.cbm_medium.specs.Content.{Content}
use Rattle.cbm_medium.proofs.Places.{written_elsewhere}
use Rattle.cbm_file.specs.declared.file_type.FileType.{FileType}
use Rattle.cbm_file.specs.declared.file_type.FileType.TheVariants.{Del, Rel}
use Rattle.cbm_file.specs.Padding.{before_filler}
use Rattle.cbm_file.specs.Types.{is_same_type}
use Rattle.cbm_file.specs.Files.{Bytes, File, Disk, file_at, empty_from, with_slot, blocks_of}
use Rattle.cbm_file.specs.Changes.{grown, with_file, closed_file, unclosed, finished}
use Rattle.cbm_bam.specs.Map.{geometry_of}
use Rattle.cbm_chain.specs.Data.{chain_bytes}
use Rattle.cbm_chain.specs.Writing.{State, Part, last_of, place_or_none, Wrote, EndsChain}
use Rattle.cbm_chain.proofs.Ending.{EndsAt, ends_at}
use Rattle.cbm_directory.specs.Entries.{IsClosedAs, Enters, type_byte, is_closed, is_relative, bit_of, sector_of}
use Rattle.cbm_directory.specs.EntryChanges.{IsFreshAs}
use Rattle.cbm_volume.specs.Blocks.{Blocks, no_blocks, slot_of}
use Rattle.cbm_volume.specs.Copies.{less, Making}
use Rattle.cbm_volume.specs.Layouts.{Owner, Directory, DataOf, Writer, is_loose, OwnedBy, Layout, Sound, slot_count, HasLayout}
use Rattle.cbm_volume.specs.Opens.{IsUnused}
use Rattle.cbm_volume.specs.Reaches.{is_file, Reached, SlotLost}
use Rattle.cbm_volume.specs.Writers.{Use, Idle, uses_slot, HoldsAt}
use Rattle.cbm_volume.proofs.opened.Beginning.{empty_unused}
use Rattle.cbm_volume.proofs.written.Closing as closing
use Rattle.cbm_volume.proofs.written.Closing.{is_ch, other_slot, plain_entry, some_file, IsEnded}
use Rattle.cbm_volume.proofs.written.Finishes.{stands_finish, own_all, own_all_was, own_all_keeps, last_owned}
use Rattle.cbm_volume.proofs.written.Finishing.{few_blocks}
use Rattle.cbm_volume.proofs.layouts.Frames.{Keeps}
use Rattle.cbm_volume.proofs.layouts.Loose.{sector_owned}
use Rattle.cbm_volume.proofs.copied.Making.{holds_on, has_block, same_files_less}
use Rattle.cbm_volume.proofs.layouts.OneSlot as one_slot
use Rattle.cbm_volume.proofs.opened.OpenedFiles.{fresh_file, fresh_kind, empty_at, slot_is}
use Rattle.cbm_volume.proofs.layouts.Steps.{stands_loose}
use Rattle.cbm_volume.proofs.written.Storing.{geometry_elsewhere}
use Rattle.cbm_volume.proofs.layouts.Staying.{KeepsClosed, kept_written, kept_opened, kept_later, empty_open}
use Rattle.cbm_volume.proofs.layouts.Writers.{written_keeps}

-- ---- the last block is written

-- the copy is a whole chain, which no slot has
pub record IsLastOf (medium : ℕ) (c : Content) (l : Layout) (d : Disk) (uses : ℕ → Use) (ch : ℕ) (now : Content) (s : State) (bytes : List ℕ) : Type 0 where
  pub b : Place
  pub rest : List Place
  pub reached : Reached medium c l now (less (length (b ∷ rest)) d) uses
  pub held : OwnedBy reached.layout.owner (Writer ch) (b ∷ rest)
  pub ended : IsEnded (geometry_of medium c) now reached.layout (less (length (b ∷ rest)) d) ch b rest bytes
  pub count : length (b ∷ rest) ≡ blocks_of (length bytes)
  pub first : place_or_none s.first ≡ b
  pub counted : s.count ≡ length (b ∷ rest)

pub made_last : (medium : ℕ) (c : Content) (l : Layout) (d : Disk) (uses : ℕ → Use) (ch : ℕ) (now now' : Content) (s : State) (bytes : List ℕ) (u : Use) → (k : Making medium c l d uses ch now s bytes u) → EndsChain now now' s.current s.waiting
    → IsLastOf medium c l d uses ch now' s bytes
made_last medium c l d uses ch now now' s bytes u k ends = by_places k.places k.reached k.owned k.wrote k.count
  where
    tracks : ℕ
    tracks = geometry_of medium c

    by_places : (places : List Place) (r : Reached medium c l now (less (length places) d) uses) → OwnedBy r.layout.owner (Writer ch) places → Wrote now s places bytes → length places ≡ blocks_of (length bytes) → IsLastOf medium c l d uses ch now' s bytes
    by_places [] r held wrote count = absurd (has_block medium c l d uses ch now s bytes u k wrote.current)
    by_places (b ∷ rest) r held wrote count =
        let d1 : Disk = less (length (b ∷ rest)) d in
        let owner : Place → Owner = r.layout.owner in
        let p : Place = last_of b rest in
        let mine : owner p ≡ Writer ch = last_owned owner (Writer ch) b rest held in
        let e : EndsAt tracks now now' b rest bytes = subst (λ (n : ℕ). EndsAt n now now' b rest bytes) k.same_tracks (ends_at now now' s b rest bytes wrote ends) in
        let stands : HasLayout tracks now' r.layout d1 = stands_loose tracks now now' r.layout d1 p e.sector r.so.stands (ap is_loose mine) e.written in
        let head : now' directory_head ≡ now directory_head = ap (λ (x : Content). x directory_head) e.written ∙ written_elsewhere now p directory_head e.sector (λ z. (let y = sym mine ∙ ap owner z ∙ r.so.stands.sound.owned.map in (cc))) in
        let kept : KeepsClosed r.layout now now' (λ m. false) = kept_written r.layout now now' p e.sector (Writer ch) (λ m. false) r.so.stands.sound.owned mine refl (λ z. (cc)) e.written in
        let part : Part (geometry_of medium now) now (b ∷ rest) = subst (λ (n : ℕ). Part n now (b ∷ rest)) (k.same_tracks ∙ sym r.same) wrote.part in
        let few : length (b ∷ rest) ≤ 749 = few_blocks medium now r.layout ch (b ∷ rest) (subst (λ (n : ℕ). Sound n now r.layout) (sym r.same) r.so.stands.sound) part held in
        let keeps : (o : Owner) → Writer ch ≢ o → Keeps now now' owner o = λ o ne. written_keeps now now' p e.sector owner o e.written (λ z. ne (sym mine ∙ z)) in
        record {
          b = b;
          rest = rest;
          reached = record {
            layout = r.layout;
            so = holds_on tracks now now' r.layout r.layout d1 d1 uses ch (λ n. false) k.idle r.so stands
                (record {
                  writers = λ x out. keeps (Writer x) (λ z. (let g : x ≡ ch = cc in let t = sym (eq-eqb x ch g) ∙ out in (cc)));
                  writers_own = λ x q out z. z;
                  files = λ n no. keeps (DataOf n) (λ z. (cc));
                  files_own = λ n q no z. z;
                  more = omega arith;
                  slots = λ n no. refl;
                }) (λ m n h. refl);
            same = geometry_elsewhere medium now now' head ∙ r.same;
            front = r.front;
            kept = kept_later l r.layout c now now' (λ m. false) r.front r.later r.kept kept;
            later = r.later;
          };
          held = held;
          ended = record { stands = stands; part = e.ended.part; reads = e.ended.reads; ends = e.ended.ends; bytes_are = e.ended.bytes_are };
          count = count;
          first = ap place_or_none wrote.first;
          counted = omega (arith, wrote.count, few);
        }

-- the entry was refused after it
pub made_refused : (medium : ℕ) (c : Content) (l : Layout) (d : Disk) (uses : ℕ → Use) (ch : ℕ) (now : Content) (s : State) (bytes : List ℕ) → IsLastOf medium c l d uses ch now s bytes → SlotLost medium c l now d uses
made_refused medium c l d uses ch now s bytes k = record { disk = less (length (k.b ∷ k.rest)) d; reached = k.reached; slots = same_files_less d (length (k.b ∷ k.rest)) }

-- the slot is one of the directory's
pub made_there : (medium : ℕ) (c : Content) (l : Layout) (d : Disk) (uses : ℕ → Use) (ch : ℕ) (now : Content) (s : State) (bytes : List ℕ) (n : ℕ) → (k : IsLastOf medium c l d uses ch now s bytes) → empty_from 0 (grown d).slots ≡ Some n → n < slot_count k.reached.layout
made_there medium c l d uses ch now s bytes n k empty = omega (arith, (empty_at 0 n (grown d).slots empty).1.0, k.reached.so.stands.describes.size)

-- ---- the entry

-- THE COPY HAS ITS SLOT
pub made_over : (medium : ℕ) (c : Content) (l : Layout) (d : Disk) (uses : ℕ → Use) (ch : ℕ) (now now' : Content) (s : State) (bytes : List ℕ) (n : ℕ) (kind : FileType) (name : List ℕ) (at : Place) (entry body : List ℕ) → uses ch ≡ Idle → (k : IsLastOf medium c l d uses ch now s bytes)
    → empty_from 0 (grown d).slots ≡ Some n → kind ≢ Del → is_same_type Rel kind ≡ false → IsFreshAs entry kind name at → IsClosedAs entry body (place_or_none s.first) s.count → Enters now now' (sector_of k.reached.layout.directory n) (n % 8) body
    → Reached medium c l now' (with_file d (closed_file kind (before_filler name) (blocks_of (length bytes)) (Bytes bytes)) (blocks_of (length bytes))) uses
made_over medium c l d uses ch now now' s bytes n kind name at entry body idle k empty ne plain says closes enters =
    let tracks : ℕ = geometry_of medium c in
    let r : Reached medium c l now (less (length (k.b ∷ k.rest)) d) uses = k.reached in
    let blocks : ℕ = length (k.b ∷ k.rest) in
    let d1 : Disk = less blocks d in
    let l1 : Layout = r.layout in
    let owner : Place → Owner = l1.owner in
    let xs : List Place = k.b ∷ k.rest in
    let there : n < slot_count l1 = made_there medium c l d uses ch now s bytes n k empty in
    let slot = empty_at 0 n (grown d).slots empty in
    let same_n : n - 0 ≡ n = omega arith in
    let none : file_at d1 n ≡ None = ap (λ (i : ℕ). file_at d1 i) (sym same_n) ∙ slot.1.1 in
    let unused : IsUnused uses n = empty_unused tracks now l1 d1 uses n r.so none in
    let was : File = unclosed kind (before_filler name) in
    let f : File = closed_file kind (before_filler name) blocks (Bytes bytes) in
    let blocks_new : Blocks = record { data_blocks = xs; sides = [] } in
    let owner2 : Place → Owner = own_all owner xs (DataOf n) in
    let l2 : Layout = one_slot.with_file l1 n blocks_new owner2 in
    let d2 : Disk = with_slot d1 n (Some f) in
    let fresh : slot_of now entry no_blocks ≡ Some was = fresh_file now entry kind name at says ne in
    let small : type_byte entry % 16 < 5 = fresh_kind entry kind name at says in
    let closes' : IsClosedAs entry body k.b blocks = subst (λ (x : Place). IsClosedAs entry body x blocks) k.first (subst (λ (x : ℕ). IsClosedAs entry body (place_or_none s.first) x) k.counted closes) in
    let file : slot_of now body blocks_new ≡ Some f =
    closing.closed_file entry body (chain_bytes now []) (chain_bytes now xs) k.b blocks no_blocks blocks_new was closes' fresh plain small (omega arith) ∙ ap (λ (x : List ℕ). Some (finished was x blocks)) k.ended.bytes_are in
    let low : type_byte body % 16 ≡ type_byte entry % 16 = omega (arith, closes'.type) in
    let closed : is_closed body ≡ true = ap (λ (t : ℕ). bit_of t 7) closes'.type ∙ ap (λ (t : ℕ). t == 1) (let seven : (type_byte entry % 128 + 128) / 128 % 2 ≡ 1 = omega arith in seven) in
    let flat : is_relative body ≡ false = ap (λ (t : ℕ). t == 4) low ∙ plain_entry (chain_bytes now []) entry no_blocks small (ap (λ (x : File). is_same_type Rel x.kind) (some_file (chain_bytes now []) entry no_blocks was fresh).1 ∙ plain) in
    let stands : HasLayout tracks now' l2 (with_slot d1 n (slot_of now body blocks_new)) =
    stands_finish tracks now now' l1 d1 n ch (sector_of l1.directory n) k.b k.rest body k.ended.stands there refl k.held k.ended.part k.ended.reads k.ended.ends enters (omega (arith, low, small)) closed flat (λ i. record { track = closes'.track i; sector = closes'.sector i }) in
    let mine : owner (sector_of l1.directory n) ≡ Directory = sector_owned l1 r.so.stands.sound.owned n there in
    let keeps : (o : Owner) → Directory ≢ o → Keeps now now' owner o = λ o z. written_keeps now now' (sector_of l1.directory n) enters.sector owner o enters.written (λ y. z (sym mine ∙ y)) in
    let head : now' directory_head ≡ now directory_head = ap (λ (x : Content). x directory_head) enters.written ∙ written_elsewhere now (sector_of l1.directory n) directory_head enters.sector (λ z. (let y = sym mine ∙ ap owner z ∙ r.so.stands.sound.owned.map in (cc))) in
    let kept : KeepsClosed l1 now now' (λ m. false) = kept_opened tracks l1 now now now' n body (λ m. false) r.so.stands.sound there enters (empty_open tracks now l1 d1 n r.so.stands there none) in
    let so : HoldsAt tracks now' l2 d2 uses = holds_on tracks now now' l1 l2 d1 d2 uses ch (λ m. m == n) idle r.so (subst (λ (x : Option File). HasLayout tracks now' l2 (with_slot d1 n x)) file stands)
    (record {
      writers = λ x out. keeps (Writer x) (λ z. (cc));
      writers_own = λ x q out z. own_all_keeps owner (Writer ch) (DataOf n) (Writer x) xs q k.held (λ y. (let g : x ≡ ch = cc in let t = sym (eq-eqb x ch g) ∙ out in (cc))) z;
      files = λ m no. keeps (DataOf m) (λ z. (cc));
      files_own = λ m q no z. own_all_keeps owner (Writer ch) (DataOf n) (DataOf m) xs q k.held (λ y. (cc)) z;
      more = omega arith;
      slots = λ m no. other_slot d1 n m (Some f) no;
    }) (λ m i h. ne_eqb i n (λ z. (let y = sym (unused m) ∙ ap (λ (j : ℕ). uses_slot j (uses m)) (sym z) ∙ h in (cc)))) in
    let disk : d2 ≡ with_file d f blocks = λ i. record (grown d) { slots = slice_set (grown d).slots (slot_is d n empty i) (Some f); free = d.free - blocks } in
    record {
      layout = l2;
      so = subst (λ (x : Disk). HoldsAt tracks now' l2 x uses) (disk ∙ ap (λ (x : ℕ). with_file d (closed_file kind (before_filler name) x (Bytes bytes)) x) k.count) so;
      same = geometry_elsewhere medium now now' head ∙ r.same;
      front = r.front;
      kept = kept_later l l1 c now now' (λ m. false) r.front r.later r.kept kept;
      later = λ x g. elim (own_all_was owner xs (DataOf n) x) [ inl a ↦ ap is_file a | inr b ↦ ap is_file b ∙ r.later x g ];
    }
