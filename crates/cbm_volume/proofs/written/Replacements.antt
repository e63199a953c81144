-- CLOSE of a replacement: what the medium holds after each of its steps.
use Rattle.std.proofs.Common.{◌≡◌, ◌≢◌, ℕ, ◌+◌, ◌*◌, ◌%◌, ◌<◌, length, arith, List, [], ◌∷◌, Bool, true, false, IsOk, refl, sym, ap, subst, ◌∙◌, inl, inr, Option, Some, None, Result, Ok, Err}
use Rattle.std.specs.Prelude.{OnOk, OnErr}
use Rattle.cbm_medium.specs.Place.{Place, directory_head, sector_count}
use Rattle.cbm_medium.specs.Content.{Cell, Content, written}
use Rattle.cbm_medium.specs.Links.{bytes_at, or_nothing, Chain, Followed, follow}
use Rattle.cbm_medium.specs.declared.fault.Trouble.{Trouble}
use Rattle.cbm_medium.proofs.Places.{written_there, written_elsewhere}
use Rattle.cbm_medium.proofs.Walks.{chain_followed}
use Rattle.cbm_file.specs.declared.file_type.FileType.TheVariants.{Rel}
use Rattle.cbm_file.specs.Types.{is_same_type}
use Rattle.cbm_file.specs.Files.{File, Disk, file_at, with_slot}
use Rattle.cbm_bam.specs.Map.{geometry, geometry_in, geometry_of, is_free_in, with_freed, map_of, IsCounted, IsMapped, Remaps, Frees}
use Rattle.cbm_bam.proofs.Geometries.{geometry_stays}
use Rattle.cbm_bam.proofs.Counts.{AreTaken}
use Rattle.cbm_chain.specs.Data.{chain_bytes}
use Rattle.cbm_chain.specs.Writing.{Wrote, EndsChain, IsForFiles, last_of, place_or_none}
use Rattle.cbm_directory.specs.Entries.{IsClosedAs, Enters, first_directory, is_closed, is_relative, first_block, entry_at, sector_of}
use Rattle.cbm_directory.specs.Slots.{Answers, directory_of}
use Rattle.cbm_volume.specs.Blocks.{LiesAs, file_of}
use Rattle.cbm_volume.specs.Layouts.{DataOf, Writer, OwnedBy, Layout, slot_count, Sound, HasLayout}
use Rattle.cbm_file.specs.Changes.{finished, replaced_in, with_replaced}
use Rattle.cbm_volume.specs.Writers.{Filling, Use, Idle, Writes, IsWriting, IsUsed, HoldsAt, Holds, HoldsNow, with_use, known, Stopped}
use Rattle.cbm_volume.proofs.layouts.Lengths.{file_length}
use Rattle.cbm_volume.proofs.layouts.Loose.{sector_owned}
use Rattle.cbm_volume.proofs.layouts.OneSlot.{with_file}
use Rattle.cbm_volume.proofs.layouts.Releases.{chain_taken, frees_mapped}
use Rattle.cbm_volume.proofs.layouts.Listing.{entry_found, geometry_size}
use Rattle.cbm_volume.proofs.written.Storing.{few, geometry_elsewhere, for_files, let_go}
use Rattle.cbm_volume.proofs.written.Closing.{some_file, plain_entry, ended, IsEnded}
use Rattle.cbm_volume.proofs.written.Finishing.{counted, IsLast, last_written, on_err, slot_there, slot_not_past}
use Rattle.cbm_volume.proofs.written.Replaced.{replaced, replaced_over, old_nobodys, holds_given_back}
use Rattle.cbm_volume.proofs.written.Finishes.{last_owned}

-- a write of the map doesn't change how many tracks the disk uses
pub geometry_remapped : (medium : ℕ) (c c' : Content) (l : Layout) (free : Place → Bool) → Sound (geometry_of medium c) c l → Remaps (geometry_of medium c) c c' free → geometry_of medium c' ≡ geometry_of medium c
geometry_remapped medium c c' l free s r = by_cell (c directory_head) refl
  where
    by_cell : (x : Cell) → c directory_head ≡ x → geometry_of medium c' ≡ geometry_of medium c
    by_cell (Err code) e = absurd (let z = subst (λ (y : Cell). IsOk y) e s.map_reads in (cc))
    by_cell (Ok map) e =
        let old : map_of c ≡ map = ap (λ (y : Cell). bytes_at (λ p. y) directory_head) e in
        let g : geometry_of medium c ≡ geometry medium (map_of c) = ap (geometry_in medium) (e ∙ ap Ok (sym old)) in
        let new : c' directory_head ≡ Ok r.map = ap (λ (y : Content). y directory_head) r.written ∙ written_there c directory_head r.map in
        ap (geometry_in medium) new
        ∙ geometry_stays medium (map_of c) r.map free (subst (λ (n : ℕ). IsCounted n (map_of c)) g s.counted) (subst (λ (n : ℕ). IsMapped n (map_of c) r.map free) g r.mapped)
        ∙ sym g

-- the old file: closed, without records, in its chain
pub record IsOld (tracks : ℕ) (c : Content) (l : Layout) (n : ℕ) (f : File) : Type 0 where
  pub chain : Chain tracks c (first_block (entry_at c l.directory n)) (l.files n).data_blocks
  pub held : f.held ≡ length (l.files n).data_blocks

pub old_file : (tracks : ℕ) (c : Content) (l : Layout) (d : Disk) (n : ℕ) (f : File) → HasLayout tracks c l d → n < slot_count l → file_at d n ≡ Some f → f.closed ≡ true → is_same_type Rel f.kind ≡ false → IsOld tracks c l n f
unfolding file_of
old_file tracks c l d n f st k in_slot closed plain =
    let entry : List ℕ = entry_at c l.directory n in
    let s = some_file (chain_bytes c (l.files n).data_blocks) entry (l.files n) f (sym (st.describes.slots n k) ∙ in_slot) in
    let cl : is_closed entry ≡ true = ap (λ (x : File). x.closed) s.1 ∙ closed in
    let rel : is_relative entry ≡ false = plain_entry (chain_bytes c (l.files n).data_blocks) entry (l.files n) (st.sound.kinds n k) (ap (λ (x : File). is_same_type Rel x.kind) s.1 ∙ plain) in
    let lies : Chain tracks c (first_block entry) (l.files n).data_blocks × ((l.files n).sides ≡ []) =
    subst (λ (x : Bool). LiesAs true x tracks c entry (l.files n)) rel (subst (λ (x : Bool). LiesAs x (is_relative entry) tracks c entry (l.files n)) cl (st.sound.lies n k)) in
    record { chain = lies.0; held = sym (ap (λ (x : File). x.held) s.1) ∙ omega (arith, ap (length {A = Place}) lies.1) }

-- what stands when the new chain is in the slot, and when the old one was given back
pub record IsReplaced (medium : ℕ) (c2 : Content) (d : Disk) (n : ℕ) (bytes : List ℕ) (blocks : ℕ) (uses : ℕ → Use) (freed : List ℕ) : Type 0 where
  pub disk : Disk
  pub holds : HoldsNow medium c2 disk uses
  pub slots : (m : ℕ) → known (file_at disk m) ≡ known (file_at (with_replaced d n bytes blocks) m)
  pub total : disk.total ≡ d.total
  pub given_back : (c3 : Content) → c3 ≡ written c2 directory_head freed → HoldsNow medium c3 (with_replaced d n bytes blocks) uses

pub is_replaced : (medium : ℕ) (c c1 c2 : Content) (w : Filling) (entry body map freed : List ℕ) → Answers (directory_of (geometry_of medium c) c) w.slot (Ok (Some entry)) → c directory_head ≡ Ok map
    → Frees (geometry_of medium c) map (follow (geometry_of medium c) c (sector_count (geometry_of medium c)) (first_block entry)).blocks freed
    → EndsChain c c1 w.chain.current w.chain.waiting → IsClosedAs entry body (place_or_none w.chain.first) w.chain.count
    → ((directory : List Place) → Chain (geometry_of medium c) c1 first_directory directory → w.slot < 8 * length directory → Enters c1 c2 (sector_of directory w.slot) (w.slot % 8) body)
    → (d : Disk) (uses : ℕ → Use) (ch : ℕ) (bytes : List ℕ) (blocks : ℕ) → HoldsNow medium c d uses → uses ch ≡ Writes w bytes blocks → w.replaces ≡ true
    → IsReplaced medium c2 d w.slot bytes blocks (with_use uses ch Idle) freed
is_replaced medium c c1 c2 w entry body map freed found head given ends says put d uses ch bytes blocks h e replaces =
    by_places was.places was.owned was.wrote was.number (was.begun replaces)
  where
    tracks : ℕ
    tracks = geometry_of medium c

    l : Layout
    l = h.layout

    n : ℕ
    n = w.slot

    old : List Place
    old = (l.files n).data_blocks

    was : IsWriting tracks c l d ch w bytes blocks
    was = subst (λ (x : Use). IsUsed tracks c l d ch x) e (h.so.each ch)

    is_it : entry ≡ entry_at c l.directory n
    is_it = (entry_found tracks c l n entry h.so.stands.sound found).1

    file : IsOld tracks c l n was.file
    file = old_file tracks c l d n was.file h.so.stands was.there was.in_slot (was.closed ∙ replaces) was.plain

    held_old : OwnedBy l.owner (DataOf n) old
    held_old = h.so.stands.sound.owned.blocks n was.there

    last : IsLast medium c c1 l d uses ch
    last = last_written medium c c1 l d uses ch w bytes blocks h.so was ends

    enters : Enters c1 c2 (sector_of l.directory n) (n % 8) body
    enters = put l.directory last.holds.stands.sound.directory was.there

    says' : IsClosedAs (entry_at c l.directory n) body (place_or_none w.chain.first) blocks
    says' = subst (λ (k : ℕ). IsClosedAs (entry_at c l.directory n) body (place_or_none w.chain.first) k) (counted medium c l d ch w bytes blocks h.so.stands.sound was)
        (subst (λ (x : List ℕ). IsClosedAs x body (place_or_none w.chain.first) w.chain.count) is_it says)

    apart : sector_of l.directory n ≢ directory_head
    apart k = (let z = sym (sector_owned l h.so.stands.sound.owned n was.there) ∙ ap l.owner k ∙ h.so.stands.sound.owned.map in (cc))

    same_head : c2 directory_head ≡ c1 directory_head
    same_head = ap (λ (x : Content). x directory_head) enters.written ∙ written_elsewhere c1 (sector_of l.directory n) directory_head enters.sector apart

    same : geometry_of medium c2 ≡ tracks
    same = geometry_elsewhere medium c1 c2 same_head ∙ last.same

    disk : with_replaced d n bytes blocks ≡ record (with_slot d n (Some (finished was.file bytes blocks))) { free = d.free + length old }
    disk = ap (λ (x : Option File). replaced_in x d n bytes blocks) was.in_slot ∙ ap (λ (k : ℕ). record (with_slot d n (Some (finished was.file bytes blocks))) { free = d.free + k }) file.held

    by_places : (places : List Place) → OwnedBy l.owner (Writer ch) places → Wrote c w.chain places bytes → blocks ≡ length places → 0 < length places → IsReplaced medium c2 d n bytes blocks (with_use uses ch Idle) freed
    by_places [] held wrote number some = absurd (omega arith)
    by_places (b ∷ rest) held wrote number some =
        let l2 : Layout = with_file l n (record { data_blocks = b ∷ rest; sides = [] }) (replaced l.owner old (b ∷ rest) n) in
        let d2 : Disk = with_slot d n (Some (finished was.file bytes blocks)) in
        let e1 : IsEnded tracks c1 l d ch b rest bytes = ended tracks c c1 l d ch w.chain b rest bytes h.so.stands held wrote was.same_tracks ends in
        let block : EndsChain c c1 (Some (last_of b rest)) w.chain.waiting = subst (λ (x : Option Place). EndsChain c c1 x w.chain.waiting) wrote.current ends in
        let off : (last_of b rest).track ≢ 18 = (subst (λ (x : Option Place). IsForFiles w.chain.tracks x) wrote.current (for_files c w.chain (b ∷ rest) bytes wrote)).1 in
        let so : HoldsAt tracks c2 l2 d2 (with_use uses ch Idle) = replaced_over tracks c c1 c2 l d uses ch w bytes blocks b rest (last_of b rest) block.0 body h.so e was held number block.3 (last_owned l.owner (Writer ch) b rest held) e1 enters
        (subst (λ (x : Option Place). IsClosedAs (entry_at c l.directory n) body (place_or_none x) blocks) wrote.first says') in
        let same_map : c2 directory_head ≡ c directory_head = same_head ∙ ap (λ (x : Content). x directory_head) block.3 ∙ written_elsewhere c (last_of b rest) directory_head block.0 (λ k. off (ap (λ (y : Place). y.track) k)) in
        let map_is : map_of c2 ≡ map = ap or_nothing (same_map ∙ head) in
        let followed : (follow tracks c (sector_count tracks) (first_block entry)).blocks ≡ old =
        ap (λ (x : List ℕ). (follow tracks c (sector_count tracks) (first_block x)).blocks) is_it
        ∙ ap (λ (y : Followed). y.blocks) (chain_followed tracks c old (sector_count tracks) (first_block (entry_at c l.directory n)) file.chain (file_length tracks c l n (first_block (entry_at c l.directory n)) old (geometry_size medium c) h.so.stands.sound file.chain held_old)) in
        let frees : Frees tracks map old freed = subst (λ (xs : List Place). Frees tracks map xs freed) followed given in
        let mapped : IsMapped tracks (map_of c2) freed (with_freed (is_free_in (map_of c2)) old) = subst (λ (x : List ℕ). IsMapped tracks x freed (with_freed (is_free_in x) old)) (sym map_is) (frees_mapped tracks map freed old frees) in
        let taken : AreTaken tracks (is_free_in (map_of c2)) old = subst (λ (x : Cell). AreTaken tracks (is_free_in (or_nothing x)) old) (sym same_map)
        (chain_taken tracks c c l (DataOf n) h.so.stands.sound (λ z. (cc)) (λ q k t. (h.so.stands.sound.owned.off_18 q t n).0 k) (first_block (entry_at c l.directory n)) old file.chain held_old) in
        record {
          disk = d2;
          holds = subst (λ (k : ℕ). Holds k c2 d2 (with_use uses ch Idle)) (sym same) (record { layout = l2; so = so });
          slots = λ m. sym (ap (λ (x : Disk). known (file_at x m)) disk);
          total = refl;
          given_back = λ c3 new.
              let r : Remaps tracks c2 c3 (with_freed (is_free_in (map_of c2)) old) = record { map = freed; mapped = mapped; written = new } in
              let at3 = holds_given_back tracks c2 c3 l2 d2 (with_use uses ch Idle) old (few medium c) so (old_nobodys l.owner old (b ∷ rest) ch n held_old held) taken r in
              let same3 : geometry_of medium c3 ≡ tracks = geometry_remapped medium c2 c3 l2 (with_freed (is_free_in (map_of c2)) old) (subst (λ (k : ℕ). Sound k c2 l2) (sym same) so.stands.sound) (subst (λ (k : ℕ). Remaps k c2 c3 (with_freed (is_free_in (map_of c2)) old)) (sym same) r) ∙ same in
              subst (λ (k : ℕ). Holds k c3 (with_replaced d n bytes blocks) (with_use uses ch Idle)) (sym same3)
              (subst (λ (x : Disk). Holds tracks c3 x (with_use uses ch Idle)) (sym disk) (record { layout = _; so = at3 }));
        }

-- ---- the clauses of the call, over plain values

abbrev pub Replaces : ℕ → Content → Content → Filling → Result (Unit {0}) Trouble → Type 0
Replaces medium c c' w r = (d : Disk) (uses : ℕ → Use) (ch : ℕ) (bytes : List ℕ) (blocks : ℕ) → HoldsNow medium c d uses → uses ch ≡ Writes w bytes blocks → w.replaces ≡ true
    → OnOk r (HoldsNow medium c' (with_replaced d w.slot bytes blocks) (with_use uses ch Idle))

abbrev pub Stops : ℕ → Content → Content → Filling → Result (Unit {0}) Trouble → Type 0
Stops medium c c' w r = (d : Disk) (uses : ℕ → Use) (ch : ℕ) (bytes : List ℕ) (blocks : ℕ) → HoldsNow medium c d uses → uses ch ≡ Writes w bytes blocks → w.replaces ≡ true
    → OnErr r (Stopped medium c' d (with_replaced d w.slot bytes blocks) (with_use uses ch Idle))

pub no_entry : (medium : ℕ) (c c' : Content) (w : Filling) (t : Trouble) (r : Result (Unit {0}) Trouble) → Answers (directory_of (geometry_of medium c) c) w.slot (Err t) → Stops medium c c' w r
no_entry medium c c' w t r a = λ d uses ch bytes blocks h e k. absurd (slot_there medium c d uses ch w bytes blocks t h e a)

pub no_slot : (medium : ℕ) (c c' : Content) (w : Filling) (o : Option (List ℕ)) (r : Result (Unit {0}) Trouble) → o ≡ None → Answers (directory_of (geometry_of medium c) c) w.slot (Ok o) → Replaces medium c c' w r
no_slot medium c c' w o r z a = λ d uses ch bytes blocks h e k. absurd (slot_not_past medium c d uses ch w bytes blocks h e (subst (λ (x : Option (List ℕ)). Answers (directory_of (geometry_of medium c) c) w.slot (Ok x)) z a))

-- the map of a disk reads
pub no_map : (medium : ℕ) (c c' : Content) (w : Filling) (code : ℕ) (r : Result (Unit {0}) Trouble) → c directory_head ≡ Err code → Stops medium c c' w r
no_map medium c c' w code r z = λ d uses ch bytes blocks h e k. absurd (let y = subst (λ (x : Cell). IsOk x) z h.so.stands.sound.map_reads in (cc))

-- and so does the old file
pub old_reads : (medium : ℕ) (c : Content) (w : Filling) (entry : List ℕ) (t : Trouble) → Answers (directory_of (geometry_of medium c) c) w.slot (Ok (Some entry))
    → (follow (geometry_of medium c) c (sector_count (geometry_of medium c)) (first_block entry)).trouble ≡ Some t
    → (d : Disk) (uses : ℕ → Use) (ch : ℕ) (bytes : List ℕ) (blocks : ℕ) → HoldsNow medium c d uses → uses ch ≡ Writes w bytes blocks → w.replaces ≡ true → ⊥
old_reads medium c w entry t found z d uses ch bytes blocks h e k =
    let tracks : ℕ = geometry_of medium c in
    let l : Layout = h.layout in
    let was : IsWriting tracks c l d ch w bytes blocks = subst (λ (x : Use). IsUsed tracks c l d ch x) e (h.so.each ch) in
    let file : IsOld tracks c l w.slot was.file = old_file tracks c l d w.slot was.file h.so.stands was.there was.in_slot (was.closed ∙ k) was.plain in
    let is_it : entry ≡ entry_at c l.directory w.slot = (entry_found tracks c l w.slot entry h.so.stands.sound found).1 in
    let followed = chain_followed tracks c (l.files w.slot).data_blocks (sector_count tracks) (first_block (entry_at c l.directory w.slot)) file.chain
    (file_length tracks c l w.slot (first_block (entry_at c l.directory w.slot)) (l.files w.slot).data_blocks (geometry_size medium c) h.so.stands.sound file.chain (h.so.stands.sound.owned.blocks w.slot was.there)) in
    (let y = sym (ap (λ (f : Followed). f.trouble) followed) ∙ sym (ap (λ (x : List ℕ). (follow tracks c (sector_count tracks) (first_block x)).trouble) is_it) ∙ z in (cc))

pub no_chain : (medium : ℕ) (c c' : Content) (w : Filling) (entry : List ℕ) (t : Trouble) (r : Result (Unit {0}) Trouble) → Answers (directory_of (geometry_of medium c) c) w.slot (Ok (Some entry))
    → (follow (geometry_of medium c) c (sector_count (geometry_of medium c)) (first_block entry)).trouble ≡ Some t → Stops medium c c' w r
no_chain medium c c' w entry t r found z = λ d uses ch bytes blocks h e k. absurd (old_reads medium c w entry t found z d uses ch bytes blocks h e k)

pub last_refused : (medium : ℕ) (c c' : Content) (w : Filling) (r : Result (Unit {0}) Trouble) → c' ≡ c → Stops medium c c' w r
last_refused medium c c' w r same = λ d uses ch bytes blocks h e k. on_err r (record {
  disk = d;
  holds = subst (λ (x : Content). HoldsNow medium x d (with_use uses ch Idle)) (sym same) (record { layout = h.layout; so = let_go (geometry_of medium c) c h.layout d uses ch h.so });
  either = λ n. inl refl;
  total = refl;
})

pub entry_refused : (medium : ℕ) (c c1 c' : Content) (w : Filling) (r : Result (Unit {0}) Trouble) → EndsChain c c1 w.chain.current w.chain.waiting → c' ≡ c1 → Stops medium c c' w r
entry_refused medium c c1 c' w r ends same = λ d uses ch bytes blocks h e k.
    let was : IsWriting (geometry_of medium c) c h.layout d ch w bytes blocks = subst (λ (x : Use). IsUsed (geometry_of medium c) c h.layout d ch x) e (h.so.each ch) in
    let last : IsLast medium c c1 h.layout d uses ch = last_written medium c c1 h.layout d uses ch w bytes blocks h.so was ends in
    on_err r (record {
      disk = d;
      holds = subst (λ (x : Content). HoldsNow medium x d (with_use uses ch Idle)) (sym same) (subst (λ (n : ℕ). Holds n c1 d (with_use uses ch Idle)) (sym last.same) (record { layout = h.layout; so = last.holds }));
      either = λ n. inl refl;
      total = refl;
    })

-- the slot has the new chain, whoever holds the disk
abbrev pub InSlot : ℕ → Content → Content → Filling → List ℕ → Type 0
InSlot medium c c2 w freed = (d : Disk) (uses : ℕ → Use) (ch : ℕ) (bytes : List ℕ) (blocks : ℕ) → HoldsNow medium c d uses → uses ch ≡ Writes w bytes blocks → w.replaces ≡ true → IsReplaced medium c2 d w.slot bytes blocks (with_use uses ch Idle) freed

pub replaced_ok : (medium : ℕ) (c c2 c3 : Content) (w : Filling) (freed : List ℕ) (r : Result (Unit {0}) Trouble) → OnOk r (c3 ≡ written c2 directory_head freed) → InSlot medium c c2 w freed → Replaces medium c c3 w r
replaced_ok medium c c2 c3 w freed (Ok x) new done = λ d uses ch bytes blocks h e k. (done d uses ch bytes blocks h e k).given_back c3 new
replaced_ok medium c c2 c3 w freed (Err t) new done = λ d uses ch bytes blocks h e k. tt

pub replaced_stopped : (medium : ℕ) (c c2 c3 : Content) (w : Filling) (freed : List ℕ) (r : Result (Unit {0}) Trouble) → OnErr r (c3 ≡ c2) → InSlot medium c c2 w freed → Stops medium c c3 w r
replaced_stopped medium c c2 c3 w freed (Ok x) same done = λ d uses ch bytes blocks h e k. tt
replaced_stopped medium c c2 c3 w freed (Err t) same done = λ d uses ch bytes blocks h e k.
    let s : IsReplaced medium c2 d w.slot bytes blocks (with_use uses ch Idle) freed = done d uses ch bytes blocks h e k in
    record {
      disk = s.disk;
      holds = subst (λ (x : Content). HoldsNow medium x s.disk (with_use uses ch Idle)) (sym same) s.holds;
      either = λ n. inr (s.slots n);
      total = s.total;
    }
