-- CLOSE of a file: what the medium holds after each of its steps.
use Rattle.std.proofs.Common.{◌≡◌, ◌≢◌, ◌⊎◌, ℕ, ◌+◌, ◌*◌, ◌/◌, ◌%◌, ◌<◌, ◌≤◌, length, arith, List, [], ◌∷◌, Bool, true, false, refl, sym, ap, subst, ◌∙◌, inl, inr, Option, Some, None, Result, Ok, Err}
use Rattle.std.specs.Prelude.{◌==◌, OnOk, OnErr}
use Rattle.std.proofs.lemmas.Bool.{eq-eqb, ne_eqb}
use Rattle.cbm_medium.specs.Place.{Place, directory_head, sectors_on}
use Rattle.cbm_medium.specs.Content.{Content, written}
use Rattle.cbm_medium.specs.Links.{Chain}
use Rattle.cbm_medium.specs.declared.fault.Trouble.{Trouble}
use Rattle.cbm_file.specs.Files.{File, Disk, with_slot}
use Rattle.cbm_bam.specs.Map.{is_free_in, map_of, number, summed, geometry_of}
use Rattle.cbm_bam.proofs.Counts.{blocks_on_35, blocks_on_40}
use Rattle.cbm_chain.specs.Writing.{Part, last_block_of, last_of, place_or_none, Wrote, EndsChain}
use Rattle.cbm_medium.specs.Seen.{Seen}
use Rattle.cbm_directory.specs.Entries.{IsClosedAs, Enters, EntersLed, closed_entry, first_directory, entry_at, sector_of}
use Rattle.cbm_directory.specs.Slots.{Answers, directory_of}
use Rattle.cbm_medium.proofs.Places.{written_elsewhere}
use Rattle.cbm_chain.specs.Writing.{IsForFiles}
use Rattle.cbm_file.specs.declared.file_type.FileType.TheVariants.{Rel}
use Rattle.cbm_file.specs.Types.{is_same_type}
use Rattle.cbm_chain.specs.Data.{chain_bytes}
use Rattle.cbm_directory.specs.Entries.{type_byte, is_closed, is_relative, bit_of}
use Rattle.cbm_volume.specs.Blocks.{no_blocks, LiesAs, Lies, slot_of, slot_with}
use Rattle.cbm_volume.proofs.layouts.OneSlot.{with_file}
use Rattle.cbm_volume.proofs.layouts.Frames.{Keeps}
use Rattle.cbm_volume.proofs.layouts.Loose.{sector_owned}
use Rattle.cbm_volume.proofs.layouts.Steps.{stands_entry, extends_itself}
use Rattle.cbm_volume.specs.Layouts.{Owner, Directory, Writer, DataOf, is_loose, OwnedBy, Layout, Sound, HasLayout}
use Rattle.cbm_volume.proofs.layouts.Steps.{stands_loose}
use Rattle.cbm_volume.proofs.layouts.Writers.{holds_step, idle_like, written_keeps}
use Rattle.cbm_volume.proofs.written.Closing.{is_ch, other_slot, others_spared, some_file, plain_entry, closed_file, ended, IsEnded, closed_over}
use Rattle.cbm_file.specs.Changes.{finished, finished_in, with_finished}
use Rattle.cbm_volume.specs.SeenDisks.{seen_tracks, seen_directory}
use Rattle.cbm_volume.specs.Led.{AtSlot, ClosesEntry}
use Rattle.cbm_volume.specs.Writers.{Filling, Use, Idle, Writes, IsWriting, IsUsed, HoldsAt, Holds, HoldsNow, with_use, Stopped}
use Rattle.cbm_volume.proofs.layouts.Distinct.{at_most_all}
use Rattle.cbm_volume.proofs.written.GivenBack.{part_taken}
use Rattle.cbm_volume.proofs.layouts.Listing.{entry_found, slot_shown, geometry_size}
use Rattle.cbm_volume.proofs.written.Storing.{geometry_elsewhere, for_files, let_go}
use Rattle.cbm_volume.proofs.written.Finishes.{last_owned}

-- ---- a writer has at most as many blocks as the disk

most_blocks : (tracks : ℕ) → (tracks ≡ 35) ⊎ (tracks ≡ 40) → summed sectors_on tracks ≤ 749
most_blocks tracks (inl e) = omega (arith, ap (summed sectors_on) e ∙ blocks_on_35)
most_blocks tracks (inr e) = omega (arith, ap (summed sectors_on) e ∙ blocks_on_40)

pub few_blocks : (medium : ℕ) (c : Content) (l : Layout) (ch : ℕ) (places : List Place) → Sound (geometry_of medium c) c l → Part (geometry_of medium c) c places → OwnedBy l.owner (Writer ch) places → length places ≤ 749
few_blocks medium c l ch places s h w =
    omega (arith, at_most_all (geometry_of medium c) (is_free_in (map_of c)) places (part_taken (geometry_of medium c) c c l ch places s h w), most_blocks (geometry_of medium c) (geometry_size medium c))

pub counted : (medium : ℕ) (c : Content) (l : Layout) (d : Disk) (ch : ℕ) (w : Filling) (bytes : List ℕ) (blocks : ℕ) → Sound (geometry_of medium c) c l → (was : IsWriting (geometry_of medium c) c l d ch w bytes blocks) → w.chain.count ≡ blocks
counted medium c l d ch w bytes blocks s was =
    omega (arith, was.wrote.count, was.number, few_blocks medium c l ch was.places s (subst (λ (n : ℕ). Part n c was.places) was.same_tracks was.wrote.part) was.owned)

-- ---- the slot is there

pub slot_there : (medium : ℕ) (c : Content) (d : Disk) (uses : ℕ → Use) (ch : ℕ) (w : Filling) (bytes : List ℕ) (blocks : ℕ) (t : Trouble) → HoldsNow medium c d uses → uses ch ≡ Writes w bytes blocks
    → Answers (directory_of (geometry_of medium c) c) w.slot (Err t) → ⊥
slot_there medium c d uses ch w bytes blocks t h e a = slot_shown (geometry_of medium c) c h.layout d w.slot (Err t) h.so.stands a

pub slot_not_past : (medium : ℕ) (c : Content) (d : Disk) (uses : ℕ → Use) (ch : ℕ) (w : Filling) (bytes : List ℕ) (blocks : ℕ) → HoldsNow medium c d uses → uses ch ≡ Writes w bytes blocks
    → Answers (directory_of (geometry_of medium c) c) w.slot (Ok None) → ⊥
slot_not_past medium c d uses ch w bytes blocks h e a =
    let was : IsWriting (geometry_of medium c) c h.layout d ch w bytes blocks = subst (λ (x : Use). IsUsed (geometry_of medium c) c h.layout d ch x) e (h.so.each ch) in
    (omega (arith, slot_shown (geometry_of medium c) c h.layout d w.slot (Ok None) h.so.stands a, was.there, h.so.stands.describes.size))

-- ---- the clauses of the call, over plain values

abbrev pub Finishes : ℕ → Content → Content → Filling → Result (Unit {0}) Trouble → Type 0
Finishes medium c c' w r = (d : Disk) (uses : ℕ → Use) (ch : ℕ) (bytes : List ℕ) (blocks : ℕ) → HoldsNow medium c d uses → uses ch ≡ Writes w bytes blocks
    → OnOk r (HoldsNow medium c' (with_finished d w.slot bytes blocks) (with_use uses ch Idle))

abbrev pub Stops : ℕ → Content → Content → Filling → Result (Unit {0}) Trouble → Type 0
Stops medium c c' w r = (d : Disk) (uses : ℕ → Use) (ch : ℕ) (bytes : List ℕ) (blocks : ℕ) → HoldsNow medium c d uses → uses ch ≡ Writes w bytes blocks
    → OnErr r (Stopped medium c' d (with_finished d w.slot bytes blocks) (with_use uses ch Idle))

pub on_err : {T E X : Type 0} (r : Result T E) → X → OnErr r X
on_err (Ok x) h = tt
on_err (Err e) h = h

pub no_entry : (medium : ℕ) (c c' : Content) (w : Filling) (t : Trouble) (r : Result (Unit {0}) Trouble) → Answers (directory_of (geometry_of medium c) c) w.slot (Err t) → Stops medium c c' w r
no_entry medium c c' w t r a = λ d uses ch bytes blocks h e. absurd (slot_there medium c d uses ch w bytes blocks t h e a)

pub no_slot : (medium : ℕ) (c c' : Content) (w : Filling) (o : Option (List ℕ)) (r : Result (Unit {0}) Trouble) → o ≡ None → Answers (directory_of (geometry_of medium c) c) w.slot (Ok o) → Finishes medium c c' w r
no_slot medium c c' w o r z a = λ d uses ch bytes blocks h e. absurd (slot_not_past medium c d uses ch w bytes blocks h e (subst (λ (x : Option (List ℕ)). Answers (directory_of (geometry_of medium c) c) w.slot (Ok x)) z a))

pub last_refused : (medium : ℕ) (c c' : Content) (w : Filling) (r : Result (Unit {0}) Trouble) → c' ≡ c → Stops medium c c' w r
last_refused medium c c' w r same = λ d uses ch bytes blocks h e. on_err r (record {
  disk = d;
  holds = subst (λ (x : Content). HoldsNow medium x d (with_use uses ch Idle)) (sym same) (record { layout = h.layout; so = let_go (geometry_of medium c) c h.layout d uses ch h.so });
  either = λ n. inl refl;
  total = refl;
})

-- what stands when the last block is written
pub record IsLast (medium : ℕ) (c c' : Content) (l : Layout) (d : Disk) (uses : ℕ → Use) (ch : ℕ) : Type 0 where
  pub holds : HoldsAt (geometry_of medium c) c' l d (with_use uses ch Idle)
  pub same : geometry_of medium c' ≡ geometry_of medium c

pub last_written : (medium : ℕ) (c c' : Content) (l : Layout) (d : Disk) (uses : ℕ → Use) (ch : ℕ) (w : Filling) (bytes : List ℕ) (blocks : ℕ) → HoldsAt (geometry_of medium c) c l d uses → IsWriting (geometry_of medium c) c l d ch w bytes blocks
    → EndsChain c c' w.chain.current w.chain.waiting → IsLast medium c c' l d uses ch
last_written medium c c' l d uses ch w bytes blocks h was ends = by_current w.chain.current refl ends
  where
    tracks : ℕ
    tracks = geometry_of medium c

    by_places : (places : List Place) (p : Place) → OwnedBy l.owner (Writer ch) places → Some p ≡ last_block_of places → l.owner p ≡ Writer ch
    by_places [] p held z = absurd (cc)
    by_places (b ∷ rest) p held z = (let at : p ≡ last_of b rest = cc in ap l.owner at ∙ last_owned l.owner (Writer ch) b rest held)

    by_current : (x : Option Place) → w.chain.current ≡ x → EndsChain c c' x w.chain.waiting → IsLast medium c c' l d uses ch
    by_current None z e = record { holds = subst (λ (y : Content). HoldsAt tracks y l d (with_use uses ch Idle)) (sym e) (let_go tracks c l d uses ch h); same = ap (geometry_of medium) e }
    by_current (Some p) z e =
        let mine : l.owner p ≡ Writer ch = by_places was.places p was.owned (sym z ∙ was.wrote.current) in
        let new : c' ≡ written c p e.0 = e.3 in
        let off : p.track ≢ 18 = (subst (IsForFiles w.chain.tracks) z (for_files c w.chain was.places bytes was.wrote)).1 in
        record {
          holds = holds_step tracks c c' l l d d uses ch Idle (is_ch ch) (λ n. false) h (stands_loose tracks c c' l d p e.0 h.stands (ap is_loose mine) new)
              (record {
                writers = λ x out. written_keeps c c' p e.0 l.owner (Writer x) new (λ y. (let k = sym mine ∙ y in let g : x ≡ ch = cc in let t = sym (eq-eqb x ch g) ∙ out in (cc)));
                writers_own = λ x q out k. k;
                files = λ n no. written_keeps c c' p e.0 l.owner (DataOf n) new (λ y. (let k = sym mine ∙ y in (cc)));
                files_own = λ n q no k. k;
                more = omega arith;
                slots = λ n no. refl;
              }) (λ m ne. ne_eqb m ch ne) (λ m n ne k. refl) (idle_like (uses ch)) tt;
          same = geometry_elsewhere medium c c' (ap (λ (x : Content). x directory_head) new ∙ written_elsewhere c p directory_head e.0 (λ k. off (ap (λ (y : Place). y.track) k)));
        }

pub entry_refused : (medium : ℕ) (c c1 c' : Content) (w : Filling) (r : Result (Unit {0}) Trouble) → EndsChain c c1 w.chain.current w.chain.waiting → OnErr r (c' ≡ c1) → Stops medium c c' w r
entry_refused medium c c1 c' w (Ok x) ends same = λ d uses ch bytes blocks h e. tt
entry_refused medium c c1 c' w (Err t) ends same = λ d uses ch bytes blocks h e.
    let was : IsWriting (geometry_of medium c) c h.layout d ch w bytes blocks = subst (λ (x : Use). IsUsed (geometry_of medium c) c h.layout d ch x) e (h.so.each ch) in
    let last : IsLast medium c c1 h.layout d uses ch = last_written medium c c1 h.layout d uses ch w bytes blocks h.so was ends in
    record {
      disk = d;
      holds = subst (λ (x : Content). HoldsNow medium x d (with_use uses ch Idle)) (sym same) (subst (λ (n : ℕ). Holds n c1 d (with_use uses ch Idle)) (sym last.same) (record { layout = h.layout; so = last.holds }));
      either = λ n. inl refl;
      total = refl;
    }

-- a file that has no block, as none was free for its first byte
closed_empty : (tracks : ℕ) (c c2 : Content) (l : Layout) (d : Disk) (uses : ℕ → Use) (ch : ℕ) (w : Filling) (bytes : List ℕ) (blocks : ℕ) (body : List ℕ) → HoldsAt tracks c l d uses → uses ch ≡ Writes w bytes blocks
    → (was : IsWriting tracks c l d ch w bytes blocks) → bytes ≡ [] → blocks ≡ 0 → Enters c c2 (sector_of l.directory w.slot) (w.slot % 8) body
    → IsClosedAs (entry_at c l.directory w.slot) body (record { track = 0; sector = 0 }) 0
    → HoldsAt tracks c2 (with_file l w.slot no_blocks l.owner) (with_slot d w.slot (Some (finished was.file bytes blocks))) (with_use uses ch Idle)
closed_empty tracks c c2 l d uses ch w bytes blocks body h e was none nought enters says =
    let n : ℕ = w.slot in
    let entry : List ℕ = entry_at c l.directory n in
    let kind : type_byte entry % 16 < 5 = h.stands.sound.kinds n was.there in
    let in_slot : slot_with (chain_bytes c (l.files n).data_blocks) entry (l.files n) ≡ Some was.file = sym (h.stands.describes.slots n was.there) ∙ was.in_slot in
    let file : slot_of c body no_blocks ≡ Some (finished was.file bytes blocks) =
    closed_file entry body (chain_bytes c (l.files n).data_blocks) [] (record { track = 0; sector = 0 }) 0 (l.files n) no_blocks was.file says in_slot was.plain kind refl
    ∙ ap (λ (x : List ℕ). Some (finished was.file x 0)) (sym none) ∙ ap (λ (x : ℕ). Some (finished was.file bytes x)) (sym nought) in
    let low : type_byte body % 16 ≡ type_byte entry % 16 = omega (arith, says.type) in
    let closed : is_closed body ≡ true = ap (λ (n : ℕ). bit_of n 7) says.type ∙ ap (λ (n : ℕ). n == 1) (let seven : (type_byte entry % 128 + 128) / 128 % 2 ≡ 1 = omega arith in seven) in
    let plain : is_relative body ≡ false = ap (λ (n : ℕ). n == 4) low
    ∙ (let f = some_file (chain_bytes c (l.files n).data_blocks) entry (l.files n) was.file in_slot in plain_entry (chain_bytes c (l.files n).data_blocks) entry (l.files n) kind (ap (λ (x : File). is_same_type Rel x.kind) f.1 ∙ was.plain)) in
    let lies : Lies tracks c body no_blocks = subst (λ (x : Bool). LiesAs x (is_relative body) tracks c body no_blocks) (sym closed) (subst (λ (x : Bool). LiesAs true x tracks c body no_blocks) (sym plain) (says.track, refl)) in
    let stands : HasLayout tracks c2 (with_file l n no_blocks l.owner) (with_slot d n (slot_of c body no_blocks)) =
    stands_entry tracks c c2 l d n (sector_of l.directory n) body no_blocks l.owner h.stands was.there refl enters (omega (arith, low, kind)) lies (extends_itself l n h.stands.sound.owned) tt tt h.stands.sound.free in
    let keeps : (o : Owner) → Directory ≢ o → Keeps c c2 l.owner o = λ o z. written_keeps c c2 (sector_of l.directory n) enters.sector l.owner o enters.written (λ y. z (sym (sector_owned l h.stands.sound.owned n was.there) ∙ y)) in
    holds_step tracks c c2 l (with_file l n no_blocks l.owner) d (with_slot d n (Some (finished was.file bytes blocks))) uses ch Idle (λ x. false) (λ m. m == n) h
    (subst (λ (x : Option File). HasLayout tracks c2 (with_file l n no_blocks l.owner) (with_slot d n x)) file stands)
    (record {
      writers = λ x out. keeps (Writer x) (λ z. (cc));
      writers_own = λ x q out z. z;
      files = λ m ne. keeps (DataOf m) (λ z. (cc));
      files_own = λ m q ne z. z;
      more = omega arith;
      slots = λ m ne. other_slot d n m (Some (finished was.file bytes blocks)) ne;
    }) (λ m ne. refl) (others_spared uses ch n w bytes blocks h.alone e refl) (idle_like (uses ch)) tt

-- THE FILE IS CLOSED, of whatever blocks
pub all_closed : (medium : ℕ) (c c1 c2 : Content) (w : Filling) (r : Result (Unit {0}) Trouble) (entry body : List ℕ) → Answers (directory_of (geometry_of medium c) c) w.slot (Ok (Some entry)) → EndsChain c c1 w.chain.current w.chain.waiting
    → IsClosedAs entry body (place_or_none w.chain.first) w.chain.count
    → ((directory : List Place) → Chain (geometry_of medium c) c1 first_directory directory → w.slot < 8 * length directory → OnOk r (Enters c1 c2 (sector_of directory w.slot) (w.slot % 8) body))
    → Finishes medium c c2 w r
all_closed medium c c1 c2 w (Err t) entry body found ends says put = λ d uses ch bytes blocks h e. tt
all_closed medium c c1 c2 w (Ok x) entry body found ends says put = λ d uses ch bytes blocks h e. close d uses ch bytes blocks h e
  where
    close : (d : Disk) (uses : ℕ → Use) (ch : ℕ) (bytes : List ℕ) (blocks : ℕ) → (h : HoldsNow medium c d uses) → uses ch ≡ Writes w bytes blocks → HoldsNow medium c2 (with_finished d w.slot bytes blocks) (with_use uses ch Idle)
    close d uses ch bytes blocks h e =
        let tracks : ℕ = geometry_of medium c in
        let l : Layout = h.layout in
        let n : ℕ = w.slot in
        let was : IsWriting tracks c l d ch w bytes blocks = subst (λ (x : Use). IsUsed tracks c l d ch x) e (h.so.each ch) in
        let last : IsLast medium c c1 l d uses ch = last_written medium c c1 l d uses ch w bytes blocks h.so was ends in
        let enters : Enters c1 c2 (sector_of l.directory n) (n % 8) body = put l.directory last.holds.stands.sound.directory was.there in
        let is_it : entry ≡ entry_at c l.directory n = (entry_found tracks c l n entry h.so.stands.sound found).1 in
        let says' : IsClosedAs (entry_at c l.directory n) body (place_or_none w.chain.first) blocks =
        subst (λ (k : ℕ). IsClosedAs (entry_at c l.directory n) body (place_or_none w.chain.first) k) (counted medium c l d ch w bytes blocks h.so.stands.sound was)
        (subst (λ (x : List ℕ). IsClosedAs x body (place_or_none w.chain.first) w.chain.count) is_it says) in
        let apart : sector_of l.directory n ≢ directory_head = λ k. (let z = sym (sector_owned l h.so.stands.sound.owned n was.there) ∙ ap l.owner k ∙ h.so.stands.sound.owned.map in (cc)) in
        let same : geometry_of medium c2 ≡ tracks = geometry_elsewhere medium c1 c2 (ap (λ (x : Content). x directory_head) enters.written ∙ written_elsewhere c1 (sector_of l.directory n) directory_head enters.sector apart) ∙ last.same in
        let disk : with_finished d n bytes blocks ≡ with_slot d n (Some (finished was.file bytes blocks)) = ap (λ (x : Option File). finished_in x d n bytes blocks) was.in_slot in
        subst (λ (k : ℕ). Holds k c2 (with_finished d n bytes blocks) (with_use uses ch Idle)) (sym same)
        (subst (λ (x : Disk). Holds tracks c2 x (with_use uses ch Idle)) (sym disk)
        (by_places was.places was.owned was.wrote was.number was enters says'))
      where
        by_places : (places : List Place) → OwnedBy h.layout.owner (Writer ch) places → Wrote c w.chain places bytes → blocks ≡ length places → (was : IsWriting (geometry_of medium c) c h.layout d ch w bytes blocks)
            → Enters c1 c2 (sector_of h.layout.directory w.slot) (w.slot % 8) body → IsClosedAs (entry_at c h.layout.directory w.slot) body (place_or_none w.chain.first) blocks
            → Holds (geometry_of medium c) c2 (with_slot d w.slot (Some (finished was.file bytes blocks))) (with_use uses ch Idle)
        by_places [] held wrote number was enters says =
            let same : c1 ≡ c = subst (λ (x : Option Place). EndsChain c c1 x w.chain.waiting) wrote.current ends in
            record {
              layout = _;
              so = closed_empty (geometry_of medium c) c c2 h.layout d uses ch w bytes blocks body h.so e was (wrote.all ∙ wrote.none wrote.current) number
                  (subst (λ (x : Content). Enters x c2 (sector_of h.layout.directory w.slot) (w.slot % 8) body) same enters)
                  (subst (λ (k : ℕ). IsClosedAs (entry_at c h.layout.directory w.slot) body (record { track = 0; sector = 0 }) k) number (subst (λ (x : Option Place). IsClosedAs (entry_at c h.layout.directory w.slot) body (place_or_none x) blocks) wrote.first says));
            }
        by_places (b ∷ rest) held wrote number was enters says =
            let e1 : IsEnded (geometry_of medium c) c1 h.layout d ch b rest bytes = ended (geometry_of medium c) c c1 h.layout d ch w.chain b rest bytes h.so.stands held wrote was.same_tracks ends in
            let some : EndsChain c c1 (Some (last_of b rest)) w.chain.waiting = subst (λ (x : Option Place). EndsChain c c1 x w.chain.waiting) wrote.current ends in
            record {
              layout = _;
              so = closed_over (geometry_of medium c) c c1 c2 h.layout d uses ch w bytes blocks b rest (last_of b rest) some.0 body h.so e was held number some.3 (last_owned h.layout.owner (Writer ch) b rest held) e1 enters
                  (subst (λ (x : Option Place). IsClosedAs (entry_at c h.layout.directory w.slot) body (place_or_none x) blocks) wrote.first says);
            }

-- ---- on any disk

-- there is no such slot
pub finish_nowhere : (old : Seen) (n : ℕ) (o : Option (List ℕ)) (P : List ℕ → Type 0) → o ≡ None → Answers (seen_directory old) n (Ok o) → AtSlot old old n P
finish_nowhere old n o P none h = inl (subst (λ (x : Option (List ℕ)). Answers (seen_directory old) n (Ok x)) none h, refl)

-- the entry that was found is closed, where the directory leads after the last block
pub entry_closed : (old : Seen) (mid new : Content) (w : Filling) (k n : ℕ) (p : Place) (entry body : List ℕ) → EndsChain old.content mid w.chain.current w.chain.waiting
    → k ≡ seen_tracks old → p ≡ place_or_none w.chain.first → n ≡ w.chain.count → body ≡ closed_entry entry p n → EntersLed k mid new w.slot body → ClosesEntry old new w entry
entry_closed old mid new w k n p entry body ended size first count is put = (
  mid,
  ended,
  subst (λ (e : List ℕ). EntersLed (seen_tracks old) mid new w.slot e) (is ∙ ap (λ (q : Place). closed_entry entry q n) first ∙ ap (closed_entry entry (place_or_none w.chain.first)) count)
      (subst (λ (m : ℕ). EntersLed m mid new w.slot body) size put),
)
