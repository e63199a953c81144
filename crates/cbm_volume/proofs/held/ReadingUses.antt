-- Channels that read: what a reader still gives lies in blocks of its file.
use Rattle.std.proofs.Common.{◌≡◌, ◌⊎◌, ℕ, ◌<◌, List, [], ◌∷◌, ◌++◌, drop, Bool, true, false, refl, sym, ap, subst, ◌∙◌, inl, inr, Some, None, Result, Ok, Err, IsOk}
use Rattle.std.specs.Prelude.{◌==◌, IfOk, IfErr, IsOkAnd, OnOk}
use Rattle.std.proofs.lemmas.Bool.{cases_eq, eq-eqb, ne_eqb}
use Rattle.cbm_medium.specs.Place.{Place, sector_count}
use Rattle.cbm_medium.specs.Content.{Content}
use Rattle.cbm_medium.specs.Links.{Chain, Followed, follow, ended, with_block}
use Rattle.cbm_medium.specs.declared.fault.Trouble.{Trouble}
use Rattle.cbm_medium.proofs.Walks.{follow_end, chain_followed}
use Rattle.cbm_file.specs.Files.{File, Disk}
use Rattle.cbm_bam.specs.Map.{geometry_of}
use Rattle.cbm_chain.specs.Data.{chain_bytes}
use Rattle.cbm_chain.specs.Reading.{Reading, RestOfFile, rest_of, held_from, held_in, with_front, one_less, BeginsAt, GoesAlong}
use Rattle.cbm_directory.specs.Entries.{is_closed, is_relative, first_block, entry_at}
use Rattle.cbm_volume.specs.Holding.{EntryStandsAt, HasBytes}
use Rattle.cbm_directory.specs.Slots.{Answers, directory_of}
use Rattle.cbm_volume.specs.Layouts.{Owner, DataOf, OwnedBy, Layout, slot_count, HasLayout}
use Rattle.cbm_volume.specs.Writers.{Use, Reads, IsReading, IsUsed, uses_slot, writes_slot, IsAlone, HoldsAt, HoldsNow, with_use}
use Rattle.cbm_volume.proofs.layouts.Lengths.{file_length}
use Rattle.cbm_volume.proofs.layouts.Listing.{entry_found, closed_chain, closed_of, geometry_size}
use Rattle.cbm_volume.proofs.written.Closing.{some_file}
use Rattle.cbm_volume.proofs.layouts.Writers.{use_here, use_other}

-- no channel writes the slot
abbrev pub IsUnwritten : (ℕ → Use) → ℕ → Type 0
IsUnwritten uses n = (m : ℕ) → writes_slot n (uses m) ≡ false

-- the rest of a chain of which a first block was read
rest_owned : (owner : Place → Owner) (o : Owner) (a : Place) (x : Followed) (xs : List Place) → with_block a x ≡ ended xs → OwnedBy owner o xs → (x ≡ ended x.blocks) × OwnedBy owner o x.blocks
rest_owned owner o a x xs e held =
    let trouble : x.trouble ≡ None = ap (λ (f : Followed). f.trouble) e in
    let all : a ∷ x.blocks ≡ xs = ap (λ (f : Followed). f.blocks) e in
    ((λ i. record { blocks = x.blocks; trouble = trouble i }), (subst (λ (ys : List Place). OwnedBy owner o ys) (sym all) held).1)

-- one channel reads the slot, and goes on to
pub holds_reading : (tracks : ℕ) (c : Content) (l : Layout) (d : Disk) (uses : ℕ → Use) (ch n : ℕ) (r : Reading) (left : List ℕ) → HoldsAt tracks c l d uses → IsUnwritten uses n → IsReading tracks c l d n r left → HoldsAt tracks c l d (with_use uses ch (Reads n r left))
holds_reading tracks c l d uses ch n r left h unwritten k = record {
  stands = h.stands;
  each = λ m. elim (cases_eq m ch) [
    | inl e ↦ subst (λ (i : ℕ). IsUsed tracks c l d i (with_use uses ch (Reads n r left) i)) (sym e) (subst (λ (x : Use). IsUsed tracks c l d ch x) (sym (use_here uses ch (Reads n r left))) k)
    | inr ne ↦ subst (λ (x : Use). IsUsed tracks c l d m x) (sym (use_other uses ch m (Reads n r left) ne)) (h.each m)
  ];
  alone = λ a b i wa hb. elim (cases_eq a ch) [
    | inl ea ↦ absurd (let z = ap (writes_slot i) (sym (use_here uses ch (Reads n r left))) ∙ ap (λ (x : ℕ). writes_slot i (with_use uses ch (Reads n r left) x)) (sym ea) ∙ wa in (cc))
    | inr na ↦ (let wa' : writes_slot i (uses a) ≡ true = ap (writes_slot i) (sym (use_other uses ch a (Reads n r left) na)) ∙ wa in
        elim (cases_eq b ch) [
          | inl eb ↦ absurd (let mine : (n == i) ≡ true = ap (uses_slot i) (sym (use_here uses ch (Reads n r left))) ∙ ap (λ (x : ℕ). uses_slot i (with_use uses ch (Reads n r left) x)) (sym eb) ∙ hb in
              let z = sym (unwritten a) ∙ ap (λ (x : ℕ). writes_slot x (uses a)) (same_slot n i mine) ∙ wa' in (cc))
          | inr nb ↦ h.alone a b i wa' (ap (uses_slot i) (sym (use_other uses ch b (Reads n r left) nb)) ∙ hb)
        ])
  ];
}
  where
    same_slot : (x y : ℕ) → (x == y) ≡ true → x ≡ y
    same_slot x y t = elim (cases_eq x y) [ inl e ↦ e | inr ne ↦ absurd (let z = sym (ne_eqb x y ne) ∙ t in (cc)) ]

-- a channel that reads a slot: nobody writes it
pub read_unwritten : (uses : ℕ → Use) (ch n : ℕ) (r : Reading) (left : List ℕ) → IsAlone uses → uses ch ≡ Reads n r left → IsUnwritten uses n
read_unwritten uses ch n r left alone e m = by_test (writes_slot n (uses m)) refl
  where
    by_test : (b : Bool) → writes_slot n (uses m) ≡ b → b ≡ false
    by_test false k = refl
    by_test true k = absurd (let same : m ≡ ch = alone m ch n k (ap (uses_slot n) e ∙ eq-eqb n n refl) in
        let z = sym k ∙ ap (λ (x : ℕ). writes_slot n (uses x)) same ∙ ap (writes_slot n) e in (cc))

-- what a reader still gives, whose chain ends well
pub rest_is : (c : Content) (r : Reading) (blocks : List Place) → follow r.tracks c r.left r.next ≡ ended blocks → rest_of c r ≡ (record { bytes = r.bytes ++ chain_bytes c blocks; trouble = None })
unfolding rest_of held_from
rest_is c r blocks e = ap (λ (f : Followed). with_front r.bytes (held_in c f)) e

all_of : (c : Content) (r : Reading) (blocks : List Place) (left : List ℕ) → follow r.tracks c r.left r.next ≡ ended blocks → (rest_of c r).bytes ≡ left → left ≡ r.bytes ++ chain_bytes c blocks
all_of c r blocks left e f = sym f ∙ ap (λ (x : RestOfFile). x.bytes) (rest_is c r blocks e)

-- the reader goes along
pub reading_along : (tracks : ℕ) (c : Content) (l : Layout) (d : Disk) (n : ℕ) (left : List ℕ) (old new : Reading) → IsReading tracks c l d n old left → new.tracks ≡ old.tracks → GoesAlong c old new
    → rest_of c new ≡ one_less (rest_of c old) → IsReading tracks c l d n new (drop 1 left)
reading_along tracks c l d n left old new k same goes less = by_goes goes
  where
    less_left : (rest_of c new).bytes ≡ drop 1 left
    less_left = ap (λ (x : RestOfFile). x.bytes) (less ∙ ap one_less (rest_is c old k.blocks k.followed)) ∙ ap (drop 1) (sym k.all)

    by_goes : GoesAlong c old new → IsReading tracks c l d n new (drop 1 left)
    by_goes (inl stays) =
        let followed : follow new.tracks c new.left new.next ≡ ended k.blocks = (λ i. follow (same i) c (stays.1 i) (stays.0 i)) ∙ k.followed in
        record {
          blocks = k.blocks;
          followed = followed;
          all = all_of c new k.blocks (drop 1 left) followed less_left;
          owned = k.owned;
          there = k.there;
          file = k.file;
          in_slot = k.in_slot;
        }
    by_goes (inr on) =
        let rest = rest_owned l.owner (DataOf n) old.next (follow old.tracks c new.left new.next) k.blocks (sym on ∙ k.followed) k.owned in
        let followed : follow new.tracks c new.left new.next ≡ ended (follow old.tracks c new.left new.next).blocks = ap (λ (t : ℕ). follow t c new.left new.next) same ∙ rest.0 in
        record {
          blocks = (follow old.tracks c new.left new.next).blocks;
          followed = followed;
          all = all_of c new (follow old.tracks c new.left new.next).blocks (drop 1 left) followed less_left;
          owned = rest.1;
          there = k.there;
          file = k.file;
          in_slot = k.in_slot;
        }

pub read_along : (medium : ℕ) (c : Content) (d : Disk) (uses : ℕ → Use) (ch n : ℕ) (left : List ℕ) (old new : Reading) → HoldsNow medium c d uses → uses ch ≡ Reads n old left → new.tracks ≡ old.tracks → GoesAlong c old new
    → rest_of c new ≡ one_less (rest_of c old) → HoldsNow medium c d (with_use uses ch (Reads n new (drop 1 left)))
read_along medium c d uses ch n left old new h e same goes less =
    let k : IsReading (geometry_of medium c) c h.layout d n old left = subst (λ (x : Use). IsUsed (geometry_of medium c) c h.layout d ch x) e (h.so.each ch) in
    record { layout = h.layout; so = holds_reading (geometry_of medium c) c h.layout d uses ch n new (drop 1 left) h.so (read_unwritten uses ch n old left h.so.alone e) (reading_along (geometry_of medium c) c h.layout d n left old new k same goes less) }

-- on a sound disk nothing breaks off what is left to be read
pub read_whole : (medium : ℕ) (c : Content) (d : Disk) (uses : ℕ → Use) (ch n : ℕ) (left : List ℕ) (r : Reading) → HoldsNow medium c d uses → uses ch ≡ Reads n r left → rest_of c r ≡ (record { bytes = left; trouble = None })
read_whole medium c d uses ch n left r h e =
    let k : IsReading (geometry_of medium c) c h.layout d n r left = subst (λ (x : Use). IsUsed (geometry_of medium c) c h.layout d ch x) e (h.so.each ch) in
    rest_is c r k.blocks k.followed ∙ (λ i. record { bytes = sym k.all i; trouble = None })

-- A closed file with bytes is begun to be read.
pub reading_begun : (tracks : ℕ) (c : Content) (l : Layout) (d : Disk) (n : ℕ) (entry bytes : List ℕ) (r : Reading) → (tracks ≡ 35) ⊎ (tracks ≡ 40) → HasLayout tracks c l d → Answers (directory_of tracks c) n (Ok (Some entry)) → HasBytes d n bytes
    → r.tracks ≡ tracks → BeginsAt c tracks (first_block entry) r → rest_of c r ≡ (record { bytes = bytes; trouble = None }) → IsReading tracks c l d n r bytes
reading_begun tracks c l d n entry bytes r size st stands has same begins rest = by_begins begins
  where
    found : (n < slot_count l) × (entry ≡ entry_at c l.directory n)
    found = entry_found tracks c l n entry st.sound stands

    xs : List Place
    xs = (l.files n).data_blocks

    closed : is_closed (entry_at c l.directory n) ≡ true
    closed = sym (closed_of (chain_bytes c xs) (entry_at c l.directory n) (l.files n)) ∙ ap (λ (f : File). f.closed) (some_file (chain_bytes c xs) (entry_at c l.directory n) (l.files n) has.file (sym (st.describes.slots n found.0) ∙ has.in_slot)).1 ∙ has.closed

    chain : Chain tracks c (first_block entry) xs
    chain = subst (λ (x : List ℕ). Chain tracks c (first_block x) xs) (sym found.1) (closed_chain (is_closed (entry_at c l.directory n)) (is_relative (entry_at c l.directory n)) tracks c (entry_at c l.directory n) (l.files n) closed (st.sound.lies n found.0))

    held : OwnedBy l.owner (DataOf n) xs
    held = st.sound.owned.blocks n found.0

    whole : follow tracks c (sector_count tracks) (first_block entry) ≡ ended xs
    whole = chain_followed tracks c xs (sector_count tracks) (first_block entry) chain (file_length tracks c l n (first_block entry) xs size st.sound chain held)

    left : (rest_of c r).bytes ≡ bytes
    left = ap (λ (x : RestOfFile). x.bytes) rest

    by_begins : BeginsAt c tracks (first_block entry) r → IsReading tracks c l d n r bytes
    by_begins (inl end) =
        let followed : follow r.tracks c r.left r.next ≡ ended [] = follow_end r.tracks c r.left r.next end.1 in
        record { blocks = []; followed = followed; all = all_of c r [] bytes followed left; owned = tt; there = found.0; file = has.file; in_slot = has.in_slot }
    by_begins (inr on) =
        let tail = rest_owned l.owner (DataOf n) (first_block entry) (follow tracks c r.left r.next) xs (sym on.1 ∙ whole) held in
        let followed : follow r.tracks c r.left r.next ≡ ended (follow tracks c r.left r.next).blocks = ap (λ (t : ℕ). follow t c r.left r.next) same ∙ tail.0 in
        record {
          blocks = (follow tracks c r.left r.next).blocks;
          followed = followed;
          all = all_of c r (follow tracks c r.left r.next).blocks bytes followed left;
          owned = tail.1;
          there = found.0;
          file = has.file;
          in_slot = has.in_slot;
        }

pub read_begun : (medium : ℕ) (c : Content) (d : Disk) (uses : ℕ → Use) (ch n : ℕ) (entry bytes : List ℕ) (r : Reading) → HoldsNow medium c d uses → EntryStandsAt medium c n entry → HasBytes d n bytes → IsUnwritten uses n
    → r.tracks ≡ geometry_of medium c → BeginsAt c (geometry_of medium c) (first_block entry) r → rest_of c r ≡ (record { bytes = bytes; trouble = None }) → HoldsNow medium c d (with_use uses ch (Reads n r bytes))
read_begun medium c d uses ch n entry bytes r h stands has unwritten same begins rest = record {
  layout = h.layout;
  so = holds_reading (geometry_of medium c) c h.layout d uses ch n r bytes h.so unwritten (reading_begun (geometry_of medium c) c h.layout d n entry bytes r (geometry_size medium c) h.so.stands stands has same begins rest);
}

-- the clauses of the calls
pub begun_ok : (medium : ℕ) (c : Content) (entry : List ℕ) (r : Result Reading Trouble) → IfOk r (λ x. x.tracks ≡ geometry_of medium c) → IfOk r (λ x. BeginsAt c (geometry_of medium c) (first_block entry) x)
    → (d : Disk) (uses : ℕ → Use) (ch n : ℕ) (bytes : List ℕ) → HoldsNow medium c d uses → EntryStandsAt medium c n entry → HasBytes d n bytes → IsUnwritten uses n → IsOkAnd r (λ x. rest_of c x ≡ (record { bytes = bytes; trouble = None }))
    → IfOk r (λ x. HoldsNow medium c d (with_use uses ch (Reads n x bytes)))
begun_ok medium c entry (Ok x) same begins d uses ch n bytes h stands has unwritten rest = read_begun medium c d uses ch n entry bytes x h stands has unwritten same begins rest
begun_ok medium c entry (Err t) same begins d uses ch n bytes h stands has unwritten rest = tt

pub along_ok : (medium : ℕ) (c : Content) (old new : Reading) (r : Result (Unit {0}) Trouble) → new.tracks ≡ old.tracks → OnOk r (GoesAlong c old new) → OnOk r (rest_of c new ≡ one_less (rest_of c old))
    → IfErr r (λ t. (rest_of c old).trouble ≡ Some t)
    → (d : Disk) (uses : ℕ → Use) (ch n : ℕ) (left : List ℕ) → HoldsNow medium c d uses → uses ch ≡ Reads n old left → IsOk r × HoldsNow medium c d (with_use uses ch (Reads n new (drop 1 left)))
along_ok medium c old new (Ok x) same goes less bad d uses ch n left h e = (refl, read_along medium c d uses ch n left old new h e same goes less)
along_ok medium c old new (Err t) same goes less bad d uses ch n left h e = absurd (let z = sym bad ∙ ap (λ (x : RestOfFile). x.trouble) (read_whole medium c d uses ch n left old h e) in (cc))
