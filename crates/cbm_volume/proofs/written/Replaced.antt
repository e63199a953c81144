-- A replacement is closed: its chain goes into the slot, and the old file's blocks are given back.
use Rattle.std.proofs.Common.{◌≡◌, ◌≢◌, ℕ, ◌+◌, ◌/◌, ◌%◌, ◌<◌, ◌≤◌, length, arith, List, [], ◌∷◌, Bool, true, false, refl, sym, ap, subst, ◌∙◌, inl, inr, Option, Some}
use Rattle.std.specs.Prelude.{◌==◌}
use Rattle.std.proofs.lemmas.Bool.{eq-eqb, ne_eqb}
use Rattle.cbm_medium.specs.Place.{Place, directory_head}
use Rattle.cbm_medium.specs.Content.{Content, written}
use Rattle.cbm_medium.specs.Links.{Chain}
use Rattle.cbm_file.specs.declared.file_type.FileType.TheVariants.{Rel}
use Rattle.cbm_file.specs.Types.{is_same_type}
use Rattle.cbm_file.specs.Files.{File, Disk, with_slot}
use Rattle.cbm_bam.specs.Map.{is_free_in, with_freed, map_of, Remaps}
use Rattle.cbm_bam.proofs.Counts.{AreTaken}
use Rattle.cbm_chain.specs.Data.{chain_bytes}
use Rattle.cbm_directory.specs.Entries.{IsClosedAs, Enters, type_byte, is_closed, is_relative, first_block, bit_of, entry_at, sector_of}
use Rattle.cbm_volume.specs.Blocks.{Blocks, Lies, LiesAs, slot_of, slot_with}
use Rattle.cbm_volume.specs.Layouts.{Owner, Nobody, TheMap, Directory, DataOf, SideOf, Writer, is_loose, OwnedBy, Layout, IsOwned, HasLayout, Extends}
use Rattle.cbm_file.specs.Changes.{finished}
use Rattle.cbm_volume.specs.Writers.{Filling, Use, Idle, Writes, IsWriting, uses_slot, HoldsAt, with_use}
use Rattle.cbm_volume.proofs.layouts.Frames.{Keeps, owned_same}
use Rattle.cbm_volume.proofs.layouts.Loose.{sector_owned}
use Rattle.cbm_volume.proofs.layouts.OneSlot.{with_file}
use Rattle.cbm_volume.proofs.layouts.Remaps.{with_owner}
use Rattle.cbm_volume.proofs.layouts.Steps.{stands_entry}
use Rattle.cbm_volume.proofs.written.Finishes.{own_all, own_all_was, own_all_keeps, own_all_there, all_off_18, part_off, AllOff}
use Rattle.cbm_chain.proofs.Parts.{part_chain}
use Rattle.cbm_volume.proofs.layouts.Releases.{disowned, disowned_keeps}
use Rattle.cbm_volume.proofs.layouts.Writers.{Spares, used_kept, holds_step, idle_like, written_keeps, keeps_then}
use Rattle.cbm_volume.proofs.written.Closing.{is_ch, other_slot, others_spared, some_file, plain_entry, closed_file, IsEnded}
use Rattle.cbm_volume.proofs.written.GivenBack.{stands_given_back}

-- ---- a step that no channel notices

pub holds_all : (tracks : ℕ) (c c' : Content) (l l' : Layout) (d d' : Disk) (uses : ℕ → Use) (changes : ℕ → Bool) → HoldsAt tracks c l d uses → HasLayout tracks c' l' d' → Spares c c' l l' d d' (λ x. false) changes
    → ((m n : ℕ) → uses_slot n (uses m) ≡ true → changes n ≡ false) → HoldsAt tracks c' l' d' uses
holds_all tracks c c' l l' d d' uses changes h st s spared =
    record { stands = st; each = λ m. used_kept tracks c c' l l' d d' (λ x. false) changes m (uses m) s refl (spared m) (h.each m); alone = h.alone }

-- BLOCKS OF NOBODY ARE GIVEN BACK, and no channel notices
pub holds_given_back : (tracks : ℕ) (c c' : Content) (l : Layout) (d : Disk) (uses : ℕ → Use) (xs : List Place) → 18 ≤ tracks → HoldsAt tracks c l d uses → OwnedBy l.owner Nobody xs → AreTaken tracks (is_free_in (map_of c)) xs
    → Remaps tracks c c' (with_freed (is_free_in (map_of c)) xs) → HoldsAt tracks c' (with_owner l (disowned l.owner xs)) (record d { free = d.free + length xs }) uses
holds_given_back tracks c c' l d uses xs few h held taken r =
    let keeps : (o : Owner) → TheMap ≢ o → Keeps c c' l.owner o = λ o ne. written_keeps c c' directory_head r.map l.owner o r.written (λ e. ne (sym h.stands.sound.owned.map ∙ e)) in
    let owned : (o : Owner) (q : Place) → Nobody ≢ o → l.owner q ≡ o → disowned l.owner xs q ≡ o = λ o q ne. disowned_keeps l.owner o Nobody xs q ne held in
    holds_all tracks c c' l (with_owner l (disowned l.owner xs)) d (record d { free = d.free + length xs }) uses (λ n. false) h (stands_given_back tracks c c' l d Nobody xs h.stands few refl held taken r)
    (record {
      writers = λ x f. keeps (Writer x) (λ z. (cc));
      writers_own = λ x q f. owned (Writer x) q (λ z. (cc));
      files = λ n f. keeps (DataOf n) (λ z. (cc));
      files_own = λ n q f. owned (DataOf n) q (λ z. (cc));
      more = omega arith;
      slots = λ n f. refl;
    }) (λ m n f. refl)

-- ---- the new chain goes into the slot

-- the owners then: the old blocks are nobody's, the new ones the slot's
abbrev pub replaced : (Place → Owner) → List Place → List Place → ℕ → Place → Owner
replaced owner old new n = own_all (own_all owner old Nobody) new (DataOf n)

-- what had neither of these owners keeps its own
replaced_keeps : (owner : Place → Owner) (old new : List Place) (ch n : ℕ) (o : Owner) (q : Place) → OwnedBy owner (DataOf n) old → OwnedBy owner (Writer ch) new → DataOf n ≢ o → Writer ch ≢ o → owner q ≡ o → replaced owner old new n q ≡ o
replaced_keeps owner old new ch n o q held_old held ne_old ne e =
    own_all_keeps (own_all owner old Nobody) (Writer ch) (DataOf n) o new q
    (owned_same owner (own_all owner old Nobody) (Writer ch) new (λ p k. own_all_keeps owner (DataOf n) Nobody (Writer ch) old p held_old (λ z. (cc)) k) held) ne
    (own_all_keeps owner (DataOf n) Nobody o old q held_old ne_old e)

extends_replaced : (l : Layout) (ch n : ℕ) (old new : List Place) → IsOwned l → OwnedBy l.owner (DataOf n) old → OwnedBy l.owner (Writer ch) new → AllOff new → Extends l n (replaced l.owner old new n)
extends_replaced l ch n old new w held_old held off = record {
  keeps = λ q o k e. replaced_keeps l.owner old new ch n o q held_old held (λ z. k.not_data (sym z)) (λ z. (let y = ap is_loose z ∙ k.part in (cc))) e;
  on_18 = λ q e. elim (own_all_was (own_all l.owner old Nobody) new (DataOf n) q) [
    | inl a ↦ absurd (let z = sym a ∙ e in (cc))
    | inr b ↦ (elim (own_all_was l.owner old Nobody q) [ inl a ↦ absurd (let z = sym a ∙ sym b ∙ e in (cc)) | inr k ↦ w.on_18 q (sym k ∙ sym b ∙ e) ])
  ];
  off_18 = λ q t m. (λ e. at_18 (DataOf m) q t (λ z. (cc)) (w.off_18 q t m).0 (all_off_18 (own_all l.owner old Nobody) new (DataOf n) (DataOf m) q off t e), λ e. at_18 (SideOf m) q t (λ z. (cc)) (w.off_18 q t m).1 (all_off_18 (own_all l.owner old Nobody) new (DataOf n) (SideOf m) q off t e));
}
  where
    at_18 : (o : Owner) (q : Place) → q.track ≡ 18 → Nobody ≢ o → (l.owner q ≢ o) → own_all l.owner old Nobody q ≡ o → ⊥
    at_18 o q t ne not_o e = elim (own_all_was l.owner old Nobody q) [ inl a ↦ ne (sym a ∙ e) | inr k ↦ not_o (sym k ∙ e) ]

pub replaced_over : (tracks : ℕ) (c c1 c2 : Content) (l : Layout) (d : Disk) (uses : ℕ → Use) (ch : ℕ) (w : Filling) (bytes : List ℕ) (blocks : ℕ) (b : Place) (rest : List Place) (p : Place) (sector body : List ℕ) → HoldsAt tracks c l d uses → uses ch ≡ Writes w bytes blocks
    → (was : IsWriting tracks c l d ch w bytes blocks) → OwnedBy l.owner (Writer ch) (b ∷ rest) → blocks ≡ length (b ∷ rest) → c1 ≡ written c p sector → l.owner p ≡ Writer ch → IsEnded tracks c1 l d ch b rest bytes
    → Enters c1 c2 (sector_of l.directory w.slot) (w.slot % 8) body → IsClosedAs (entry_at c l.directory w.slot) body b blocks
    → HoldsAt tracks c2 (with_file l w.slot (record { data_blocks = b ∷ rest; sides = [] }) (replaced l.owner (l.files w.slot).data_blocks (b ∷ rest) w.slot)) (with_slot d w.slot (Some (finished was.file bytes blocks))) (with_use uses ch Idle)
replaced_over tracks c c1 c2 l d uses ch w bytes blocks b rest p sector body h e was held number first_write mine e1 enters says =
    let n : ℕ = w.slot in
    let old : List Place = (l.files n).data_blocks in
    let blocks_new : Blocks = record { data_blocks = b ∷ rest; sides = [] } in
    let owner : Place → Owner = replaced l.owner old (b ∷ rest) n in
    let entry : List ℕ = entry_at c l.directory n in
    let held_old : OwnedBy l.owner (DataOf n) old = h.stands.sound.owned.blocks n was.there in
    let kind : type_byte entry % 16 < 5 = h.stands.sound.kinds n was.there in
    let in_slot : slot_with (chain_bytes c old) entry (l.files n) ≡ Some was.file = sym (h.stands.describes.slots n was.there) ∙ was.in_slot in
    let file : slot_of c1 body blocks_new ≡ Some (finished was.file bytes blocks) =
    closed_file entry body (chain_bytes c old) (chain_bytes c1 (b ∷ rest)) b blocks (l.files n) blocks_new was.file says in_slot was.plain kind (omega (arith, number))
    ∙ ap (λ (x : List ℕ). Some (finished was.file x blocks)) e1.bytes_are in
    let low : type_byte body % 16 ≡ type_byte entry % 16 = omega (arith, says.type) in
    let closed : is_closed body ≡ true = ap (λ (n : ℕ). bit_of n 7) says.type ∙ ap (λ (n : ℕ). n == 1) (let seven : (type_byte entry % 128 + 128) / 128 % 2 ≡ 1 = omega arith in seven) in
    let plain : is_relative body ≡ false = ap (λ (n : ℕ). n == 4) low
    ∙ (let f = some_file (chain_bytes c old) entry (l.files n) was.file in_slot in plain_entry (chain_bytes c old) entry (l.files n) kind (ap (λ (x : File). is_same_type Rel x.kind) f.1 ∙ was.plain)) in
    let first : first_block body ≡ b = λ i. record { track = says.track i; sector = says.sector i } in
    let chain : Chain tracks c1 (first_block body) (b ∷ rest) = subst (λ (x : Place). Chain tracks c1 x (b ∷ rest)) (sym first) (part_chain tracks c1 b rest e1.part e1.reads e1.ends) in
    let lies : Lies tracks c1 body blocks_new = subst (λ (x : Bool). LiesAs x (is_relative body) tracks c1 body blocks_new) (sym closed) (subst (λ (x : Bool). LiesAs true x tracks c1 body blocks_new) (sym plain) (chain, refl)) in
    let held0 : OwnedBy (own_all l.owner old Nobody) (Writer ch) (b ∷ rest) = owned_same l.owner (own_all l.owner old Nobody) (Writer ch) (b ∷ rest) (λ q k. own_all_keeps l.owner (DataOf n) Nobody (Writer ch) old q held_old (λ z. (cc)) k) held in
    let stands : HasLayout tracks c2 (with_file l n blocks_new owner) (with_slot d n (slot_of c1 body blocks_new)) =
    stands_entry tracks c1 c2 l d n (sector_of l.directory n) body blocks_new owner e1.stands was.there refl enters (omega (arith, low, kind)) lies
    (extends_replaced l ch n old (b ∷ rest) h.stands.sound.owned held_old held (part_off tracks c1 (b ∷ rest) e1.part)) (own_all_there (own_all l.owner old Nobody) (b ∷ rest) (DataOf n)) tt
    (λ q k f. replaced_keeps l.owner old (b ∷ rest) ch n Nobody q held_old held (λ z. (cc)) (λ z. (cc)) (e1.stands.sound.free q k f)) in
    let keeps : (o : Owner) → Writer ch ≢ o → Directory ≢ o → Keeps c c2 l.owner o = λ o a z. keeps_then c c1 c2 l.owner o (written_keeps c c1 p sector l.owner o first_write (λ y. a (sym mine ∙ y)))
    (written_keeps c1 c2 (sector_of l.directory n) enters.sector l.owner o enters.written (λ y. z (sym (sector_owned l h.stands.sound.owned n was.there) ∙ y))) in
    holds_step tracks c c2 l (with_file l n blocks_new owner) d (with_slot d n (Some (finished was.file bytes blocks))) uses ch Idle (is_ch ch) (λ m. m == n) h
    (subst (λ (x : Option File). HasLayout tracks c2 (with_file l n blocks_new owner) (with_slot d n x)) file stands)
    (record {
      writers = λ x out. keeps (Writer x) (λ z. (let g : x ≡ ch = cc in let t = sym (eq-eqb x ch g) ∙ out in (cc))) (λ z. (cc));
      writers_own = λ x q out z. replaced_keeps l.owner old (b ∷ rest) ch n (Writer x) q held_old held (λ y. (cc)) (λ y. (let g : x ≡ ch = cc in let t = sym (eq-eqb x ch g) ∙ out in (cc))) z;
      files = λ m ne. keeps (DataOf m) (λ z. (cc)) (λ z. (cc));
      files_own = λ m q ne z. replaced_keeps l.owner old (b ∷ rest) ch n (DataOf m) q held_old held (λ y. (let g : m ≡ n = cc in let t = sym (eq-eqb m n g) ∙ ne in (cc))) (λ y. (cc)) z;
      more = omega arith;
      slots = λ m ne. other_slot d n m (Some (finished was.file bytes blocks)) ne;
    }) (λ m ne. ne_eqb m ch ne) (others_spared uses ch n w bytes blocks h.alone e refl) (idle_like (uses ch)) tt

-- the old blocks are nobody's then
pub old_nobodys : (owner : Place → Owner) (old new : List Place) (ch n : ℕ) → OwnedBy owner (DataOf n) old → OwnedBy owner (Writer ch) new → OwnedBy (replaced owner old new n) Nobody old
old_nobodys owner old new ch n held_old held =
    owned_same (own_all owner old Nobody) (replaced owner old new n) Nobody old
    (λ q k. own_all_keeps (own_all owner old Nobody) (Writer ch) (DataOf n) Nobody new q
    (owned_same owner (own_all owner old Nobody) (Writer ch) new (λ p z. own_all_keeps owner (DataOf n) Nobody (Writer ch) old p held_old (λ y. (cc)) z) held) (λ z. (cc)) k)
    (own_all_there owner old Nobody)
