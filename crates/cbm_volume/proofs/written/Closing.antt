-- A file that was written is closed: its last block, then its entry.
use Rattle.std.proofs.Common.{◌≡◌, ◌≢◌, ℕ, ◌+◌, ◌/◌, ◌%◌, ◌<◌, length, arith, List, [], ◌∷◌, Bool, true, false, IsOk, refl, sym, ap, subst, ◌∙◌, Option, Some, None}
use Rattle.std.specs.Prelude.{◌==◌, ◌&&◌}
use Rattle.std.proofs.lemmas.Bool.{eq-eqb, ne_eqb}
use Rattle.std.proofs.lemmas.List.{get_or-set_other}
use Rattle.cbm_medium.specs.Place.{Place}
use Rattle.cbm_medium.specs.Content.{Content, written}
use Rattle.cbm_medium.specs.Links.{bytes_at, link}
use Rattle.cbm_file.specs.Padding.{before_filler}
use Rattle.cbm_file.specs.declared.file_type.FileType.TheVariants.{Rel}
use Rattle.cbm_file.specs.Types.{is_same_type}
use Rattle.cbm_file.specs.Files.{Bytes, File, Disk, file_at, with_slot}
use Rattle.cbm_chain.specs.Data.{chain_bytes}
use Rattle.cbm_chain.specs.Writing.{State, Part, last_of, Wrote, EndsChain}
use Rattle.cbm_directory.specs.Entries.{IsClosedAs, Enters, type_byte, is_closed, is_relative, type_of_number, bit_of, name_in, entry_at, sector_of}
use Rattle.cbm_volume.specs.Blocks.{Blocks, file_of, body_as, slot_of, slot_with}
use Rattle.cbm_volume.specs.Layouts.{Owner, Directory, DataOf, Writer, is_loose, OwnedBy, Layout, HasLayout}
use Rattle.cbm_volume.proofs.layouts.Steps.{stands_loose}
use Rattle.cbm_volume.proofs.written.Finishes.{stands_finish, own_all, own_all_keeps, last_owned}
use Rattle.cbm_chain.proofs.Ending.{EndsAt, ends_at}
use Rattle.cbm_file.specs.Changes.{finished}
use Rattle.cbm_volume.specs.Writers.{Filling, Use, Idle, Writes, IsWriting, uses_slot, writes_slot, IsAlone, HoldsAt, with_use}
use Rattle.cbm_volume.proofs.layouts.OneSlot.{with_file}
use Rattle.cbm_volume.proofs.layouts.Frames.{Keeps}
use Rattle.cbm_volume.proofs.layouts.Loose.{sector_owned}
use Rattle.cbm_volume.proofs.layouts.Writers.{holds_step, idle_like, written_keeps, keeps_then}

-- ---- what the closed entry says of its file

pub some_file : (bytes e : List ℕ) (b : Blocks) (f : File) → slot_with bytes e b ≡ Some f → ((type_byte e == 0) ≡ false) × (file_of bytes e b ≡ f)
some_file bytes e b f h = by_test (type_byte e == 0) refl h
  where
    by_test : (x : Bool) → (type_byte e == 0) ≡ x → slot_with bytes e b ≡ Some f → ((type_byte e == 0) ≡ false) × (file_of bytes e b ≡ f)
    by_test true k m = absurd (let z : slot_with bytes e b ≡ None = rw k refl in let y = sym z ∙ m in (cc))
    by_test false k m = (k, (let z : slot_with bytes e b ≡ Some (file_of bytes e b) = rw k refl in let y = sym z ∙ m in (cc)))

pub plain_entry : (bytes e : List ℕ) (b : Blocks) → type_byte e % 16 < 5 → is_same_type Rel (file_of bytes e b).kind ≡ false → (type_byte e % 16 == 4) ≡ false
unfolding file_of
plain_entry bytes e b l h = ne_eqb (type_byte e % 16) 4 (λ z. (let y : is_same_type Rel (type_of_number (type_byte e % 16)) ≡ true = ap (λ (n : ℕ). is_same_type Rel (type_of_number n)) z in let x = sym y ∙ h in (cc)))

pub closed_file : (old new bytes bytes' : List ℕ) (first : Place) (blocks : ℕ) (b b' : Blocks) (f : File) → IsClosedAs old new first blocks → slot_with bytes old b ≡ Some f → is_same_type Rel f.kind ≡ false → type_byte old % 16 < 5
    → length b'.data_blocks + length b'.sides ≡ blocks → slot_with bytes' new b' ≡ Some (finished f bytes' blocks)
unfolding file_of name_in
closed_file old new bytes bytes' first blocks b b' f h s plain kind held =
    let was = some_file bytes old b f s in
    let some : (type_byte new == 0) ≡ false = ne_eqb (type_byte new) 0 (λ z. (omega (arith, h.type, z))) in
    let low : type_byte new % 16 ≡ type_byte old % 16 = omega (arith, h.type) in
    let k : type_of_number (type_byte new % 16) ≡ f.kind = ap type_of_number low ∙ ap (λ (x : File). x.kind) was.1 in
    let seven : (type_byte old % 128 + 128) / 128 % 2 ≡ 1 = omega arith in
    let six : (type_byte old % 128 + 128) / 64 % 2 ≡ type_byte old / 64 % 2 = omega arith in
    let c : is_closed new ≡ true = ap (λ (n : ℕ). bit_of n 7) h.type ∙ ap (λ (n : ℕ). n == 1) seven in
    let lo : bit_of (type_byte new) 6 ≡ f.locked = ap (λ (n : ℕ). bit_of n 6) h.type ∙ ap (λ (n : ℕ). n == 1) six ∙ ap (λ (x : File). x.locked) was.1 in
    let na : name_in new ≡ f.name = ap before_filler h.name ∙ ap (λ (x : File). x.name) was.1 in
    let r : is_relative new ≡ false = ap (λ (n : ℕ). n == 4) low ∙ plain_entry bytes old b kind (ap (λ (x : File). is_same_type Rel x.kind) was.1 ∙ plain) in
    let y : body_as (is_closed new && is_relative new) bytes' new b' ≡ Bytes bytes' = ap (λ (x : Bool). body_as (x && is_relative new) bytes' new b') c ∙ ap (λ (x : Bool). body_as x bytes' new b') r in
    let z : slot_with bytes' new b' ≡ Some (file_of bytes' new b') = rw some refl in
    z ∙ (λ i. Some (record { kind = k i; closed = c i; locked = lo i; name = na i; shown = h.shown i; held = held i; body = y i }))

-- ---- the last block is written

-- what stands when the last block is written: a whole chain of the bytes, which is the channel's
pub record IsEnded (tracks : ℕ) (c : Content) (l : Layout) (d : Disk) (ch : ℕ) (b : Place) (rest : List Place) (bytes : List ℕ) : Type 0 where
  pub stands : HasLayout tracks c l d
  pub part : Part tracks c (b ∷ rest)
  pub reads : IsOk (c (last_of b rest))
  pub ends : (link (bytes_at c (last_of b rest))).track ≡ 0
  pub bytes_are : chain_bytes c (b ∷ rest) ≡ bytes

pub ended : (tracks : ℕ) (c c' : Content) (l : Layout) (d : Disk) (ch : ℕ) (s : State) (b : Place) (rest : List Place) (bytes : List ℕ) → HasLayout tracks c l d → OwnedBy l.owner (Writer ch) (b ∷ rest) → Wrote c s (b ∷ rest) bytes → s.tracks ≡ tracks
    → EndsChain c c' s.current s.waiting → IsEnded tracks c' l d ch b rest bytes
ended tracks c c' l d ch s b rest bytes st held h same e =
    let k : EndsAt tracks c c' b rest bytes = subst (λ (n : ℕ). EndsAt n c c' b rest bytes) same (ends_at c c' s b rest bytes h e) in
    record {
      stands = stands_loose tracks c c' l d (last_of b rest) k.sector st (ap is_loose (last_owned l.owner (Writer ch) b rest held)) k.written;
      part = k.ended.part;
      reads = k.ended.reads;
      ends = k.ended.ends;
      bytes_are = k.ended.bytes_are;
    }

-- ---- the entry is closed

-- what a close of the slot n on a channel changes
abbrev pub is_ch : ℕ → ℕ → Bool
is_ch ch x = x == ch

pub other_slot : (d : Disk) (n m : ℕ) (f : Option File) → (m == n) ≡ false → file_at (with_slot d n f) m ≡ file_at d m
other_slot d n m f h = get_or-set_other d.slots n m f None (λ e. (let z = sym (eq-eqb m n e) ∙ h in (cc)))

-- another channel has other slots
pub others_spared : (uses : ℕ → Use) (ch n : ℕ) (w : Filling) (bytes : List ℕ) (blocks : ℕ) → IsAlone uses → uses ch ≡ Writes w bytes blocks → w.slot ≡ n → (m i : ℕ) → m ≢ ch → uses_slot i (uses m) ≡ true → (i == n) ≡ false
others_spared uses ch n w bytes blocks alone e same m i ne h = ne_eqb i n (λ k. ne (sym (alone ch m n (ap (writes_slot n) e ∙ eq-eqb w.slot n same) (ap (λ (j : ℕ). uses_slot j (uses m)) (sym k) ∙ h))))

-- THE FILE IS CLOSED over the blocks of its channel, which is idle then
pub closed_over : (tracks : ℕ) (c c1 c2 : Content) (l : Layout) (d : Disk) (uses : ℕ → Use) (ch : ℕ) (w : Filling) (bytes : List ℕ) (blocks : ℕ) (b : Place) (rest : List Place) (p : Place) (sector body : List ℕ) → HoldsAt tracks c l d uses → uses ch ≡ Writes w bytes blocks
    → (was : IsWriting tracks c l d ch w bytes blocks) → OwnedBy l.owner (Writer ch) (b ∷ rest) → blocks ≡ length (b ∷ rest) → c1 ≡ written c p sector → l.owner p ≡ Writer ch → IsEnded tracks c1 l d ch b rest bytes
    → Enters c1 c2 (sector_of l.directory w.slot) (w.slot % 8) body → IsClosedAs (entry_at c l.directory w.slot) body b blocks
    → HoldsAt tracks c2 (with_file l w.slot (record { data_blocks = b ∷ rest; sides = [] }) (own_all l.owner (b ∷ rest) (DataOf w.slot))) (with_slot d w.slot (Some (finished was.file bytes blocks))) (with_use uses ch Idle)
closed_over tracks c c1 c2 l d uses ch w bytes blocks b rest p sector body h e was held number first_write mine e1 enters says =
    let n : ℕ = w.slot in
    let blocks_new : Blocks = record { data_blocks = b ∷ rest; sides = [] } in
    let owner : Place → Owner = own_all l.owner (b ∷ rest) (DataOf n) in
    let entry : List ℕ = entry_at c l.directory n in
    let kind : type_byte entry % 16 < 5 = h.stands.sound.kinds n was.there in
    let file : slot_of c1 body blocks_new ≡ Some (finished was.file bytes blocks) =
    closed_file entry body (chain_bytes c (l.files n).data_blocks) (chain_bytes c1 (b ∷ rest)) b blocks (l.files n) blocks_new was.file says (sym (h.stands.describes.slots n was.there) ∙ was.in_slot) was.plain kind (omega (arith, number))
    ∙ ap (λ (x : List ℕ). Some (finished was.file x blocks)) e1.bytes_are in
    let low : type_byte body % 16 ≡ type_byte entry % 16 = omega (arith, says.type) in
    let closed : is_closed body ≡ true = ap (λ (n : ℕ). bit_of n 7) says.type ∙ ap (λ (n : ℕ). n == 1) (let seven : (type_byte entry % 128 + 128) / 128 % 2 ≡ 1 = omega arith in seven) in
    let plain : is_relative body ≡ false = ap (λ (n : ℕ). n == 4) low
    ∙ (let f = some_file (chain_bytes c (l.files n).data_blocks) entry (l.files n) was.file (sym (h.stands.describes.slots n was.there) ∙ was.in_slot) in plain_entry (chain_bytes c (l.files n).data_blocks) entry (l.files n) kind (ap (λ (x : File). is_same_type Rel x.kind) f.1 ∙ was.plain)) in
    let stands : HasLayout tracks c2 (with_file l n blocks_new owner) (with_slot d n (slot_of c1 body blocks_new)) =
    stands_finish tracks c1 c2 l d n ch (sector_of l.directory n) b rest body e1.stands was.there refl held e1.part e1.reads e1.ends enters (omega (arith, low, kind)) closed plain (λ i. record { track = says.track i; sector = says.sector i }) in
    let keeps : (o : Owner) → Writer ch ≢ o → Directory ≢ o → Keeps c c2 l.owner o = λ o a z. keeps_then c c1 c2 l.owner o (written_keeps c c1 p sector l.owner o first_write (λ y. a (sym mine ∙ y)))
    (written_keeps c1 c2 (sector_of l.directory n) enters.sector l.owner o enters.written (λ y. z (sym (sector_owned l h.stands.sound.owned n was.there) ∙ y))) in
    holds_step tracks c c2 l (with_file l n blocks_new owner) d (with_slot d n (Some (finished was.file bytes blocks))) uses ch Idle (is_ch ch) (λ m. m == n) h
    (subst (λ (x : Option File). HasLayout tracks c2 (with_file l n blocks_new owner) (with_slot d n x)) file stands)
    (record {
      writers = λ x out. keeps (Writer x) (λ z. (let g : x ≡ ch = cc in let t = sym (eq-eqb x ch g) ∙ out in (cc))) (λ z. (cc));
      writers_own = λ x q out z. own_all_keeps l.owner (Writer ch) (DataOf n) (Writer x) (b ∷ rest) q held (λ y. (let g : x ≡ ch = cc in let t = sym (eq-eqb x ch g) ∙ out in (cc))) z;
      files = λ m ne. keeps (DataOf m) (λ z. (cc)) (λ z. (cc));
      files_own = λ m q ne z. own_all_keeps l.owner (Writer ch) (DataOf n) (DataOf m) (b ∷ rest) q held (λ y. (cc)) z;
      more = omega arith;
      slots = λ m ne. other_slot d n m (Some (finished was.file bytes blocks)) ne;
    }) (λ m ne. ne_eqb m ch ne) (others_spared uses ch n w bytes blocks h.alone e refl) (idle_like (uses ch)) tt
