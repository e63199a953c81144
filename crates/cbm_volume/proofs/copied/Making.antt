-- A copy is being made in blocks of its own, while no slot has it: a first block, a byte more, a stop, and the entry.
use Rattle.std.proofs.Common.{◌≡◌, ◌≢◌, ℕ, suc, ◌+◌, ◌-◌, ◌*◌, ◌<◌, length, arith, List, [], ◌∷◌, ◌++◌, Bool, true, false, refl, sym, ap, subst, ◌∙◌, inl, inr, Option, Some, None}
use Rattle.std.specs.Prelude.{max}
use Rattle.std.proofs.lemmas.Bool.{cases_eq, eq-eqb, ne_eqb}
use Rattle.std.proofs.lemmas.List.{length-append}
use Rattle.cbm_medium.specs.Place.{Place, directory_head}
use Rattle.cbm_medium.specs.Content.{Content, written}
use Rattle.cbm_medium.proofs.Places.{place_decide, written_elsewhere}
use Rattle.cbm_file.specs.Files.{Disk, file_at, parts, blocks_of}
use Rattle.cbm_file.specs.Changes.{grown}
use Rattle.cbm_bam.specs.Map.{Claims, geometry_of}
use Rattle.cbm_chain.specs.Writing.{State, last_of, Wrote, Fills, with_byte, begun_at, gone_on, IsWriteStopped, GoesOnWriting, Puts}
use Rattle.cbm_chain.proofs.Putting.{wrote_more, wrote_on}
use Rattle.cbm_relfile.specs.Records.{AllWhole}
use Rattle.cbm_volume.specs.Copies.{less, Making}
use Rattle.cbm_volume.specs.Layouts.{Owner, DataOf, Writer, Nobody, is_loose, OwnedBy, Layout, Sound, HasLayout, own}
use Rattle.cbm_volume.specs.Reaches.{is_file, Reached, SlotLost}
use Rattle.cbm_volume.specs.Writers.{Use, Idle, IsUsed, uses_slot, HoldsAt}
use Rattle.cbm_volume.proofs.written.Closing.{is_ch}
use Rattle.cbm_volume.proofs.written.Finishes.{last_owned}
use Rattle.cbm_volume.proofs.layouts.Frames.{Keeps}
use Rattle.cbm_volume.proofs.layouts.Grows.{owned_push}
use Rattle.cbm_volume.proofs.opened.OpenedFiles.{free_grown}
use Rattle.cbm_volume.proofs.opened.OpenedSlots.{reached_same, claimed_too, same_files_grown}
use Rattle.cbm_volume.proofs.written.Puts.{wrote_length, spares_owned, owned_own, nobody_apart}
use Rattle.cbm_volume.proofs.layouts.Remaps.{with_owner}
use Rattle.cbm_volume.proofs.layouts.Steps.{one_less, Claimed, stands_claim, stands_loose, own_there, own_elsewhere}
use Rattle.cbm_volume.proofs.written.Storing.{few, geometry_claimed, geometry_elsewhere}
use Rattle.cbm_volume.proofs.layouts.Staying.{KeepsClosed, kept_then, kept_written, kept_claimed, kept_later}
use Rattle.cbm_volume.proofs.layouts.Writers.{owned_kept, Spares, used_kept, stands_owned, written_keeps, keeps_then}

-- ---- the other channels

-- THE DISK STEPS, and no channel notices: the writer of the number that none has goes on
pub holds_on : (tracks : ℕ) (c c' : Content) (l l' : Layout) (d d' : Disk) (uses : ℕ → Use) (ch : ℕ) (changes : ℕ → Bool) → uses ch ≡ Idle → HoldsAt tracks c l d uses → HasLayout tracks c' l' d' → Spares c c' l l' d d' (is_ch ch) changes
    → ((m n : ℕ) → uses_slot n (uses m) ≡ true → changes n ≡ false) → HoldsAt tracks c' l' d' uses
holds_on tracks c c' l l' d d' uses ch changes idle h st s spared = record {
  stands = st;
  each = λ m. elim (cases_eq m ch) [
    | inl e ↦ subst (λ (u : Use). IsUsed tracks c' l' d' m u) (sym (ap uses e ∙ idle)) tt
    | inr ne ↦ used_kept tracks c c' l l' d d' (is_ch ch) changes m (uses m) s (ne_eqb m ch ne) (spared m) (h.each m)
  ];
  alone = h.alone;
}

-- ---- how many blocks

pub blocks_filled : (k w n : ℕ) → w < 254 → n ≡ 254 * k + (w + 1) → suc k ≡ blocks_of n
blocks_filled k w n l e = let p : parts n 254 ≡ suc k = omega arith in let one : suc k ≡ max 1 (suc k) = omega arith in one ∙ sym (ap (max 1) p)

-- one block less is free
pub less_one : (d : Disk) (n m : ℕ) → m ≡ suc n → one_less (less n d) ≡ less m d
less_one d n m e = let f : d.free - n - 1 ≡ d.free - m = omega (arith, e) in λ i. record (grown d) { free = f i }

pub less_none : (d : Disk) → grown d ≡ less 0 d
less_none d = let f : (grown d).free ≡ d.free - 0 = omega (arith, free_grown d) in λ i. record (grown d) { free = f i }

pub same_files_less : (d : Disk) (n m : ℕ) → file_at (less n d) m ≡ file_at d m
same_files_less d n m = same_files_grown d m

-- ---- the block that is filled takes the byte

pub making_stays : (medium : ℕ) (c : Content) (l : Layout) (d : Disk) (uses : ℕ → Use) (ch : ℕ) (now : Content) (s : State) (bytes : List ℕ) (byte : ℕ) (u : Use) → AllWhole now → Making medium c l d uses ch now s bytes u → s.current ≢ None → length s.waiting < 254
    → Making medium c l d uses ch now (with_byte byte s) (bytes ++ byte ∷ []) u
making_stays medium c l d uses ch now s bytes byte u whole k some room = record {
  idle = k.idle;
  places = k.places;
  reached = k.reached;
  owned = k.owned;
  wrote = wrote_more now s k.places bytes byte k.wrote some room;
  same_tracks = k.same_tracks;
  count = counted k.places k.wrote;
  reads = k.reads;
}
  where
    counted : (places : List Place) → Wrote now s places bytes → length places ≡ blocks_of (length (bytes ++ byte ∷ []))
    counted [] h = absurd (some h.current)
    counted (b ∷ rest) h = blocks_filled (length rest) (length s.waiting) (length (bytes ++ byte ∷ [])) room (omega (arith, wrote_length now s b rest bytes whole h, length-append bytes (byte ∷ [])))

-- ---- a block is claimed for the copy

-- the files keep their owners
pub later_own : (owner : Place → Owner) (q : Place) (ch : ℕ) → owner q ≡ Nobody → (p : Place) → is_file (owner p) ≡ true → is_file (own owner q (Writer ch) p) ≡ true
later_own owner q ch nobody p f = elim (place_decide q p) [
  | inl s ↦ absurd (let z = sym (ap is_file nobody) ∙ ap (λ (x : Place). is_file (owner x)) s ∙ f in (cc))
  | inr ne ↦ ap is_file (own_elsewhere owner q p (Writer ch) ne) ∙ f
]

-- the first block, when the slot is there
pub making_begun : (medium : ℕ) (c : Content) (l : Layout) (c1 c2 : Content) (d : Disk) (uses : ℕ → Use) (ch : ℕ) (q : Place) → uses ch ≡ Idle → Reached medium c l c1 (grown d) uses → Claims (geometry_of medium c) c1 c2 q
    → Making medium c l d uses ch c2 (begun_at (geometry_of medium c) q) [] Idle
making_begun medium c l c1 c2 d uses ch q idle r k =
    let tracks : ℕ = geometry_of medium c in
    let claimed : Claimed tracks c1 c2 r.layout (grown d) q = stands_claim tracks c1 c2 r.layout (grown d) q r.so.stands (few medium c) k in
    let l' : Layout = with_owner r.layout (own r.layout.owner q (Writer ch)) in
    let e : one_less (grown d) ≡ less 1 d = ap one_less (less_none d) ∙ less_one d 0 1 refl in
    let spares : Spares c1 c2 r.layout l' (grown d) (one_less (grown d)) (λ x. false) (λ n. false) = spares_owned tracks c1 c2 r.layout (grown d) q ch r.so.stands k claimed.taken.nobody in
    let so : HoldsAt tracks c2 l' (one_less (grown d)) uses = holds_on tracks c1 c2 r.layout l' (grown d) (one_less (grown d)) uses ch (λ n. false) idle r.so (stands_owned tracks c2 r.layout (one_less (grown d)) q ch claimed.stands claimed.taken)
    (record { writers = λ x o. spares.writers x refl; writers_own = λ x p o. spares.writers_own x p refl; files = λ n o. spares.files n refl; files_own = λ n p o. spares.files_own n p refl; more = omega arith; slots = λ n o. refl }) (λ m n h. refl) in
    let kept : KeepsClosed r.layout c1 c2 (λ m. false) = kept_claimed tracks r.layout c1 c2 q (λ m. false) r.so.stands.sound.owned k in
    record {
      idle = idle;
      places = q ∷ [];
      reached = record {
        layout = l';
        so = subst (λ (x : Disk). HoldsAt tracks c2 l' x uses) e so;
        same = geometry_claimed medium c1 c2 r.layout q (subst (λ (n : ℕ). Sound n c1 r.layout) (sym r.same) r.so.stands.sound) (subst (λ (n : ℕ). Claims n c1 c2 q) (sym r.same) k) ∙ r.same;
        front = r.front;
        kept = kept_later l r.layout c c1 c2 (λ m. false) r.front r.later r.kept kept;
        later = λ p f. later_own r.layout.owner q ch claimed.taken.nobody p (r.later p f);
      };
      owned = (own_there r.layout.owner q (Writer ch), tt);
      wrote = record { part = (k.has, k.off_18); first = refl; current = refl; count = refl; all = refl; fits = omega arith; none = λ z. refl };
      same_tracks = refl;
      count = refl;
      reads = tt;
    }

-- the next block: the full one is written
pub making_filled : (medium : ℕ) (c : Content) (l : Layout) (d : Disk) (uses : ℕ → Use) (ch : ℕ) (now now' : Content) (s : State) (bytes : List ℕ) (byte : ℕ) (u : Use) (p q : Place) → AllWhole now → Making medium c l d uses ch now s bytes u → s.current ≡ Some p → length s.waiting ≡ 254
    → Fills (geometry_of medium c) now now' p s.waiting q → Making medium c l d uses ch now' (with_byte byte (gone_on q s)) (bytes ++ byte ∷ []) u
making_filled medium c l d uses ch now now' s bytes byte u p q whole k some full f = by_places k.places k.reached k.owned k.wrote k.reads
  where
    tracks : ℕ
    tracks = geometry_of medium c

    by_places : (places : List Place) (r : Reached medium c l now (less (length places) d) uses) → OwnedBy r.layout.owner (Writer ch) places → Wrote now s places bytes → IsUsed tracks now r.layout (less (length places) d) (suc ch) u
        → Making medium c l d uses ch now' (with_byte byte (gone_on q s)) (bytes ++ byte ∷ []) u
    by_places [] r held wrote reads = absurd (let z = sym some ∙ wrote.current in (cc))
    by_places (b ∷ rest) r held wrote reads =
        let n : ℕ = length (b ∷ rest) in
        let more : List Place = b ∷ rest ++ q ∷ [] in
        let number : length more ≡ suc n = omega (arith, length-append (b ∷ rest) (q ∷ [])) in
        let d1 : Disk = less n d in
        let d2 : Disk = less (length more) d in
        let owner : Place → Owner = r.layout.owner in
        let l' : Layout = with_owner r.layout (own owner q (Writer ch)) in
        let at : p ≡ last_of b rest = (let z = sym some ∙ wrote.current in (cc)) in
        let claimed : Claimed tracks now f.middle r.layout d1 q = stands_claim tracks now f.middle r.layout d1 q r.so.stands (few medium c) f.claims in
        let owned : HasLayout tracks f.middle l' (one_less d1) = stands_owned tracks f.middle r.layout (one_less d1) q ch claimed.stands claimed.taken in
        let mine : owner p ≡ Writer ch = ap owner at ∙ last_owned owner (Writer ch) b rest held in
        let loose : is_loose (l'.owner p) ≡ true = ap is_loose (own_elsewhere owner q p (Writer ch) (λ z. (let y = sym claimed.taken.nobody ∙ ap owner z ∙ mine in (cc))) ∙ mine) in
        let before : Spares now f.middle r.layout l' d1 (one_less d1) (λ x. false) (λ n. false) = spares_owned tracks now f.middle r.layout d1 q ch r.so.stands f.claims claimed.taken.nobody in
        let after : (o : Owner) → Writer ch ≢ o → Keeps f.middle now' owner o = λ o ne. written_keeps f.middle now' p f.sector owner o f.written (λ z. ne (sym mine ∙ z)) in
        let spares : Spares now now' r.layout l' d1 d2 (is_ch ch) (λ n. false) = record {
          writers = λ x out. keeps_then now f.middle now' owner (Writer x) (before.writers x refl) (after (Writer x) (λ z. (let g : x ≡ ch = cc in let t = sym (eq-eqb x ch g) ∙ out in (cc))));
          writers_own = λ x y out. before.writers_own x y refl;
          files = λ m no. keeps_then now f.middle now' owner (DataOf m) (before.files m refl) (after (DataOf m) (λ z. (cc)));
          files_own = λ m y no. before.files_own m y refl;
          more = omega arith;
          slots = λ m no. refl;
        } in
        let stands : HasLayout tracks now' l' d2 = subst (λ (x : Disk). HasLayout tracks now' l' x) (less_one d n (length more) number) (stands_loose tracks f.middle now' l' (one_less d1) p f.sector owned loose f.written) in
        let head : now' directory_head ≡ f.middle directory_head = ap (λ (x : Content). x directory_head) f.written ∙ written_elsewhere f.middle p directory_head f.sector (λ z. (let y = sym mine ∙ ap owner z ∙ r.so.stands.sound.owned.map in (cc))) in
        let kept : KeepsClosed r.layout now now' (λ m. false) = kept_then r.layout now f.middle now' (λ m. false) (kept_claimed tracks r.layout now f.middle q (λ m. false) r.so.stands.sound.owned f.claims)
        (kept_written r.layout f.middle now' p f.sector (Writer ch) (λ m. false) r.so.stands.sound.owned mine refl (λ z. (cc)) f.written) in
        record {
          idle = k.idle;
          places = more;
          reached = record {
            layout = l';
            so = holds_on tracks now now' r.layout l' d1 d2 uses ch (λ n. false) k.idle r.so stands spares (λ m n h. refl);
            same = geometry_elsewhere medium f.middle now' head ∙ geometry_claimed medium now f.middle r.layout q (subst (λ (n : ℕ). Sound n now r.layout) (sym r.same) r.so.stands.sound) (subst (λ (n : ℕ). Claims n now f.middle q) (sym r.same) f.claims) ∙ r.same;
            front = r.front;
            kept = kept_later l r.layout c now now' (λ m. false) r.front r.later r.kept kept;
            later = λ x g. later_own owner q ch claimed.taken.nobody x (r.later x g);
          };
          owned = owned_push l'.owner (Writer ch) (b ∷ rest) q (owned_own owner q ch (b ∷ rest) held) (own_there owner q (Writer ch));
          wrote = wrote_on tracks now f.middle now' s b rest bytes byte q f.sector wrote k.same_tracks (owned_kept now f.middle owner (Writer ch) (before.writers ch refl) (b ∷ rest) held) (nobody_apart owner q ch (b ∷ rest) held claimed.taken.nobody)
              (f.written ∙ ap (λ (x : Place). written f.middle x f.sector) at) f.block.link f.block.holds f.claims.has f.claims.off_18;
          same_tracks = k.same_tracks;
          count = number ∙ blocks_filled n 0 (length (bytes ++ byte ∷ [])) (omega arith) (omega (arith, wrote_length now s b rest bytes whole wrote, full, length-append bytes (byte ∷ [])));
          reads = used_kept tracks now now' r.layout l' d1 d2 (is_ch ch) (λ n. false) (suc ch) u spares (ne_eqb (suc ch) ch (λ z. (omega arith))) (λ n h. refl) reads;
        }

-- ---- a byte is put

-- a copy has a block from the beginning
pub has_block : (medium : ℕ) (c : Content) (l : Layout) (d : Disk) (uses : ℕ → Use) (ch : ℕ) (now : Content) (s : State) (bytes : List ℕ) (u : Use) → Making medium c l d uses ch now s bytes u → s.current ≢ None
has_block medium c l d uses ch now s bytes u k none = by_places k.places k.count k.wrote
  where
    some : (n : ℕ) → 0 ≡ max 1 n → ⊥
    some n h = omega (arith, h)

    by_places : (places : List Place) → length places ≡ blocks_of (length bytes) → Wrote now s places bytes → ⊥
    by_places [] e h = some (parts (length bytes) 254) e
    by_places (b ∷ rest) e h = let z = sym none ∙ h.current in (cc)

pub making_puts : (medium : ℕ) (c : Content) (l : Layout) (d : Disk) (uses : ℕ → Use) (ch : ℕ) (now now' : Content) (s t : State) (bytes : List ℕ) (byte : ℕ) (u : Use) → AllWhole now → Making medium c l d uses ch now s bytes u → Puts now now' s byte t
    → Making medium c l d uses ch now' t (bytes ++ byte ∷ []) u
making_puts medium c l d uses ch now now' s t bytes byte u whole k (inl stays) =
    subst (λ (x : State). Making medium c l d uses ch now' x (bytes ++ byte ∷ []) u) (sym stays.1)
    (subst (λ (x : Content). Making medium c l d uses ch x (with_byte byte s) (bytes ++ byte ∷ []) u) (sym stays.0) (making_stays medium c l d uses ch now s bytes byte u whole k stays.2 stays.3))
making_puts medium c l d uses ch now now' s t bytes byte u whole k (inr goes) = by_current s.current refl goes.1
  where
    some : s.current ≢ None
    some = has_block medium c l d uses ch now s bytes u k

    by_current : (x : Option Place) → s.current ≡ x → GoesOnWriting now now' x s goes.0 → Making medium c l d uses ch now' t (bytes ++ byte ∷ []) u
    by_current None z g = absurd (some z)
    by_current (Some p) z g =
        subst (λ (x : State). Making medium c l d uses ch now' x (bytes ++ byte ∷ []) u) (sym (goes.2 ∙ ap (with_byte byte) g.2))
        (making_filled medium c l d uses ch now now' s bytes byte u p g.0 whole k z (goes.3 some) (subst (λ (n : ℕ). Fills n now now' p s.waiting g.0) k.same_tracks g.1))

-- ---- a stop

-- nothing has changed, or a block was claimed that is nobody's
pub making_stopped : (medium : ℕ) (c : Content) (l : Layout) (d : Disk) (uses : ℕ → Use) (ch : ℕ) (now now' : Content) (s : State) (bytes : List ℕ) (u : Use) → Making medium c l d uses ch now s bytes u → IsWriteStopped s.tracks now now' → SlotLost medium c l now' d uses
making_stopped medium c l d uses ch now now' s bytes u k (inl same) = record {
  disk = less (length k.places) d;
  reached = reached_same medium c l now now' (less (length k.places) d) uses same k.reached;
  slots = same_files_less d (length k.places);
}
making_stopped medium c l d uses ch now now' s bytes u k (inr q) = record {
  disk = one_less (less (length k.places) d);
  reached = claimed_too medium c l now now' (less (length k.places) d) uses q.0 k.reached (subst (λ (n : ℕ). Claims n now now' q.0) k.same_tracks q.1);
  slots = same_files_less d (length k.places);
}
