-- A byte is put: what stands after it.
use Rattle.std.proofs.Common.{◌≡◌, ◌≢◌, ℕ, ◌+◌, ◌*◌, ◌<◌, ◌≤◌, length, drop, arith, List, [], ◌∷◌, ◌++◌, true, false, refl, sym, ap, subst, ◌∙◌, inl, inr, Some, None}
use Rattle.std.specs.Prelude.{◌==◌, nat_lt, slice_index}
use Rattle.std.proofs.lemmas.Bool.{eq-eqb, le-ltb, ne_eqb}
use Rattle.std.proofs.lemmas.List.{length-append, length-take-le, length-drop}
use Rattle.cbm_medium.specs.Place.{Place, directory_head}
use Rattle.cbm_medium.specs.Content.{Content, written}
use Rattle.cbm_medium.specs.Links.{bytes_at, link, IsApart}
use Rattle.cbm_medium.proofs.Places.{place_decide}
use Rattle.cbm_file.specs.Files.{Disk, file_at}
use Rattle.cbm_bam.specs.Map.{Claims}
use Rattle.cbm_chain.specs.Data.{data_of}
use Rattle.cbm_chain.specs.Writing.{State, Part, part_bytes, last_block_of, last_of, Wrote, Fills, with_byte, begun_at, gone_on, has_no_byte}
use Rattle.cbm_chain.proofs.Putting.{wrote_more, wrote_first, wrote_on}
use Rattle.cbm_relfile.specs.Records.{AllWhole}
use Rattle.cbm_relfile.proofs.Positions.{whole_bytes}
use Rattle.cbm_volume.specs.Layouts.{Owner, TheMap, DataOf, Writer, Nobody, is_loose, OwnedBy, Layout, slot_count, HasLayout, own}
use Rattle.cbm_volume.specs.Writers.{Filling, Use, Writes, IsWriting, IsUsed, HoldsAt, with_use, needs_block}
use Rattle.cbm_volume.proofs.layouts.Frames.{Keeps}
use Rattle.cbm_volume.proofs.layouts.Remaps.{with_owner}
use Rattle.cbm_volume.proofs.layouts.Steps.{one_less, Claimed, stands_claim, stands_loose, own_there, own_elsewhere}
use Rattle.cbm_volume.proofs.written.Finishes.{last_owned}
use Rattle.cbm_volume.proofs.layouts.Writers.{owned_kept, Spares, IsLike, holds_step, writes_like, written_keeps, keeps_then, stands_owned}
use Rattle.cbm_volume.proofs.layouts.Grows.{owned_push}

-- a block that links to another holds 254 bytes
full_data : (bytes : List ℕ) (q : Place) → link bytes ≡ q → 0 < q.track → length bytes ≡ 256 → length (data_of bytes) ≡ 254
full_data bytes q e h l =
    let z : (slice_index bytes 0 == 0) ≡ false = ne_eqb (slice_index bytes 0) 0 (λ k. (omega (arith, ap (λ (p : Place). p.track) e))) in
    rw z (length-take-le 254 (drop 2 bytes) (omega (arith, length-drop 2 bytes)))

part_length : (tracks : ℕ) (c : Content) (b : Place) (rest : List Place) → AllWhole c → Part tracks c (b ∷ rest) → length (part_bytes c (b ∷ rest)) ≡ 254 * length rest
part_length tracks c b [] whole h = refl
part_length tracks c b (b' ∷ rest) whole h = omega (arith, length-append (data_of (bytes_at c b)) (part_bytes c (b' ∷ rest)), full_data (bytes_at c b) b' h.4 (part_first tracks c b' rest h.5) (whole_bytes c b whole h.3), part_length tracks c b' rest whole h.5)
  where
    part_first : (tracks : ℕ) (c : Content) (b : Place) (rest : List Place) → Part tracks c (b ∷ rest) → 0 < b.track
    part_first tracks c b [] h = h.0.0
    part_first tracks c b (b' ∷ rest) h = h.0.0

-- the blocks and the bytes of a writer
pub wrote_length : (c : Content) (s : State) (b : Place) (rest : List Place) (bytes : List ℕ) → AllWhole c → Wrote c s (b ∷ rest) bytes → length bytes ≡ 254 * length rest + length s.waiting
wrote_length c s b rest bytes whole h = ap length h.all ∙ omega (arith, length-append (part_bytes c (b ∷ rest)) s.waiting, part_length s.tracks c b rest whole h.part)

pub room_needs_none : (c : Content) (s : State) (places : List Place) (bytes : List ℕ) → AllWhole c → Wrote c s places bytes → s.current ≢ None → length s.waiting < 254 → needs_block bytes (length places) ≡ false
room_needs_none c s [] bytes whole h some l = absurd (some h.current)
room_needs_none c s (b ∷ rest) bytes whole h some l = ne_eqb (length bytes) (254 * length (b ∷ rest)) (λ e. (omega (arith, wrote_length c s b rest bytes whole h)))

pub full_needs_one : (c : Content) (s : State) (places : List Place) (bytes : List ℕ) → AllWhole c → Wrote c s places bytes → (s.current ≢ None → length s.waiting ≡ 254) → needs_block bytes (length places) ≡ true
full_needs_one c s [] bytes whole h full = ap (λ (x : List ℕ). needs_block x 0) (h.all ∙ h.none h.current)
full_needs_one c s (b ∷ rest) bytes whole h full =
    let f : length s.waiting ≡ 254 = full (λ e. (let z = sym h.current ∙ e in (cc))) in
    let n : length bytes ≡ 254 * length (b ∷ rest) = omega (arith, wrote_length c s b rest bytes whole h) in
    rw n (eq-eqb (254 * length (b ∷ rest)) (254 * length (b ∷ rest)) refl)

-- a writer has no byte where its file has none: two blocks hold 254 bytes at least
pub no_byte : (c : Content) (s : State) (places : List Place) (bytes : List ℕ) → AllWhole c → Wrote c s places bytes → has_no_byte s ≡ (length bytes == 0)
no_byte c s [] bytes whole h =
    let none : bytes ≡ [] = h.all ∙ h.none h.current in
    rw h.count (rw (h.none h.current) (rw none refl))
no_byte c s (b ∷ []) bytes whole h =
    let n : length bytes ≡ length s.waiting = omega (arith, wrote_length c s b [] bytes whole h) in
    rw h.count (rw n refl)
no_byte c s (b ∷ q ∷ rest) bytes whole h =
    let two : nat_lt s.count 2 ≡ false = le-ltb s.count 2 (omega (arith, h.count)) in
    let some : (length bytes == 0) ≡ false = ne_eqb (length bytes) 0 (λ e. (omega (arith, wrote_length c s b (q ∷ rest) bytes whole h))) in
    rw two (rw some refl)

-- ---- the block that is filled takes the byte

-- the same writer of other bytes, in other blocks of its own
rewritten : (tracks : ℕ) (c c' : Content) (l l' : Layout) (d d' : Disk) (ch : ℕ) (w : Filling) (s : State) (xs ys : List ℕ) (m n : ℕ) (places : List Place) → IsWriting tracks c l d ch w xs m → OwnedBy l'.owner (Writer ch) places
    → Wrote c' s places ys → n ≡ length places → s.tracks ≡ tracks → slot_count l ≤ slot_count l' → file_at d' w.slot ≡ file_at d w.slot → (w.replaces ≡ true → 0 < length places) → IsWriting tracks c' l' d' ch (record w { chain = s }) ys n
rewritten tracks c c' l l' d d' ch w s xs ys m n places h held wrote number same more slot begun = record {
  places = places;
  owned = held;
  wrote = wrote;
  number = number;
  same_tracks = same;
  there = omega (arith, h.there, more);
  file = h.file;
  in_slot = slot ∙ h.in_slot;
  closed = h.closed;
  plain = h.plain;
  begun = begun;
}

-- what a put leaves: the disk, and the channel that has one byte more
abbrev pub Put : ℕ → Content → (ℕ → Use) → ℕ → Disk → Filling → State → List ℕ → ℕ → Layout → Type 0
Put tracks c uses ch d w s bytes blocks l = HoldsAt tracks c l d (with_use uses ch (Writes (record w { chain = s }) bytes blocks))

pub spares_itself : (c : Content) (l : Layout) (d : Disk) → Spares c c l l d d (λ x. false) (λ n. false)
spares_itself c l d = record { writers = λ x f q e. refl; writers_own = λ x q f e. e; files = λ n f q e. refl; files_own = λ n q f e. e; more = omega arith; slots = λ n f. refl }

pub put_stays : (tracks : ℕ) (c : Content) (l : Layout) (d : Disk) (uses : ℕ → Use) (ch : ℕ) (w : Filling) (bytes : List ℕ) (blocks byte : ℕ) → HoldsAt tracks c l d uses → uses ch ≡ Writes w bytes blocks
    → w.chain.current ≢ None → length w.chain.waiting < 254 → Put tracks c uses ch d w (with_byte byte w.chain) (bytes ++ byte ∷ []) blocks l
put_stays tracks c l d uses ch w bytes blocks byte h e some room =
    let k : IsWriting tracks c l d ch w bytes blocks = subst (λ (x : Use). IsUsed tracks c l d ch x) e (h.each ch) in
    holds_step tracks c c l l d d uses ch (Writes (record w { chain = with_byte byte w.chain }) (bytes ++ byte ∷ []) blocks) (λ x. false) (λ n. false) h h.stands (spares_itself c l d) (λ m ne. refl) (λ m n ne s. refl)
    (subst (λ (x : Use). IsLike x (Writes (record w { chain = with_byte byte w.chain }) (bytes ++ byte ∷ []) blocks)) (sym e) (writes_like w (record w { chain = with_byte byte w.chain }) bytes (bytes ++ byte ∷ []) blocks blocks refl))
    (rewritten tracks c c l l d d ch w (with_byte byte w.chain) bytes (bytes ++ byte ∷ []) blocks blocks k.places k k.owned (wrote_more c w.chain k.places bytes byte k.wrote some room) k.number k.same_tracks (omega arith) refl k.begun)

-- ---- a block is claimed

-- a claimed block goes to the channel: no other notices
pub spares_owned : (tracks : ℕ) (c c' : Content) (l : Layout) (d : Disk) (q : Place) (ch : ℕ) → HasLayout tracks c l d → Claims tracks c c' q → l.owner q ≡ Nobody
    → Spares c c' l (with_owner l (own l.owner q (Writer ch))) d (one_less d) (λ x. false) (λ n. false)
spares_owned tracks c c' l d q ch st k nobody =
    let apart : (o : Owner) → TheMap ≢ o → l.owner directory_head ≢ o = λ o ne e. ne (sym st.sound.owned.map ∙ e) in
    let keeps : (o : Owner) → TheMap ≢ o → Keeps c c' l.owner o = λ o ne. written_keeps c c' directory_head k.remaps.map l.owner o k.remaps.written (apart o ne) in
    let owned : (o : Owner) (p : Place) → Nobody ≢ o → l.owner p ≡ o → own l.owner q (Writer ch) p ≡ o = λ o p ne e. own_elsewhere l.owner q p (Writer ch) (λ z. ne (sym nobody ∙ ap l.owner z ∙ e)) ∙ e in
    record {
      writers = λ x f. keeps (Writer x) (λ z. (cc));
      writers_own = λ x p f e. owned (Writer x) p (λ z. (cc)) e;
      files = λ n f. keeps (DataOf n) (λ z. (cc));
      files_own = λ n p f e. owned (DataOf n) p (λ z. (cc)) e;
      more = omega arith;
      slots = λ n f. refl;
    }

-- the first block
pub put_begun : (tracks : ℕ) (c c' : Content) (l : Layout) (d : Disk) (uses : ℕ → Use) (ch : ℕ) (w : Filling) (bytes : List ℕ) (blocks byte : ℕ) (q : Place) → 18 ≤ tracks → HoldsAt tracks c l d uses → uses ch ≡ Writes w bytes blocks
    → w.chain.current ≡ None → Claims tracks c c' q
    → Put tracks c' uses ch (one_less d) w (with_byte byte (begun_at tracks q)) (bytes ++ byte ∷ []) 1 (with_owner l (own l.owner q (Writer ch)))
put_begun tracks c c' l d uses ch w bytes blocks byte q few h e none k =
    let s : State = with_byte byte (begun_at tracks q) in
    let l' : Layout = with_owner l (own l.owner q (Writer ch)) in
    let was : IsWriting tracks c l d ch w bytes blocks = subst (λ (x : Use). IsUsed tracks c l d ch x) e (h.each ch) in
    let claimed : Claimed tracks c c' l d q = stands_claim tracks c c' l d q h.stands few k in
    let empty : bytes ≡ [] = was.wrote.all ∙ ap (λ (x : List ℕ). part_bytes c was.places ++ x) (was.wrote.none none) ∙ no_bytes c was.places (sym none ∙ was.wrote.current) in
    holds_step tracks c c' l l' d (one_less d) uses ch (Writes (record w { chain = s }) (bytes ++ byte ∷ []) 1) (λ x. false) (λ n. false) h (stands_owned tracks c' l (one_less d) q ch claimed.stands claimed.taken)
    (spares_owned tracks c c' l d q ch h.stands k claimed.taken.nobody) (λ m ne. refl) (λ m n ne f. refl)
    (subst (λ (x : Use). IsLike x (Writes (record w { chain = s }) (bytes ++ byte ∷ []) 1)) (sym e) (writes_like w (record w { chain = s }) bytes (bytes ++ byte ∷ []) blocks 1 refl))
    (rewritten tracks c c' l l' d (one_less d) ch w s bytes (bytes ++ byte ∷ []) blocks 1 (q ∷ []) was (own_there l.owner q (Writer ch), tt)
    (wrote_first tracks c' q bytes byte k.has k.off_18 empty)
    refl refl (omega arith) refl (λ z. omega arith))
  where
    no_bytes : (c : Content) (places : List Place) → None ≡ last_block_of places → part_bytes c places ++ [] ≡ []
    no_bytes c [] z = refl
    no_bytes c (b ∷ rest) z = absurd (cc)

pub owned_own : (owner : Place → Owner) (q : Place) (ch : ℕ) (xs : List Place) → OwnedBy owner (Writer ch) xs → OwnedBy (own owner q (Writer ch)) (Writer ch) xs
owned_own owner q ch [] h = tt
owned_own owner q ch (x ∷ xs) h = (elim (place_decide q x) [ inl e ↦ ap (own owner q (Writer ch)) (sym e) ∙ own_there owner q (Writer ch) | inr ne ↦ own_elsewhere owner q x (Writer ch) ne ∙ h.0 ], owned_own owner q ch xs h.1)

-- a block of nobody's lies apart from the writer's
pub nobody_apart : (owner : Place → Owner) (q : Place) (ch : ℕ) (xs : List Place) → OwnedBy owner (Writer ch) xs → owner q ≡ Nobody → IsApart q xs
nobody_apart owner q ch [] h nobody = tt
nobody_apart owner q ch (x ∷ xs) h nobody = ((λ e. (let z = sym nobody ∙ ap owner e ∙ h.0 in (cc))), nobody_apart owner q ch xs h.1 nobody)

-- the next block: the full one is written
pub put_filled : (tracks : ℕ) (c c' : Content) (l : Layout) (d : Disk) (uses : ℕ → Use) (ch : ℕ) (w : Filling) (bytes : List ℕ) (blocks byte : ℕ) (p q : Place) → 18 ≤ tracks → HoldsAt tracks c l d uses → uses ch ≡ Writes w bytes blocks
    → w.chain.current ≡ Some p → (f : Fills tracks c c' p w.chain.waiting q)
    → Put tracks c' uses ch (one_less d) w (with_byte byte (gone_on q w.chain)) (bytes ++ byte ∷ []) (blocks + 1) (with_owner l (own l.owner q (Writer ch)))
put_filled tracks c c' l d uses ch w bytes blocks byte p q few h e some f =
    let was : IsWriting tracks c l d ch w bytes blocks = subst (λ (x : Use). IsUsed tracks c l d ch x) e (h.each ch) in
    by_places was.places was.owned was.wrote was.number was
  where
    by_places : (places : List Place) → OwnedBy l.owner (Writer ch) places → Wrote c w.chain places bytes → blocks ≡ length places → IsWriting tracks c l d ch w bytes blocks
        → Put tracks c' uses ch (one_less d) w (with_byte byte (gone_on q w.chain)) (bytes ++ byte ∷ []) (blocks + 1) (with_owner l (own l.owner q (Writer ch)))
    by_places [] held wrote number was = absurd (let z = sym some ∙ wrote.current in (cc))
    by_places (b ∷ rest) held wrote number was =
        let s : State = with_byte byte (gone_on q w.chain) in
        let l' : Layout = with_owner l (own l.owner q (Writer ch)) in
        let at : p ≡ last_of b rest = (let z = sym some ∙ wrote.current in (cc)) in
        let claimed : Claimed tracks c f.middle l d q = stands_claim tracks c f.middle l d q h.stands few f.claims in
        let owned : HasLayout tracks f.middle l' (one_less d) = stands_owned tracks f.middle l (one_less d) q ch claimed.stands claimed.taken in
        let mine : l.owner p ≡ Writer ch = ap l.owner at ∙ last_owned l.owner (Writer ch) b rest held in
        let loose : is_loose (l'.owner p) ≡ true = ap is_loose (own_elsewhere l.owner q p (Writer ch) (λ z. (let y = sym claimed.taken.nobody ∙ ap l.owner z ∙ mine in (cc))) ∙ mine) in
        let before : Spares c f.middle l l' d (one_less d) (λ x. false) (λ n. false) = spares_owned tracks c f.middle l d q ch h.stands f.claims claimed.taken.nobody in
        let after : (o : Owner) → Writer ch ≢ o → Keeps f.middle c' l.owner o = λ o ne. written_keeps f.middle c' p f.sector l.owner o f.written (λ z. ne (sym mine ∙ z)) in
        let number' : blocks + 1 ≡ length (b ∷ rest ++ q ∷ []) = omega (arith, number, length-append rest (q ∷ [])) in
        holds_step tracks c c' l l' d (one_less d) uses ch (Writes (record w { chain = s }) (bytes ++ byte ∷ []) (blocks + 1)) (λ x. x == ch) (λ n. false) h (stands_loose tracks f.middle c' l' (one_less d) p f.sector owned loose f.written)
        (record {
          writers = λ x out. keeps_then c f.middle c' l.owner (Writer x) (before.writers x refl) (after (Writer x) (λ z. (let g : x ≡ ch = cc in let t = sym (eq-eqb x ch g) ∙ out in (cc))));
          writers_own = λ x y out. before.writers_own x y refl;
          files = λ n no. keeps_then c f.middle c' l.owner (DataOf n) (before.files n refl) (after (DataOf n) (λ z. (cc)));
          files_own = λ n y no. before.files_own n y refl;
          more = before.more;
          slots = before.slots;
        }) (λ m ne. ne_eqb m ch ne) (λ m n ne g. refl)
        (subst (λ (x : Use). IsLike x (Writes (record w { chain = s }) (bytes ++ byte ∷ []) (blocks + 1))) (sym e) (writes_like w (record w { chain = s }) bytes (bytes ++ byte ∷ []) blocks (blocks + 1) refl))
        (rewritten tracks c c' l l' d (one_less d) ch w s bytes (bytes ++ byte ∷ []) blocks (blocks + 1) (b ∷ rest ++ q ∷ []) was
        (owned_push l'.owner (Writer ch) (b ∷ rest) q (owned_own l.owner q ch (b ∷ rest) held) (own_there l.owner q (Writer ch)))
        (wrote_on tracks c f.middle c' w.chain b rest bytes byte q f.sector wrote was.same_tracks (owned_kept c f.middle l.owner (Writer ch) (before.writers ch refl) (b ∷ rest) held) (nobody_apart l.owner q ch (b ∷ rest) held claimed.taken.nobody) (f.written ∙ ap (λ (x : Place). written f.middle x f.sector) at)
        f.block.link f.block.holds f.claims.has f.claims.off_18) number' was.same_tracks (omega arith) refl (λ z. omega arith))
