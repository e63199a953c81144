-- A byte is stored, or a write refuses it: what the medium holds then.
use Rattle.std.proofs.Common.{◌≡◌, ◌≢◌, ℕ, ◌+◌, ◌<◌, ◌≤◌, length, arith, List, [], ◌∷◌, ◌++◌, Bool, true, false, IsOk, refl, sym, ap, subst, ◌∙◌, inl, inr, Option, Some, None, Result, Ok, Err}
use Rattle.std.specs.Prelude.{◌==◌, IfOk, OnErr, MatchBool}
use Rattle.cbm_medium.specs.Place.{Place, directory_head}
use Rattle.cbm_medium.specs.Content.{Cell, Content}
use Rattle.cbm_medium.specs.declared.fault.Trouble.{Trouble}
use Rattle.cbm_medium.specs.Links.{bytes_at}
use Rattle.cbm_medium.proofs.Places.{written_there, written_elsewhere}
use Rattle.cbm_file.specs.Files.{Disk}
use Rattle.cbm_bam.specs.Map.{map_of, geometry, geometry_in, geometry_of, IsCounted, IsMapped, IsFull, Claims, is_free_in, with_bit}
use Rattle.cbm_bam.proofs.Geometries.{geometry_stays}
use Rattle.cbm_bam.proofs.Counts.{free_none}
use Rattle.cbm_chain.specs.Writing.{State, Part, Wrote, IsForFiles, Puts, GoesOnWriting, Fills, IsFullFor, IsWriteStopped, with_byte, begun_at, gone_on, last_block_of, has_no_byte}
use Rattle.cbm_relfile.specs.Records.{AllWhole}
use Rattle.cbm_volume.specs.Layouts.{Owner, TheMap, DataOf, Writer, Layout, HasLayout, Sound}
use Rattle.cbm_volume.specs.Writers.{Filling, Use, Idle, Writes, IsWriting, IsUsed, HoldsAt, Holds, HoldsNow, with_use, needs_block, one_block_less, one_block_more, IsStored, IsFullDisk, Stopped}
use Rattle.cbm_volume.proofs.layouts.Frames.{Keeps}
use Rattle.cbm_volume.proofs.layouts.Steps.{one_less, Claimed, stands_claim}
use Rattle.cbm_volume.proofs.layouts.Writers.{holds_step, holds_with, idle_like, written_keeps}
use Rattle.cbm_volume.proofs.written.Puts.{put_stays, put_begun, put_filled, room_needs_none, full_needs_one, no_byte}
use Rattle.cbm_volume.proofs.layouts.Listing.{geometry_size}

-- ---- no call but a format changes how many tracks the disk uses

pub few : (medium : ℕ) (c : Content) → 18 ≤ geometry_of medium c
few medium c = elim (geometry_size medium c) [ inl e ↦ omega (arith, e) | inr e ↦ omega (arith, e) ]

pub geometry_elsewhere : (medium : ℕ) (c c' : Content) → c' directory_head ≡ c directory_head → geometry_of medium c' ≡ geometry_of medium c
geometry_elsewhere medium c c' e = ap (geometry_in medium) e

pub geometry_claimed : (medium : ℕ) (c c' : Content) (l : Layout) (q : Place) → Sound (geometry_of medium c) c l → Claims (geometry_of medium c) c c' q → geometry_of medium c' ≡ geometry_of medium c
geometry_claimed medium c c' l q s k = by_cell (c directory_head) refl
  where
    by_cell : (x : Cell) → c directory_head ≡ x → geometry_of medium c' ≡ geometry_of medium c
    by_cell (Err code) e = absurd (let z = subst (λ (y : Cell). IsOk y) e s.map_reads in (cc))
    by_cell (Ok map) e =
        let old : map_of c ≡ map = ap (λ (y : Cell). bytes_at (λ p. y) directory_head) e in
        let g : geometry_of medium c ≡ geometry medium (map_of c) = ap (geometry_in medium) (e ∙ ap Ok (sym old)) in
        let new : c' directory_head ≡ Ok k.remaps.map = ap (λ (y : Content). y directory_head) k.remaps.written ∙ written_there c directory_head k.remaps.map in
        ap (geometry_in medium) new
        ∙ geometry_stays medium (map_of c) k.remaps.map (with_bit (is_free_in (map_of c)) q false) (subst (λ (n : ℕ). IsCounted n (map_of c)) g s.counted) (subst (λ (n : ℕ). IsMapped n (map_of c) k.remaps.map (with_bit (is_free_in (map_of c)) q false)) g k.remaps.mapped)
        ∙ sym g

-- ---- a writer's block is one of files

pub for_files : (c : Content) (s : State) (places : List Place) (bytes : List ℕ) → Wrote c s places bytes → IsForFiles s.tracks s.current
for_files c s places bytes h = subst (IsForFiles s.tracks) (sym h.current) (last_for s.tracks c places h.part)
  where
    last_for : (tracks : ℕ) (c : Content) (places : List Place) → Part tracks c places → IsForFiles tracks (last_block_of places)
    last_for tracks c [] h = tt
    last_for tracks c (b ∷ []) h = h
    last_for tracks c (b ∷ b' ∷ rest) h = last_for tracks c (b' ∷ rest) h.5

-- no block is free where the map has none
pub none_free : (tracks : ℕ) (c : Content) (l : Layout) (d : Disk) → HasLayout tracks c l d → IsFull tracks (map_of c) → d.free ≡ 0
none_free tracks c l d s f = s.describes.free ∙ free_none tracks (map_of c) s.sound.counted f

-- ---- stored

-- what stands, under the geometry of the new content
now : (medium tracks : ℕ) (c : Content) (l : Layout) (d : Disk) (uses : ℕ → Use) → geometry_of medium c ≡ tracks → HoldsAt tracks c l d uses → HoldsNow medium c d uses
now medium tracks c l d uses g h = subst (λ (n : ℕ). Holds n c d uses) (sym g) (record { layout = l; so = h })

-- a state and what the channel holds with it
with_state : (medium : ℕ) (c : Content) (d : Disk) (uses : ℕ → Use) (ch : ℕ) (w : Filling) (s t : State) (bytes : List ℕ) (blocks : ℕ) → s ≡ t
    → HoldsNow medium c d (with_use uses ch (Writes (record w { chain = t }) bytes blocks)) → HoldsNow medium c d (with_use uses ch (Writes (record w { chain = s }) bytes blocks))
with_state medium c d uses ch w s t bytes blocks e h = subst (λ (x : State). HoldsNow medium c d (with_use uses ch (Writes (record w { chain = x }) bytes blocks))) (sym e) h

-- stored without a block, and with one
is_stored : (medium : ℕ) (c : Content) (d d' : Disk) (uses : ℕ → Use) (ch : ℕ) (w : Filling) (bytes : List ℕ) (blocks blocks' byte : ℕ) (b : Bool) → needs_block bytes blocks ≡ b → d' ≡ one_block_less b d → blocks' ≡ one_block_more b blocks → (b ≡ true → 0 < d.free)
    → HoldsNow medium c d' (with_use uses ch (Writes w (bytes ++ byte ∷ []) blocks')) → IsStored medium c d uses ch w bytes blocks byte
is_stored medium c d d' uses ch w bytes blocks blocks' byte b e ed eb room h = record {
  holds = subst (λ (x : Bool). HoldsNow medium c (one_block_less x d) (with_use uses ch (Writes w (bytes ++ byte ∷ []) (one_block_more x blocks)))) (sym e)
      (subst (λ (x : Disk). HoldsNow medium c x (with_use uses ch (Writes w (bytes ++ byte ∷ []) (one_block_more b blocks)))) ed
      (subst (λ (n : ℕ). HoldsNow medium c d' (with_use uses ch (Writes w (bytes ++ byte ∷ []) n))) eb h));
  room = λ f. room (sym e ∙ f);
}

abbrev used_by : (medium : ℕ) (c : Content) (l : Layout) (d : Disk) (uses : ℕ → Use) (ch : ℕ) (w : Filling) (bytes : List ℕ) (blocks : ℕ) → HoldsAt (geometry_of medium c) c l d uses → uses ch ≡ Writes w bytes blocks → IsWriting (geometry_of medium c) c l d ch w bytes blocks
used_by medium c l d uses ch w bytes blocks h e = subst (λ (x : Use). IsUsed (geometry_of medium c) c l d ch x) e (h.each ch)

pub byte_stored : (medium : ℕ) (c c' : Content) (d : Disk) (uses : ℕ → Use) (ch : ℕ) (w : Filling) (s' : State) (bytes : List ℕ) (blocks byte : ℕ) → AllWhole c → HoldsNow medium c d uses → uses ch ≡ Writes w bytes blocks → Puts c c' w.chain byte s'
    → IsStored medium c' d uses ch (record w { chain = s' }) bytes blocks byte
byte_stored medium c c' d uses ch w s' bytes blocks byte whole h e (inl stays) =
    let was = used_by medium c h.layout d uses ch w bytes blocks h.so e in
    let new = put_stays (geometry_of medium c) c h.layout d uses ch w bytes blocks byte h.so e stays.2 stays.3 in
    let none : needs_block bytes blocks ≡ false = ap (needs_block bytes) was.number ∙ room_needs_none c w.chain was.places bytes whole was.wrote stays.2 stays.3 in
    is_stored medium c' d d uses ch (record w { chain = s' }) bytes blocks blocks byte false none refl refl (λ z. absurd (cc))
    (subst (λ (x : Content). HoldsNow medium x d (with_use uses ch (Writes (record w { chain = s' }) (bytes ++ byte ∷ []) blocks))) (sym stays.0)
    (with_state medium c d uses ch w s' (with_byte byte w.chain) (bytes ++ byte ∷ []) blocks stays.1 (now medium (geometry_of medium c) c h.layout d _ refl new)))
byte_stored medium c c' d uses ch w s' bytes blocks byte whole h e (inr goes) = by_current w.chain.current refl goes.1
  where
    tracks : ℕ
    tracks = geometry_of medium c

    was : IsWriting tracks c h.layout d ch w bytes blocks
    was = subst (λ (x : Use). IsUsed tracks c h.layout d ch x) e (h.so.each ch)

    needs : needs_block bytes blocks ≡ true
    needs = ap (needs_block bytes) was.number ∙ full_needs_one c w.chain was.places bytes whole was.wrote goes.3

    no_blocks : w.chain.current ≡ None → blocks ≡ 0
    no_blocks z = was.number ∙ none_of was.places (sym z ∙ was.wrote.current)
      where
        none_of : (places : List Place) → None ≡ last_block_of places → length places ≡ 0
        none_of [] k = refl
        none_of (b ∷ rest) k = absurd (cc)

    by_current : (x : Option Place) → w.chain.current ≡ x → GoesOnWriting c c' x w.chain goes.0 → IsStored medium c' d uses ch (record w { chain = s' }) bytes blocks byte
    by_current None z g =
        let k : Claims tracks c c' g.0 = subst (λ (n : ℕ). Claims n c c' g.0) was.same_tracks g.1 in
        let claimed : Claimed tracks c c' h.layout d g.0 = stands_claim tracks c c' h.layout d g.0 h.so.stands (few medium c) k in
        let new = put_begun tracks c c' h.layout d uses ch w bytes blocks byte g.0 (few medium c) h.so e z k in
        is_stored medium c' d (one_less d) uses ch (record w { chain = s' }) bytes blocks 1 byte true needs refl (ap (λ (n : ℕ). n + 1) (sym (no_blocks z))) (λ t. claimed.some_free)
        (with_state medium c' (one_less d) uses ch w s' (with_byte byte (begun_at tracks g.0)) (bytes ++ byte ∷ []) 1 (goes.2 ∙ ap (with_byte byte) (g.2 ∙ ap (λ (n : ℕ). begun_at n g.0) was.same_tracks))
        (now medium tracks c' _ (one_less d) _ (geometry_claimed medium c c' h.layout g.0 h.so.stands.sound k) new))
    by_current (Some p) z g =
        let f : Fills tracks c c' p w.chain.waiting g.0 = subst (λ (n : ℕ). Fills n c c' p w.chain.waiting g.0) was.same_tracks g.1 in
        let claimed : Claimed tracks c f.middle h.layout d g.0 = stands_claim tracks c f.middle h.layout d g.0 h.so.stands (few medium c) f.claims in
        let new = put_filled tracks c c' h.layout d uses ch w bytes blocks byte p g.0 (few medium c) h.so e z f in
        is_stored medium c' d (one_less d) uses ch (record w { chain = s' }) bytes blocks (blocks + 1) byte true needs refl refl (λ t. claimed.some_free)
        (with_state medium c' (one_less d) uses ch w s' (with_byte byte (gone_on g.0 w.chain)) (bytes ++ byte ∷ []) (blocks + 1) (goes.2 ∙ ap (with_byte byte) g.2)
        (now medium tracks c' _ (one_less d) _ (geometry_elsewhere medium f.middle c' (ap (λ (x : Content). x directory_head) f.written ∙ written_elsewhere f.middle p directory_head f.sector (λ t. (subst (IsForFiles w.chain.tracks) z (for_files c w.chain was.places bytes was.wrote)).1 (ap (λ (y : Place). y.track) t))) ∙ geometry_claimed medium c f.middle h.layout g.0 h.so.stands.sound f.claims) new))

pub disk_full : (medium : ℕ) (c c' : Content) (d : Disk) (uses : ℕ → Use) (ch : ℕ) (w : Filling) (s' : State) (bytes : List ℕ) (blocks : ℕ) → AllWhole c → HoldsNow medium c d uses → uses ch ≡ Writes w bytes blocks → IsFullFor c c' w.chain s'
    → (w.chain.current ≢ None → length w.chain.waiting ≡ 254) → IsFullDisk c c' d w (record w { chain = s' }) bytes blocks
disk_full medium c c' d uses ch w s' bytes blocks whole h e f needs =
    let was : IsWriting (geometry_of medium c) c h.layout d ch w bytes blocks = subst (λ (x : Use). IsUsed (geometry_of medium c) c h.layout d ch x) e (h.so.each ch) in
    record {
      needs = ap (needs_block bytes) was.number ∙ full_needs_one c w.chain was.places bytes whole was.wrote needs;
      none_free = none_free (geometry_of medium c) c h.layout d h.so.stands (subst (λ (n : ℕ). IsFull n (map_of c)) was.same_tracks f.full);
      same = f.same;
      stays = ap (λ (x : State). record w { chain = x }) f.stays;
    }

-- the clause of the call, from the clause of the chain's
pub stored : (medium : ℕ) (c c' : Content) (w : Filling) (s' : State) (byte : ℕ) (r : Result Bool Trouble) → AllWhole c
    → (IsForFiles w.chain.tracks w.chain.current → IfOk r (λ done. MatchBool done (Puts c c' w.chain byte s') (IsFullFor c c' w.chain s')))
    → IfOk r (λ done. done ≡ false → w.chain.current ≢ None → length w.chain.waiting ≡ 254)
    → (d : Disk) (uses : ℕ → Use) (ch : ℕ) (bytes : List ℕ) (blocks : ℕ) → HoldsNow medium c d uses → uses ch ≡ Writes w bytes blocks
    → IfOk r (λ done. MatchBool done (IsStored medium c' d uses ch (record w { chain = s' }) bytes blocks byte) (IsFullDisk c c' d w (record w { chain = s' }) bytes blocks))
stored medium c c' w s' byte (Err t) whole put needs d uses ch bytes blocks h e = tt
stored medium c c' w s' byte (Ok true) whole put needs d uses ch bytes blocks h e =
    let was : IsWriting (geometry_of medium c) c h.layout d ch w bytes blocks = subst (λ (x : Use). IsUsed (geometry_of medium c) c h.layout d ch x) e (h.so.each ch) in
    byte_stored medium c c' d uses ch w s' bytes blocks byte whole h e (put (for_files c w.chain was.places bytes was.wrote))
stored medium c c' w s' byte (Ok false) whole put needs d uses ch bytes blocks h e =
    let was : IsWriting (geometry_of medium c) c h.layout d ch w bytes blocks = subst (λ (x : Use). IsUsed (geometry_of medium c) c h.layout d ch x) e (h.so.each ch) in
    disk_full medium c c' d uses ch w s' bytes blocks whole h e (put (for_files c w.chain was.places bytes was.wrote)) (needs refl)

-- a channel has no byte yet
pub has_none : (medium : ℕ) (c : Content) (d : Disk) (uses : ℕ → Use) (ch : ℕ) (w : Filling) (bytes : List ℕ) (blocks : ℕ) → AllWhole c → HoldsNow medium c d uses → uses ch ≡ Writes w bytes blocks → has_no_byte w.chain ≡ (length bytes == 0)
has_none medium c d uses ch w bytes blocks whole h e =
    let was = used_by medium c h.layout d uses ch w bytes blocks h.so e in
    no_byte c w.chain was.places bytes whole was.wrote

-- ---- stopped

-- the channel lets go of its blocks
pub let_go : (tracks : ℕ) (c : Content) (l : Layout) (d : Disk) (uses : ℕ → Use) (ch : ℕ) → HoldsAt tracks c l d uses → HoldsAt tracks c l d (with_use uses ch Idle)
let_go tracks c l d uses ch h = holds_with tracks c l d uses ch Idle h.stands (λ m ne. h.each m) h.alone (idle_like (uses ch)) tt

-- a block was claimed, and is nobody's
pub claimed_lost : (tracks : ℕ) (c c' : Content) (l : Layout) (d : Disk) (uses : ℕ → Use) (ch : ℕ) (q : Place) → 18 ≤ tracks → HoldsAt tracks c l d uses → Claims tracks c c' q → HoldsAt tracks c' l (one_less d) (with_use uses ch Idle)
claimed_lost tracks c c' l d uses ch q few h k =
    let claimed : Claimed tracks c c' l d q = stands_claim tracks c c' l d q h.stands few k in
    let apart : (o : Owner) → TheMap ≢ o → l.owner directory_head ≢ o = λ o ne e. ne (sym h.stands.sound.owned.map ∙ e) in
    let keeps : (o : Owner) → TheMap ≢ o → Keeps c c' l.owner o = λ o ne. written_keeps c c' directory_head k.remaps.map l.owner o k.remaps.written (apart o ne) in
    holds_step tracks c c' l l d (one_less d) uses ch Idle (λ x. false) (λ n. false) h claimed.stands
    (record { writers = λ x f. keeps (Writer x) (λ z. (cc)); writers_own = λ x q f e. e; files = λ n f. keeps (DataOf n) (λ z. (cc)); files_own = λ n q f e. e; more = omega arith; slots = λ n f. refl })
    (λ m ne. refl) (λ m n ne f. refl) (idle_like (uses ch)) tt

pub put_stopped : (medium : ℕ) (c c' : Content) (w : Filling) (r : Result Bool Trouble) → (IsForFiles w.chain.tracks w.chain.current → OnErr r (IsWriteStopped w.chain.tracks c c'))
    → (d : Disk) (uses : ℕ → Use) (ch : ℕ) (bytes : List ℕ) (blocks : ℕ) → HoldsNow medium c d uses → uses ch ≡ Writes w bytes blocks → OnErr r (Stopped medium c' d d (with_use uses ch Idle))
put_stopped medium c c' w (Ok done) err d uses ch bytes blocks h e = tt
put_stopped medium c c' w (Err t) err d uses ch bytes blocks h e =
    let was : IsWriting (geometry_of medium c) c h.layout d ch w bytes blocks = subst (λ (x : Use). IsUsed (geometry_of medium c) c h.layout d ch x) e (h.so.each ch) in
    by_stop (subst (λ (n : ℕ). IsWriteStopped n c c') was.same_tracks (err (for_files c w.chain was.places bytes was.wrote)))
  where
    by_stop : IsWriteStopped (geometry_of medium c) c c' → Stopped medium c' d d (with_use uses ch Idle)
    by_stop (inl same) = record {
      disk = d;
      holds = subst (λ (x : Content). HoldsNow medium x d (with_use uses ch Idle)) (sym same) (now medium (geometry_of medium c) c h.layout d _ refl (let_go (geometry_of medium c) c h.layout d uses ch h.so));
      either = λ n. inl refl;
      total = refl;
    }
    by_stop (inr k) = record {
      disk = one_less d;
      holds = now medium (geometry_of medium c) c' h.layout (one_less d) _ (geometry_claimed medium c c' h.layout k.0 h.so.stands.sound k.1) (claimed_lost (geometry_of medium c) c c' h.layout d uses ch k.0 (few medium c) h.so k.1);
      either = λ n. inl refl;
      total = refl;
    }
