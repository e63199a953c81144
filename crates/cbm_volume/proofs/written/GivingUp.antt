-- A chain of a channel is given up: its blocks are free again, and nothing else is new.
use Rattle.std.proofs.Common.{◌≡◌, ◌≢◌, ℕ, ◌+◌, ◌≤◌, length, arith, List, [], ◌∷◌, Bool, false, refl, sym, subst, ◌∙◌, inl, Result, Ok, Err, add-zero}
use Rattle.std.specs.Prelude.{OnOk, OnErr, IfErr}
use Rattle.std.proofs.lemmas.Bool.{eq-eqb, ne_eqb}
use Rattle.cbm_medium.specs.Place.{Place, directory_head}
use Rattle.cbm_medium.specs.Content.{Content}
use Rattle.cbm_medium.specs.Seen.{Seen}
use Rattle.cbm_medium.specs.declared.fault.Trouble.{Trouble}
use Rattle.cbm_file.specs.Files.{Disk}
use Rattle.cbm_bam.specs.Map.{geometry_of, is_free_in, with_freed, map_of, Remaps}
use Rattle.cbm_bam.specs.Causes.{HasCause}
use Rattle.cbm_bam.proofs.Counts.{AreTaken}
use Rattle.cbm_chain.specs.Writing.{State, Part, Wrote}
use Rattle.cbm_chain.specs.GivenUp.{IsGivenBack}
use Rattle.cbm_volume.specs.Layouts.{Owner, TheMap, DataOf, Writer, OwnedBy, Layout, HasLayout}
use Rattle.cbm_volume.specs.Staying.{LeavesClosed}
use Rattle.cbm_volume.specs.Writers.{Filling, Use, Idle, Writes, IsWriting, IsUsed, HoldsAt, Holds, HoldsNow, with_use, Stopped}
use Rattle.cbm_volume.specs.Opens.{IsHindered}
use Rattle.cbm_volume.proofs.layouts.Frames.{Keeps}
use Rattle.cbm_volume.proofs.layouts.Remaps.{with_owner}
use Rattle.cbm_volume.proofs.layouts.Releases.{disowned, disowned_keeps, frees_mapped}
use Rattle.cbm_volume.proofs.layouts.Writers.{holds_step, idle_like, written_keeps}
use Rattle.cbm_volume.proofs.written.Storing.{few, let_go}
use Rattle.cbm_volume.proofs.written.Closing.{is_ch}
use Rattle.cbm_volume.proofs.written.GivenBack.{part_taken, stands_given_back}
use Rattle.cbm_volume.proofs.written.Finishing.{few_blocks}
use Rattle.cbm_volume.proofs.written.Replacements.{geometry_remapped}
use Rattle.cbm_volume.proofs.layouts.Refusals.{sector_hindered}
use Rattle.cbm_volume.proofs.layouts.Staying.{KeepsClosed, kept_same, kept_mapped, leaves_in}

-- ---- the blocks are free again

all_back : (medium : ℕ) (c c' : Content) (l : Layout) (d : Disk) (uses : ℕ → Use) (ch : ℕ) (places : List Place) → HoldsAt (geometry_of medium c) c l d uses → Part (geometry_of medium c) c places → OwnedBy l.owner (Writer ch) places
    → IsGivenBack (geometry_of medium c) c c' places → HoldsNow medium c' (record d { free = d.free + length places }) (with_use uses ch Idle)
all_back medium c c' l d uses ch [] h part held same =
    let none : record d { free = d.free + 0 } ≡ d = λ i. record d { free = add-zero d.free i } in
    subst (λ (x : Content). HoldsNow medium x (record d { free = d.free + 0 }) (with_use uses ch Idle)) (sym same)
    (subst (λ (x : Disk). HoldsNow medium c x (with_use uses ch Idle)) (sym none) (record { layout = l; so = let_go (geometry_of medium c) c l d uses ch h }))
all_back medium c c' l d uses ch (b ∷ rest) h part held back =
    let tracks : ℕ = geometry_of medium c in
    let xs : List Place = b ∷ rest in
    let free : Place → Bool = with_freed (is_free_in (map_of c)) xs in
    let d' : Disk = record d { free = d.free + length xs } in
    let r : Remaps tracks c c' free = record { map = back.0; mapped = frees_mapped tracks (map_of c) back.0 xs back.1; written = back.2 } in
    let taken : AreTaken tracks (is_free_in (map_of c)) xs = part_taken tracks c c l ch xs h.stands.sound part held in
    let stands : HasLayout tracks c' (with_owner l (disowned l.owner xs)) d' = stands_given_back tracks c c' l d (Writer ch) xs h.stands (few medium c) refl held taken r in
    let keeps : (o : Owner) → TheMap ≢ o → Keeps c c' l.owner o = λ o ne. written_keeps c c' directory_head r.map l.owner o r.written (λ e. ne (sym h.stands.sound.owned.map ∙ e)) in
    let so : HoldsAt tracks c' (with_owner l (disowned l.owner xs)) d' (with_use uses ch Idle) =
    holds_step tracks c c' l (with_owner l (disowned l.owner xs)) d d' uses ch Idle (is_ch ch) (λ n. false) h stands
    (record {
      writers = λ x out. keeps (Writer x) (λ z. (cc));
      writers_own = λ x q out z. disowned_keeps l.owner (Writer x) (Writer ch) xs q (λ y. (let g : x ≡ ch = cc in let t = sym (eq-eqb x ch g) ∙ out in (cc))) held z;
      files = λ n no. keeps (DataOf n) (λ z. (cc));
      files_own = λ n q no z. disowned_keeps l.owner (DataOf n) (Writer ch) xs q (λ y. (cc)) held z;
      more = omega arith;
      slots = λ n no. refl;
    }) (λ m ne. ne_eqb m ch ne) (λ m n ne k. refl) (idle_like (uses ch)) tt in
    subst (λ (n : ℕ). Holds n c' d' (with_use uses ch Idle)) (sym (geometry_remapped medium c c' l free h.stands.sound r)) (record { layout = _; so = so })

-- ---- the clauses of the call, over plain values

-- what the chain's writer promises where it wrote these blocks
abbrev pub Back : Content → Content → State → Result (Unit {0}) Trouble → Type 0
Back c c' s r = (places : List Place) (xs : List ℕ) → Wrote c s places xs → length places ≤ 65535 → OnOk r (IsGivenBack s.tracks c c' places)

-- and why it is refused then
abbrev pub Refused : Seen → Seen → State → Result (Unit {0}) Trouble → Type 0
Refused old new s r = (places : List Place) (xs : List ℕ) → Wrote old.content s places xs → length places ≤ 65535 → IfErr r (λ t. HasCause old new directory_head t.code)

-- a writer has fewer blocks than sixteen bits count
few_places : (medium : ℕ) (c : Content) (l : Layout) (d : Disk) (uses : ℕ → Use) (ch : ℕ) (w : Filling) (bytes : List ℕ) (blocks : ℕ) → HoldsAt (geometry_of medium c) c l d uses → (was : IsWriting (geometry_of medium c) c l d ch w bytes blocks)
    → Part (geometry_of medium c) c was.places × (length was.places ≤ 65535)
few_places medium c l d uses ch w bytes blocks h was =
    let part : Part (geometry_of medium c) c was.places = subst (λ (n : ℕ). Part n c was.places) was.same_tracks was.wrote.part in
    (part, omega (arith, few_blocks medium c l ch was.places h.stands.sound part was.owned))

pub given_up : (medium : ℕ) (c c' : Content) (w : Filling) (r : Result (Unit {0}) Trouble) → Back c c' w.chain r
    → (d : Disk) (uses : ℕ → Use) (ch : ℕ) (bytes : List ℕ) (blocks : ℕ) → HoldsNow medium c d uses → uses ch ≡ Writes w bytes blocks → OnOk r (HoldsNow medium c' (record d { free = d.free + blocks }) (with_use uses ch Idle))
given_up medium c c' w (Err t) back d uses ch bytes blocks h e = tt
given_up medium c c' w (Ok x) back d uses ch bytes blocks h e =
    let was : IsWriting (geometry_of medium c) c h.layout d ch w bytes blocks = subst (λ (u : Use). IsUsed (geometry_of medium c) c h.layout d ch u) e (h.so.each ch) in
    let most = few_places medium c h.layout d uses ch w bytes blocks h.so was in
    subst (λ (n : ℕ). HoldsNow medium c' (record d { free = d.free + n }) (with_use uses ch Idle)) (sym was.number)
    (all_back medium c c' h.layout d uses ch was.places h.so most.0 was.owned (subst (λ (n : ℕ). IsGivenBack n c c' was.places) was.same_tracks (back was.places bytes was.wrote most.1)))

pub given_up_stopped : (medium : ℕ) (c c' : Content) (w : Filling) (r : Result (Unit {0}) Trouble) → OnErr r (c' ≡ c)
    → (d : Disk) (uses : ℕ → Use) (ch : ℕ) (bytes : List ℕ) (blocks : ℕ) → HoldsNow medium c d uses → uses ch ≡ Writes w bytes blocks → OnErr r (Stopped medium c' d d (with_use uses ch Idle))
given_up_stopped medium c c' w (Ok x) same d uses ch bytes blocks h e = tt
given_up_stopped medium c c' w (Err t) same d uses ch bytes blocks h e = record {
  disk = d;
  holds = subst (λ (x : Content). HoldsNow medium x d (with_use uses ch Idle)) (sym same) (record { layout = h.layout; so = let_go (geometry_of medium c) c h.layout d uses ch h.so });
  either = λ n. inl refl;
  total = refl;
}

pub given_up_hindered : (medium : ℕ) (old new : Seen) (w : Filling) (r : Result (Unit {0}) Trouble) → Refused old new w.chain r
    → (d : Disk) (uses : ℕ → Use) (ch : ℕ) (bytes : List ℕ) (blocks : ℕ) → HoldsNow medium old.content d uses → uses ch ≡ Writes w bytes blocks → IfErr r (IsHindered old new)
given_up_hindered medium old new w (Ok x) cause d uses ch bytes blocks h e = tt
given_up_hindered medium old new w (Err t) cause d uses ch bytes blocks h e =
    let was : IsWriting (geometry_of medium old.content) old.content h.layout d ch w bytes blocks = subst (λ (u : Use). IsUsed (geometry_of medium old.content) old.content h.layout d ch u) e (h.so.each ch) in
    sector_hindered old new directory_head t h.so.stands.sound.map_reads (cause was.places bytes was.wrote (few_places medium old.content h.layout d uses ch w bytes blocks h.so was).1)

pub given_up_untouched : (medium : ℕ) (c c' : Content) (w : Filling) (r : Result (Unit {0}) Trouble) → Back c c' w.chain r → OnErr r (c' ≡ c)
    → (d : Disk) (uses : ℕ → Use) (ch : ℕ) (bytes : List ℕ) (blocks : ℕ) → HoldsNow medium c d uses → uses ch ≡ Writes w bytes blocks → LeavesClosed (geometry_of medium c) c c' (λ m. false) (λ m. false)
given_up_untouched medium c c' w (Err t) back same d uses ch bytes blocks h e =
    leaves_in (geometry_of medium c) c c' h.layout (λ m. false) h.so.stands.sound (kept_same h.layout c c' (λ m. false) same)
given_up_untouched medium c c' w (Ok x) back same d uses ch bytes blocks h e =
    let was : IsWriting (geometry_of medium c) c h.layout d ch w bytes blocks = subst (λ (u : Use). IsUsed (geometry_of medium c) c h.layout d ch u) e (h.so.each ch) in
    leaves_in (geometry_of medium c) c c' h.layout (λ m. false) h.so.stands.sound
    (by_places was.places (back was.places bytes was.wrote (few_places medium c h.layout d uses ch w bytes blocks h.so was).1))
  where
    by_places : (places : List Place) → IsGivenBack w.chain.tracks c c' places → KeepsClosed h.layout c c' (λ m. false)
    by_places [] z = kept_same h.layout c c' (λ m. false) z
    by_places (b ∷ rest) z = kept_mapped h.layout c c' z.0 (λ m. false) h.so.stands.sound.owned z.2
