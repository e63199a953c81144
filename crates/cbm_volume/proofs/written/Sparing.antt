-- What a channel that writes leaves alone: all files that are closed.
use Rattle.std.proofs.Common.{◌≡◌, ℕ, ◌*◌, ◌%◌, ◌<◌, List, [], ◌∷◌, length, Bool, true, false, refl, sym, ap, subst, ◌∙◌, inl, inr, Option, Some, None, Result, Ok, Err}
use Rattle.std.specs.Prelude.{◌==◌, IfOk, OnOk, OnErr, MatchBool}
use Rattle.cbm_medium.specs.Place.{Place, directory_head}
use Rattle.cbm_medium.specs.Content.{Content, written}
use Rattle.cbm_medium.specs.Links.{Chain}
use Rattle.cbm_medium.specs.declared.fault.Trouble.{Trouble}
use Rattle.cbm_file.specs.Files.{Disk}
use Rattle.cbm_bam.specs.Map.{geometry_of, Claims}
use Rattle.cbm_chain.specs.Writing.{State, IsForFiles, Puts, GoesOnWriting, Fills, IsFullFor, IsWriteStopped, EndsChain, last_block_of, last_of}
use Rattle.cbm_directory.specs.Entries.{Enters, first_directory, sector_of}
use Rattle.cbm_volume.specs.Layouts.{Writer, OwnedBy, Layout, Sound}
use Rattle.cbm_volume.specs.Staying.{LeavesClosed}
use Rattle.cbm_volume.specs.Writers.{Filling, Use, Writes, IsWriting, IsUsed, HoldsAt, HoldsNow}
use Rattle.cbm_volume.proofs.written.Finishes.{last_owned}
use Rattle.cbm_volume.proofs.written.Finishing.{IsLast, last_written}
use Rattle.cbm_volume.proofs.layouts.Hindered.{IsSized, one_size}
use Rattle.cbm_volume.proofs.layouts.Staying.{KeepsClosed, kept_same, kept_then, kept_written, kept_mapped, kept_claimed, kept_exempt, leaves_in}
use Rattle.cbm_volume.proofs.written.Storing.{for_files}

-- a content where nothing was written
pub same_untouched : (tracks : ℕ) (c c' : Content) (l : Layout) (but : ℕ → Bool) → Sound tracks c l → c' ≡ c → LeavesClosed tracks c c' (λ m. false) but
same_untouched tracks c c' l but s e = leaves_in tracks c c' l but s (kept_same l c c' but e)

-- a claim alone
pub claim_untouched : (tracks : ℕ) (c c' : Content) (l : Layout) (q : Place) (but : ℕ → Bool) → Sound tracks c l → Claims tracks c c' q → LeavesClosed tracks c c' (λ m. false) but
claim_untouched tracks c c' l q but s k = leaves_in tracks c c' l but s (kept_claimed tracks l c c' q but s.owned k)

-- the block that a writer fills is its own
pub its_own : (tracks : ℕ) (c : Content) (l : Layout) (d : Disk) (ch : ℕ) (w : Filling) (bytes : List ℕ) (blocks : ℕ) (p : Place) → IsWriting tracks c l d ch w bytes blocks → w.chain.current ≡ Some p → l.owner p ≡ Writer ch
its_own tracks c l d ch w bytes blocks p was z = by_places was.places was.owned (sym z ∙ was.wrote.current)
  where
    by_places : (places : List Place) → OwnedBy l.owner (Writer ch) places → Some p ≡ last_block_of places → l.owner p ≡ Writer ch
    by_places [] held e = absurd (cc)
    by_places (b ∷ rest) held e = (let at : p ≡ last_of b rest = cc in ap l.owner at ∙ last_owned l.owner (Writer ch) b rest held)

-- ---- the clauses of the calls, over plain values

-- what a call of a channel that writes leaves alone
abbrev pub Spared : ℕ → Content → Content → Filling → (ℕ → Bool) → Type 0
Spared medium c c' w but = (d : Disk) (uses : ℕ → Use) (ch : ℕ) (bytes : List ℕ) (blocks : ℕ) → HoldsNow medium c d uses → uses ch ≡ Writes w bytes blocks → LeavesClosed (geometry_of medium c) c c' (λ m. false) but

pub nothing_written : (medium : ℕ) (c c' : Content) (w : Filling) (but : ℕ → Bool) → c' ≡ c → Spared medium c c' w but
nothing_written medium c c' w but e = λ d uses ch bytes blocks h k. same_untouched (geometry_of medium c) c c' h.layout but h.so.stands.sound e

-- what the writer's step leaves alone
goes_spared : (tracks : ℕ) (c c' : Content) (l : Layout) (d : Disk) (ch : ℕ) (w : Filling) (bytes : List ℕ) (blocks : ℕ) (s : State) → Sound tracks c l → IsWriting tracks c l d ch w bytes blocks → GoesOnWriting c c' w.chain.current w.chain s → KeepsClosed l c c' (λ m. false)
goes_spared tracks c c' l d ch w bytes blocks s sound was goes = by_current w.chain.current refl goes
  where
    by_current : (x : Option Place) → w.chain.current ≡ x → GoesOnWriting c c' x w.chain s → KeepsClosed l c c' (λ m. false)
    by_current None z g = kept_claimed tracks l c c' g.0 (λ m. false) sound.owned (subst (λ (n : ℕ). Claims n c c' g.0) was.same_tracks g.1)
    by_current (Some p) z g =
        let f : Fills tracks c c' p w.chain.waiting g.0 = subst (λ (n : ℕ). Fills n c c' p w.chain.waiting g.0) was.same_tracks g.1 in
        kept_then l c f.middle c' (λ m. false) (kept_claimed tracks l c f.middle g.0 (λ m. false) sound.owned f.claims)
        (kept_written l f.middle c' p f.sector (Writer ch) (λ m. false) sound.owned (its_own tracks c l d ch w bytes blocks p was z) refl (λ y. (cc)) f.written)

pub byte_spared : (medium : ℕ) (c c' : Content) (w : Filling) (byte : ℕ) (s : State) (r : Result Bool Trouble) → (IsForFiles w.chain.tracks w.chain.current → IfOk r (λ done. MatchBool done (Puts c c' w.chain byte s) (IsFullFor c c' w.chain s)))
    → (IsForFiles w.chain.tracks w.chain.current → OnErr r (IsWriteStopped w.chain.tracks c c')) → Spared medium c c' w (λ m. false)
byte_spared medium c c' w byte s r put stop = λ d uses ch bytes blocks h e.
    let was : IsWriting (geometry_of medium c) c h.layout d ch w bytes blocks = subst (λ (x : Use). IsUsed (geometry_of medium c) c h.layout d ch x) e (h.so.each ch) in
    let files : IsForFiles w.chain.tracks w.chain.current = for_files c w.chain was.places bytes was.wrote in
    leaves_in (geometry_of medium c) c c' h.layout (λ m. false) h.so.stands.sound (by_result r d ch bytes blocks h.layout h.so.stands.sound was (put files) (stop files))
  where
    by_result : (r : Result Bool Trouble) (d : Disk) (ch : ℕ) (bytes : List ℕ) (blocks : ℕ) (l : Layout) → Sound (geometry_of medium c) c l → IsWriting (geometry_of medium c) c l d ch w bytes blocks
        → IfOk r (λ done. MatchBool done (Puts c c' w.chain byte s) (IsFullFor c c' w.chain s)) → OnErr r (IsWriteStopped w.chain.tracks c c') → KeepsClosed l c c' (λ m. false)
    by_result (Ok true) d ch bytes blocks l sound was (inl stays) stop = kept_same l c c' (λ m. false) stays.0
    by_result (Ok true) d ch bytes blocks l sound was (inr goes) stop = goes_spared (geometry_of medium c) c c' l d ch w bytes blocks goes.0 sound was goes.1
    by_result (Ok false) d ch bytes blocks l sound was full stop = kept_same l c c' (λ m. false) full.same
    by_result (Err t) d ch bytes blocks l sound was put (inl same) = kept_same l c c' (λ m. false) same
    by_result (Err t) d ch bytes blocks l sound was put (inr k) = kept_claimed (geometry_of medium c) l c c' k.0 (λ m. false) sound.owned (subst (λ (n : ℕ). Claims n c c' k.0) was.same_tracks k.1)

-- the entry is written, or refused
abbrev pub EntryPut : ℕ → Content → Content → ℕ → List ℕ → Result (Unit {0}) Trouble → Type 0
EntryPut tracks c1 c2 n body r = (directory : List Place) → Chain tracks c1 first_directory directory → n < 8 * length directory → OnOk r (Enters c1 c2 (sector_of directory n) (n % 8) body)

-- the last block, and the entry after it
pub closing_keeps : (medium tracks : ℕ) (c c1 c2 : Content) (l : Layout) (d : Disk) (uses : ℕ → Use) (ch : ℕ) (w : Filling) (bytes : List ℕ) (blocks : ℕ) (body : List ℕ) (r : Result (Unit {0}) Trouble) → HoldsAt (geometry_of medium c) c l d uses → uses ch ≡ Writes w bytes blocks
    → IsSized tracks medium c c1 → EndsChain c c1 w.chain.current w.chain.waiting → EntryPut tracks c1 c2 w.slot body r → OnErr r (c2 ≡ c1) → KeepsClosed l c c2 (λ m. m == w.slot)
closing_keeps medium tracks c c1 c2 l d uses ch w bytes blocks body r h e size ends put err =
    kept_then l c c1 c2 (λ m. m == w.slot) (by_current w.chain.current refl ends) (by_result r put err)
  where
    was : IsWriting (geometry_of medium c) c l d ch w bytes blocks
    was = subst (λ (x : Use). IsUsed (geometry_of medium c) c l d ch x) e (h.each ch)

    last : IsLast medium c c1 l d uses ch
    last = last_written medium c c1 l d uses ch w bytes blocks h was ends

    chain : Chain tracks c1 first_directory l.directory
    chain = subst (λ (n : ℕ). Chain n c1 first_directory l.directory) (one_size tracks medium c c1 size last.same) last.holds.stands.sound.directory

    by_current : (x : Option Place) → w.chain.current ≡ x → EndsChain c c1 x w.chain.waiting → KeepsClosed l c c1 (λ m. m == w.slot)
    by_current None z k = kept_same l c c1 (λ m. m == w.slot) k
    by_current (Some p) z k = kept_written l c c1 p k.0 (Writer ch) (λ m. m == w.slot) h.stands.sound.owned (its_own (geometry_of medium c) c l d ch w bytes blocks p was z) refl (λ y. (cc)) k.3

    by_result : (r : Result (Unit {0}) Trouble) → EntryPut tracks c1 c2 w.slot body r → OnErr r (c2 ≡ c1) → KeepsClosed l c1 c2 (λ m. m == w.slot)
    by_result (Ok x) put err =
        let enters : Enters c1 c2 (sector_of l.directory w.slot) (w.slot % 8) body = put l.directory chain was.there in
        kept_exempt (geometry_of medium c) l c c1 c2 w.slot body h.stands.sound was.there enters
    by_result (Err t) put err = kept_same l c1 c2 (λ m. m == w.slot) err

pub closing_spared : (medium tracks : ℕ) (c c1 c2 : Content) (w : Filling) (body : List ℕ) (r : Result (Unit {0}) Trouble) → IsSized tracks medium c c1 → EndsChain c c1 w.chain.current w.chain.waiting → EntryPut tracks c1 c2 w.slot body r → OnErr r (c2 ≡ c1)
    → Spared medium c c2 w (λ m. m == w.slot)
closing_spared medium tracks c c1 c2 w body r size ends put err = λ d uses ch bytes blocks h e.
    leaves_in (geometry_of medium c) c c2 h.layout (λ m. m == w.slot) h.so.stands.sound (closing_keeps medium tracks c c1 c2 h.layout d uses ch w bytes blocks body r h.so e size ends put err)

-- ---- a replacement

-- what a call of a channel that replaces a file leaves alone: all but that file
abbrev pub SparedReplacing : ℕ → Content → Content → Filling → Type 0
SparedReplacing medium c c' w = (d : Disk) (uses : ℕ → Use) (ch : ℕ) (bytes : List ℕ) (blocks : ℕ) → HoldsNow medium c d uses → uses ch ≡ Writes w bytes blocks → w.replaces ≡ true
    → LeavesClosed (geometry_of medium c) c c' (λ m. false) (λ m. m == w.slot)

pub also_spared : (medium : ℕ) (c c' : Content) (w : Filling) → Spared medium c c' w (λ m. m == w.slot) → SparedReplacing medium c c' w
also_spared medium c c' w spared = λ d uses ch bytes blocks h e k. spared d uses ch bytes blocks h e

-- the map is written after the entry
pub release_spared : (medium tracks : ℕ) (c c1 c2 c3 : Content) (w : Filling) (body freed : List ℕ) (r : Result (Unit {0}) Trouble) → IsSized tracks medium c c1 → EndsChain c c1 w.chain.current w.chain.waiting → EntryPut tracks c1 c2 w.slot body (Ok tt)
    → OnOk r (c3 ≡ written c2 directory_head freed) → OnErr r (c3 ≡ c2) → SparedReplacing medium c c3 w
release_spared medium tracks c c1 c2 c3 w body freed r size ends put ok err = λ d uses ch bytes blocks h e k.
    leaves_in (geometry_of medium c) c c3 h.layout (λ m. m == w.slot) h.so.stands.sound
    (kept_then h.layout c c2 c3 (λ m. m == w.slot) (closing_keeps medium tracks c c1 c2 h.layout d uses ch w bytes blocks body (Ok tt) h.so e size ends put tt) (by_result h.layout h.so.stands.sound r ok err))
  where
    by_result : (l : Layout) → Sound (geometry_of medium c) c l → (r : Result (Unit {0}) Trouble) → OnOk r (c3 ≡ written c2 directory_head freed) → OnErr r (c3 ≡ c2) → KeepsClosed l c2 c3 (λ m. m == w.slot)
    by_result l sound (Ok x) ok err = kept_mapped l c2 c3 freed (λ m. m == w.slot) sound.owned ok
    by_result l sound (Err t) ok err = kept_same l c2 c3 (λ m. m == w.slot) err
