-- Why a call on a sound disk is refused: only protection, or a failure of the medium's own.
use Rattle.std.proofs.Common.{◌≡◌, ◌⊎◌, ℕ, ◌*◌, ◌<◌, ◌≤◌, arith, List, length, Bool, true, refl, sym, subst, ◌∙◌, inl, inr, Option, Some, None, Result, Ok, Err, IfErr, IsErrAnd}
use Rattle.std.specs.Prelude.{MatchOption}
use Rattle.cbm_medium.specs.Place.{Place, Has, directory_head, sector_count}
use Rattle.cbm_medium.specs.Content.{Content}
use Rattle.cbm_medium.specs.Seen.{Seen, write_refusal, HasFailed}
use Rattle.cbm_medium.specs.Links.{Chain, follow}
use Rattle.cbm_medium.specs.declared.fault.Trouble.{Trouble}
use Rattle.cbm_file.specs.Files.{Disk}
use Rattle.cbm_bam.specs.Map.{geometry_of}
use Rattle.cbm_bam.specs.Causes.{HasCause}
use Rattle.cbm_chain.specs.Writing.{IsForFiles, IsRefusedFor, EndsChain}
use Rattle.cbm_directory.specs.Entries.{first_directory, first_block, sector_of}
use Rattle.cbm_directory.specs.Slots.{Answers, directory_of}
use Rattle.cbm_volume.specs.Layouts.{Layout, Sound}
use Rattle.cbm_volume.specs.Opens.{IsHindered}
use Rattle.cbm_volume.specs.Writers.{Filling, Use, Idle, Writes, IsWriting, IsUsed, HoldsNow, with_use}
use Rattle.cbm_volume.proofs.layouts.Refusals.{write_hindered, sector_hindered, hindered_since, sector_reads}
use Rattle.cbm_volume.proofs.written.Storing.{few, for_files}
use Rattle.cbm_volume.proofs.written.Finishing.{IsLast, last_written, slot_there}
use Rattle.cbm_volume.proofs.written.Replacements.{IsReplaced, InSlot, old_reads}

-- ---- one sector

pub has_head : (tracks : ℕ) → 18 ≤ tracks → Has tracks directory_head
has_head tracks few = (omega arith, few, omega arith)

-- the map of a disk
pub map_hindered : (medium : ℕ) (old new : Seen) (l : Layout) (t : Trouble) → Sound (geometry_of medium old.content) old.content l → HasCause old new directory_head t.code → IsHindered old new t
map_hindered medium old new l t s cause =
    sector_hindered old new directory_head t s.map_reads cause

-- the sector of a slot
pub entry_hindered : (tracks : ℕ) (old new : Seen) (l : Layout) (n : ℕ) (t : Trouble) → Sound tracks old.content l → n < 8 * length l.directory → HasCause old new (sector_of l.directory n) t.code → IsHindered old new t
entry_hindered tracks old new l n t s h cause =
    sector_hindered old new (sector_of l.directory n) t (sector_reads tracks old.content l.directory n s.directory h) cause

-- ---- the clauses of the calls, over plain values

-- why a call of a channel that writes is refused
abbrev pub Hinders : (A : Type 0) → Seen → Seen → Filling → Result A Trouble → Type 0
Hinders A old new w r = (d : Disk) (uses : ℕ → Use) (ch : ℕ) (bytes : List ℕ) (blocks : ℕ) → HoldsNow old.tracks old.content d uses → uses ch ≡ Writes w bytes blocks → IfErr r (IsHindered old new)

pub byte_hindered : (old new : Seen) (w : Filling) (r : Result Bool Trouble) → (IsForFiles w.chain.tracks w.chain.current → IfErr r (λ t. IsRefusedFor old new w.chain.current t.code)) → Hinders Bool old new w r
byte_hindered old new w (Ok done) cause = λ d uses ch bytes blocks h e. tt
byte_hindered old new w (Err t) cause = λ d uses ch bytes blocks h e.
    let was : IsWriting (geometry_of old.tracks old.content) old.content h.layout d ch w bytes blocks = subst (λ (x : Use). IsUsed (geometry_of old.tracks old.content) old.content h.layout d ch x) e (h.so.each ch) in
    let files : IsForFiles w.chain.tracks w.chain.current = for_files old.content w.chain was.places bytes was.wrote in
    by_current h.layout h.so.stands.sound w.chain.current (subst (λ (n : ℕ). IsForFiles n w.chain.current) was.same_tracks files) (cause files)
  where
    by_current : (l : Layout) → Sound (geometry_of old.tracks old.content) old.content l → (x : Option Place) → IsForFiles (geometry_of old.tracks old.content) x → IsRefusedFor old new x t.code → IsHindered old new t
    by_current l s None f k = map_hindered old.tracks old new l t s k
    by_current l s (Some p) f (inl k) = write_hindered (geometry_of old.tracks old.content) old new l p t s f.0 (inl k)
    by_current l s (Some p) f (inr k) = map_hindered old.tracks old new l t s k

-- an error that is handed on
pub handed_on : {A E : Type 0} (r : Result A E) (x : E) (P : E → Type 0) → IsErrAnd r (λ e. e ≡ x) → P x → IfErr r P
handed_on (Ok a) x P is h = tt
handed_on (Err e) x P is h = subst P (sym is) h

-- the slot of a channel that writes is there
pub slot_hindered : (old new : Seen) (w : Filling) (t : Trouble) (r : Result (Unit {0}) Trouble) → Answers (directory_of (geometry_of old.tracks old.content) old.content) w.slot (Err t) → Hinders (Unit {0}) old new w r
slot_hindered old new w t r a = λ d uses ch bytes blocks h e. absurd (slot_there old.tracks old.content d uses ch w bytes blocks t h e a)

-- the last block is the channel's own
pub last_hindered : (old new : Seen) (w : Filling) (t : Trouble) (r : Result (Unit {0}) Trouble) → IsErrAnd r (λ x. x ≡ t) → MatchOption w.chain.current ⊥ (λ p. (write_refusal old p ≡ Some t.code) ⊎ HasFailed old new)
    → Hinders (Unit {0}) old new w r
last_hindered old new w t r is cause = λ d uses ch bytes blocks h e.
    let was : IsWriting (geometry_of old.tracks old.content) old.content h.layout d ch w bytes blocks = subst (λ (x : Use). IsUsed (geometry_of old.tracks old.content) old.content h.layout d ch x) e (h.so.each ch) in
    let files : IsForFiles (geometry_of old.tracks old.content) w.chain.current = subst (λ (n : ℕ). IsForFiles n w.chain.current) was.same_tracks (for_files old.content w.chain was.places bytes was.wrote) in
    handed_on r t (IsHindered old new) is (by_current h.layout h.so.stands.sound w.chain.current files cause)
  where
    by_current : (l : Layout) → Sound (geometry_of old.tracks old.content) old.content l → (x : Option Place) → IsForFiles (geometry_of old.tracks old.content) x
        → MatchOption x ⊥ (λ p. (write_refusal old p ≡ Some t.code) ⊎ HasFailed old new) → IsHindered old new t
    by_current l s None f k = absurd k
    by_current l s (Some p) f k = write_hindered (geometry_of old.tracks old.content) old new l p t s f.0 k

-- the geometry that a call reads before or after the write of its last block: both are one
abbrev pub IsSized : ℕ → ℕ → Content → Content → Type 0
IsSized tracks medium c c1 = (tracks ≡ geometry_of medium c) ⊎ (tracks ≡ geometry_of medium c1)

pub one_size : (tracks medium : ℕ) (c c1 : Content) → IsSized tracks medium c c1 → geometry_of medium c1 ≡ geometry_of medium c → geometry_of medium c ≡ tracks
one_size tracks medium c c1 (inl e) same = sym e
one_size tracks medium c c1 (inr e) same = sym (e ∙ same)

-- why a slot's entry is refused, where the directory is
abbrev pub EntryRefused : ℕ → Seen → Seen → ℕ → ℕ → Type 0
EntryRefused tracks mid new n code = (directory : List Place) → Chain tracks mid.content first_directory directory → n < 8 * length directory → HasCause mid new (sector_of directory n) code

-- the entry is written after the last block
pub closing_hindered : (old mid new : Seen) (w : Filling) (tracks : ℕ) (t : Trouble) (r : Result (Unit {0}) Trouble) → IsErrAnd r (λ x. x ≡ t) → IsSized tracks old.tracks old.content mid.content → EndsChain old.content mid.content w.chain.current w.chain.waiting
    → mid.protected ≡ old.protected → old.failures ≤ mid.failures → EntryRefused tracks mid new w.slot t.code → Hinders (Unit {0}) old new w r
closing_hindered old mid new w tracks t r is size ends protected counted cause = λ d uses ch bytes blocks h e.
    let here : ℕ = geometry_of old.tracks old.content in
    let was : IsWriting here old.content h.layout d ch w bytes blocks = subst (λ (x : Use). IsUsed here old.content h.layout d ch x) e (h.so.each ch) in
    let last : IsLast old.tracks old.content mid.content h.layout d uses ch = last_written old.tracks old.content mid.content h.layout d uses ch w bytes blocks h.so was ends in
    let sound : Sound here mid.content h.layout = last.holds.stands.sound in
    let chain : Chain tracks mid.content first_directory h.layout.directory = subst (λ (n : ℕ). Chain n mid.content first_directory h.layout.directory) (one_size tracks old.tracks old.content mid.content size last.same) sound.directory in
    handed_on r t (IsHindered old new) is (hindered_since old mid new t protected counted (entry_hindered here mid new h.layout w.slot t sound was.there (cause h.layout.directory chain was.there)))

-- the same of a call that ends with it
pub put_hindered : (old mid new : Seen) (w : Filling) (tracks : ℕ) (r : Result (Unit {0}) Trouble) → IsSized tracks old.tracks old.content mid.content → EndsChain old.content mid.content w.chain.current w.chain.waiting
    → mid.protected ≡ old.protected → old.failures ≤ mid.failures
    → ((directory : List Place) → Chain tracks mid.content first_directory directory → w.slot < 8 * length directory → IfErr r (λ t. HasCause mid new (sector_of directory w.slot) t.code)) → Hinders (Unit {0}) old new w r
put_hindered old mid new w tracks (Ok x) size ends protected counted cause = λ d uses ch bytes blocks h e. tt
put_hindered old mid new w tracks (Err t) size ends protected counted cause = closing_hindered old mid new w tracks t (Err t) refl size ends protected counted cause

-- ---- a claim

-- why a call is refused whose first write is that of the map
pub claim_hindered : {A : Type 0} (old new : Seen) (t : Trouble) (r : Result A Trouble) → IsErrAnd r (λ x. x ≡ t) → HasCause old new directory_head t.code → (d : Disk) (uses : ℕ → Use) → HoldsNow old.tracks old.content d uses → IfErr r (IsHindered old new)
claim_hindered old new t r is cause d uses h = handed_on r t (IsHindered old new) is (map_hindered old.tracks old new h.layout t h.so.stands.sound cause)

-- ---- a replacement

-- why a call of a channel that replaces a file is refused
abbrev pub HindersReplacing : Seen → Seen → Filling → Result (Unit {0}) Trouble → Type 0
HindersReplacing old new w r = (d : Disk) (uses : ℕ → Use) (ch : ℕ) (bytes : List ℕ) (blocks : ℕ) → HoldsNow old.tracks old.content d uses → uses ch ≡ Writes w bytes blocks → w.replaces ≡ true → IfErr r (IsHindered old new)

pub also_replacing : (old new : Seen) (w : Filling) (r : Result (Unit {0}) Trouble) → Hinders (Unit {0}) old new w r → HindersReplacing old new w r
also_replacing old new w r hinders = λ d uses ch bytes blocks h e k. hinders d uses ch bytes blocks h e

-- the old file reads
pub old_hindered : (old new : Seen) (w : Filling) (entry : List ℕ) (t : Trouble) (r : Result (Unit {0}) Trouble) → Answers (directory_of (geometry_of old.tracks old.content) old.content) w.slot (Ok (Some entry))
    → (follow (geometry_of old.tracks old.content) old.content (sector_count (geometry_of old.tracks old.content)) (first_block entry)).trouble ≡ Some t → HindersReplacing old new w r
old_hindered old new w entry t r found z = λ d uses ch bytes blocks h e k. absurd (old_reads old.tracks old.content w entry t found z d uses ch bytes blocks h e k)

-- the map is written when the slot has the new chain
pub release_hindered : (old mid new : Seen) (w : Filling) (freed : List ℕ) (r : Result (Unit {0}) Trouble) → mid.protected ≡ old.protected → old.failures ≤ mid.failures → InSlot old.tracks old.content mid.content w freed
    → IfErr r (λ t. (write_refusal mid directory_head ≡ Some t.code) ⊎ HasFailed mid new) → HindersReplacing old new w r
release_hindered old mid new w freed (Ok x) protected counted done cause = λ d uses ch bytes blocks h e k. tt
release_hindered old mid new w freed (Err t) protected counted done cause = λ d uses ch bytes blocks h e k.
    let s : IsReplaced old.tracks mid.content d w.slot bytes blocks (with_use uses ch Idle) freed = done d uses ch bytes blocks h e k in
    hindered_since old mid new t protected counted
    (write_hindered (geometry_of old.tracks mid.content) mid new s.holds.layout directory_head t s.holds.so.stands.sound (has_head (geometry_of old.tracks mid.content) (few old.tracks mid.content)) cause)
