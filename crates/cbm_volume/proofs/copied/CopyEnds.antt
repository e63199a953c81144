-- The two ends of a copy as the calls answer them: its slot and first block, and its entry.
use Rattle.std.proofs.Common.{◌≡◌, ◌≢◌, ◌⊎◌, ℕ, ◌*◌, ◌%◌, ◌<◌, ◌≤◌, length, arith, List, [], true, false, sym, subst, ◌∙◌, inl, Option, Some, None, Result, Ok, Err, IfErr}
use Rattle.std.specs.Prelude.{OnOk, OnErr, MatchOption, MatchResult}
use Rattle.cbm_medium.specs.Place.{Place, directory_head}
use Rattle.cbm_medium.specs.Content.{Content}
use Rattle.cbm_medium.specs.Links.{Chain}
use Rattle.cbm_medium.specs.Seen.{Seen, write_refusal, HasFailed}
use Rattle.cbm_medium.specs.declared.fault.Trouble.{Trouble}
use Rattle.cbm_file.specs.declared.file_type.FileType.{FileType}
use Rattle.cbm_file.specs.declared.file_type.FileType.TheVariants.{Del, Rel}
use Rattle.cbm_file.specs.Padding.{before_filler}
use Rattle.cbm_file.specs.Types.{is_same_type}
use Rattle.cbm_file.specs.Files.{Bytes, Disk, empty_from, blocks_of}
use Rattle.cbm_file.specs.Changes.{grown, has_slot, with_file, closed_file}
use Rattle.cbm_bam.specs.Map.{map_of, geometry_of, IsFull, Claims}
use Rattle.cbm_bam.specs.Causes.{HasCause}
use Rattle.cbm_chain.specs.Writing.{State, IsForFiles, EndsChain, begun_at, place_or_none}
use Rattle.cbm_directory.specs.Empties.{TakesSlot, SlotStopped, IsSlotRefused}
use Rattle.cbm_directory.specs.Entries.{IsClosedAs, Enters, first_directory, sector_of}
use Rattle.cbm_directory.specs.EntryChanges.{IsFreshAs}
use Rattle.cbm_volume.specs.Copies.{Making, IsCopyCut}
use Rattle.cbm_volume.specs.Layouts.{Layout, Sound}
use Rattle.cbm_volume.specs.Opens.{IsHindered}
use Rattle.cbm_volume.specs.Reaches.{Reached, SlotLost}
use Rattle.cbm_volume.specs.Writers.{Use, Idle, HoldsNow}
use Rattle.cbm_volume.proofs.copied.CopySteps.{cut_since, copy_for_files}
use Rattle.cbm_volume.proofs.opened.HinderedOpens.{slot_hinders}
use Rattle.cbm_volume.proofs.copied.Made.{IsLastOf, made_last, made_refused, made_there, made_over}
use Rattle.cbm_volume.proofs.copied.Making.{making_begun, making_stopped}
use Rattle.cbm_volume.proofs.opened.OpenedFiles.{not_full}
use Rattle.cbm_volume.proofs.opened.OpenedSlots.{SlotReady, slot_ready, slot_lost, no_slot, reached_same, same_files_grown}
use Rattle.cbm_volume.proofs.layouts.Refusals.{write_hindered, sector_hindered, hindered_since, sector_reads}
use Rattle.cbm_volume.proofs.layouts.Vacant.{free_of_disk}

-- ---- the slot

pub begin_cut : (old new : Seen) (geometry : ℕ) (t : Trouble) (d : Disk) (uses : ℕ → Use) (h : HoldsNow old.tracks old.content d uses) → geometry ≡ geometry_of old.tracks old.content → SlotStopped geometry old.content new.content t → IsSlotRefused geometry old new t
    → IsCopyCut old new old.content h.layout d uses t
begin_cut old new geometry t d uses h e stopped refused =
    (slot_lost old.tracks old.content new.content t d uses h (subst (λ (k : ℕ). SlotStopped k old.content new.content t) e stopped), slot_hinders old new t d uses h (subst (λ (k : ℕ). IsSlotRefused k old new t) e refused))

taken_at : (geometry tracks : ℕ) (c c1 : Content) (o p : Option ℕ) → geometry ≡ tracks → o ≡ p → TakesSlot geometry c c1 o → TakesSlot tracks c c1 p
taken_at geometry tracks c c1 o p e f h = subst (λ (k : ℕ). TakesSlot k c c1 p) e (subst (λ (x : Option ℕ). TakesSlot geometry c c1 x) f h)

pub begin_place : (old new : Seen) (geometry : ℕ) (o : Option ℕ) (d : Disk) (uses : ℕ → Use) → HoldsNow old.tracks old.content d uses → geometry ≡ geometry_of old.tracks old.content → o ≡ None → TakesSlot geometry old.content new.content o → has_slot d ≡ true → ⊥
begin_place old new geometry o d uses h e none taken some =
    let z = sym (no_slot old.tracks old.content new.content d uses h (taken_at geometry (geometry_of old.tracks old.content) old.content new.content o None e none taken)).0 ∙ some in (cc)

pub begin_ready : (old new : Seen) (geometry n : ℕ) (o : Option ℕ) (d : Disk) (uses : ℕ → Use) (h : HoldsNow old.tracks old.content d uses) → geometry ≡ geometry_of old.tracks old.content → o ≡ Some n → TakesSlot geometry old.content new.content o → SlotReady old.tracks old.content h.layout new.content d uses n
begin_ready old new geometry n o d uses h e some taken = slot_ready old.tracks old.content new.content n d uses h (taken_at geometry (geometry_of old.tracks old.content) old.content new.content o (Some n) e some taken)

pub claim_cut : (old mid new : Seen) (n : ℕ) (t : Trouble) (d : Disk) (uses : ℕ → Use) (h : HoldsNow old.tracks old.content d uses) → SlotReady old.tracks old.content h.layout mid.content d uses n → mid.protected ≡ old.protected → old.failures ≤ mid.failures → new.content ≡ mid.content
    → HasCause mid new directory_head t.code → IsCopyCut old new old.content h.layout d uses t
claim_cut old mid new n t d uses h ready protected counted same cause = (
  record { disk = grown d; reached = reached_same old.tracks old.content h.layout mid.content new.content (grown d) uses same ready.reached; slots = same_files_grown d },
  hindered_since old mid new t protected counted (sector_hindered mid new directory_head t ready.reached.so.stands.sound.map_reads cause),
)

-- what the claim of a first block says
abbrev pub Begun : ℕ → Content → Content → Option State → Type 0
Begun geometry c c' o = MatchOption o (IsFull geometry (map_of c) × (c' ≡ c)) (λ w. (q : Place) × Claims geometry c c' q × (w ≡ begun_at geometry q))

pub claim_place : (old mid new : Seen) (geometry n : ℕ) (o : Option State) (d : Disk) (uses : ℕ → Use) (h : HoldsNow old.tracks old.content d uses) → SlotReady old.tracks old.content h.layout mid.content d uses n → geometry ≡ geometry_of old.tracks old.content → 1 ≤ d.free → o ≡ None
    → Begun geometry mid.content new.content o → ⊥
claim_place old mid new geometry n o d uses h ready e room none begun =
    let full : IsFull geometry (map_of mid.content) × (new.content ≡ mid.content) = subst (λ (x : Option State). Begun geometry mid.content new.content x) none begun in
    not_full old.tracks old.content mid.content d uses n h ready (λ z. (omega (arith, z, free_of_disk (geometry_of old.tracks old.content) old.content h.layout d h.so.stands, room))) (subst (λ (k : ℕ). IsFull k (map_of mid.content)) e full.0)

pub claim_made : (old mid new : Seen) (geometry n : ℕ) (o : Option State) (s : State) (d : Disk) (uses : ℕ → Use) (ch : ℕ) (h : HoldsNow old.tracks old.content d uses) → uses ch ≡ Idle → SlotReady old.tracks old.content h.layout mid.content d uses n → geometry ≡ geometry_of old.tracks old.content → o ≡ Some s
    → Begun geometry mid.content new.content o → (empty_from 0 (grown d).slots ≡ Some n) × Making old.tracks old.content h.layout d uses ch new.content s [] Idle
claim_made old mid new geometry n o s d uses ch h idle ready e some begun =
    let k : Begun (geometry_of old.tracks old.content) mid.content new.content (Some s) = subst (λ (x : ℕ). Begun x mid.content new.content (Some s)) e (subst (λ (x : Option State). Begun geometry mid.content new.content x) some begun) in
    (ready.slot, subst (λ (x : State). Making old.tracks old.content h.layout d uses ch new.content x [] Idle) (sym k.2) (making_begun old.tracks old.content h.layout mid.content new.content d uses ch k.0 idle ready.reached k.1))

-- ---- the entry

pub last_cut : (old new : Seen) (s : State) (t : Trouble) (c : Content) (l : Layout) (d : Disk) (uses : ℕ → Use) (ch : ℕ) (bytes : List ℕ) (u : Use) → new.content ≡ old.content → MatchOption s.current ⊥ (λ p. (write_refusal old p ≡ Some t.code) ⊎ HasFailed old new)
    → Making old.tracks c l d uses ch old.content s bytes u → IsCopyCut old new c l d uses t
last_cut old new s t c l d uses ch bytes u same cause k =
    (making_stopped old.tracks c l d uses ch old.content new.content s bytes u k (inl same), by_current s.current (subst (λ (n : ℕ). IsForFiles n s.current) (k.same_tracks ∙ sym k.reached.same) (copy_for_files old.tracks c l d uses ch old.content s bytes u k)) cause)
  where
    sound : Sound (geometry_of old.tracks old.content) old.content k.reached.layout
    sound = subst (λ (n : ℕ). Sound n old.content k.reached.layout) (sym k.reached.same) k.reached.so.stands.sound

    by_current : (x : Option Place) → IsForFiles (geometry_of old.tracks old.content) x → MatchOption x ⊥ (λ p. (write_refusal old p ≡ Some t.code) ⊎ HasFailed old new) → IsHindered old new t
    by_current None f e = absurd e
    by_current (Some p) f e = write_hindered (geometry_of old.tracks old.content) old new k.reached.layout p t sound f.0 e

-- THE COPY'S ENTRY IS WRITTEN, or refused
pub entry_made : (old mid new : Seen) (geometry : ℕ) (s : State) (kind : FileType) (name : List ℕ) (n : ℕ) (at : Place) (entry body : List ℕ) (r : Result (Unit {0}) Trouble) → EndsChain old.content mid.content s.current s.waiting → mid.tracks ≡ old.tracks → mid.protected ≡ old.protected → old.failures ≤ mid.failures
    → geometry ≡ s.tracks → IsFreshAs entry kind name at → IsClosedAs entry body (place_or_none s.first) s.count
    → ((directory : List Place) → Chain geometry mid.content first_directory directory → n < 8 * length directory → OnOk r (Enters mid.content new.content (sector_of directory n) (n % 8) body)) → OnErr r (new.content ≡ mid.content)
    → ((directory : List Place) → Chain geometry mid.content first_directory directory → n < 8 * length directory → IfErr r (λ t. HasCause mid new (sector_of directory n) t.code))
    → (c : Content) (l : Layout) (d : Disk) (uses : ℕ → Use) (ch : ℕ) (bytes : List ℕ) → Making old.tracks c l d uses ch old.content s bytes Idle → uses ch ≡ Idle → empty_from 0 (grown d).slots ≡ Some n → kind ≢ Del → is_same_type Rel kind ≡ false
    → MatchResult r (λ x. Reached old.tracks c l new.content (with_file d (closed_file kind (before_filler name) (blocks_of (length bytes)) (Bytes bytes)) (blocks_of (length bytes))) uses) (IsCopyCut old new c l d uses)
entry_made old mid new geometry s kind name n at entry body r ends tracks protected counted size says closes entered same cause c l d uses ch bytes k idle empty ne plain = by_result r entered same cause
  where
    last : IsLastOf old.tracks c l d uses ch mid.content s bytes
    last = made_last old.tracks c l d uses ch old.content mid.content s bytes Idle k ends

    dir : List Place
    dir = last.reached.layout.directory

    chain : Chain (geometry_of old.tracks c) mid.content first_directory dir
    chain = last.reached.so.stands.sound.directory

    sized : geometry ≡ geometry_of old.tracks c
    sized = size ∙ k.same_tracks

    here : Chain geometry mid.content first_directory dir
    here = subst (λ (m : ℕ). Chain m mid.content first_directory dir) (sym sized) chain

    there : n < 8 * length dir
    there = made_there old.tracks c l d uses ch mid.content s bytes n last empty

    by_result : (r : Result (Unit {0}) Trouble) → ((directory : List Place) → Chain geometry mid.content first_directory directory → n < 8 * length directory → OnOk r (Enters mid.content new.content (sector_of directory n) (n % 8) body)) → OnErr r (new.content ≡ mid.content)
        → ((directory : List Place) → Chain geometry mid.content first_directory directory → n < 8 * length directory → IfErr r (λ t. HasCause mid new (sector_of directory n) t.code))
        → MatchResult r (λ x. Reached old.tracks c l new.content (with_file d (closed_file kind (before_filler name) (blocks_of (length bytes)) (Bytes bytes)) (blocks_of (length bytes))) uses) (IsCopyCut old new c l d uses)
    by_result (Ok x) entered same cause = made_over old.tracks c l d uses ch mid.content new.content s bytes n kind name at entry body idle last empty ne plain says closes (entered dir here there)
    by_result (Err t) entered same cause = (
      subst (λ (x : Content). SlotLost old.tracks c l x d uses) (sym same) (made_refused old.tracks c l d uses ch mid.content s bytes last),
      hindered_since old mid new t protected counted (sector_hindered mid new (sector_of dir n) t (sector_reads (geometry_of old.tracks c) mid.content dir n chain there) (cause dir here there)),
    )

-- what a later call leaves is what the whole leaves
pub since_begun : {A : Type 0} (old mid new : Seen) (c : Content) (l : Layout) (d after : Disk) (uses : ℕ → Use) (r : Result A Trouble) → mid.tracks ≡ old.tracks → mid.protected ≡ old.protected → old.failures ≤ mid.failures
    → MatchResult r (λ x. Reached mid.tracks c l new.content after uses) (IsCopyCut mid new c l d uses) → MatchResult r (λ x. Reached old.tracks c l new.content after uses) (IsCopyCut old new c l d uses)
since_begun {A} old mid new c l d after uses (Ok x) same protected counted h = subst (λ (n : ℕ). Reached n c l new.content after uses) same h
since_begun {A} old mid new c l d after uses (Err t) same protected counted h = cut_since old mid new c l d uses t same protected counted h

-- a copy has a block
pub one_block : (n free : ℕ) → blocks_of n ≤ free → 1 ≤ free
one_block n free h = omega (arith, h)
