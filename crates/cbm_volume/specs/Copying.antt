-- COPY, as a whole and step by step: what is made, or why not.
use Rattle.std.specs.Prelude.{ℕ, ◌≤◌, ◌≡◌, ◌≢◌, ◌++◌, ◌∷◌, [], Bool, true, false, List, length, Some, Result, MatchBool, MatchResult}
use Rattle.cbm_medium.specs.Content.{Content}
use Rattle.cbm_medium.specs.Seen.{Seen}
use Rattle.cbm_medium.specs.declared.fault.Trouble.{Trouble}
use Rattle.cbm_file.specs.declared.file_type.FileType.{FileType}
use Rattle.cbm_file.specs.declared.file_type.FileType.TheVariants.{Del, Rel}
use Rattle.cbm_file.specs.Types.{is_same_type}
use Rattle.cbm_file.specs.Padding.{before_filler}
use Rattle.cbm_file.specs.Files.{Disk, Bytes, empty_from, blocks_of}
use Rattle.cbm_file.specs.Changes.{copy_blocks, with_copy, with_file, closed_file, grown, has_slot}
use Rattle.cbm_chain.specs.Reading.{Reading, IsSettled}
use Rattle.cbm_chain.specs.Writing.{State, EndsChain, IsForFiles, PutsAll, begun_at, place_or_none}
use Rattle.cbm_bam.specs.Map.{Claims}
use Rattle.cbm_medium.specs.Place.{Place}
use Rattle.cbm_directory.specs.Entries.{EntersLed, closed_entry}
use Rattle.cbm_directory.specs.EntryChanges.{fresh_entry}
use Rattle.cbm_directory.specs.Empties.{TakesSlot}
use Rattle.cbm_volume.specs.SeenDisks.{seen_tracks}
use Rattle.cbm_volume.specs.Layouts.{Layout}
use Rattle.cbm_volume.specs.Reaches.{Reached}
use Rattle.cbm_volume.specs.Writers.{Use, Idle, Reads, HoldsNow, Stopped}
use Rattle.cbm_volume.specs.Calls.{OfIdle, IsCall}
use Rattle.cbm_volume.specs.Copies.{AreCopied, HasNoRoomFor, IsCopyCut, Making, Makes, OfMaking, OfVacant}

-- WHAT COPY LEAVES of a sound disk: a new closed file with the bytes of these files, one after another; or there is no room for it, and nothing
-- has changed; or a write was refused, and each slot is as before or as after.
abbrev pub CopiesFiles : Result Bool Trouble → Seen → Seen → FileType → List ℕ → List ℕ → Type 0
CopiesFiles result old new kind name slots =
    OfIdle old (λ d uses ch. kind ≢ Del → is_same_type Rel kind ≡ false → AreCopied d slots →
    let after = with_copy d kind (before_filler name) slots in IsCall result old new
    (λ done. MatchBool done (HoldsNow old.tracks new.content after uses) (HasNoRoomFor d slots × (new.content ≡ old.content)))
    (Stopped old.tracks new.content d after uses) (λ m. false))

-- THE COPY IS MADE where there is room for it, or a write was refused on the way.
abbrev pub MakesCopy : Result (Unit {0}) Trouble → Seen → Seen → FileType → List ℕ → List ℕ → Type 0
MakesCopy result old new kind name slots =
    (d : Disk) (uses : ℕ → Use) (ch : ℕ) (h : HoldsNow old.tracks old.content d uses) → uses ch ≡ Idle →
    kind ≢ Del → is_same_type Rel kind ≡ false → AreCopied d slots → has_slot d ≡ true → copy_blocks d slots ≤ d.free →
    MatchResult result (λ x. Reached old.tracks old.content h.layout new.content (with_copy d kind (before_filler name) slots) uses)
    (IsCopyCut old new old.content h.layout d uses)

-- A copy begins where a block is free: the first empty slot is found, and a block is claimed, which has no byte yet.
abbrev pub BeginsCopy : Result (ℕ × State) Trouble → Seen → Seen → Type 0
BeginsCopy result old new =
    OfVacant old (λ d uses ch h. 1 ≤ d.free → MatchResult result (λ r. (empty_from 0 (grown d).slots ≡ Some r.0) ×
    Making old.tracks old.content h.layout d uses ch new.content r.1 [] Idle)
    (IsCopyCut old new old.content h.layout d uses))

-- A byte is put into the copy, where enough blocks are free: the copy has it after its bytes.
abbrev pub CopiesByte : Result (Unit {0}) Trouble → Seen → Seen → State → State → ℕ → Type 0
CopiesByte result old new s s' byte =
    (c : Content) (l : Layout) (d : Disk) (uses : ℕ → Use) (ch : ℕ) (bytes : List ℕ) (source : Use) →
    Making old.tracks c l d uses ch old.content s bytes source → blocks_of (length (bytes ++ byte ∷ [])) ≤ d.free →
    Makes result old new c l d uses ch s' (bytes ++ byte ∷ []) source

-- The byte that waits in the reader is put, where enough blocks are free: the copy has it after its bytes, and the reader no more.
abbrev pub CopiesNext : Result (Unit {0}) Trouble → Seen → Seen → State → State → Reading → Reading → Type 0
CopiesNext result old new s s' r r' =
    (c : Content) (l : Layout) (d : Disk) (uses : ℕ → Use) (ch number byte : ℕ) (bytes left : List ℕ) →
    Making old.tracks c l d uses ch old.content s bytes (Reads number r (byte ∷ left)) →
    IsSettled r → blocks_of (length (bytes ++ byte ∷ [])) ≤ d.free →
    Makes result old new c l d uses ch s' (bytes ++ byte ∷ []) (Reads number r' left)

-- As many bytes as the reader has left are put, where enough blocks are free: the copy has them after its bytes.
abbrev pub CopiesRest : Result (Unit {0}) Trouble → Seen → Seen → State → State → Reading → ℕ → Type 0
CopiesRest result old new s s' r count =
    (c : Content) (l : Layout) (d : Disk) (uses : ℕ → Use) (ch number : ℕ) (bytes left : List ℕ) →
    Making old.tracks c l d uses ch old.content s bytes (Reads number r left) →
    IsSettled r → count ≡ length left → blocks_of (length (bytes ++ left)) ≤ d.free →
    Makes result old new c l d uses ch s' (bytes ++ left) Idle

-- What a disk has to give is put, where it can be copied and enough blocks are free: the copy has it after its bytes.
abbrev pub CopiesOf : Result (Unit {0}) Trouble → Seen → Seen → State → State → (Disk → Type 0) → (Disk → List ℕ) → Type 0
CopiesOf result old new s s' Can given =
    OfMaking old s (λ c l d uses ch bytes. let all = bytes ++ given d in
    Can d → blocks_of (length all) ≤ d.free → Makes result old new c l d uses ch s' all Idle)

-- The copy is closed in the slot that was found: it is a file of its bytes, or a write was refused.
abbrev pub EntersCopy : Result (Unit {0}) Trouble → Seen → Seen → State → FileType → List ℕ → ℕ → Type 0
EntersCopy result old new s kind name number =
    OfMaking old s (λ c l d uses ch bytes. uses ch ≡ Idle →
    empty_from 0 (grown d).slots ≡ Some number → kind ≢ Del → is_same_type Rel kind ≡ false →
    MatchResult result (λ x. Reached old.tracks c l new.content (with_file d (closed_file kind
    (before_filler name) (blocks_of (length bytes)) (Bytes bytes)) (blocks_of (length bytes))) uses)
    (IsCopyCut old new c l d uses))

-- ---- on any disk

-- the first empty slot was taken, and then a block was claimed for a chain that has no byte yet
abbrev pub BeginsCopyLed : ℕ → Content → Content → ℕ × State → Type 0
BeginsCopyLed tracks old new r =
    (taken : Content) × TakesSlot tracks old taken (Some r.0) × (first : Place) × Claims tracks taken new first × (r.1 ≡ begun_at tracks first)

-- bytes were put one after another by a writer whose block, if it has one, is one of files
abbrev pub PutsSome : Content → Content → State → State → Type 0
PutsSome old new s t = IsForFiles s.tracks s.current → (bytes : List ℕ) × PutsAll bytes old s new t

-- the chain's last block was written, and then the closed entry of a file that has it into a slot, where the directory leads
abbrev pub EntersCopyLed : Content → Content → State → FileType → List ℕ → ℕ → Type 0
EntersCopyLed old new s kind name slot =
    let first = place_or_none s.first in
    (ended : Content) × EndsChain old ended s.current s.waiting × EntersLed s.tracks ended new slot (closed_entry (fresh_entry kind name first) first s.count)

-- A COPY IS MADE ON ANY DISK: a slot and a first block were taken, bytes were put one after another, and then the chain was ended and the
-- slot's entry written. Which bytes is said of a sound disk alone.
abbrev pub CopyLed : Seen → Seen → FileType → List ℕ → Type 0
CopyLed old new kind name =
    (slot : ℕ) × (begun : Content) × (s : State) × BeginsCopyLed (seen_tracks old) old.content begun (slot, s)
    × (bytes : List ℕ) × (filled : Content) × (t : State) × PutsAll bytes begun s filled t × EntersCopyLed filled new.content t kind name slot
