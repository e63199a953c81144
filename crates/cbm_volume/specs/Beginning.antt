-- OPEN for writing: what the calls that begin a file, a replacement or an addition leave of a sound disk.
use Rattle.std.specs.Prelude.{ℕ, ◌-◌, ◌≡◌, ◌≢◌, [], true, false, List, Option, Some, Result, MatchOption, MatchResult}
use Rattle.cbm_medium.specs.Place.{Place}
use Rattle.cbm_medium.specs.Content.{Content}
use Rattle.cbm_medium.specs.Seen.{Seen}
use Rattle.cbm_medium.specs.declared.fault.Trouble.{Trouble}
use Rattle.cbm_file.specs.declared.file_type.FileType.{FileType}
use Rattle.cbm_file.specs.declared.file_type.FileType.TheVariants.{Del, Rel}
use Rattle.cbm_file.specs.Types.{is_same_type}
use Rattle.cbm_file.specs.Padding.{before_filler}
use Rattle.cbm_file.specs.Files.{File, with_slot, bytes_in}
use Rattle.cbm_file.specs.Changes.{with_file, unclosed, new_slot, reopened}
use Rattle.cbm_bam.specs.Map.{Claims}
use Rattle.cbm_chain.specs.Writing.{begun_at}
use Rattle.cbm_directory.specs.Entries.{EntersLed}
use Rattle.cbm_directory.specs.EntryChanges.{fresh_entry}
use Rattle.cbm_directory.specs.Empties.{TakesSlot}
use Rattle.cbm_volume.specs.SeenDisks.{seen_tracks}
use Rattle.cbm_volume.specs.Holding.{EntryStandsAt}
use Rattle.cbm_volume.specs.Opens.{BeginsFile, CanBeWritten, HasNoPlace, IsHindered}
use Rattle.cbm_volume.specs.Writers.{Filling, Idle, Stopped}
use Rattle.cbm_volume.specs.Calls.{OfDisk, IsCall, IsOneWrite}

-- A NEW FILE BEGINS: an idle channel writes it in an empty slot, not closed, with its name and a first block; or there is no place for it,
-- and nothing has changed; or a write was refused, and each slot is as before or as after. It is of type SEQ, PRG or USR.
abbrev pub BeginsNewFile : Result (Option Filling) Trouble → Seen → Seen → FileType → List ℕ → Type 0
BeginsNewFile result old new kind name =
    OfDisk old (λ d uses. let after = with_file d (unclosed kind (before_filler name)) 1 in IsCall result old new
    (λ o. (ch : ℕ) → uses ch ≡ Idle → kind ≢ Del → is_same_type Rel kind ≡ false →
    MatchOption o (HasNoPlace d × (new.content ≡ old.content)) (λ w. BeginsFile old.tracks new.content after uses ch (new_slot d) false [] 1 w))
    (kind ≢ Del → is_same_type Rel kind ≡ false → Stopped old.tracks new.content d after uses) (λ m. false))

-- A REPLACEMENT BEGINS for the file in a slot that can be written: an idle channel writes it with a first block, which is no longer free; or
-- no block is free, and nothing has changed.
abbrev pub BeginsReplacement : Result (Option Filling) Trouble → Seen → Seen → ℕ → Type 0
BeginsReplacement result old new slot =
    OfDisk old (λ d uses. IsOneWrite result old new
    (λ o. (ch : ℕ) (f : File) → uses ch ≡ Idle → CanBeWritten d uses slot f →
    MatchOption o ((d.free ≡ 0) × (new.content ≡ old.content))
    (λ w. BeginsFile old.tracks new.content (record d { free = d.free - 1 }) uses ch slot true [] 1 w)))

-- A FILE IS OPENED FOR APPENDING, which can be written and whose entry this is: it isn't closed, and an idle channel writes it after the
-- bytes and blocks that it has; or the write was refused, which has its cause. It isn't of type DEL, of which no unclosed entry can be
-- told from an empty slot.
abbrev pub BeginsAppending : Result Filling Trouble → Seen → Seen → ℕ → List ℕ → Type 0
BeginsAppending result old new slot entry =
    OfDisk old (λ d uses. (f : File) → CanBeWritten d uses slot f →
    EntryStandsAt old.tracks old.content slot entry → MatchResult result
    (λ w. (ch : ℕ) → uses ch ≡ Idle → is_same_type Del f.kind ≡ false → BeginsFile old.tracks new.content
    (with_slot d slot (Some (reopened f))) uses ch slot false (bytes_in f.body) f.held w)
    (IsHindered old new))

-- ---- on any disk

-- A REPLACEMENT BEGINS ON ANY DISK: a block was claimed, which its writer fills.
abbrev pub ReplacementLed : Seen → Seen → ℕ → Filling → Type 0
ReplacementLed old new slot w =
    (q : Place) × Claims (seen_tracks old) old.content new.content q × (w ≡ record { slot = slot; replaces = true; chain = begun_at (seen_tracks old) q })

-- A NEW FILE BEGINS ON ANY DISK: the first empty slot was taken, a block was claimed, which its writer fills, and then the slot's entry was
-- written where the directory leads, not closed.
abbrev pub NewFileLed : Seen → Seen → FileType → List ℕ → Filling → Type 0
NewFileLed old new kind name w =
    (taken : Content) × TakesSlot (seen_tracks old) old.content taken (Some w.slot) × (claimed : Content) × (q : Place) × Claims (seen_tracks old) taken claimed q
    × (w.replaces ≡ false) × (w.chain ≡ begun_at (seen_tracks old) q) × EntersLed (seen_tracks old) claimed new.content w.slot (fresh_entry kind name q)
