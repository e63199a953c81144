-- What is wrong with a relative file: with its side sectors, as OPEN reports it, and with its links.
use Rattle.std.specs.Prelude.{ℕ, ◌≡◌, ◌≤◌, ◌<◌, ◌⊎◌, List, length, slice_get, false, Some, None, Option, Result, IfOk, IfNone}
use Rattle.cbm_medium.specs.Place.{Place}
use Rattle.cbm_medium.specs.Content.{Content}
use Rattle.cbm_medium.specs.Seen.{Seen}
use Rattle.cbm_medium.specs.declared.fault.Trouble.{Trouble}
use Rattle.cbm_medium.specs.Met.{IsMetFrom}
use Rattle.cbm_directory.specs.Entries.{first_block, first_side, width_of}
use Rattle.cbm_directory.specs.Slots.{directory_of}
use Rattle.cbm_relfile.specs.Records.{Relative}
use Rattle.cbm_relfile.specs.OfFile.{IsOfFile}
use Rattle.cbm_relfile.specs.Missing.{IsRecordMissing}
use Rattle.cbm_volume.specs.SeenDisks.{seen_tracks, seen_directory}
use Rattle.cbm_volume.specs.check.SideLists.{are_records}

-- THE SIDE SECTORS OF AN ENTRY AREN'T RIGHT: 71, reported at the first of them.
pub record IsMislisted (tracks : ℕ) (c : Content) (e : List ℕ) (t : Trouble) : Type 0 where
  pub code : t.code ≡ 71
  pub track : t.track ≡ (first_side e).track
  pub sector : t.sector ≡ (first_side e).sector
  pub wrong : are_records tracks c e ≡ false

-- the relative file of an entry
abbrev pub relative_of : List ℕ → Relative
relative_of entry = record { first = first_block entry; side = first_side entry; width = width_of entry }

-- A PLACE OF AN ENTRY'S FILE: one that the entry names, or one of its side sectors.
abbrev pub IsOfEntry : ℕ → Content → List ℕ → Place → Type 0
IsOfEntry tracks c entry q = IsOfFile tracks c (relative_of entry) q

-- THE FILE OF A SLOT MEETS THE TROUBLE: a place of its file, or one to which the links from there lead, is no sector of the disk (66), or one
-- that doesn't read, with its fault.
abbrev pub IsMetInSlot : ℕ → Content → ℕ → Trouble → Type 0
IsMetInSlot tracks c slot t =
    (entry : List ℕ) × (slice_get (directory_of tracks c).entries slot ≡ Some entry) × IsMetFrom tracks c (IsOfEntry tracks c entry) t

-- THE FILE OF A SLOT IS HIDDEN by this trouble: the directory breaks off with it, or the file meets it.
abbrev pub HidesSlot : Seen → ℕ → Trouble → Type 0
HidesSlot now slot t = ((seen_directory now).trouble ≡ Some t) ⊎ IsMetInSlot (seen_tracks now) now.content slot t

-- AN ENTRY HAS NO SUCH RECORD, on any disk: its records are shorter than this position, which counts from 1, or have 255 bytes, or its file
-- has no record of this number.
abbrev pub LacksRecord : ℕ → Content → List ℕ → ℕ → ℕ → Type 0
LacksRecord tracks c entry number position =
    ((width_of entry < position) ⊎ (width_of entry ≡ 255)) ⊎ IsRecordMissing tracks c (relative_of entry) number

-- A SLOT HAS NO SUCH RECORD, on any disk: the directory ends before the slot, or its entry has no such record.
abbrev pub SlotLacksRecord : Seen → ℕ → ℕ → ℕ → Type 0
SlotLacksRecord now slot number position =
    ((length (seen_directory now).entries ≤ slot) × ((seen_directory now).trouble ≡ None))
    ⊎ ((entry : List ℕ) × (slice_get (seen_directory now).entries slot ≡ Some entry) × LacksRecord (seen_tracks now) now.content entry number position)

-- THAT THE RECORD ISN'T THERE is answered only where the slot has no such record.
abbrev pub NoneLacksRecord : {A : Type 0} → Result (Option A) Trouble → Seen → ℕ → ℕ → ℕ → Type 0
NoneLacksRecord result now slot number position = IfOk result (λ o. IfNone o (SlotLacksRecord now slot number position))
