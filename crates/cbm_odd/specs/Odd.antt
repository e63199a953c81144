-- Odd entries: those with which something is wrong, while nothing else of the disk is.
use Rattle.std.specs.Prelude.{ℕ, ◌≡◌, ◌+◌, ◌*◌, ◌==◌, ◌&&◌, ◌||◌, not, Bool, true, false, List, [], ◌∷◌, ◌++◌, slice_get, slice_index, Option, Some, None, Err}
use Rattle.cbm_medium.specs.Content.{Content}
use Rattle.cbm_directory.specs.Slots.{directory_of}
use Rattle.cbm_volume.specs.declared.Unsound.{Unsound}
use Rattle.cbm_shell.specs.declared.broken.flaws.found.Whose.{Whose}
use Rattle.cbm_shell.specs.declared.broken.flaws.found.Whose.TheVariants.{Disk, Directory, File}
use Rattle.cbm_shell.specs.declared.broken.flaws.found.DiskFlaw.{DiskFlaw}
use Rattle.cbm_shell.specs.declared.fault.ShellFault.{ShellFault}
use Rattle.cbm_shell.specs.declared.fault.ShellFault.TheVariants as fault
use Rattle.cbm_shell.specs.Flaws.{flaws_of, first_flaw}
use Rattle.cbm_shell.specs.Mapping.{entries_shown}
use Rattle.cbm_odd.specs.declared.odd.Odd.{Odd}

-- an entry counts no block, as art does
abbrev pub counts_none : Option (List ℕ) → Bool
counts_none None = false
counts_none (Some e) = slice_index e 28 + 256 * slice_index e 29 == 0

-- a flaw is one of an entry, or of the sectors that it leads to; that one of these is marked free (2) is one only where the entry counts no block
abbrev pub is_of_entry : List (List ℕ) → Whose → ℕ → Bool
is_of_entry entries Disk number = false
is_of_entry entries Directory number = false
is_of_entry entries (File slot) number = not (number == 2) || counts_none (slice_get entries slot)

-- each of these flaws is
abbrev pub are_of_entries : List (List ℕ) → List DiskFlaw → Bool
are_of_entries entries [] = true
are_of_entries entries (flaw ∷ rest) = is_of_entry entries flaw.whose flaw.what.number && are_of_entries entries rest

-- a flaw is one of the entry in this slot
abbrev pub is_of_slot : ℕ → Whose → Bool
is_of_slot slot Disk = false
is_of_slot slot Directory = false
is_of_slot slot (File number) = number == slot

-- one of these flaws is
abbrev pub is_slot_flawed : List DiskFlaw → ℕ → Bool
is_slot_flawed [] slot = false
is_slot_flawed (flaw ∷ rest) slot = is_of_slot slot flaw.whose || is_slot_flawed rest slot

-- an entry and its slot, if it is odd
abbrev pub odd_if : Bool → ℕ → List ℕ → List Odd
odd_if true slot e = record { slot = slot; entry = e } ∷ []
odd_if false slot e = []

-- those of these entries that have a flaw, the first of which is in this slot
unfoldable pub odds_among : List DiskFlaw → ℕ → List (List ℕ) → List Odd
odds_among flaws slot [] = []
odds_among flaws slot (e ∷ rest) = odd_if (is_slot_flawed flaws slot) slot e ++ odds_among flaws (slot + 1) rest

-- one of these odd entries is in this slot
abbrev pub is_odd_slot : List Odd → ℕ → Bool
is_odd_slot [] slot = false
is_odd_slot (odd ∷ rest) slot = odd.slot == slot || is_odd_slot rest slot

-- an entry, unless it is odd
abbrev pub unless_odd : Bool → List ℕ → List (List ℕ)
unless_odd true e = []
unless_odd false e = e ∷ []

-- these entries, the first of which is in this slot, but the odd ones
unfoldable pub others_among : List Odd → ℕ → List (List ℕ) → List (List ℕ)
others_among odds slot [] = []
others_among odds slot (e ∷ rest) = unless_odd (is_odd_slot odds slot) e ++ others_among odds (slot + 1) rest

-- THE ODD ENTRIES OF A DISK: each of its flaws is one of an entry, and these are the entries that have one
pub record AreOddOf (tracks : ℕ) (content : Content) (odds : List Odd) : Type 0 where
  pub alone : are_of_entries (entries_shown (directory_of tracks content)) (flaws_of tracks content) ≡ true
  pub entries : List (List ℕ)
  pub all : directory_of tracks content ≡ record { entries = entries; trouble = None }
  pub odd : odds ≡ odds_among (flaws_of tracks content) 0 entries

-- the first of these flaws
abbrev pub IsFirstFlaw : List DiskFlaw → ShellFault → Type 0
IsFirstFlaw flaws f = (u : Unsound) × (first_flaw flaws ≡ Err u) × (f ≡ fault.Unsound u)

-- memory ran out, or a sector can't be read
abbrev pub IsUnreadable : ShellFault → Type 0
IsUnreadable fault.Memory = Unit {0}
IsUnreadable (fault.Trouble t) = Unit {0}
IsUnreadable f = ⊥

-- why a disk's odd entries aren't known: more is wrong than entries, and this is the first flaw; or it can't be read
abbrev pub IsNotOddOf : ℕ → Content → ShellFault → Type 0
IsNotOddOf tracks content (fault.Unsound u) = first_flaw (flaws_of tracks content) ≡ Err u
IsNotOddOf tracks content f = IsUnreadable f
