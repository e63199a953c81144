-- The sectors that odd entries lead to, and that are kept as they are.
use Rattle.std.specs.Prelude.{ℕ, ◌≡◌, ◌<◌, ◌&&◌, ◌⊎◌, not, if◌then◌else◌, Bool, true, false, List, [], ◌∷◌, ◌++◌, Option, Some, None, Ok, Err, is_none}
use Rattle.std.specs.Str.{bytes_eq}
use Rattle.cbm_medium.specs.Place.{Place}
use Rattle.cbm_medium.specs.Content.{Cell, Content}
use Rattle.cbm_medium.specs.Seen.{Seen}
use Rattle.cbm_directory.specs.Entries.{first_block}
use Rattle.cbm_volume.specs.check.Claims.{fault_at}
use Rattle.cbm_shell.specs.declared.fault.ShellFault.{ShellFault}
use Rattle.cbm_shell.specs.declared.fault.ShellFault.TheVariants as fault
use Rattle.cbm_shell.specs.Mapping.{chain_of, sides_of, used_in, is_among, free_by}
use Rattle.cbm_shell.specs.Passing.{places_in}
use Rattle.cbm_odd.specs.declared.odd.Odd.{Odd}

-- the sectors that an entry leads to, closed or not, as far as they read and stay on the disk
abbrev pub reach_of : ℕ → Content → List ℕ → List Place
reach_of tracks content e = chain_of tracks content (first_block e) ++ sides_of tracks content e

-- the sectors that odd entries lead to
unfoldable pub reached_by : ℕ → Content → List Odd → List Place
reached_by tracks content [] = []
reached_by tracks content (odd ∷ rest) = reach_of tracks content odd.entry ++ reached_by tracks content rest

-- a place is in the first set, and not in the other
abbrev pub is_only_in : (Place → Bool) → (Place → Bool) → Place → Bool
is_only_in first other p = first p && not (other p)

-- THE SECTORS THAT ARE HELD: those that odd entries lead to, but the BAM's and the directory's, in order of track and sector
abbrev pub held_places : ℕ → Content → List Odd → List Place
held_places tracks content odds =
    places_in (is_only_in (is_among (reached_by tracks content odds)) (is_among (used_in tracks content []))) tracks

-- what is wrong with a sector that is held: it is free (2), or a file's that didn't have it (3)
abbrev pub spoilt : Bool → Bool → Option ℕ
spoilt free used = if free then Some 2 else if used then Some 3 else None

-- the same, by the cell of 18/0 and the sectors that files have got
abbrev pub spoilt_at : Cell → (Place → Bool) → Place → Option ℕ
spoilt_at head used p = spoilt (free_by head p) (used p)

-- nothing is wrong with any of these
abbrev pub are_kept : Cell → (Place → Bool) → List Place → Bool
are_kept head used [] = true
are_kept head used (p ∷ rest) = is_none (spoilt_at head used p) && are_kept head used rest

-- something is wrong with the first of these that isn't kept
abbrev pub IsSpoiltAmong : Cell → (Place → Bool) → List Place → ShellFault → Type 0
IsSpoiltAmong head used [] f = ⊥
IsSpoiltAmong head used (p ∷ rest) f =
    ((n : ℕ) × (spoilt_at head used p ≡ Some n) × (f ≡ fault.Unsound (fault_at n p))) ⊎ IsSpoiltAmong head used rest f

-- two cells read, and have the same bytes
abbrev pub is_same_cell : Cell → Cell → Bool
is_same_cell (Ok old) (Ok new) = bytes_eq old new
is_same_cell (Ok old) (Err code) = false
is_same_cell (Err code) cell = false

-- each of these sectors reads in both contents, with the same bytes
abbrev pub are_same_cells : Content → Content → List Place → Bool
are_same_cells old new [] = true
are_same_cells old new (p ∷ rest) = is_same_cell (old p) (new p) && are_same_cells old new rest

-- a disk doesn't have a sector, or it doesn't read on both with the same bytes
abbrev pub IsUnlike : Seen → Seen → Place → Type 0
IsUnlike old new p = (old.tracks < p.track) ⊎ ((new.tracks < p.track) ⊎ (is_same_cell (old.content p) (new.content p) ≡ false))

-- one of these sectors is unlike, and is reported as one that is used twice (3)
abbrev pub IsChangedAmong : Seen → Seen → List Place → ShellFault → Type 0
IsChangedAmong old new [] f = ⊥
IsChangedAmong old new (p ∷ rest) f = (IsUnlike old new p × (f ≡ fault.Unsound (fault_at 3 p))) ⊎ IsChangedAmong old new rest f
