-- The list of the directory's entries, and a reader on the way through it.
use Rattle.std.specs.Prelude.{ℕ, zero, suc, ◌+◌, ◌*◌, ◌≤◌, ◌≡◌, List, [], ◌∷◌, ◌++◌, Bool, if◌then◌else◌, length, slice_get, Option, Some, None, Result, Ok, Err}
use Rattle.cbm_medium.specs.Place.{Place}
use Rattle.cbm_medium.specs.Content.{Content}
use Rattle.cbm_medium.specs.Links.{bytes_at, Followed, follow}
use Rattle.cbm_medium.specs.declared.fault.Trouble.{Trouble}
use Rattle.cbm_directory.specs.Entries.{entry_of, first_directory}

-- this many entries of a sector, from a number on
abbrev pub entries_from : (count : ℕ) → List ℕ → ℕ → List (List ℕ)
entries_from zero sector k = []
entries_from (suc n) sector k = entry_of sector k ∷ entries_from n sector (k + 1)

-- the eight entries of each of these sectors
abbrev pub all_entries : Content → List Place → List (List ℕ)
all_entries content [] = []
all_entries content (b ∷ rest) = entries_from 8 (bytes_at content b) 0 ++ all_entries content rest

-- entries, and the trouble after them
pub record Listed : Type 0 where
  pub entries : List (List ℕ)
  pub trouble : Option Trouble

-- the entries of the directory's sectors, and what ended its chain
abbrev pub listed_in : Content → Followed → Listed
listed_in content f = record { entries = all_entries content f.blocks; trouble = f.trouble }

-- the entries that follow a link, where this many sectors are left to the directory
unfoldable pub listed_from : ℕ → Content → ℕ → Place → Listed
listed_from tracks content left at = listed_in content (follow tracks content left at)

-- THE ENTRIES OF A DISK'S DIRECTORY: a chain of at most 18 sectors from 18/1 on
unfoldable pub directory_of : ℕ → Content → Listed
directory_of tracks content = listed_from tracks content 18 first_directory

-- a reader: the entries of its sector that it has not given, the link after them, and how many sectors are left
pub record Cursor : Type 0 where
  pub tracks : ℕ
  pub entries : List (List ℕ)
  pub next : Place
  pub left : ℕ

abbrev pub listed_after : List (List ℕ) → Listed → Listed
listed_after front rest = record { entries = front ++ rest.entries; trouble = rest.trouble }

-- what a reader still gives
unfoldable pub listed_left : Content → Cursor → Listed
listed_left content c = listed_after c.entries (listed_from c.tracks content c.left c.next)

-- the answer to a number: the entry there, none past the last one, or the trouble where the list breaks off before
abbrev pub Answers : Listed → ℕ → Result (Option (List ℕ)) Trouble → Type 0
Answers d n (Ok (Some entry)) = slice_get d.entries n ≡ Some entry
Answers d n (Ok None) = (length d.entries ≤ n) × (d.trouble ≡ None)
Answers d n (Err t) = (length d.entries ≤ n) × (d.trouble ≡ Some t)

-- One entry is given, or none where none is left; a trouble comes where the list breaks off.
abbrev pub Gives : Listed → Listed → Result (Option (List ℕ)) Trouble → Type 0
Gives old new (Ok (Some entry)) = old ≡ listed_after (entry ∷ []) new
Gives old new (Ok None) = (old ≡ record { entries = []; trouble = None }) × (new ≡ old)
Gives old new (Err t) = (old ≡ record { entries = []; trouble = Some t }) × (new ≡ old)

-- how many entries a reader can still give
abbrev pub most_left : Cursor → ℕ
most_left c = 8 * c.left + length c.entries

-- the fact of the reader after an entry was given
abbrev pub IfGiven : {E : Type 0} → Result (Option (List ℕ)) E → Type 0 → Type 0
IfGiven (Ok (Some entry)) P = P
IfGiven _ P = Unit {0}

-- the first entry that passes, with its number, counted from n
abbrev pub first_from : (List ℕ → Bool) → ℕ → List (List ℕ) → Option (ℕ × List ℕ)
first_from test n [] = None
first_from test n (entry ∷ rest) = if test entry then Some (n, entry) else first_from test (n + 1) rest

-- The first entry that passes; none where none passes; or the trouble where the list breaks off before.
abbrev pub Finds : (List ℕ → Bool) → Listed → Result (Option (ℕ × List ℕ)) Trouble → Type 0
Finds test d (Ok (Some found)) = first_from test 0 d.entries ≡ Some found
Finds test d (Ok None) = (first_from test 0 d.entries ≡ None) × (d.trouble ≡ None)
Finds test d (Err t) = (first_from test 0 d.entries ≡ None) × (d.trouble ≡ Some t)
