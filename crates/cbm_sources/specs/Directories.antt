-- The directories of disks.
use Rattle.std.specs.Prelude.{ℕ, ◌==◌, List, [], ◌∷◌, ◌++◌, not, filter}
use Rattle.cbm_medium.specs.Place.{Place}
use Rattle.cbm_medium.specs.Content.{Content}
use Rattle.cbm_medium.specs.Links.{Followed, bytes_at}
use Rattle.cbm_directory.specs.Entries.{first_directory, type_byte}
use Rattle.cbm_directory.specs.Slots.{Listed, entries_from}
use Rattle.cbm_sources.specs.declared.form.Form.{Form}
use Rattle.cbm_sources.specs.declared.form.Form.TheVariants.{D81}

-- where the directory of each form begins
abbrev pub directory_start : Form → Place
directory_start D81 = record { track = 40; sector = 3 }
directory_start _ = first_directory

-- how many sectors the directory of each form has at most: those of its track after the header, or on a 1581's disk after the BAM
abbrev pub directory_limit : Form → ℕ
directory_limit D81 = 37
directory_limit _ = 18

-- the entries that aren't empty
abbrev pub used : List (List ℕ) → List (List ℕ)
used entries = filter (λ e. not (type_byte e == 0)) entries

-- the entries of these sectors that aren't empty
abbrev pub used_entries : Content → List Place → List (List ℕ)
used_entries content [] = []
used_entries content (b ∷ rest) = used (entries_from 8 (bytes_at content b) 0) ++ used_entries content rest

-- the entries of the directory's sectors that aren't empty, and what broke its chain off
abbrev pub listed_of : Content → Followed → Listed
listed_of content f = record { entries = used_entries content f.blocks; trouble = f.trouble }
