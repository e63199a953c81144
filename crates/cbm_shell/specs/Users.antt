-- The files that use a sector.
use Rattle.std.specs.Prelude.{ℕ, ◌+◌, Bool, true, false, List, [], ◌∷◌, ◌++◌}
use Rattle.cbm_medium.specs.Place.{Place}
use Rattle.cbm_medium.specs.Content.{Content}
use Rattle.cbm_directory.specs.Slots.{directory_of}
use Rattle.cbm_shell.specs.Mapping.{entries_shown, is_among, sectors_of}

-- the file of an entry uses the sector at a place
abbrev pub is_user : ℕ → Content → Place → List ℕ → Bool
is_user tracks content p e = is_among (sectors_of tracks content e) p

-- the number of a slot, if its file does
abbrev pub slot_if : Bool → ℕ → List ℕ
slot_if true slot = slot ∷ []
slot_if false slot = []

-- the slots of these entries whose files use it, the first of which has this number
unfoldable pub users_among : ℕ → Content → Place → ℕ → List (List ℕ) → List ℕ
users_among tracks content p slot [] = []
users_among tracks content p slot (e ∷ rest) = slot_if (is_user tracks content p e) slot ++ users_among tracks content p (slot + 1) rest

-- THE SLOTS whose closed files use a sector
abbrev pub users_of : ℕ → Content → Place → List ℕ
users_of tracks content p = users_among tracks content p 0 (entries_shown (directory_of tracks content))
