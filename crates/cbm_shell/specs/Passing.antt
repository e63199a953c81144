-- The sectors that pass a test, in order of track and sector.
use Rattle.std.specs.Prelude.{ℕ, zero, suc, Bool, true, false, List, [], ◌∷◌, ◌++◌}
use Rattle.cbm_medium.specs.Place.{Place, sectors_on}

-- a place, if it passes
abbrev pub place_if : Bool → Place → List Place
place_if true p = p ∷ []
place_if false p = []

-- those of the first n sectors of a track
unfoldable pub places_on : (Place → Bool) → ℕ → ℕ → List Place
places_on test track zero = []
places_on test track (suc n) = places_on test track n ++ place_if (test (record { track = track; sector = n })) (record { track = track; sector = n })

-- THOSE OF THE FIRST n TRACKS
unfoldable pub places_in : (Place → Bool) → ℕ → List Place
places_in test zero = []
places_in test (suc n) = places_in test n ++ places_on test (suc n) (sectors_on (suc n))
