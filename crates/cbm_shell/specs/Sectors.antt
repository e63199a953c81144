-- The sectors that don't read.
use Rattle.std.specs.Prelude.{ℕ, zero, suc, List, [], ◌∷◌, ◌++◌, Ok, Err}
use Rattle.cbm_medium.specs.Place.{Place, sectors_on}
use Rattle.cbm_medium.specs.Content.{Cell, Content}
use Rattle.cbm_medium.specs.declared.fault.Fault.{Fault}
use Rattle.cbm_image.specs.Images.{kind_of, tracks_of, content_of}

-- the fault that stands in place of a sector's bytes
abbrev pub sector_fault : Place → Cell → List Fault
sector_fault p (Ok bytes) = []
sector_fault p (Err code) = record { code = code; at = p } ∷ []

-- the faults of the first n sectors of a track
unfoldable pub faults_on : Content → ℕ → ℕ → List Fault
faults_on content track zero = []
faults_on content track (suc n) = faults_on content track n ++ sector_fault (record { track = track; sector = n }) (content (record { track = track; sector = n }))

-- THE FAULTS of all sectors of the first n tracks, in order of track and sector
unfoldable pub faults_in : Content → ℕ → List Fault
faults_in content zero = []
faults_in content (suc n) = faults_in content n ++ faults_on content (suc n) (sectors_on (suc n))

-- the sectors of an image that don't read, in order
abbrev pub faults_shown : List ℕ → List Fault
faults_shown image = faults_in (content_of (kind_of image) image) (tracks_of (kind_of image) image)
