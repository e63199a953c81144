-- The whole disk: that nothing is wrong with it, and the first thing that is.
use Rattle.std.specs.Prelude.{ℕ, ◌⊎◌, ◌≡◌, List, Bool, true}
use Rattle.cbm_medium.specs.Place.{Place, Has, directory_head}
use Rattle.cbm_medium.specs.Content.{Content}
use Rattle.cbm_medium.specs.Seen.{Seen}
use Rattle.cbm_bam.specs.Map.{geometry_of, with_bit}
use Rattle.cbm_bam.specs.Marks.{nothing}
use Rattle.cbm_directory.specs.Entries.{first_directory}
use Rattle.cbm_volume.specs.Layouts.{IsCellWritable}
use Rattle.cbm_volume.specs.declared.check.unsound.Part.TheVariants.{OfDirectory}
use Rattle.cbm_volume.specs.declared.check.unsound.Unsound.{Unsound}
use Rattle.cbm_volume.specs.check.Claims.{ClaimsChain, fault_at, MeetsFrom}
use Rattle.cbm_volume.specs.check.Headers.{IsFirstBad}
use Rattle.cbm_volume.specs.check.MapCounts.{IsMapRight, IsMapFault}
use Rattle.cbm_volume.specs.check.SlotWalk.{ClaimsSlots, SlotsFault}

-- the map's sector is the first that is claimed
abbrev pub only_head : Place → Bool
only_head = with_bit nothing directory_head true

-- EACH PART OF THE DISK IS CLAIMED, AND NOTHING IS WRONG WITH IT: the headers, the map, the directory, and the files of its slots in order
pub record ClaimsDisk (tracks : ℕ) (content : Content) : Type 0 where
  pub writable : (p : Place) → Has tracks p → IsCellWritable (content p)
  pub map : IsMapRight tracks content
  pub sectors : List Place
  pub between : Place → Bool
  pub directory : ClaimsChain OfDirectory tracks content only_head first_directory sectors between
  pub again : List Place
  pub after : Place → Bool
  pub slots : ClaimsSlots tracks content only_head between first_directory again after

-- the same, and these are the sectors that were claimed
abbrev pub ClaimsInto : ℕ → Content → (Place → Bool) → Type 0
ClaimsInto tracks content claimed = (k : ClaimsDisk tracks content) × (k.after ≡ claimed)

-- the first header at fault (5)
abbrev pub HeaderFault : ℕ → Content → Unsound → Type 0
HeaderFault tracks content u = (p : Place) × IsFirstBad tracks content p × (u ≡ fault_at 5 p)

-- the first fault of the directory, as a chain (6, 3, 9, 2)
abbrev pub DirectoryFault : ℕ → Content → Unsound → Type 0
DirectoryFault tracks content u = MeetsFrom OfDirectory tracks content only_head first_directory u

-- the first fault of its slots, after a directory that is claimed (8, 4, 3, 9, 2, 7)
pub record SlotFault (tracks : ℕ) (content : Content) (u : Unsound) : Type 0 where
  pub sectors : List Place
  pub between : Place → Bool
  pub directory : ClaimsChain OfDirectory tracks content only_head first_directory sectors between
  pub again : List Place
  pub fault : SlotsFault tracks content only_head between first_directory again u

-- no sector of the disk has a fault of its header
abbrev pub AllWritable : ℕ → Content → Type 0
AllWritable tracks content = (p : Place) → Has tracks p → IsCellWritable (content p)

-- THE DISK HAS THIS FAULT, and what the check looks at before has none: the headers, then the map, the directory, the slots
abbrev pub DiskFault : ℕ → Content → Unsound → Type 0
DiskFault tracks content u =
    HeaderFault tracks content u
    ⊎ ((AllWritable tracks content × IsMapFault tracks content u)
    ⊎ ((AllWritable tracks content × IsMapRight tracks content × DirectoryFault tracks content u)
    ⊎ (AllWritable tracks content × IsMapRight tracks content × SlotFault tracks content u)))

-- the same of what a medium shows, with as many tracks as its map says
abbrev pub ClaimsSeen : Seen → Type 0
ClaimsSeen now = ClaimsDisk (geometry_of now.tracks now.content) now.content

-- the fault is on the disk that the medium shows, of as many tracks as its map says
abbrev pub SeenFault : Seen → Unsound → Type 0
SeenFault now u = DiskFault (geometry_of now.tracks now.content) now.content u
