-- The blocks that nothing uses, and that aren't free.
use Rattle.std.specs.Prelude.{ℕ, ◌&&◌, not, Bool, false, List, [], Option, Some, None, Ok, Err}
use Rattle.cbm_medium.specs.declared.fault.Trouble.{Trouble}
use Rattle.cbm_medium.specs.Place.{Place, directory_head}
use Rattle.cbm_medium.specs.Content.{Cell, Content}
use Rattle.cbm_directory.specs.Slots.{Listed}
use Rattle.cbm_shell.specs.Mapping.{used_in, free_by, is_among}
use Rattle.cbm_shell.specs.Geos.{geos_places}
use Rattle.cbm_shell.specs.Passing.{places_in}

-- a sector reads, neither the drive's files nor GEOS use it, and the BAM doesn't have it as free
abbrev pub is_block_lost : Cell → Bool → Bool → Bool → Bool
is_block_lost (Ok bytes) used geos free = not used && (not geos && not free)
is_block_lost (Err code) used geos free = false

-- a place is lost on a disk, where these places are used, and GEOS uses those
abbrev pub lost_at : Content → (Place → Bool) → (Place → Bool) → Place → Bool
lost_at content used geos p = is_block_lost (content p) (used p) (geos p) (free_by (content directory_head) p)

-- the places that are lost on a disk with these entries
abbrev pub lost_among : ℕ → Content → List (List ℕ) → List Place
lost_among tracks content entries = places_in (lost_at content (is_among (used_in tracks content entries)) (is_among (geos_places tracks content entries))) tracks

-- the same; none where the directory meets trouble
abbrev pub lost_by : Option Trouble → ℕ → Content → List (List ℕ) → List Place
lost_by None tracks content entries = lost_among tracks content entries
lost_by (Some t) tracks content entries = []

-- THE BLOCKS THAT ARE LOST on a disk with this directory; none where it can't be followed to its end
abbrev pub lost_of : Content → ℕ → Listed → List Place
lost_of content tracks listed = lost_by listed.trouble tracks content listed.entries
