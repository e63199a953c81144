-- The blocks that putting a disk in order gives back.
use Rattle.std.specs.Prelude.{ℕ, ◌≡◌, ◌&&◌, ◌||◌, not, Bool, false, List, [], ◌∷◌}
use Rattle.cbm_medium.specs.Place.{Place, directory_head}
use Rattle.cbm_medium.specs.Content.{Content}
use Rattle.cbm_bam.specs.Map.{geometry_of}
use Rattle.cbm_directory.specs.Slots.{directory_of}
use Rattle.cbm_image.specs.declared.kind.Kind.{Kind}
use Rattle.cbm_image.specs.Images.{tracks_of, content_of}
use Rattle.cbm_shell.specs.Mapping.{free_by, entries_shown, is_among}
use Rattle.cbm_shell.specs.Geos.{geos_places}
use Rattle.cbm_shell.specs.Passing.{places_in}

-- the new BAM has a sector as free, and the old one hadn't
abbrev pub is_freed : Content → Content → Place → Bool
is_freed old new p = not (free_by (old directory_head) p) && free_by (new directory_head) p

-- whether one of these sectors is in a set
unfoldable pub is_any : (Place → Bool) → List Place → Bool
is_any held [] = false
is_any held (p ∷ rest) = held p || is_any held rest

-- THESE ARE THE BLOCKS that a change of a disk gives back, and whether GEOS uses one of them.
pub record AreFreed (tracks : ℕ) (old new : Content) (blocks : List Place) (takes_geos : Bool) : Type 0 where
  pub all : blocks ≡ places_in (is_freed old new) tracks
  pub geos : takes_geos ≡ is_any (is_among (geos_places tracks old (entries_shown (directory_of tracks old)))) blocks

-- the same, of the images before and after
abbrev pub AreGivenBack : Kind → List ℕ → List ℕ → List Place → Bool → Type 0
AreGivenBack kind old new blocks takes_geos =
    AreFreed (geometry_of (tracks_of kind old) (content_of kind old)) (content_of kind old) (content_of kind new) blocks takes_geos
