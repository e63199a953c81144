-- A set of sectors with more of them.
use Rattle.std.specs.Prelude.{List, [], ◌∷◌, Bool, true}
use Rattle.cbm_medium.specs.Place.{Place}
use Rattle.cbm_bam.specs.Map.{with_bit}

-- the set with these sectors put in, one after another
unfoldable pub with_places : (Place → Bool) → List Place → Place → Bool
with_places used [] = used
with_places used (p ∷ rest) = with_places (with_bit used p true) rest
