-- The bytes that a chain of sectors holds.
use Rattle.std.specs.Prelude.{ℕ, ◌+◌, ◌==◌, List, [], ◌∷◌, ◌++◌, if◌then◌else◌, slice_index, slice_range}
use Rattle.cbm_medium.specs.Place.{Place}
use Rattle.cbm_medium.specs.Content.{Content}
use Rattle.cbm_medium.specs.Links.{bytes_at}

-- where a sector's data ends: in the last one, whose link names track 0, after the place that the link's second byte names
abbrev pub data_end : List ℕ → ℕ
data_end bytes = if slice_index bytes 0 == 0 then slice_index bytes 1 + 1 else 256

-- the data of a sector: what follows the link
abbrev pub data_of : List ℕ → List ℕ
data_of bytes = slice_range bytes 2 (data_end bytes)

-- the data of these sectors, joined
abbrev pub chain_bytes : Content → List Place → List ℕ
chain_bytes content [] = []
chain_bytes content (b ∷ rest) = data_of (bytes_at content b) ++ chain_bytes content rest
