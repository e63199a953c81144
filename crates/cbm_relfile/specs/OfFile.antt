-- The places that a relative file names: in its entry, and in its side sectors.
use Rattle.std.specs.Prelude.{ℕ, ◌<◌, ◌≡◌, ◌⊎◌, List, Ok}
use Rattle.cbm_medium.specs.Place.{Place, Has}
use Rattle.cbm_medium.specs.Content.{Content}
use Rattle.cbm_relfile.specs.SideSectors.{most_sides, most_blocks, listed_side, listed_block}
use Rattle.cbm_relfile.specs.Records.{Relative}

-- A SIDE SECTOR OF A FILE: the first one, or one that the first one lists.
abbrev pub IsSide : ℕ → Content → Place → Place → Type 0
IsSide tracks c first q =
    (q ≡ first)
    ⊎ ((head : List ℕ) × (n : ℕ) × Has tracks first × (c first ≡ Ok head) × (n < most_sides) × (q ≡ listed_side head n))

-- A BLOCK THAT IS LISTED: one that a side sector of the file lists.
abbrev pub IsListedBlock : ℕ → Content → Place → Place → Type 0
IsListedBlock tracks c first q =
    (p : Place) × (side : List ℕ) × (n : ℕ) × IsSide tracks c first p × Has tracks p × (c p ≡ Ok side) × (n < most_blocks) × (q ≡ listed_block side n)

-- A PLACE OF A FILE: its first block, one of its side sectors, or a block that one of these lists.
abbrev pub IsOfFile : ℕ → Content → Relative → Place → Type 0
IsOfFile tracks c file q = (q ≡ file.first) ⊎ (IsSide tracks c file.side q ⊎ IsListedBlock tracks c file.side q)

-- A BLOCK THAT A FILE NAMES: its first block, or one that a side sector of the file lists.
abbrev pub IsNamedBlock : ℕ → Content → Relative → Place → Type 0
IsNamedBlock tracks c file q = (q ≡ file.first) ⊎ IsListedBlock tracks c file.side q
