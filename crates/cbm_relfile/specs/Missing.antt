-- What a relative file doesn't have, on any disk: a block, a stretch of bytes or a record that isn't there.
use Rattle.std.specs.Prelude.{ℕ, ◌+◌, ◌-◌, ◌*◌, ◌/◌, ◌%◌, ◌<◌, ◌≤◌, ◌≡◌, ◌⊎◌, List, Ok, IsOk}
use Rattle.cbm_medium.specs.Place.{Place, Has, sector_count}
use Rattle.cbm_medium.specs.Content.{Content}
use Rattle.cbm_medium.specs.Links.{bytes_at, link}
use Rattle.cbm_relfile.specs.Records.{Relative, EndsBefore}
use Rattle.cbm_relfile.specs.Counting.{ChainEndsBy, BlocksLeadTo}
use Rattle.cbm_relfile.specs.SideSectors.{sides_listed, blocks_listed, ReadUpTo, IsNear}
use Rattle.cbm_relfile.specs.OfFile.{IsNamedBlock}

-- A BLOCK IS LOOKED UP by its number, counted from 0: the side sectors read up to the one that lists it. Of those that they list this one is it,
-- or the last one, or else it is the file's first block; and so many blocks further on the one of the number lies.
pub record IsLookedUp (tracks : ℕ) (c : Content) (file : Relative) (number : ℕ) (at : Place) (left : ℕ) : Type 0 where
  pub head : IsOk (c file.side)
  pub read : ReadUpTo tracks c (sides_listed (bytes_at c file.side)) number
  pub near : IsNear file.first (blocks_listed c (sides_listed (bytes_at c file.side))) number at left
  pub named : IsNamedBlock tracks c file at

-- A BLOCK IS MISSING: the disk has no more sectors than its number says, or from the block that is looked up the chain ends by then.
abbrev pub IsBlockMissing : ℕ → Content → Relative → ℕ → Type 0
IsBlockMissing tracks c file number =
    (sector_count tracks ≤ number) ⊎ ((q : Place) × (k : ℕ) × IsLookedUp tracks c file number q k × ChainEndsBy tracks c q k)

-- A BLOCK IS REACHED: so many blocks lead to it from the block that is looked up.
abbrev pub IsBlockReached : ℕ → Content → Relative → ℕ → Place → Type 0
IsBlockReached tracks c file number at = (q : Place) × (k : ℕ) × IsLookedUp tracks c file number q k × BlocksLeadTo tracks c q k at

-- A STRETCH IS MISSING, of so many bytes from a place on, counted from the data of a block: in the block where it would begin, this one or
-- the next, the chain ends before the stretch does; or there is no next block.
abbrev pub IsStretchMissing : Content → List ℕ → ℕ → ℕ → Type 0
IsStretchMissing c sector from count =
    ((from < 254) × EndsBefore c sector (from + count))
    ⊎ ((254 ≤ from) × (((link sector).track ≡ 0) ⊎ ((more : List ℕ) × (c (link sector) ≡ Ok more) × EndsBefore c more (from - 254 + count))))

-- the block of this number is reached and reads, and this holds of its bytes
abbrev pub HasBlockWith : ℕ → Content → Relative → ℕ → (List ℕ → Type 0) → Type 0
HasBlockWith tracks c file number P =
    (at : Place) × (sector : List ℕ) × IsBlockReached tracks c file number at × Has tracks at × (c at ≡ Ok sector) × P sector

-- A RECORD IS MISSING, by its number from 1: the block is missing in which it begins, or from that block on the chain ends before it does.
abbrev pub IsRecordMissing : ℕ → Content → Relative → ℕ → Type 0
IsRecordMissing tracks c file number =
    let from = (number - 1) * file.width in
    IsBlockMissing tracks c file (from / 254) ⊎ HasBlockWith tracks c file (from / 254) (λ sector. EndsBefore c sector (from % 254 + file.width))

-- THE NEXT RECORD IS MISSING: from the block in which this one begins the chain ends before the next one does.
abbrev pub IsNextMissing : ℕ → Content → Relative → ℕ → Type 0
IsNextMissing tracks c file number =
    let from = (number - 1) * file.width in
    HasBlockWith tracks c file (from / 254) (λ sector. IsStretchMissing c sector (from % 254 + file.width) file.width)
