-- How many blocks a walk along a chain has counted, and where it has come to.
use Rattle.std.specs.Prelude.{ℕ, ◌≤◌, ◌≡◌, ◌≢◌, ◌⊎◌, List, length, IsOk}
use Rattle.cbm_medium.specs.Place.{Place, sector_count}
use Rattle.cbm_medium.specs.Content.{Content}
use Rattle.cbm_medium.specs.Links.{LinksLead}

-- FROM A FIRST BLOCK THIS MANY LINK each to the next one, and all read; there the chain ends, or the disk has no more sectors.
pub record IsChainCounted (tracks : ℕ) (c : Content) (first : Place) (k : ℕ) : Type 0 where
  pub blocks : List Place
  pub afterwards : Place
  pub number : length blocks ≡ k
  pub leads : LinksLead tracks c first blocks afterwards
  pub ends : (afterwards.track ≡ 0) ⊎ (k ≡ sector_count tracks)

-- THE CHAIN ENDS BY THIS NUMBER: walked from its first block, it has no more blocks than this many; or the disk has no more sectors.
abbrev pub ChainEndsBy : ℕ → Content → Place → ℕ → Type 0
ChainEndsBy tracks c first number = (sector_count tracks ≤ number) ⊎ ((k : ℕ) × (k ≤ number) × IsChainCounted tracks c first k)

-- THIS MANY BLOCKS LEAD TO A PLACE: from a first one they link each to the next one, and the last to this place, which isn't track 0.
pub record BlocksLeadTo (tracks : ℕ) (c : Content) (first : Place) (number : ℕ) (at : Place) : Type 0 where
  pub blocks : List Place
  pub count : length blocks ≡ number
  pub leads : LinksLead tracks c first blocks at
  pub going : at.track ≢ 0

-- A BLOCK IS THERE by its number, counted from 0: so many blocks lead to its place, and it reads.
abbrev pub IsBlockThere : ℕ → Content → Place → ℕ → Type 0
IsBlockThere tracks c first number = (at : Place) × BlocksLeadTo tracks c first number at × IsOk (c at)
