-- Chains of sectors that never come to a sector again.
use Rattle.std.specs.Prelude.{ℕ, zero, suc, ◌+◌, ◌≡◌, ◌≢◌, ◌≤◌, ◌⊎◌, ◌==◌, Bool, true, false, if◌then◌else◌, List, [], ◌∷◌, ◌++◌, length, Option, Some, None, Result, Ok, Err, IsOk}
use Rattle.std.specs.List.{list_any}
use Rattle.cbm_medium.specs.Place.{Place, is_place}
use Rattle.cbm_medium.specs.Content.{Cell, Content}
use Rattle.cbm_medium.specs.Links.{Followed, bytes_at, link, ended, cut_at, with_block, IsApart}
use Rattle.cbm_medium.specs.declared.fault.Trouble.{Trouble}

-- the sector is one of these
abbrev pub came_already : Place → List Place → Bool
came_already p blocks = list_any (λ q. is_place p q) blocks

-- a sector that doesn't read breaks the chain off with its fault, one that came already with 71
abbrev pub met_after : Place → Cell → Bool → (Place → Followed) → Followed
met_after p (Err code) again rest = cut_at code p
met_after p (Ok bytes) true rest = cut_at 71 p
met_after p (Ok bytes) false rest = with_block p (rest (link bytes))

-- WHAT A CHAIN MEETS from a place on, where this many sectors are left and these came already. It ends where a link names track 0.
unfoldable pub met_once : Content → ℕ → List Place → Place → Followed
met_once content zero before p = if p.track == 0 then ended [] else met_after p (content p) true (λ q. ended [])
met_once content (suc n) before p =
    if p.track == 0 then ended [] else met_after p (content p) (came_already p before) (λ q. met_once content n (before ++ p ∷ []) q)

-- a way along a chain: the sectors that came, the link after them, how many sectors are left, and why it broke off
pub record Way : Type 0 where
  pub blocks : List Place
  pub next : Place
  pub left : ℕ
  pub trouble : Option Trouble

-- what it still meets
abbrev pub way_left : Content → Way → Followed
way_left content w = met_once content w.left w.blocks w.next

-- sectors, and what is met after them
abbrev pub after_blocks : List Place → Followed → Followed
after_blocks front rest = record { blocks = front ++ rest.blocks; trouble = rest.trouble }

-- A sector is given, and the way goes on after it.
pub record EntersSector (content : Content) (old new : Way) (bytes : List ℕ) : Type 0 where
  pub meets : way_left content old ≡ with_block old.next (way_left content new)
  pub reads : bytes_at content old.next ≡ bytes
  pub blocks : new.blocks ≡ old.blocks ++ old.next ∷ []
  pub left : new.left + 1 ≡ old.left

-- No sector is given: the chain has ended, or it is broken off as is told then.
pub record EndsWay (content : Content) (old new : Way) : Type 0 where
  pub meets : way_left content old ≡ record { blocks = []; trouble = new.trouble }
  pub blocks : new.blocks ≡ old.blocks

-- the next sector, or none
abbrev pub EntersNext : {E : Type 0} → Content → Way → Way → Result (Option (List ℕ)) E → Type 0
EntersNext content old new (Ok (Some bytes)) = EntersSector content old new bytes
EntersNext content old new (Ok None) = EndsWay content old new
EntersNext content old new (Err e) = Unit {0}

-- ---- the laws of what is met

-- From a, these sectors read and link each to the next one, and the last to this place.
abbrev pub LinksOn : Content → Place → List Place → Place → Type 0
LinksOn content a [] end = a ≡ end
LinksOn content a (b ∷ rest) end = (a ≡ b) × (b.track ≢ 0) × IsOk (content b) × LinksOn content (link (bytes_at content b)) rest end

-- no sector comes twice
abbrev pub EachOnce : List Place → Type 0
EachOnce [] = Unit {0}
EachOnce (p ∷ rest) = IsApart p rest × EachOnce rest

-- Why a chain breaks off at a place after these sectors: the place doesn't read; or it reads, and the chain comes back to it, or has as many sectors
-- already as it may have.
abbrev pub Breaks : Content → ℕ → List Place → Place → ℕ → Type 0
Breaks content most blocks at code =
    (content at ≡ Err code) ⊎ ((code ≡ 71) × IsOk (content at) × ((came_already at blocks ≡ true) ⊎ (length blocks ≡ most)))

-- THE SECTORS OF A WHOLE CHAIN lead from its beginning to a link that names track 0.
pub record IsWholeChain (content : Content) (a : Place) (blocks : List Place) : Type 0 where
  pub end : Place
  pub leads : LinksOn content a blocks end
  pub ends : end.track ≡ 0

-- THE SECTORS OF A BROKEN CHAIN lead from its beginning to the place that the trouble names, and there is the cause.
pub record IsBrokenChain (content : Content) (most : ℕ) (a : Place) (blocks : List Place) (t : Trouble) : Type 0 where
  pub at : Place
  pub leads : LinksOn content a blocks at
  pub going : at.track ≢ 0
  pub named : t ≡ record { code = t.code; track = at.track; sector = at.sector }
  pub cause : Breaks content most blocks at t.code

-- these are the sectors of a whole chain, or of one that this trouble breaks off
abbrev pub ChainEndsAs : Content → ℕ → Place → List Place → Option Trouble → Type 0
ChainEndsAs content most a blocks None = IsWholeChain content a blocks
ChainEndsAs content most a blocks (Some t) = IsBrokenChain content most a blocks t

-- WHAT A CHAIN IS FOUND TO BE: these sectors, each once and no more than it may have, up to its end or to this trouble
pub record IsToldOf (content : Content) (most : ℕ) (a : Place) (blocks : List Place) (trouble : Option Trouble) : Type 0 where
  pub once : EachOnce blocks
  pub few : length blocks ≤ most
  pub how : ChainEndsAs content most a blocks trouble
