-- Sectors that name the next one in their first two bytes: the chains of files and the directory.
use Rattle.std.specs.Prelude.{ℕ, zero, suc, ◌+◌, ◌<◌, ◌≤◌, ◌≡◌, ◌≢◌, ◌⊎◌, ◌==◌, List, [], ◌∷◌, false, if◌then◌else◌, length, slice_index, Option, Some, None, Ok, Err, IsOk}
use Rattle.cbm_medium.specs.Place.{Place, Has, has}
use Rattle.cbm_medium.specs.Content.{Cell, Content}
use Rattle.cbm_medium.specs.declared.fault.Trouble.{Trouble}

-- the bytes of a cell, none where it doesn't read
abbrev pub or_nothing : Cell → List ℕ
or_nothing (Ok bytes) = bytes
or_nothing (Err code) = []

-- the bytes of a sector, none where it doesn't read
abbrev pub bytes_at : Content → Place → List ℕ
bytes_at content p = or_nothing (content p)

-- the place that two bytes name, on the disk or not
abbrev pub place_in : List ℕ → ℕ → Place
place_in bytes n = record { track = slice_index bytes n; sector = slice_index bytes (n + 1) }

-- the place that a sector's first two bytes name; track 0 says that it is the last
abbrev pub link : List ℕ → Place
link bytes = place_in bytes 0

-- From a, these sectors link each to the next one, and the last to this end.
abbrev pub LinksLead : ℕ → Content → Place → List Place → Place → Type 0
LinksLead tracks content a [] end = a ≡ end
LinksLead tracks content a (b ∷ rest) end =
    (a ≡ b) × Has tracks b × IsOk (content b) × LinksLead tracks content (link (bytes_at content b)) rest end

-- These are the sectors of a chain that begins at a: the last one links to track 0, and from track 0 there are none.
abbrev pub Chain : ℕ → Content → Place → List Place → Type 0
Chain tracks content a [] = a.track ≡ 0
Chain tracks content a (b ∷ rest) =
    (a ≡ b) × Has tracks b × IsOk (content b) × Chain tracks content (link (bytes_at content b)) rest

-- Why a walk stops at a place that it reaches after n sectors, where this many are allowed: the disk has no such sector (66),
-- it is one too many (71), or it doesn't read.
abbrev pub Stops : ℕ → Content → ℕ → ℕ → Place → ℕ → Type 0
Stops tracks content most n p code =
    ((code ≡ 66) × (has tracks p ≡ false))
    ⊎ (((code ≡ 71) × Has tracks p × (n ≡ most)) ⊎ (Has tracks p × (n < most) × (content p ≡ Err code)))

-- From a on these sectors are met, at most this many, and then this trouble.
pub record IsCut (tracks : ℕ) (content : Content) (most : ℕ) (a : Place) (blocks : List Place) (t : Trouble) : Type 0 where
  pub at : Place
  pub leads : LinksLead tracks content a blocks at
  pub number : length blocks ≤ most
  pub going : at.track ≢ 0
  pub named : t ≡ record { code = t.code; track = at.track; sector = at.sector }
  pub cause : Stops tracks content most (length blocks) at t.code

-- what following links meets: the sectors in order, and the trouble that cuts them off
pub record Followed : Type 0 where
  pub blocks : List Place
  pub trouble : Option Trouble

-- a chain that ended after these blocks
abbrev pub ended : List Place → Followed
ended blocks = record { blocks = blocks; trouble = None }

-- a chain that breaks off here, by this code
abbrev pub cut_at : ℕ → Place → Followed
cut_at code p = record { blocks = []; trouble = Some (record { code = code; track = p.track; sector = p.sector }) }

-- one block more before those that follow it
abbrev pub with_block : Place → Followed → Followed
with_block p f = record { blocks = p ∷ f.blocks; trouble = f.trouble }

-- what a cell gives, and what its link gives
abbrev pub followed_after : Place → Cell → (Place → Followed) → Followed
followed_after p (Err code) rest = cut_at code p
followed_after p (Ok bytes) rest = with_block p (rest (link bytes))

-- What following links from a place on meets, where this many sectors are left.
unfoldable pub follow : ℕ → Content → ℕ → Place → Followed
follow tracks content zero p =
    if p.track == 0 then ended [] else if has tracks p then cut_at 71 p else cut_at 66 p
follow tracks content (suc n) p =
    if p.track == 0 then ended []
    else if has tracks p then followed_after p (content p) (λ q. follow tracks content n q)
    else cut_at 66 p

-- these sectors are byte for byte as they were
abbrev pub AllSame : Content → Content → List Place → Type 0
AllSame old new [] = Unit {0}
AllSame old new (p ∷ rest) = (new p ≡ old p) × AllSame old new rest

-- the sector is none of these
abbrev pub IsApart : Place → List Place → Type 0
IsApart p [] = Unit {0}
IsApart p (q ∷ rest) = (p ≢ q) × IsApart p rest
