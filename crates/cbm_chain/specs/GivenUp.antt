-- A chain that is given up: its blocks go back to the map. Its last block was never written.
use Rattle.std.specs.Prelude.{ℕ, zero, suc, ◌-◌, ◌≡◌, List, [], ◌∷◌, if◌then◌else◌, None, Ok, MatchOption}
use Rattle.cbm_medium.specs.Place.{Place, has, directory_head}
use Rattle.cbm_medium.specs.Content.{Content, written}
use Rattle.cbm_medium.specs.Links.{Followed, ended, cut_at, followed_after}
use Rattle.cbm_bam.specs.Map.{map_of, Frees}
use Rattle.cbm_chain.specs.Writing.{State}

-- The block at a place and this many more, each of which the one before links to: the last one isn't read. A link to no sector of
-- the disk (66) or a block that doesn't read cuts them off.
unfoldable pub linked_blocks : ℕ → Content → ℕ → Place → Followed
linked_blocks tracks content zero p = if has tracks p then ended (p ∷ []) else cut_at 66 p
linked_blocks tracks content (suc n) p =
    if has tracks p then followed_after p (content p) (λ q. linked_blocks tracks content n q) else cut_at 66 p

-- These blocks were given back, in one write of the map; where there are none, nothing was written.
abbrev pub IsGivenBack : ℕ → Content → Content → List Place → Type 0
IsGivenBack tracks old new [] = new ≡ old
IsGivenBack tracks old new (b ∷ rest) = (map : List ℕ) × Frees tracks (map_of old) (b ∷ rest) map × (new ≡ written old directory_head map)

-- the map reads, and was written with these blocks given back to it
abbrev pub GivesBack : ℕ → Content → Content → List Place → Type 0
GivesBack tracks old new blocks = (map : List ℕ) × (freed : List ℕ) × (old directory_head ≡ Ok map) × Frees tracks map blocks freed × (new ≡ written old directory_head freed)

-- A WRITER GIVES ITS CHAIN UP, on any disk: it has no block, and nothing has changed; or links lead from its first block to as many more as
-- it counts, and these were given back.
abbrev pub GivesUpLed : Content → Content → State → Type 0
GivesUpLed old new s =
    MatchOption s.first (new ≡ old) (λ p. let linked = linked_blocks s.tracks old (s.count - 1) p in (linked.trouble ≡ None) × GivesBack s.tracks old new linked.blocks)
