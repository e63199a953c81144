-- The directory grows by a sector of track 18.
use Rattle.std.specs.Prelude.{ℕ, ◌<◌, ◌≡◌, ◌⊎◌, List, [], ◌∷◌, ◌++◌, length, replicate, find, Bool, Some, None, IsOk, MatchBool}
use Rattle.cbm_medium.specs.Place.{Place, Has, directory_head}
use Rattle.cbm_medium.specs.Content.{Content, written}
use Rattle.cbm_medium.specs.Links.{Chain, bytes_at, follow}
use Rattle.cbm_medium.specs.Seen.{Seen, write_refusal}
use Rattle.cbm_medium.specs.declared.fault.Trouble.{Trouble}
use Rattle.cbm_bam.specs.Map.{map_of, is_free_in, ClaimsOn18}
use Rattle.cbm_bam.specs.Orders.{directory_order}
use Rattle.cbm_bam.specs.Causes.{HasCause}
use Rattle.cbm_directory.specs.Entries.{first_directory, HasLink}

-- the directory ends with this sector, and this many stand before it, of at most eighteen in all
abbrev pub IsLastSector : ℕ → Content → Place → ℕ → Type 0
IsLastSector tracks c p n = (before : List Place) × (Chain tracks c first_directory (before ++ p ∷ []) × (length before ≡ n) × (n < 18))

-- a new sector of the directory: the last one, whose entries are empty
abbrev pub new_sector : List ℕ
new_sector = 0 ∷ 255 ∷ replicate 254 0

-- the map reads, and has no sector of track 18 as free that the directory could use
abbrev pub HasNoRoom : Content → Type 0
HasNoRoom c = IsOk (c directory_head) × (find (is_free_in (map_of c)) directory_order ≡ None)

-- the directory has eighteen sectors: all of track 18 but the map's
abbrev pub IsFullDirectory : ℕ → Content → Type 0
IsFullDirectory tracks c = (sectors : List Place) × (Chain tracks c first_directory sectors × (length sectors ≡ 18))

-- WHY IT CAN'T GROW: the map has no sector of track 18 as free; or, whatever the map says, the directory has as many as there are.
abbrev pub CannotGrow : ℕ → Content → Type 0
CannotGrow tracks c = HasNoRoom c ⊎ IsFullDirectory tracks c

-- A FREE SECTOR OF TRACK 18 was claimed, written as a new one, and then the last sector links to it. There were fewer than eighteen.
pub record Grows (tracks : ℕ) (old new : Content) : Type 0 where
  pub last : Place
  pub before : ℕ
  pub is_last : IsLastSector tracks old last before
  pub fewer : before < 17
  pub more : Place
  pub claimed : Content
  pub claims : ClaimsOn18 tracks old claimed more
  pub sector : List ℕ
  pub links : HasLink (bytes_at old last) sector more
  pub written : new ≡ written (written claimed more new_sector) last sector

-- it grows, or it can't, and nothing has changed
abbrev pub GrowsIfRoom : ℕ → Content → Content → Bool → Type 0
GrowsIfRoom tracks old new done = MatchBool done (Grows tracks old new) (CannotGrow tracks old × (new ≡ old))

-- what a refused write leaves: nothing has changed; or a sector of track 18 is claimed, and may be written as a new one
abbrev pub GrowthStopped : ℕ → Content → Content → Type 0
GrowthStopped tracks old new =
    (new ≡ old) ⊎ ((q : Place) × ((claimed : Content) × (ClaimsOn18 tracks old claimed q × ((new ≡ claimed) ⊎ (new ≡ written claimed q new_sector)))))

-- why the growth was refused: the directory breaks off, 18/0 doesn't read, a write of a sector of the disk is refused, or the
-- medium failed
abbrev pub IsGrowthRefused : ℕ → Seen → Seen → Trouble → Type 0
IsGrowthRefused tracks old new t =
    ((follow tracks old.content 18 first_directory).trouble ≡ Some t)
    ⊎ (HasCause old new directory_head t.code ⊎ ((p : Place) × (Has tracks p × (write_refusal old p ≡ Some t.code))))
