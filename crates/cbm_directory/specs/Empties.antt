-- The first empty slot, for which the directory grows where none is.
use Rattle.std.specs.Prelude.{ℕ, ◌+◌, ◌≡◌, ◌==◌, ◌⊎◌, List, [], ◌∷◌, if◌then◌else◌, Option, Some, None, Result, Ok, Err}
use Rattle.cbm_medium.specs.Content.{Content}
use Rattle.cbm_medium.specs.Seen.{Seen}
use Rattle.cbm_medium.specs.declared.fault.Trouble.{Trouble}
use Rattle.cbm_directory.specs.Entries.{type_byte}
use Rattle.cbm_directory.specs.Slots.{Listed, directory_of}
use Rattle.cbm_directory.specs.Growth.{Grows, CannotGrow, GrowthStopped, IsGrowthRefused}

-- the number of the first entry of type byte 0, counted from n
abbrev pub empty_in : ℕ → List (List ℕ) → Option ℕ
empty_in n [] = None
empty_in n (entry ∷ rest) = if type_byte entry == 0 then Some n else empty_in (n + 1) rest

-- The first empty slot; none where none is empty; or the trouble where the directory breaks off before.
abbrev pub FindsEmpty : Listed → Result (Option ℕ) Trouble → Type 0
FindsEmpty d (Ok (Some n)) = empty_in 0 d.entries ≡ Some n
FindsEmpty d (Ok None) = (empty_in 0 d.entries ≡ None) × (d.trouble ≡ None)
FindsEmpty d (Err t) = (empty_in 0 d.entries ≡ None) × (d.trouble ≡ Some t)

-- THE FIRST EMPTY SLOT IS TAKEN from the directory as it is; or none is empty, it grows, and then the slot is one of those that it has
-- now. No slot is taken only where it can't grow, and then nothing has changed.
abbrev pub TakesSlot : ℕ → Content → Content → Option ℕ → Type 0
TakesSlot tracks c c' (Some n) =
    (FindsEmpty (directory_of tracks c) (Ok (Some n)) × (c' ≡ c))
    ⊎ (FindsEmpty (directory_of tracks c) (Ok None) × Grows tracks c c' × FindsEmpty (directory_of tracks c') (Ok (Some n)))
TakesSlot tracks c c' None =
    FindsEmpty (directory_of tracks c) (Ok None) × CannotGrow tracks c × (c' ≡ c)

-- what is left where the search or the growth was cut short: nothing has changed, or no slot was empty and the growth was stopped, or
-- the directory grew and breaks off
abbrev pub SlotStopped : ℕ → Content → Content → Trouble → Type 0
SlotStopped tracks c c' t =
    (FindsEmpty (directory_of tracks c) (Err t) × (c' ≡ c))
    ⊎ (FindsEmpty (directory_of tracks c) (Ok None) × (GrowthStopped tracks c c' ⊎ (Grows tracks c c' × FindsEmpty (directory_of tracks c') (Err t))))

-- why: the directory breaks off, before or after its growth, or the growth was refused
abbrev pub IsSlotRefused : ℕ → Seen → Seen → Trouble → Type 0
IsSlotRefused tracks old new t =
    FindsEmpty (directory_of tracks old.content) (Err t)
    ⊎ (IsGrowthRefused tracks old new t ⊎ (Grows tracks old.content new.content × FindsEmpty (directory_of tracks new.content) (Err t)))
