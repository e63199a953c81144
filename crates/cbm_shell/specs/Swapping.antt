-- Entries of the directory that change places.
use Rattle.std.specs.Prelude.{ℕ, ◌≡◌, ◌⊎◌, List, [], ◌∷◌, Some, Ok}
use Rattle.cbm_medium.specs.Content.{Content}
use Rattle.cbm_directory.specs.Entries.{EntersLed}
use Rattle.cbm_directory.specs.Slots.{Answers, directory_of}
use Rattle.cbm_image.specs.Images.{kind_of, content_of}
use Rattle.cbm_shell.specs.declared.changing.swapping.Swap.{Swap}
use Rattle.cbm_shell.specs.declared.fault.ShellFault.{ShellFault}
use Rattle.cbm_shell.specs.declared.fault.ShellFault.TheVariants as fault
use Rattle.cbm_shell.specs.Editing.{HasNoSlot}
use Rattle.cbm_shell.specs.Images.{disk_tracks}

-- TWO ENTRIES CHANGE PLACES: each slot has the thirty bytes of the other, and nothing else is changed.
pub record Swaps (tracks : ℕ) (swap : Swap) (old new : Content) : Type 0 where
  pub one : List ℕ
  pub other : List ℕ
  pub at_first : Answers (directory_of tracks old) swap.first (Ok (Some one))
  pub at_second : Answers (directory_of tracks old) swap.second (Ok (Some other))
  pub between : Content
  pub first : EntersLed tracks old between swap.first other
  pub second : EntersLed tracks between new swap.second one

-- one swap after the other
abbrev pub AreSwapped : ℕ → List Swap → Content → Content → Type 0
AreSwapped tracks [] old new = new ≡ old
AreSwapped tracks (swap ∷ rest) old new = (between : Content) × Swaps tracks swap old between × AreSwapped tracks rest between new

-- ONE OF THE SWAPS names a slot that the directory doesn't have
abbrev pub MissesSlot : ℕ → Content → List Swap → Type 0
MissesSlot tracks content [] = ⊥
MissesSlot tracks content (swap ∷ rest) = HasNoSlot tracks content swap.first ⊎ (HasNoSlot tracks content swap.second ⊎ MissesSlot tracks content rest)

-- the same of an image's disk
abbrev pub MissesSlotIn : List ℕ → List Swap → Type 0
MissesSlotIn image swaps = MissesSlot (disk_tracks image) (content_of (kind_of image) image) swaps

-- between an image and a new one of its format the entries have changed places
abbrev pub AreSwappedIn : List ℕ → List Swap → List ℕ → Type 0
AreSwappedIn image swaps new = AreSwapped (disk_tracks image) swaps (content_of (kind_of image) image) (content_of (kind_of image) new)

-- one of the two slots isn't there
abbrev pub MissesOne : ℕ → Content → Swap → ShellFault → Type 0
MissesOne tracks content swap f = (f ≡ fault.NotFound) × (HasNoSlot tracks content swap.first ⊎ HasNoSlot tracks content swap.second)
