-- A sound disk without owners: each sector of its parts is claimed once, in order.
use Rattle.std.specs.Prelude.{ℕ, ◌%◌, ◌<◌, ◌≡◌, List, [], ◌∷◌, Bool, true, false}
use Rattle.cbm_medium.specs.Place.{Place, Has, directory_head}
use Rattle.cbm_medium.specs.Content.{Content}
use Rattle.cbm_bam.specs.Map.{with_bit}
use Rattle.cbm_directory.specs.Entries.{type_byte, is_closed, is_relative, first_block, first_directory}
use Rattle.cbm_directory.specs.Slots.{all_entries}
use Rattle.cbm_volume.specs.Blocks.{Blocks, no_blocks, HasRecords}
use Rattle.cbm_volume.specs.Layouts.{IsCellWritable}
use Rattle.cbm_volume.specs.check.Claims.{ClaimsChain}
use Rattle.cbm_volume.specs.check.SideLists.{ClaimsEach}
use Rattle.cbm_volume.specs.check.MapCounts.{IsMapRight}
use Rattle.cbm_volume.specs.declared.check.unsound.Part.TheVariants.{OfDirectory, OfFile}

-- the map's own sector is claimed first
abbrev pub head_claimed : Place → Bool
head_claimed = with_bit (λ _. false) directory_head true

-- A file lies in these blocks, which are claimed: by whether it is closed, and relative.
abbrev pub ClaimsAs : Bool → Bool → ℕ → Content → (Place → Bool) → List ℕ → Blocks → (Place → Bool) → Type 0
ClaimsAs false r tracks c claimed e b after = (b ≡ no_blocks) × (after ≡ claimed)
ClaimsAs true false tracks c claimed e b after = ClaimsChain OfFile tracks c claimed (first_block e) b.data_blocks after × (b.sides ≡ [])
ClaimsAs true true tracks c claimed e b after =
    (middle : Place → Bool) × ClaimsChain OfFile tracks c claimed (first_block e) b.data_blocks middle × ClaimsEach OfFile tracks c middle b.sides after × HasRecords tracks c e b

-- the slot of this entry has a type, and its file's blocks are claimed
abbrev pub ClaimsSlot : ℕ → Content → (Place → Bool) → List ℕ → Blocks → (Place → Bool) → Type 0
ClaimsSlot tracks c claimed e b after = (type_byte e % 16 < 5) × ClaimsAs (is_closed e) (is_relative e) tracks c claimed e b after

-- the slots of these entries in order, with the blocks of each
abbrev pub ClaimsSlots : ℕ → Content → (Place → Bool) → List (List ℕ) → List Blocks → (Place → Bool) → Type 0
ClaimsSlots tracks c claimed [] [] after = after ≡ claimed
ClaimsSlots tracks c claimed (e ∷ es) (b ∷ bs) after = (middle : Place → Bool) × ClaimsSlot tracks c claimed e b middle × ClaimsSlots tracks c middle es bs after
ClaimsSlots tracks c claimed [] (b ∷ bs) after = ⊥
ClaimsSlots tracks c claimed (e ∷ es) [] after = ⊥

-- No header has a fault, the map is right, and each sector of the directory and of the files is claimed once.
pub record IsClaimedOnce (tracks : ℕ) (c : Content) : Type 0 where
  pub writable : (p : Place) → Has tracks p → IsCellWritable (c p)
  pub map : IsMapRight tracks c
  pub directory : List Place
  pub files : List Blocks
  pub middle : Place → Bool
  pub after : Place → Bool
  pub directory_claimed : ClaimsChain OfDirectory tracks c head_claimed first_directory directory middle
  pub files_claimed : ClaimsSlots tracks c middle (all_entries c directory) files after
