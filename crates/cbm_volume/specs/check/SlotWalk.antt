-- The slots of the directory, and the file of each.
use Rattle.std.specs.Prelude.{ℕ, ◌-◌, ◌%◌, ◌<◌, ◌≤◌, ◌⊎◌, ◌≡◌, ◌≢◌, List, [], ◌∷◌, Bool, true, false, Some, None}
use Rattle.cbm_medium.specs.Place.{Place}
use Rattle.cbm_medium.specs.Content.{Content}
use Rattle.cbm_medium.specs.Links.{bytes_at, link}
use Rattle.cbm_bam.specs.Map.{with_bit}
use Rattle.cbm_directory.specs.Entries.{type_byte, is_closed, is_relative, first_block}
use Rattle.cbm_directory.specs.Slots.{entries_from}
use Rattle.cbm_volume.specs.declared.check.unsound.Part.TheVariants.{OfDirectory, OfFile}
use Rattle.cbm_volume.specs.declared.check.unsound.Unsound.{Unsound}
use Rattle.cbm_volume.specs.check.Claims.{wrong_at, ClaimsChain, ClaimsFrom, fault_at, MeetsFrom}
use Rattle.cbm_volume.specs.check.SideLists.{ClaimsSides, SidesFault}

-- the chain and the side sectors of a relative file are claimed
abbrev pub ClaimsRelative : ℕ → Content → (Place → Bool) → List ℕ → (Place → Bool) → Type 0
ClaimsRelative tracks content claimed e after =
    (blocks : List Place) × ((between : Place → Bool) × (ClaimsChain OfFile tracks content claimed (first_block e) blocks between × ClaimsSides tracks content between e after))

-- the chain of a relative file has a fault, or it is claimed, and the side sectors have one
abbrev pub RelativeFault : ℕ → Content → (Place → Bool) → List ℕ → Unsound → Type 0
RelativeFault tracks content claimed e u =
    MeetsFrom OfFile tracks content claimed (first_block e) u
    ⊎ ((blocks : List Place) × ((between : Place → Bool) × (ClaimsChain OfFile tracks content claimed (first_block e) blocks between × SidesFault tracks content between e u)))

-- The sectors of an entry's file are claimed: by whether it is closed, and relative. A relative file has a block.
abbrev pub ClaimsFile : Bool → Bool → ℕ → Content → (Place → Bool) → List ℕ → (Place → Bool) → Type 0
ClaimsFile false r tracks content claimed e after = after ≡ claimed
ClaimsFile true false tracks content claimed e after = ClaimsFrom OfFile tracks content claimed (first_block e) after
ClaimsFile true true tracks content claimed e after = ((first_block e).track ≢ 0) × ClaimsRelative tracks content claimed e after

-- an entry's file has this fault; a relative one without a block is a link to elsewhere (4)
abbrev pub FileFault : Bool → Bool → ℕ → Content → (Place → Bool) → List ℕ → Unsound → Type 0
FileFault false r tracks content claimed e u = ⊥
FileFault true false tracks content claimed e u = MeetsFrom OfFile tracks content claimed (first_block e) u
FileFault true true tracks content claimed e u =
    (((first_block e).track ≡ 0) × (u ≡ fault_at 4 (first_block e)))
    ⊎ (((first_block e).track ≢ 0) × RelativeFault tracks content claimed e u)

-- the sectors of its file are claimed, as the entry itself says whether it is closed, and relative
abbrev pub ClaimsFileOf : ℕ → Content → (Place → Bool) → List ℕ → (Place → Bool) → Type 0
ClaimsFileOf tracks content claimed e after = ClaimsFile (is_closed e) (is_relative e) tracks content claimed e after

-- its file has this fault, as it says so
abbrev pub FaultOfFile : ℕ → Content → (Place → Bool) → List ℕ → Unsound → Type 0
FaultOfFile tracks content claimed e u = FileFault (is_closed e) (is_relative e) tracks content claimed e u

-- the type of an entry is known, and its file is claimed
abbrev pub ClaimsEntry : ℕ → Content → (Place → Bool) → List ℕ → (Place → Bool) → Type 0
ClaimsEntry tracks content claimed e after = (type_byte e % 16 < 5) × ClaimsFileOf tracks content claimed e after

-- its type is none's (8, at the sector of the directory), or its file has a fault
abbrev pub EntryFault : ℕ → Content → (Place → Bool) → Place → List ℕ → Unsound → Type 0
EntryFault tracks content claimed sector e u =
    ((5 ≤ type_byte e % 16) × (u ≡ fault_at 8 sector)) ⊎ ((type_byte e % 16 < 5) × FaultOfFile tracks content claimed e u)

-- the entries are claimed in their order
abbrev pub ClaimsEntries : ℕ → Content → (Place → Bool) → List (List ℕ) → (Place → Bool) → Type 0
ClaimsEntries tracks content claimed [] after = after ≡ claimed
ClaimsEntries tracks content claimed (e ∷ rest) after = (between : Place → Bool) × (ClaimsEntry tracks content claimed e between × ClaimsEntries tracks content between rest after)

-- one of the entries of a sector has this fault, and those before it are claimed
abbrev pub EntriesFault : ℕ → Content → (Place → Bool) → Place → List (List ℕ) → Unsound → Type 0
EntriesFault tracks content claimed sector [] u = ⊥
EntriesFault tracks content claimed sector (e ∷ rest) u =
    EntryFault tracks content claimed sector e u ⊎ ((between : Place → Bool) × (ClaimsEntry tracks content claimed e between × EntriesFault tracks content between sector rest u))

-- the eight entries of a sector of the directory, from one on
unfoldable pub entries_after : ℕ → List ℕ → List (List ℕ)
entries_after n sector = entries_from (8 - n) sector n

-- the eight entries of a sector of the directory
abbrev pub entries_in : List ℕ → List (List ℕ)
entries_in sector = entries_after 0 sector

-- From a these are the sectors of the directory, and the entries in them are claimed. The sectors that are met go in a set of their own.
abbrev pub ClaimsSlots : ℕ → Content → (Place → Bool) → (Place → Bool) → Place → List Place → (Place → Bool) → Type 0
ClaimsSlots tracks content met claimed a [] after = (a.track ≡ 0) × (after ≡ claimed)
ClaimsSlots tracks content met claimed a (b ∷ rest) after =
    (a ≡ b) × (wrong_at OfDirectory tracks content met b ≡ None)
    × ((between : Place → Bool) × (ClaimsEntries tracks content claimed (entries_in (bytes_at content b)) between
    × ClaimsSlots tracks content (with_bit met b true) between (link (bytes_at content b)) rest after))

-- after these sectors comes one with this fault, or with an entry that has it
abbrev pub SlotsFault : ℕ → Content → (Place → Bool) → (Place → Bool) → Place → List Place → Unsound → Type 0
SlotsFault tracks content met claimed a [] u =
    ((a.track ≢ 0) × (wrong_at OfDirectory tracks content met a ≡ Some u.number) × (u ≡ fault_at u.number a))
    ⊎ ((wrong_at OfDirectory tracks content met a ≡ None) × EntriesFault tracks content claimed a (entries_in (bytes_at content a)) u)
SlotsFault tracks content met claimed a (b ∷ rest) u =
    (a ≡ b) × (wrong_at OfDirectory tracks content met b ≡ None)
    × ((between : Place → Bool) × (ClaimsEntries tracks content claimed (entries_in (bytes_at content b)) between
    × SlotsFault tracks content (with_bit met b true) between (link (bytes_at content b)) rest u))
