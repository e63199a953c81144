-- A relative file that grows block by block, between two blocks: what has been reached since the call began.
use Rattle.std.specs.Prelude.{ℕ, ◌+◌, ◌-◌, ◌*◌, ◌≤◌, ◌≡◌, ◌≢◌, ◌⊎◌, ◌==◌, ◌||◌, nat_lt, Bool, List, [], ◌∷◌, ◌++◌, length, take, drop, slice_index, slice_index_or, false, Some, Ok}
use Rattle.cbm_medium.specs.Place.{Place, Has, directory_head}
use Rattle.cbm_medium.specs.Content.{Content}
use Rattle.cbm_medium.specs.Links.{bytes_at}
use Rattle.cbm_medium.specs.Seen.{Seen}
use Rattle.cbm_medium.specs.declared.fault.Trouble.{Trouble}
use Rattle.cbm_file.specs.Files.{Disk, File, Records, with_slot}
use Rattle.cbm_file.specs.Records.{blocks_for, sides_for, with_sized_body}
use Rattle.cbm_bam.specs.Map.{geometry_of, is_free_in, map_of}
use Rattle.cbm_chain.specs.Data.{chain_bytes}
use Rattle.cbm_relfile.specs.Records.{Relative}
use Rattle.cbm_relfile.specs.Relisting.{AreInForm}
use Rattle.cbm_relfile.specs.SideSectors.{most_blocks, blocks_of_side}
use Rattle.cbm_directory.specs.Entries.{entry_at, first_block, first_side}
use Rattle.cbm_volume.specs.Layouts.{Owner, Nobody, TheMap, DataOf, SideOf, Layout, slot_count}
use Rattle.cbm_volume.specs.Reaches.{KeepsEntries}
use Rattle.cbm_volume.specs.Writers.{Use, HoldsAt, HoldsNow}
use Rattle.cbm_volume.specs.RecordWrites.{HasRecordsOpen}
use Rattle.cbm_volume.specs.Growth.{filled_up, more_blocks, IsGrowthCut}

-- the blocks that a side sector lists
abbrev pub listed_by : Content → Place → List Place
listed_by c s = blocks_of_side (bytes_at c s)

-- THE DRIVE'S FORM: each side sector lists the next 120 blocks, the last one what is left.
abbrev pub IsListed : Content → List Place → List Place → Type 0
IsListed c [] blocks = blocks ≡ []
IsListed c (s ∷ ss) blocks = (listed_by c s ≡ take most_blocks blocks) × IsListed c ss (drop most_blocks blocks)

-- THE FILE GROWS AS IT LIES: its side sectors are as the drive leaves them, and its b data blocks are full.
pub record IsReadyToGrow (c : Content) (sides blocks : List Place) (b : ℕ) : Type 0 where
  pub form : AreInForm c sides blocks
  pub full : length (chain_bytes c blocks) ≡ 254 * b

-- the disk whose slot has this file, with these records in b data blocks and s side sectors, and this many free blocks
abbrev pub disk_with : Disk → ℕ → File → ℕ → List (List ℕ) → ℕ → ℕ → ℕ → Disk
disk_with d n f w rs b s free = record (with_slot d n (Some (record f { held = b + s; body = Records w rs b s }))) { free = free }

-- a part of the disk that a growth of this slot's file leaves alone: the directory, another file, or what a channel writes
pub record IsAside (n : ℕ) (o : Owner) : Type 0 where
  pub not_nobody : o ≢ Nobody
  pub not_map : o ≢ TheMap
  pub not_data : o ≢ DataOf n
  pub not_side : o ≢ SideOf n

-- each such part has the sectors that it had, and they are as they were
abbrev pub LeavesAside : ℕ → Content → Layout → Content → Layout → Type 0
LeavesAside n c l c' l' = (o : Owner) → IsAside n o → (p : Place) → l.owner p ≡ o → (c' p ≡ c p) × (l'.owner p ≡ o)

-- THIS HOLDS of the file that lies there, in slot n and of b data blocks and s side sectors, where a channel has its records open.
abbrev pub OfFile : (now : Seen) (r : Relative) (n b s : ℕ) → ((d : Disk) (uses : ℕ → Use) (w : ℕ) (rs : List (List ℕ)) → HasRecordsOpen now.tracks now.content d uses n w b s rs → Type 0) → Type 0
OfFile now r n b s P = (d : Disk) (uses : ℕ → Use) (w : ℕ) (rs : List (List ℕ)) (o : HasRecordsOpen now.tracks now.content d uses n w b s rs)
    → r ≡ record { first = first_block (entry_at now.content o.holds.layout.directory n); side = first_side (entry_at now.content o.holds.layout.directory n); width = w } → P d uses w rs o

-- the same on a disk of so many tracks
abbrev pub OfSized : (geometry : ℕ) (now : Seen) (r : Relative) (n b s : ℕ) → ((d : Disk) (uses : ℕ → Use) (w : ℕ) (rs : List (List ℕ)) → HasRecordsOpen now.tracks now.content d uses n w b s rs → Type 0) → Type 0
OfSized geometry now r n b s P = geometry ≡ geometry_of now.tracks now.content → OfFile now r n b s P

-- A RELATIVE FILE HAS GROWN to b1 full data blocks and s1 side sectors, since a channel had its records open in b and s: the medium
-- holds the disk whose slot has its records and fresh ones up to the end of those blocks, and its side sectors list them in the drive's
-- form. The entry still has the old number of blocks. What the growth added is no longer free; all else is as it was.
pub record HasGrown (medium : ℕ) (c0 : Content) (d : Disk) (uses : ℕ → Use) (n w b s : ℕ) (rs : List (List ℕ)) (o : HasRecordsOpen medium c0 d uses n w b s rs) (r : Relative) (c : Content) (b1 s1 : ℕ) (last : Place) : Type 0 where
  pub layout : Layout
  pub holds : HoldsAt (geometry_of medium c0) c layout (disk_with d n o.file w (filled_up w b1 rs) b1 s1 (d.free - (b1 + s1 - (b + s)))) uses
  pub same : geometry_of medium c ≡ geometry_of medium c0
  pub count : slot_count layout ≡ slot_count o.holds.layout
  -- the file's first block and its first side sector, as its entry names them
  pub file : r ≡ record { first = first_block (entry_at c layout.directory n); side = first_side (entry_at c layout.directory n); width = w }
  pub listed : IsListed c (layout.files n).sides (layout.files n).data_blocks
  pub full : length (chain_bytes c (layout.files n).data_blocks) ≡ 254 * b1
  pub last_is : slice_index_or (layout.files n).data_blocks (b1 - 1) directory_head ≡ last
  pub more : (b ≤ b1) × (s ≤ s1)
  pub aside : LeavesAside n c0 o.holds.layout c layout

-- THE FILE HAS ONE BLOCK MORE, q, which its side sectors don't list yet: those list the b1 blocks before it.
pub record HasLonger (medium : ℕ) (c0 : Content) (d : Disk) (uses : ℕ → Use) (n w b s : ℕ) (rs : List (List ℕ)) (o : HasRecordsOpen medium c0 d uses n w b s rs) (r : Relative) (c : Content) (b1 s1 : ℕ) (q : Place) : Type 0 where
  pub layout : Layout
  pub holds : HoldsAt (geometry_of medium c0) c layout (disk_with d n o.file w (filled_up w (b1 + 1) rs) (b1 + 1) s1 (d.free - (b1 + 1 + s1 - (b + s)))) uses
  pub same : geometry_of medium c ≡ geometry_of medium c0
  pub count : slot_count layout ≡ slot_count o.holds.layout
  pub file : r ≡ record { first = first_block (entry_at c layout.directory n); side = first_side (entry_at c layout.directory n); width = w }
  pub blocks : List Place
  pub all : (layout.files n).data_blocks ≡ blocks ++ q ∷ []
  pub number : length blocks ≡ b1
  pub listed : IsListed c (layout.files n).sides blocks
  pub full : length (chain_bytes c (layout.files n).data_blocks) ≡ 254 * (b1 + 1)
  pub more : (b ≤ b1) × (s ≤ s1)
  pub aside : LeavesAside n c0 o.holds.layout c layout

-- THE FILE HAS ONE BLOCK MORE, q, and a side sector t that lists it alone is claimed and written; the file's side sectors don't list t
-- yet, so it is nobody's.
pub record HasSide (medium : ℕ) (c0 : Content) (d : Disk) (uses : ℕ → Use) (n w b s : ℕ) (rs : List (List ℕ)) (o : HasRecordsOpen medium c0 d uses n w b s rs) (r : Relative) (c : Content) (b1 s1 : ℕ) (q t : Place) : Type 0 where
  pub layout : Layout
  pub holds : HoldsAt (geometry_of medium c0) c layout (disk_with d n o.file w (filled_up w (b1 + 1) rs) (b1 + 1) s1 (d.free - (b1 + 1 + (s1 + 1) - (b + s)))) uses
  pub same : geometry_of medium c ≡ geometry_of medium c0
  pub count : slot_count layout ≡ slot_count o.holds.layout
  pub file : r ≡ record { first = first_block (entry_at c layout.directory n); side = first_side (entry_at c layout.directory n); width = w }
  pub blocks : List Place
  pub all : (layout.files n).data_blocks ≡ blocks ++ q ∷ []
  pub number : length blocks ≡ b1
  pub listed : IsListed c (layout.files n).sides blocks
  pub full : length (chain_bytes c (layout.files n).data_blocks) ≡ 254 * (b1 + 1)
  pub more : (b ≤ b1) × (s ≤ s1)
  pub aside : LeavesAside n c0 o.holds.layout c layout
  pub side_has : Has (geometry_of medium c0) t
  pub side_off : t.track ≢ 18
  pub side_nobody : layout.owner t ≡ Nobody
  pub side_taken : is_free_in (map_of c) t ≡ false
  pub side : List ℕ
  pub side_holds : c t ≡ Ok side
  pub side_number : slice_index side 2 ≡ s1
  pub side_width : slice_index side 3 ≡ w
  pub side_lists : blocks_of_side side ≡ q ∷ []

-- A growth was refused on its way, and what it leaves alone is as it was when the growth began.
abbrev pub IsGrowthStopped : Seen → Seen → Content → Layout → Disk → (ℕ → Use) → ℕ → ℕ → List (List ℕ) → Trouble → Type 0
IsGrowthStopped old new c0 l0 d uses n w rs t =
    IsGrowthCut old new d uses n w rs t × ((x : Owner) → IsAside n x → (p : Place) → l0.owner p ≡ x → new.content p ≡ c0 p)

-- A RELATIVE FILE OF b DATA BLOCKS AND s SIDE SECTORS HAS GROWN to b1 data blocks and as many side sectors as list them, and its entry
-- says how many blocks it has; the sectors of all other files are as they were, and so are the entries of the closed ones.
pub record IsGrownTo (medium : ℕ) (c0 c : Content) (l0 : Layout) (d : Disk) (uses : ℕ → Use) (n w : ℕ) (rs : List (List ℕ)) (b s b1 : ℕ) : Type 0 where
  pub holds : HoldsNow medium c (record (with_sized_body d n (b1 + sides_for s b1) (Records w (filled_up w b1 rs) b1 (sides_for s b1))) { free = d.free - (b1 + sides_for s b1 - (b + s)) }) uses
  pub aside : (m : ℕ) → m ≢ n → (p : Place) → (l0.owner p ≡ DataOf m) ⊎ (l0.owner p ≡ SideOf m) → c p ≡ c0 p
  pub entries : KeepsEntries l0 c0 c (λ m. m == n)

-- the same test as IsTooLarge, where this many blocks are free
abbrev pub is_too_large : ℕ → ℕ → ℕ → ℕ → ℕ → Bool
is_too_large free w b s k = nat_lt free (more_blocks w b s k) || nat_lt 720 (blocks_for w b k) || nat_lt 65535 k

-- WHAT A GROWTH NEEDS of the file in a slot, so that record k is there: where it lies, how far it reaches, and how many data blocks it
-- is to have. It isn't too large.
pub record IsPlanned (medium : ℕ) (c : Content) (d : Disk) (uses : ℕ → Use) (n w b s : ℕ) (rs : List (List ℕ)) (o : HasRecordsOpen medium c d uses n w b s rs) (k : ℕ) (r : Relative) (blocks sides goal : ℕ) : Type 0 where
  pub file : r ≡ record { first = first_block (entry_at c o.holds.layout.directory n); side = first_side (entry_at c o.holds.layout.directory n); width = w }
  pub blocks_are : blocks ≡ b
  pub sides_are : sides ≡ s
  pub goal_is : goal ≡ blocks_for w b k
  pub fits : is_too_large d.free w b s k ≡ false
