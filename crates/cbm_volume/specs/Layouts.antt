-- Where a disk lies on a medium, when that is sound, and which disk it means.
use Rattle.std.specs.Prelude.{ℕ, ◌*◌, ◌%◌, ◌<◌, ◌≡◌, ◌≢◌, ◌==◌, nat_lt, List, [], ◌∷◌, ◌++◌, Bool, true, false, if◌then◌else◌, length, slice_range, Ok, Err, IsOk}
use Rattle.cbm_medium.specs.Place.{Place, Has, is_place, directory_head}
use Rattle.cbm_medium.specs.Content.{Cell, Content, is_header_fault}
use Rattle.cbm_medium.specs.Links.{Chain, AllSame}
use Rattle.cbm_file.specs.Files.{Disk, file_at, blocks_on}
use Rattle.cbm_bam.specs.Map.{map_of, is_free_in, free_in, tally, IsCounted}
use Rattle.cbm_directory.specs.Entries.{first_directory, entry_at, type_byte}
use Rattle.cbm_volume.specs.Blocks.{Blocks, Lies, slot_of}

-- What a sector is used for. One that is being written belongs to its writer, which no closed file knows.
pub data Owner : Type 0 where
  Nobody : Owner
  TheMap : Owner
  Directory : Owner
  DataOf : (slot : ℕ) → Owner
  SideOf : (slot : ℕ) → Owner
  Writer : (channel : ℕ) → Owner

-- The sectors of the directory in order, the blocks of the file in each slot, and what each sector is used for:
-- so no sector is used twice.
pub record Layout : Type 0 where
  pub directory : List Place
  pub files : ℕ → Blocks
  pub owner : Place → Owner

-- each of these sectors has this owner
abbrev pub OwnedBy : (Place → Owner) → Owner → List Place → Type 0
OwnedBy owner o [] = Unit {0}
OwnedBy owner o (p ∷ rest) = (owner p ≡ o) × OwnedBy owner o rest

-- the blocks of one slot are these
abbrev pub with_blocks : (ℕ → Blocks) → ℕ → Blocks → ℕ → Blocks
with_blocks files n b m = if m == n then b else files m

-- how many slots the directory's sectors have: eight each
abbrev pub slot_count : Layout → ℕ
slot_count l = 8 * length l.directory

-- Nobody's, or a writer's: no part of the disk
abbrev pub is_loose : Owner → Bool
is_loose Nobody = true
is_loose (Writer w) = true
is_loose _ = false

-- no fault of a header
abbrev pub IsCellWritable : Cell → Type 0
IsCellWritable (Ok bytes) = Unit {0}
IsCellWritable (Err code) = is_header_fault code ≡ false

-- Each sector of the disk's parts has its owner: the directory lies on track 18, the files lie off it.
pub record IsOwned (l : Layout) : Type 0 where
  pub map : l.owner directory_head ≡ TheMap
  pub directory : OwnedBy l.owner Directory l.directory
  pub blocks : (n : ℕ) → n < slot_count l → OwnedBy l.owner (DataOf n) (l.files n).data_blocks
  pub sides : (n : ℕ) → n < slot_count l → OwnedBy l.owner (SideOf n) (l.files n).sides
  pub on_18 : (p : Place) → l.owner p ≡ Directory → p.track ≡ 18
  pub off_18 : (p : Place) → p.track ≡ 18 → (n : ℕ) → (l.owner p ≢ DataOf n) × (l.owner p ≢ SideOf n)

-- THE DISK IS SOUND, with this layout: each sector has one owner and no fault in its header, the map reads and is right, the directory is a chain on track 18, each entry lies where its file is, and no block that is free is anybody's.
pub record Sound (tracks : ℕ) (c : Content) (l : Layout) : Type 0 where
  pub owned : IsOwned l
  -- no sector has a fault of its header, and the map reads
  pub writable : (p : Place) → Has tracks p → IsCellWritable (c p)
  pub map_reads : IsOk (c directory_head)
  pub directory : Chain tracks c first_directory l.directory
  pub kinds : (n : ℕ) → n < slot_count l → type_byte (entry_at c l.directory n) % 16 < 5
  pub lies : (n : ℕ) → n < slot_count l → Lies tracks c (entry_at c l.directory n) (l.files n)
  -- what is free is nobody's, and the counts are right
  pub free : (p : Place) → Has tracks p → is_free_in (map_of c) p ≡ true → l.owner p ≡ Nobody
  pub counted : IsCounted tracks (map_of c)

-- the disk that a sound content means
pub record Describes (tracks : ℕ) (c : Content) (l : Layout) (d : Disk) : Type 0 where
  pub title : d.title ≡ slice_range (map_of c) 144 160
  pub mark : d.mark ≡ slice_range (map_of c) 162 167
  pub size : length d.slots ≡ slot_count l
  pub slots : (n : ℕ) → n < slot_count l → file_at d n ≡ slot_of c (entry_at c l.directory n) (l.files n)
  pub total : d.total ≡ blocks_on tracks
  pub room : d.room ≡ tally (is_free_in (map_of c)) 18 19
  pub free : d.free ≡ free_in tracks (map_of c)

-- the layout is sound, and the content means this disk
pub record HasLayout (tracks : ℕ) (c : Content) (l : Layout) (d : Disk) : Type 0 where
  pub sound : Sound tracks c l
  pub describes : Describes tracks c l d

-- one sector is owned by another
abbrev pub own : (Place → Owner) → Place → Owner → Place → Owner
own owner p o q = if is_place p q then o else owner q

-- a part of the disk that is not this slot's
pub record IsElse (n : ℕ) (o : Owner) : Type 0 where
  pub part : is_loose o ≡ false
  pub not_data : o ≢ DataOf n
  pub not_side : o ≢ SideOf n

-- The parts of the disk but this slot's keep their owners. What is new of the directory is on track 18, what is new of files is off it.
pub record Extends (l : Layout) (n : ℕ) (owner : Place → Owner) : Type 0 where
  pub keeps : (p : Place) (o : Owner) → IsElse n o → l.owner p ≡ o → owner p ≡ o
  pub on_18 : (p : Place) → owner p ≡ Directory → p.track ≡ 18
  pub off_18 : (p : Place) → p.track ≡ 18 → (m : ℕ) → (owner p ≢ DataOf m) × (owner p ≢ SideOf m)

-- THE CONTENT MEANS A DISK OF NAMED FILES: there is a layout of its sectors by which it is that disk
pub record Means (tracks : ℕ) (c : Content) (d : Disk) : Type 0 where
  pub layout : Layout
  pub stands : HasLayout tracks c layout d

-- EACH CLOSED FILE'S SECTORS ARE AS THEY WERE, wherever the files lie; but for those of the files that pass the test
abbrev pub Untouched : ℕ → Content → Content → (ℕ → Bool) → Type 0
Untouched tracks c c' but = (l : Layout) → Sound tracks c l → (m : ℕ) → m < slot_count l → but m ≡ false → AllSame c c' (l.files m).data_blocks × AllSame c c' (l.files m).sides

-- the layout with one more sector of the directory, and eight slots that hold nothing
abbrev pub layout_grown : Layout → Place → Layout
layout_grown l q = record {
  directory = l.directory ++ q ∷ [];
  files = λ n. if nat_lt n (slot_count l) then l.files n else record { data_blocks = []; sides = [] };
  owner = own l.owner q Directory;
}
