-- A sound disk by the list of all sectors that its parts use.
use Rattle.std.specs.Prelude.{ℕ, ◌%◌, ◌<◌, ◌≡◌, List, [], ◌∷◌, ◌++◌, false, IsOk}
use Rattle.cbm_medium.specs.Place.{Place, Has, directory_head}
use Rattle.cbm_medium.specs.Content.{Content}
use Rattle.cbm_medium.specs.Links.{Chain, IsApart}
use Rattle.cbm_bam.specs.Map.{map_of, is_free_in, IsCounted}
use Rattle.cbm_directory.specs.Entries.{type_byte, first_directory}
use Rattle.cbm_directory.specs.Slots.{all_entries}
use Rattle.cbm_volume.specs.Blocks.{Blocks, Lies}
use Rattle.cbm_volume.specs.Layouts.{IsCellWritable}

-- the blocks and the side sectors of these files
abbrev pub blocks_in : List Blocks → List Place
blocks_in [] = []
blocks_in (b ∷ bs) = b.data_blocks ++ (b.sides ++ blocks_in bs)

-- all that a disk uses: 18/0, the directory, and the files
abbrev pub claimed_sectors : List Place → List Blocks → List Place
claimed_sectors directory files = directory_head ∷ (directory ++ blocks_in files)

-- no sector stands twice
abbrev pub IsDistinct : List Place → Type 0
IsDistinct [] = Unit {0}
IsDistinct (p ∷ rest) = IsApart p rest × IsDistinct rest

-- each reads, and the map has it as taken
abbrev pub AreReadAndTaken : Content → List Place → Type 0
AreReadAndTaken c [] = Unit {0}
AreReadAndTaken c (p ∷ rest) = IsOk (c p) × (is_free_in (map_of c) p ≡ false) × AreReadAndTaken c rest

-- all of these sectors are on track 18
abbrev pub AreOn18 : List Place → Type 0
AreOn18 [] = Unit {0}
AreOn18 (p ∷ rest) = (p.track ≡ 18) × AreOn18 rest

-- none of these sectors is on track 18
abbrev pub AreOff18 : List Place → Type 0
AreOff18 [] = Unit {0}
AreOff18 (p ∷ rest) = (p.track ≡ 18 → ⊥) × AreOff18 rest

-- each entry's type is one of the five, and its file lies in its blocks
abbrev pub FilesLie : ℕ → Content → List (List ℕ) → List Blocks → Type 0
FilesLie tracks c [] [] = Unit {0}
FilesLie tracks c [] (b ∷ bs) = ⊥
FilesLie tracks c (e ∷ es) [] = ⊥
FilesLie tracks c (e ∷ es) (b ∷ bs) = (type_byte e % 16 < 5) × Lies tracks c e b × FilesLie tracks c es bs

-- THE SECTORS THAT A DISK USES are distinct, read and aren't free; the directory lies on track 18, the files off it;
-- no header has a fault, and the map's counts are right.
pub record IsPlainlySound (tracks : ℕ) (c : Content) : Type 0 where
  pub writable : (p : Place) → Has tracks p → IsCellWritable (c p)
  pub counted : IsCounted tracks (map_of c)
  pub directory : List Place
  pub files : List Blocks
  pub chain : Chain tracks c first_directory directory
  pub lie : FilesLie tracks c (all_entries c directory) files
  pub distinct : IsDistinct (claimed_sectors directory files)
  pub taken : AreReadAndTaken c (claimed_sectors directory files)
  pub on_18 : AreOn18 directory
  pub off_18 : AreOff18 (blocks_in files)
