-- A relative file whose side sectors can't list all its blocks gets more of them, before it grows.
use Rattle.std.specs.Prelude.{ℕ, ◌+◌, ◌-◌, ◌≤◌, ◌≡◌, ◌≢◌, List, [], slice_index, Ok, false}
use Rattle.cbm_medium.specs.Place.{Place, Has}
use Rattle.cbm_medium.specs.Content.{Content}
use Rattle.cbm_file.specs.Files.{Disk}
use Rattle.cbm_bam.specs.Map.{geometry_of, is_free_in, map_of}
use Rattle.cbm_relfile.specs.Records.{Relative}
use Rattle.cbm_relfile.specs.SideSectors.{blocks_of_side}
use Rattle.cbm_directory.specs.Entries.{entry_at, first_block, first_side}
use Rattle.cbm_volume.specs.Layouts.{Nobody, Layout, slot_count}
use Rattle.cbm_volume.specs.Writers.{Use, HoldsAt}
use Rattle.cbm_volume.specs.RecordWrites.{HasRecordsOpen}
use Rattle.cbm_volume.specs.Growing.{disk_with, LeavesAside}

-- THE FILE HAS s1 SIDE SECTORS, since a channel had its records open in b data blocks and s side sectors: the medium holds the disk
-- whose slot has them, and its records and data blocks are as they were.
pub record HasSides (medium : ℕ) (c0 : Content) (d : Disk) (uses : ℕ → Use) (n w b s : ℕ) (rs : List (List ℕ)) (o : HasRecordsOpen medium c0 d uses n w b s rs) (r : Relative) (c : Content) (s1 : ℕ) : Type 0 where
  pub layout : Layout
  pub holds : HoldsAt (geometry_of medium c0) c layout (disk_with d n o.file w rs b s1 (d.free - (s1 - s))) uses
  pub same : geometry_of medium c ≡ geometry_of medium c0
  pub count : slot_count layout ≡ slot_count o.holds.layout
  pub file : r ≡ record { first = first_block (entry_at c layout.directory n); side = first_side (entry_at c layout.directory n); width = w }
  pub more : s ≤ s1
  pub aside : LeavesAside n c0 o.holds.layout c layout

-- THE FILE HAS s1 SIDE SECTORS, and one that lists no block, t, is claimed and written; the first one doesn't list t yet, so it is
-- nobody's.
pub record HasEmptySide (medium : ℕ) (c0 : Content) (d : Disk) (uses : ℕ → Use) (n w b s : ℕ) (rs : List (List ℕ)) (o : HasRecordsOpen medium c0 d uses n w b s rs) (r : Relative) (c : Content) (s1 : ℕ) (t : Place) : Type 0 where
  pub layout : Layout
  pub holds : HoldsAt (geometry_of medium c0) c layout (disk_with d n o.file w rs b s1 (d.free - (s1 + 1 - s))) uses
  pub same : geometry_of medium c ≡ geometry_of medium c0
  pub count : slot_count layout ≡ slot_count o.holds.layout
  pub file : r ≡ record { first = first_block (entry_at c layout.directory n); side = first_side (entry_at c layout.directory n); width = w }
  pub more : s ≤ s1
  pub aside : LeavesAside n c0 o.holds.layout c layout
  pub side_has : Has (geometry_of medium c0) t
  pub side_off : t.track ≢ 18
  pub side_nobody : layout.owner t ≡ Nobody
  pub side_taken : is_free_in (map_of c) t ≡ false
  pub side : List ℕ
  pub side_holds : c t ≡ Ok side
  pub side_number : slice_index side 2 ≡ s1
  pub side_width : slice_index side 3 ≡ w
  pub side_lists : blocks_of_side side ≡ []
