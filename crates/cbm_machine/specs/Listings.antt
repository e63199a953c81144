-- The listing of a disk.
use Rattle.std.specs.Prelude.{ℕ, List, ◌++◌, filter, flat_map}
use Rattle.cbm_file.specs.Files.{File, Disk, files}
use Rattle.cbm_command.specs.Names.{is_match}
use Rattle.cbm_listing.specs.Lines.{title_line, file_line, last_line}

-- the files whose names match, each with the number of its slot
abbrev pub named : Disk → List ℕ → List (ℕ × File)
named d pattern = filter (λ (p : ℕ × File). is_match pattern p.1.name) (files d)

-- the title, a line for each file that matches, and the count of free blocks
abbrev pub listing : Disk → List ℕ → List ℕ
listing d pattern = title_line d.title d.mark ++ flat_map (λ (p : ℕ × File). file_line p.1) (named d pattern) ++ last_line d.free
