-- Files of GEOS, which have more blocks than their chains.
use Rattle.std.specs.Prelude.{ℕ, zero, suc, ◌+◌, ◌*◌, ◌%◌, ◌==◌, ◌&&◌, nat_lt, not, if◌then◌else◌, Bool, true, false, List, [], ◌∷◌, ◌++◌, codes, take, drop, slice_index, Option, Some, None, Ok, Err}
use Rattle.std.specs.Str.{bytes_eq}
use Rattle.cbm_medium.specs.Place.{Place, has, directory_head}
use Rattle.cbm_medium.specs.Content.{Cell, Content}
use Rattle.cbm_medium.specs.Links.{place_in}
use Rattle.cbm_file.specs.declared.file_type.FileType.{FileType}
use Rattle.cbm_file.specs.declared.file_type.FileType.TheVariants.{Del, Seq, Prg, Usr, Rel}
use Rattle.cbm_file.specs.Types.{type_with}
use Rattle.cbm_directory.specs.Entries.{type_byte, is_closed, width_of, first_block, first_side}
use Rattle.cbm_shell.specs.Mapping.{chain_of}
use Rattle.cbm_shell.specs.declared.looking.geos.Geos.{Geos}

-- ---- what an entry says

-- the types whose files are one chain of blocks to the drive
abbrev pub is_one_chain : Option FileType → Bool
is_one_chain None = false
is_one_chain (Some Del) = false
is_one_chain (Some Seq) = true
is_one_chain (Some Prg) = true
is_one_chain (Some Usr) = true
is_one_chain (Some Rel) = false

-- Where a relative file has the length of its records GEOS keeps a structure, 0 or 1, and then a type of its own, which isn't 0.
abbrev pub is_geos : List ℕ → Bool
is_geos e = is_closed e && (is_one_chain (type_with (type_byte e % 16)) && (nat_lt (width_of e) 2 && not (slice_index e 22 == 0)))

-- structure 1, VLIR: the file's first block lists the chains of its records
abbrev pub has_geos_records : List ℕ → Bool
has_geos_records e = width_of e == 1

-- WHAT GEOS KEEPS in an entry
abbrev pub geos_of : List ℕ → Option Geos
geos_of e = if is_geos e then Some (record { has_records = has_geos_records e; kind = slice_index e 22 }) else None

-- ---- the blocks of its files

-- the chains that the first n of a block's 127 pairs of bytes begin; the pairs stand after its own two
unfoldable pub chains_in : ℕ → Content → List ℕ → ℕ → List Place
chains_in tracks content block zero = []
chains_in tracks content block (suc n) = chains_in tracks content block n ++ chain_of tracks content (place_in block (2 * n + 2))

-- the chains that the block in a cell lists, none where it doesn't read
abbrev pub chains_by : ℕ → Content → Cell → List Place
chains_by tracks content (Ok block) = chains_in tracks content block 127
chains_by tracks content (Err code) = []

-- the blocks of the records that the block at a place lists
abbrev pub records_of : ℕ → Content → Place → List Place
records_of tracks content p = if has tracks p then chains_by tracks content (content p) else []

-- the blocks of a file's records, where GEOS keeps it in records
abbrev pub records_by : Bool → ℕ → Content → Place → List Place
records_by true tracks content p = records_of tracks content p
records_by false tracks content p = []

-- the blocks of an entry's file beside its chain, where GEOS made it: that of its info, where a relative file has its side sectors, and those of its
-- records
abbrev pub blocks_by : Bool → ℕ → Content → List ℕ → List Place
blocks_by true tracks content e = chain_of tracks content (first_side e) ++ records_by (has_geos_records e) tracks content (first_block e)
blocks_by false tracks content e = []

-- THE BLOCKS that a file of GEOS has beside its chain
abbrev pub geos_blocks : ℕ → Content → List ℕ → List Place
geos_blocks tracks content e = blocks_by (is_geos e) tracks content e

-- the blocks that the files of these entries have so
unfoldable pub in_geos : ℕ → Content → List (List ℕ) → List Place
in_geos tracks content [] = []
in_geos tracks content (e ∷ rest) = geos_blocks tracks content e ++ in_geos tracks content rest

-- a text that begins as GEOS marks a disk
abbrev pub is_geos_mark : List ℕ → Bool
is_geos_mark text = bytes_eq (take 11 text) (codes "GEOS format")

-- a disk that GEOS formatted says so in 18/0 from byte 173 on
abbrev pub is_geos_map : List ℕ → Bool
is_geos_map map = is_geos_mark (drop 173 map)

-- the border block, where GEOS formatted the disk: the two bytes before that mark name it, and it lists files that aren't in the directory
abbrev pub border_by : Bool → ℕ → Content → List ℕ → List Place
border_by true tracks content map = chain_of tracks content (place_in map 171)
border_by false tracks content map = []

-- the border block that the bytes of 18/0 name; none where they don't read
abbrev pub border_in : ℕ → Content → Cell → List Place
border_in tracks content (Ok map) = border_by (is_geos_map map) tracks content map
border_in tracks content (Err code) = []

-- WHAT GEOS USES of a disk beside what the drive knows of: the border block, and these blocks of its files
abbrev pub geos_places : ℕ → Content → List (List ℕ) → List Place
geos_places tracks content entries = border_in tracks content (content directory_head) ++ in_geos tracks content entries
