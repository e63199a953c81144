-- All that is wrong with a disk: what `check` looks at, gone through to its end.
use Rattle.std.specs.Prelude.{ℕ, zero, suc, ◌+◌, ◌==◌, ◌%◌, ◌&&◌, not, nat_lt, if◌then◌else◌, Bool, true, false, List, [], ◌∷◌, ◌++◌, Option, Some, None, Result, Ok, Err}
use Rattle.cbm_medium.specs.Place.{Place, has, sectors_on, directory_head}
use Rattle.cbm_medium.specs.Content.{Cell, Content}
use Rattle.cbm_medium.specs.Links.{bytes_at, link}
use Rattle.cbm_bam.specs.Map.{is_free_in, with_bit, at}
use Rattle.cbm_directory.specs.Entries.{type_byte, is_closed, is_relative, first_block, first_side, first_directory}
use Rattle.cbm_volume.specs.declared.check.unsound.Part.{Part}
use Rattle.cbm_volume.specs.declared.check.unsound.Part.TheVariants.{OfDirectory, OfFile}
use Rattle.cbm_volume.specs.declared.Unsound.{Unsound}
use Rattle.cbm_volume.specs.check.Claims.{wrong_at, fault_at}
use Rattle.cbm_volume.specs.check.Headers.{is_bad_header}
use Rattle.cbm_volume.specs.check.MapCounts.{is_counted_on}
use Rattle.cbm_volume.specs.check.SideLists.{sides_from, are_records}
use Rattle.cbm_volume.specs.check.SlotWalk.{entries_in}
use Rattle.cbm_volume.specs.check.WholeDisk.{only_head}
use Rattle.cbm_shell.specs.declared.broken.flaws.found.Whose.{Whose}
use Rattle.cbm_shell.specs.declared.broken.flaws.found.Whose.TheVariants.{Disk, Directory, File}
use Rattle.cbm_shell.specs.declared.broken.flaws.found.DiskFlaw.{DiskFlaw}

-- ---- a flaw

-- the directory lies on its track, the files off it
abbrev pub part_of : Whose → Part
part_of Disk = OfDirectory
part_of Directory = OfDirectory
part_of (File slot) = OfFile

-- a flaw at a place, where this many sectors of the chain come before it
abbrev pub flawed : Whose → ℕ → Place → ℕ → DiskFlaw
flawed whose before p number = record { what = fault_at number p; whose = whose; before = before }

-- a flaw, where it is there
abbrev pub flaw_if : Bool → DiskFlaw → List DiskFlaw
flaw_if true flaw = flaw ∷ []
flaw_if false flaw = []

-- ---- along sectors

-- What a walk has met: its sectors, what is claimed after it, what is wrong, and whether it came to its end.
pub record Walked : Type 0 where
  pub blocks : List Place
  pub claimed : Place → Bool
  pub flaws : List DiskFlaw
  pub whole : Bool

-- a walk that has come to its end
abbrev pub at_end : (Place → Bool) → Walked
at_end claimed = record { blocks = []; claimed = claimed; flaws = []; whole = true }

-- a walk that ends here for what is wrong
abbrev pub cut_off : (Place → Bool) → List DiskFlaw → Walked
cut_off claimed flaws = record { blocks = []; claimed = claimed; flaws = flaws; whole = false }

-- a walk goes on where nothing is wrong, or where the BAM alone is (2)
abbrev pub may_go_on : Option ℕ → Bool
may_go_on None = true
may_go_on (Some number) = number == 2

-- what is wrong with a sector, as a list
abbrev pub flaws_for : Option ℕ → (ℕ → DiskFlaw) → List DiskFlaw
flaws_for None flaw = []
flaws_for (Some number) flaw = flaw number ∷ []

-- a sector, and the walk after it
abbrev pub with_sector : List DiskFlaw → Place → Walked → Walked
with_sector flaws p rest = record { blocks = p ∷ rest.blocks; claimed = rest.claimed; flaws = flaws ++ rest.flaws; whole = rest.whole }

-- a walk that meets a sector: it goes on, or ends there
abbrev pub met : Option ℕ → (ℕ → DiskFlaw) → Place → (Place → Bool) → Walked → Walked
met wrong flaw p claimed rest = if may_go_on wrong then with_sector (flaws_for wrong flaw) p rest else cut_off claimed (flaws_for wrong flaw)

-- A CHAIN from a place on, where this many sectors are left and this many come before: each sector is claimed, and what is wrong with one is reported
unfoldable pub flaws_along : Whose → ℕ → Content → ℕ → ℕ → (Place → Bool) → Place → Walked
flaws_along whose tracks content zero before claimed p = cut_off claimed []
flaws_along whose tracks content (suc left) before claimed p =
    if p.track == 0 then at_end claimed
    else met (wrong_at (part_of whose) tracks content claimed p) (flawed whose before p) p claimed
    (flaws_along whose tracks content left (before + 1) (with_bit claimed p true) (link (bytes_at content p)))

-- the whole chain: no disk has more than 768 sectors
abbrev pub chain_from : Whose → ℕ → Content → (Place → Bool) → Place → Walked
chain_from whose tracks content claimed p = flaws_along whose tracks content 768 0 claimed p

-- THESE SECTORS, one after another
unfoldable pub among : Whose → ℕ → Content → (Place → Bool) → List Place → Walked
among whose tracks content claimed [] = at_end claimed
among whose tracks content claimed (p ∷ rest) =
    met (wrong_at (part_of whose) tracks content claimed p) (flawed whose 0 p) p claimed (among whose tracks content (with_bit claimed p true) rest)

-- one walk, and another after it
abbrev pub then_walk : Walked → ((Place → Bool) → Walked) → Walked
then_walk first next = record {
  blocks = first.blocks ++ (next first.claimed).blocks;
  claimed = (next first.claimed).claimed;
  flaws = first.flaws ++ (next first.claimed).flaws;
  whole = first.whole && (next first.claimed).whole;
}

-- the other walk only where the first one came to its end
abbrev pub if_whole : Walked → ((Place → Bool) → Walked) → Walked
if_whole first next = if first.whole then then_walk first next else first

-- ---- files

-- the records, after the side sectors: these list the file's blocks, or that is wrong (7)
abbrev pub records_walk : Whose → ℕ → Content → List ℕ → (Place → Bool) → Walked
records_walk whose tracks content e claimed =
    record (at_end claimed) { flaws = flaw_if (not (are_records tracks content e)) (flawed whose 0 (first_side e) 7) }

-- the side sectors of a relative file, and then its records
abbrev pub sides_walk : Whose → ℕ → Content → (Place → Bool) → List ℕ → Walked
sides_walk whose tracks content claimed e = if_whole (among whose tracks content claimed (sides_from content (first_side e))) (records_walk whose tracks content e)

-- a relative file has a block (4 where it has none), then come its side sectors
abbrev pub relative_walk : Whose → ℕ → Content → (Place → Bool) → List ℕ → Walked
relative_walk whose tracks content claimed e =
    if (first_block e).track == 0 then cut_off claimed (flawed whose 0 (first_block e) 4 ∷ [])
    else if_whole (chain_from whose tracks content claimed (first_block e)) (λ c. sides_walk whose tracks content c e)

-- an entry's file, by whether it is closed, and relative
abbrev pub file_walk : Bool → Bool → Whose → ℕ → Content → (Place → Bool) → List ℕ → Walked
file_walk false relative whose tracks content claimed e = at_end claimed
file_walk true false whose tracks content claimed e = chain_from whose tracks content claimed (first_block e)
file_walk true true whose tracks content claimed e = relative_walk whose tracks content claimed e

-- the type of an entry is known, or that is wrong (8, at the sector of the directory)
abbrev pub entry_walk : Whose → ℕ → Content → (Place → Bool) → Place → List ℕ → Walked
entry_walk whose tracks content claimed sector e =
    if nat_lt (type_byte e % 16) 5 then file_walk (is_closed e) (is_relative e) whose tracks content claimed e
    else cut_off claimed (flawed whose 0 sector 8 ∷ [])

-- the entries of a sector, the first of which is in this slot
unfoldable pub entries_walk : ℕ → ℕ → Content → (Place → Bool) → Place → List (List ℕ) → Walked
entries_walk slot tracks content claimed sector [] = at_end claimed
entries_walk slot tracks content claimed sector (e ∷ rest) =
    then_walk (entry_walk (File slot) tracks content claimed sector e) (λ c. entries_walk (slot + 1) tracks content c sector rest)

-- the bytes of a sector, if the disk has it and it reads
abbrev pub bytes_of : Cell → Option (List ℕ)
bytes_of (Ok bytes) = Some bytes
bytes_of (Err code) = None

-- the bytes of the sector at a place, if the disk has it and it reads
abbrev pub found_at : ℕ → Content → Place → Option (List ℕ)
found_at tracks content p = if has tracks p then bytes_of (content p) else None

-- the entries of a sector of the directory, if it reads
abbrev pub sector_walk : ℕ → ℕ → Content → (Place → Bool) → Place → Option (List ℕ) → Walked
sector_walk slot tracks content claimed sector (Some bytes) = entries_walk slot tracks content claimed sector (entries_in bytes)
sector_walk slot tracks content claimed sector None = at_end claimed

-- the entries of these sectors of the directory, eight in each
unfoldable pub slots_walk : ℕ → ℕ → Content → (Place → Bool) → List Place → Walked
slots_walk slot tracks content claimed [] = at_end claimed
slots_walk slot tracks content claimed (b ∷ rest) =
    then_walk (sector_walk slot tracks content claimed b (found_at tracks content b)) (λ c. slots_walk (slot + 8) tracks content c rest)

-- ---- the disk

-- a fault of a sector's header (5)
abbrev pub header_flaw : Place → Cell → List DiskFlaw
header_flaw p cell = flaw_if (is_bad_header cell) (flawed Disk 0 p 5)

-- those of the first n sectors of a track
unfoldable pub header_flaws_on : Content → ℕ → ℕ → List DiskFlaw
header_flaws_on content track zero = []
header_flaws_on content track (suc n) = header_flaws_on content track n ++ header_flaw (record { track = track; sector = n }) (content (record { track = track; sector = n }))

-- those of the first n tracks
unfoldable pub header_flaws : Content → ℕ → List DiskFlaw
header_flaws content zero = []
header_flaws content (suc n) = header_flaws content n ++ header_flaws_on content (suc n) (sectors_on (suc n))

-- a track's count isn't the number of its free blocks (1)
abbrev pub count_flaw : List ℕ → ℕ → List DiskFlaw
count_flaw map t = flaw_if (not (is_counted_on t map)) (flawed Disk 0 (at t 0) 1)

-- the flaws of the counts of the first n tracks
unfoldable pub count_flaws : List ℕ → ℕ → List DiskFlaw
count_flaws map zero = []
count_flaws map (suc n) = count_flaws map n ++ count_flaw map (suc n)

-- 18/0 is free in its own BAM (2)
abbrev pub own_flaw : List ℕ → List DiskFlaw
own_flaw map = flaw_if (is_free_in map directory_head) (flawed Disk 0 directory_head 2)

-- what is wrong with the BAM: 18/0 doesn't read (9), or these
abbrev pub map_flaws : ℕ → Cell → List DiskFlaw
map_flaws tracks (Err code) = flawed Disk 0 directory_head 9 ∷ []
map_flaws tracks (Ok map) = own_flaw map ++ count_flaws map tracks

-- the directory, where 18/0 is claimed, and the files of its slots
abbrev pub directory_walk : ℕ → Content → Walked
directory_walk tracks content = chain_from Directory tracks content only_head first_directory

-- what is wrong with the directory, and with the files of its slots
abbrev pub chain_flaws : ℕ → Content → List DiskFlaw
chain_flaws tracks content =
    (directory_walk tracks content).flaws ++ (slots_walk 0 tracks content (directory_walk tracks content).claimed (directory_walk tracks content).blocks).flaws

-- ALL THAT IS WRONG WITH A DISK that uses this many tracks: its headers, its BAM, its directory, its files
abbrev pub flaws_of : ℕ → Content → List DiskFlaw
flaws_of tracks content = header_flaws content tracks ++ (map_flaws tracks (content directory_head) ++ chain_flaws tracks content)

-- the first of them as `check` answers it; none is that the disk is sound
abbrev pub first_flaw : List DiskFlaw → Result (Unit {0}) Unsound
first_flaw [] = Ok tt
first_flaw (flaw ∷ rest) = Err flaw.what
