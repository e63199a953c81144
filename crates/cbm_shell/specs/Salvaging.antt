-- What can be read of damaged disks.
use Rattle.std.specs.Prelude.{ℕ}
use Rattle.cbm_medium.specs.Place.{Place, sector_count}
use Rattle.cbm_medium.specs.Content.{Content}
use Rattle.cbm_medium.specs.Links.{Followed}
use Rattle.cbm_bam.specs.Marks.{nothing}
use Rattle.cbm_chain.specs.Reading.{RestOfFile, held_in}
use Rattle.cbm_directory.specs.Entries.{first_directory}
use Rattle.cbm_salvage.specs.Trails.{follow_once}

-- WHAT CAN BE READ OF A FILE: the bytes of its sectors up to where the chain breaks off or comes back to one of them, and why
abbrev pub salvaged_of : ℕ → Content → Place → RestOfFile
salvaged_of tracks content first = held_in content (follow_once tracks content (sector_count tracks) nothing first)

-- the sectors of the directory up to where it breaks off or comes back to one of them, and why; the drive reads 18 at most
abbrev pub directory_sectors : ℕ → Content → Followed
directory_sectors tracks content = follow_once tracks content 18 nothing first_directory
