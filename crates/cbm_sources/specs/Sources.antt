-- Files of disks and archives, whatever the source is.
use Rattle.std.specs.Prelude.{ℕ, List, [], slice_get, Option, Some, None, Ok, Err}
use Rattle.cbm_medium.specs.declared.fault.Trouble.{Trouble}
use Rattle.cbm_chain.specs.Reading.{RestOfFile, held_in}
use Rattle.cbm_directory.specs.Entries.{first_block}
use Rattle.cbm_directory.specs.Slots.{Listed}
use Rattle.cbm_sources.specs.declared.fault.Fault.{Fault}
use Rattle.cbm_sources.specs.declared.fault.Fault.TheVariants.{NoFile, Chain}
use Rattle.cbm_sources.specs.Forms.{form_sectors}
use Rattle.cbm_sources.specs.Sectors.{SourceImage, image_content}
use Rattle.cbm_sources.specs.Chains.{met_once}
use Rattle.cbm_sources.specs.Directories.{directory_start, directory_limit, listed_of}
use Rattle.cbm_sources.specs.Answers.{FileTold}

-- the directory of an image's disk
unfoldable pub disk_listed : SourceImage → Listed
disk_listed image = listed_of (image_content image) (met_once (image_content image) (directory_limit image.form) [] (directory_start image.form))

-- all bytes of a chain, or the trouble that breaks it off
abbrev pub whole : RestOfFile → FileTold
whole rest = elim rest.trouble [ None ↦ Ok rest.bytes | Some t ↦ Err (Chain t) ]

-- why there is no file of a number: there are no more, or the directory breaks off
abbrev pub chain_missing : Option Trouble → Fault
chain_missing None = NoFile
chain_missing (Some t) = Chain t

-- the bytes of the file of an entry if there is one, else why not
abbrev pub disk_told : SourceImage → Option Trouble → Option (List ℕ) → FileTold
disk_told image trouble None = Err (chain_missing trouble)
disk_told image trouble (Some entry) = whole (held_in (image_content image) (met_once (image_content image) (form_sectors image.form) [] (first_block entry)))

-- THE BYTES OF THE FILE OF A NUMBER on an image's disk, counted from 0 over the entries that aren't empty
unfoldable pub disk_file : SourceImage → ℕ → FileTold
disk_file image n = disk_told image (disk_listed image).trouble (slice_get (disk_listed image).entries n)
