-- A BAM that is written anew around what GEOS keeps.
use Rattle.std.specs.Prelude.{ℕ, List, ◌++◌}
use Rattle.cbm_medium.specs.Place.{Place, directory_head}
use Rattle.cbm_medium.specs.Content.{Content}
use Rattle.cbm_directory.specs.Slots.{directory_of}
use Rattle.cbm_image.specs.Images.{kind_of, content_of}
use Rattle.cbm_shell.specs.Mapping.{entries_shown, is_among, used_in}
use Rattle.cbm_shell.specs.Geos.{border_in, in_geos}
use Rattle.cbm_shell.specs.Images.{disk_tracks, OrOpenFault}
use Rattle.cbm_shell.specs.declared.fault.ShellFault.{ShellFault}
use Rattle.cbm_shell.specs.Remaking.{MakesFault, IsHaltedBy}
use Rattle.cbm_shell.specs.Undeleting.{IsMapAnew}

-- what is taken: the directory, the closed files, GEOS's border block, its info blocks and its records
abbrev pub held_around : ℕ → Content → List (List ℕ) → List Place
held_around tracks content entries =
    (used_in tracks content entries ++ border_in tracks content (content directory_head)) ++ in_geos tracks content entries

-- THE BAM IS WRITTEN ANEW: each block is free but these, and nothing else of the disk is changed
abbrev pub IsMappedAround : ℕ → Content → Content → Type 0
IsMappedAround tracks old new = IsMapAnew tracks old new (is_among (held_around tracks old (entries_shown (directory_of tracks old))))

-- the same, of an image and a new one of its format
abbrev pub IsMappedAroundIn : List ℕ → List ℕ → Type 0
IsMappedAroundIn image new = IsMappedAround (disk_tracks image) (content_of (kind_of image) image) (content_of (kind_of image) new)

-- why it isn't made: the image's own fault; the disk with that BAM isn't sound, and this is its first fault; 18/0 can't be read or written; or memory runs out
abbrev pub IsNotMappedAround : List ℕ → ShellFault → Type 0
IsNotMappedAround image = OrOpenFault image (IsHaltedBy (MakesFault image (IsMappedAround (disk_tracks image) (content_of (kind_of image) image))))
