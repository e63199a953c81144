-- Why the disk of an image isn't put in order.
use Rattle.std.specs.Prelude.{ℕ, List}
use Rattle.cbm_volume.specs.Unmendable.{IsUnmendable}
use Rattle.cbm_image.specs.Images.{kind_of, content_of}
use Rattle.cbm_shell.specs.declared.fault.ShellFault.{ShellFault}
use Rattle.cbm_shell.specs.declared.fault.ShellFault.TheVariants as fault
use Rattle.cbm_shell.specs.Images.{disk_tracks, OrOpenFault}

-- the directory or a closed file has this as its first flaw, whatever the BAM says
abbrev pub IsBeyondMending : List ℕ → ShellFault → Type 0
IsBeyondMending image (fault.Trouble t) = IsUnmendable (disk_tracks image) (content_of (kind_of image) image) t
IsBeyondMending image f = ⊥

-- WHY AN IMAGE ISN'T PUT IN ORDER: its own fault, what can't be mended first, or want of memory
abbrev pub IsNotMended : List ℕ → ShellFault → Type 0
IsNotMended image = OrOpenFault image (IsBeyondMending image)
