-- Changes of a disk with odd entries.
use Rattle.std.specs.Prelude.{ℕ, ◌⊎◌, ◌++◌, List}
use Rattle.cbm_image.specs.Images.{kind_of, content_of}
use Rattle.cbm_directory.specs.Slots.{directory_of}
use Rattle.cbm_shell.specs.declared.changing.DiskChange.{DiskChange}
use Rattle.cbm_shell.specs.Images.{OfHeld, HasChanged, IsFailed, machine_on, disk_tracks}
use Rattle.cbm_shell.specs.Mapping.{entries_shown, is_among}
use Rattle.cbm_shell.specs.AroundGeos.{held_around}
use Rattle.cbm_shell.specs.Undeleting.{IsMapAnew}
use Rattle.cbm_odd.specs.declared.odd.Odd.{Odd}
use Rattle.cbm_odd.specs.declared.away.Away.{Away}
use Rattle.cbm_odd.specs.Held.{reached_by}
use Rattle.cbm_shell.specs.declared.fault.ShellFault.{ShellFault}
use Rattle.cbm_odd.specs.Away.{IsAwayIn, IsNotAwayIn}
use Rattle.cbm_odd.specs.Back.{IsBackIn, IsNotBackIn}

-- A CHANGE AROUND ODD ENTRIES: they are put away, the drive's machine makes the change on what is left, and they are put back
pub record IsChangedAround (image : List ℕ) (change : DiskChange) (new : List ℕ) : Type 0 where
  pub away : Away
  pub put : IsAwayIn image away
  pub changed : List ℕ
  pub made : OfHeld away.image.items (λ d. HasChanged away.image.items change d changed)
  pub back : IsBackIn (kind_of image) image away.odds.items changed new

-- why it isn't made: the odd entries can't be put away; the machine refuses it on what is left; or they can't be put back
abbrev pub IsNotChangedAround : List ℕ → DiskChange → ShellFault → Type 0
IsNotChangedAround image change f =
    IsNotAwayIn image f
    ⊎ ((away : Away) × IsAwayIn image away
    × (OfHeld away.image.items (λ d. IsFailed away.image.items change (machine_on away.image.items d) f)
    ⊎ ((changed : List ℕ) × OfHeld away.image.items (λ d. HasChanged away.image.items change d changed) × IsNotBackIn image away.odds.items changed f)))

-- THE BAM IS WRITTEN ANEW: each block is free but the directory's, the closed files', GEOS's, and those that odd entries lead to; nothing else is changed
abbrev pub IsMappedAroundOdd : List ℕ → List Odd → List ℕ → Type 0
IsMappedAroundOdd image odds new = let tracks = disk_tracks image in let content = content_of (kind_of image) image in
    IsMapAnew tracks content (content_of (kind_of image) new) (is_among (held_around tracks content (entries_shown (directory_of tracks content)) ++ reached_by tracks content odds))
