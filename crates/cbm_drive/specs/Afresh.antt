-- A drive with no channel open: at power up, after a new start, or with another disk.
use Rattle.std.specs.Prelude.{ℕ, None, replicate}
use Rattle.cbm_channel.specs.Standing.{Kept}
use Rattle.cbm_channel.specs.declared.channel.Channel.TheVariants.{Closed}
use Rattle.cbm_iec.specs.declared.pace.Pace.{Pace}
use Rattle.cbm_machine.specs.declared.code.Code.TheVariants.{PowerUp}
use Rattle.cbm_machine.specs.Statuses.{plain}
use Rattle.cbm_machine.specs.Told.{ToldStatus}
use Rattle.cbm_drive.specs.Addressing.{paced, unaddressed}
use Rattle.cbm_drive.specs.Desks.{Desk}

-- what a drive reports at power up
abbrev pub told_first : ToldStatus
told_first = record { status = plain PowerUp; told = 0 }

-- A DOS WITH NO CHANNEL OPEN, over this medium: it reports this, and no text is gathered
abbrev pub all_closed : {M : Type 0} → M → ToldStatus → Kept M
all_closed medium told = record { medium = medium; channels = replicate 15 Closed; told = told; text = None }

-- A DRIVE AT POWER UP with this number and pace, over this medium: nobody is addressed
abbrev pub switched_on : {M : Type 0} → ℕ → Pace → M → Desk (Kept M)
switched_on device pace medium = record { dos = all_closed medium told_first; addressed = paced pace (unaddressed device) }

-- the same drive, switched off and on with its disk
abbrev pub restarted : {M : Type 0} → Desk (Kept M) → Desk (Kept M)
restarted d = switched_on d.addressed.device d.addressed.pace d.dos.medium

-- A DRIVE THAT GOES ON WITH ANOTHER MEDIUM: it reports what it did, and who is addressed stays
abbrev pub with_another : {M : Type 0} → M → Desk (Kept M) → Desk (Kept M)
with_another medium d = record { dos = all_closed medium d.dos.told; addressed = d.addressed }
