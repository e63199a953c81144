-- A desk above a medium, in words for who stands on the desk alone and not on the DOS.
use Rattle.cbm_medium.specs.Seen.{Seen}
use Rattle.cbm_machine.specs.Machines.{Machine}
use Rattle.cbm_channel.specs.Standing.{Kept, Stands}
use Rattle.cbm_drive.specs.Desks.{Desk}

-- what a desk holds whose DOS has a medium of this kind
abbrev pub KeptDesk : Type 0 → Type 0
KeptDesk M = Desk (Kept M)

-- its DOS represents this machine
abbrev pub DosStands : {M : Type 0} → (M → Seen) → KeptDesk M → Machine → Type 0
DosStands seen desk m = Stands seen desk.dos m
