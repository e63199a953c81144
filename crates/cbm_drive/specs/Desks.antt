-- The named-files machine on the bus: what each act of the bus asks of it, and what it has to say.
use Rattle.std.specs.Prelude.{ℕ, ◌≡◌, ◌<◌, ◌≤◌, Bool, true, false, List, Option, Some, None, IfSome}
use Rattle.cbm_medium.specs.Seen.{Seen}
use Rattle.cbm_machine.specs.Machines.{Machine}
use Rattle.cbm_machine.specs.Closing.{close}
use Rattle.cbm_machine.specs.Talking.{after_talk, talk_keeping_error, after_listen, listen_keeping_error, peek, taken}
use Rattle.cbm_machine.specs.Calls.{put, end_put, after_open}
use Rattle.cbm_channel.specs.Shown.{shown_by}
use Rattle.cbm_channel.specs.Standing.{Kept, Stands, Leads}
use Rattle.cbm_iec.specs.declared.pace.Pace.{Pace}
use Rattle.cbm_iec.specs.declared.pace.Pace.TheVariants.{Profile, Kernal}
use Rattle.cbm_iec.specs.declared.party.Role.{Role}
use Rattle.cbm_iec.specs.declared.party.Role.TheVariants.{Listener, Talker}
use Rattle.cbm_iec.specs.declared.machine.Act.{Act}
use Rattle.cbm_iec.specs.declared.machine.Act.TheVariants.{Pulled, Attention, Released, Heard, Said, Silent}
use Rattle.cbm_drive.specs.declared.secondary.Secondary.{Secondary}
use Rattle.cbm_drive.specs.declared.secondary.Secondary.TheVariants.{Data, Close}
use Rattle.cbm_drive.specs.declared.addressee.ended.Ended.{Ended}
use Rattle.cbm_drive.specs.declared.addressee.ended.Ended.TheVariants.{Name, Bytes}
use Rattle.cbm_drive.specs.Addressing.{Addressed, unaddressed, paced, secondary_of, channel_heard, channel_said, addressed_after, channel_ended}

-- a DOS, or a machine that it represents, and how its drive is addressed
pub record Desk (A : Type 0) : Type 0 where
  pub dos : A
  pub addressed : Addressed

-- at power up
abbrev pub at_first : {A : Type 0} → ℕ → A → Desk A
at_first device dos = record { dos = dos; addressed = unaddressed device }

-- the same at another pace
abbrev pub with_pace : {A : Type 0} → Pace → Desk A → Desk A
with_pace pace d = record { dos = d.dos; addressed = paced pace d.addressed }

-- A talker's channel is asked for bytes; at a KERNAL's pace an error stays that nobody has begun to read.
abbrev pub talked_to : Pace → ℕ → Machine → Machine
talked_to Profile channel m = after_talk channel m
talked_to Kernal channel m = talk_keeping_error channel m

-- A listener's channel is asked to take bytes; at a KERNAL's pace an error stays that nobody has begun to read.
abbrev pub listened_to : Pace → ℕ → Machine → Machine
listened_to Profile channel m = after_listen channel m
listened_to Kernal channel m = listen_keeping_error channel m

-- $60 asks a listener's channel to take bytes, or a talker's to send; $E0 closes a listener's, at once. To others they are nothing.
abbrev pub seconded : Pace → Option Secondary → Role → Machine → Machine
seconded pace (Some (Data channel)) Listener m = listened_to pace channel m
seconded pace (Some (Data channel)) Talker m = talked_to pace channel m
seconded pace (Some (Close channel)) Listener m = close channel m
seconded pace secondary role m = m

-- the name is opened, or the bytes have ended
abbrev pub ending : Option Ended → List ℕ → Machine → Machine
ending None name m = m
ending (Some (Name channel)) name m = after_open channel name m
ending (Some (Bytes channel)) name m = end_put channel m

-- A byte that is no part of a name is put to the channel; before a secondary address it is dropped.
abbrev pub put_to : Bool → Option ℕ → ℕ → Machine → Machine
put_to true channel byte m = m
put_to false None byte m = m
put_to false (Some channel) byte m = put channel byte m

-- the byte of a channel was taken
abbrev pub taken_from : Option ℕ → Machine → Machine
taken_from None m = m
taken_from (Some channel) m = taken channel m

-- EACH ACT OF THE BUS, for the machine of a drive that is addressed so
abbrev pub desk_asked : Act → Addressed → Machine → Machine
desk_asked Pulled a m = ending (channel_ended a) a.name m
desk_asked (Attention byte) a m = seconded a.pace (secondary_of byte) a.role m
desk_asked Released a m = m
desk_asked (Heard byte eoi) a m = put_to a.naming (channel_heard a.role a.channel) byte m
desk_asked (Said byte last) a m = taken_from (channel_said a.role a.channel) m
desk_asked Silent a m = m

-- the desk after an act
abbrev pub desk_step : Desk Machine → Act → Desk Machine
desk_step d act = record { dos = desk_asked act d.addressed d.dos; addressed = addressed_after act d.addressed }

-- what a machine says on a channel, if it is a talker's
abbrev pub peek_from : Option ℕ → Machine → Option (ℕ × Bool)
peek_from None m = None
peek_from (Some channel) m = peek channel m

-- the byte that a talker has to say, and whether it is the last: none before a secondary address
abbrev pub desk_says : Desk Machine → Option (ℕ × Bool)
desk_says d = peek_from (channel_said d.addressed.role d.addressed.channel) d.dos

-- what a DOS shows on a channel, if it is a talker's
abbrev pub shown_from : {M : Type 0} → Option ℕ → Kept M → Option (ℕ × Bool)
shown_from None k = None
shown_from (Some channel) k = shown_by channel k

-- THE BYTE THAT IS SHOWN to a talker's listeners, and whether it is the last, on any disk
abbrev pub desk_shows : {M : Type 0} → Desk (Kept M) → Option (ℕ × Bool)
desk_shows d = shown_from (channel_said d.addressed.role d.addressed.channel) d.dos

-- The DOS represents the machine, and both are addressed alike.
abbrev pub IsAlike : {M : Type 0} → (M → Seen) → Desk (Kept M) → Desk Machine → Type 0
IsAlike seen x d = Stands seen x.dos d.dos × (d.addressed ≡ x.addressed)

-- A DESK REPRESENTS another one: alike, and what that has to say is a byte.
abbrev pub DeskStands : {M : Type 0} → (M → Seen) → Desk (Kept M) → Desk Machine → Type 0
DeskStands seen x d = IsAlike seen x d × IfSome (desk_says d) (λ s. s.0 < 256)

-- A CALL LEADS from each machine that a DOS stood for to the machine's next state, if the medium didn't fail by itself in it.
abbrev pub LeadsUnfailed : {M : Type 0} → (M → Seen) → Kept M → Kept M → (Machine → Machine) → Type 0
LeadsUnfailed seen old new next = (seen new.medium).failures ≤ (seen old.medium).failures → Leads seen old new next

-- A call leads from each desk that is alike to its next state.
abbrev pub DeskTurns : {M : Type 0} → (M → Seen) → Desk (Kept M) → Desk (Kept M) → (Desk Machine → Desk Machine) → Type 0
DeskTurns seen old new next = (d : Desk Machine) → IsAlike seen old d → IsAlike seen new (next d)
