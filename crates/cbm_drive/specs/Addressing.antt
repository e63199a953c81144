-- How a drive is addressed on the serial bus: LISTEN and TALK give it a role, a secondary address names a channel.
use Rattle.std.specs.Prelude.{ℕ, ◌+◌, ◌-◌, ◌%◌, ◌==◌, ◌||◌, Bool, true, false, List, [], ◌∷◌, ◌++◌, take, if◌then◌else◌, Option, Some, None, is_some}
use Rattle.cbm_iec.specs.declared.pace.Pace.{Pace}
use Rattle.cbm_iec.specs.declared.pace.Pace.TheVariants.{Profile}
use Rattle.cbm_iec.specs.declared.party.Role.{Role}
use Rattle.cbm_iec.specs.declared.party.Role.TheVariants.{Absent, Listener, Talker}
use Rattle.cbm_iec.specs.declared.machine.Act.{Act}
use Rattle.cbm_iec.specs.declared.machine.Act.TheVariants.{Pulled, Attention, Released, Heard, Said, Silent}
use Rattle.cbm_iec.specs.Attentions.{listen, talk, data_on, close_on, open_on}
use Rattle.cbm_iec.specs.Roles.{role_after}
use Rattle.cbm_drive.specs.declared.secondary.Secondary.{Secondary}
use Rattle.cbm_drive.specs.declared.secondary.Secondary.TheVariants.{Data, Close, Open}
use Rattle.cbm_drive.specs.declared.addressee.ended.Ended.{Ended}
use Rattle.cbm_drive.specs.declared.addressee.ended.Ended.TheVariants.{Name, Bytes}

-- $60 + c asks for bytes on channel c, $E0 + c closes it, and after $F0 + c comes the name of an OPEN; c is 0 to 15. No other byte is
-- a secondary address.
abbrev pub secondary_of : ℕ → Option Secondary
secondary_of byte =
    let channel = byte % 16 in
    let kind = byte - channel in
    if kind == data_on then Some (Data channel)
    else if kind == close_on then Some (Close channel)
    else if kind == open_on then Some (Open channel)
    else None

-- the channel that it names
abbrev pub channel_named : Secondary → ℕ
channel_named (Data channel) = channel
channel_named (Close channel) = channel
channel_named (Open channel) = channel

-- What the bytes in attention made of a drive, and what came since.
pub record Addressed : Type 0 where
  pub device : ℕ
  pub pace : Pace
  pub role : Role
  pub channel : Option ℕ  -- the secondary address, for bytes or for a name
  pub naming : Bool  -- it is for the name of an OPEN
  pub freed : Bool  -- ATN has been freed since it came
  pub name : List ℕ  -- what came of the name

-- at power up
abbrev pub unaddressed : ℕ → Addressed
unaddressed device = record { device = device; pace = Profile; role = Absent; channel = None; naming = false; freed = false; name = [] }

-- the same at another pace
abbrev pub paced : Pace → Addressed → Addressed
paced pace a = record a { pace = pace }

-- the channel to which a listener's bytes go: none before a secondary address
abbrev pub channel_heard : Role → Option ℕ → Option ℕ
channel_heard Absent channel = None
channel_heard Listener channel = channel
channel_heard Talker channel = None

-- the channel from which a talker's bytes come
abbrev pub channel_said : Role → Option ℕ → Option ℕ
channel_said Absent channel = None
channel_said Listener channel = None
channel_said Talker channel = channel

-- no secondary address has come
abbrev pub waiting : Addressed → Addressed
waiting a = record a { channel = None; naming = false; freed = false; name = [] }

-- a secondary address came, and nothing after it yet
abbrev pub given : ℕ → Bool → Addressed → Addressed
given channel naming a = record a { channel = Some channel; naming = naming; freed = false; name = [] }

-- ---- a byte in attention

-- LISTEN ($20 + d) and TALK ($40 + d) to this device wait for a secondary address.
abbrev pub called : ℕ → Addressed → Addressed
called byte a = if (byte == listen + a.device) || (byte == talk + a.device) then waiting a else a

-- the role is another
abbrev pub role_turned : ℕ → Addressed → Addressed
role_turned byte a = record a { role = role_after a.device byte a.role }

-- $60 is for a listener or a talker, $F0 for a listener; $E0 names no channel for what comes.
abbrev pub role_taken_up : Option Secondary → Role → Addressed → Addressed
role_taken_up (Some (Data channel)) Listener a = given channel false a
role_taken_up (Some (Data channel)) Talker a = given channel false a
role_taken_up (Some (Open channel)) Listener a = given channel true a
role_taken_up secondary role a = a

-- the role first, then the secondary address
abbrev pub attended : ℕ → Addressed → Addressed
attended byte a = role_taken_up (secondary_of byte) (role_after a.device byte a.role) (role_turned byte (called byte a))

-- ---- the other acts

-- ATN is freed: what comes now is for the channel.
abbrev pub atn_released : Addressed → Addressed
atn_released a = record a { freed = is_some a.channel }

-- A byte came to the listener: of a name the first 256 bytes are kept, more than any command has.
abbrev pub name_heard : ℕ → Addressed → Addressed
name_heard byte a = record a { name = if a.naming then take 256 (a.name ++ byte ∷ []) else a.name }

-- EACH ACT OF THE BUS, for how the drive is addressed: where ATN is pulled the role stays and the secondary address goes.
abbrev pub addressed_after : Act → Addressed → Addressed
addressed_after Pulled a = waiting a
addressed_after (Attention byte) a = attended byte a
addressed_after Released a = atn_released a
addressed_after (Heard byte eoi) a = name_heard byte a
addressed_after (Said byte last) a = a
addressed_after Silent a = a

-- ---- what ends

-- Where ATN is pulled, what a listener was sent ends: nothing, if ATN wasn't freed since the secondary address came.
abbrev pub ended_on : Bool → Bool → Option ℕ → Option Ended
ended_on false naming channel = None
ended_on true naming None = None
ended_on true true (Some channel) = Some (Name channel)
ended_on true false (Some channel) = Some (Bytes channel)

-- what a pull of ATN completes, as the drive is addressed now
abbrev pub channel_ended : Addressed → Option Ended
channel_ended a = ended_on a.freed a.naming (channel_heard a.role a.channel)

-- the channel that it came on
abbrev pub ended_channel : Ended → ℕ
ended_channel (Name channel) = channel
ended_channel (Bytes channel) = channel
