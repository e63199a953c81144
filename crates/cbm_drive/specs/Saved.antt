-- A drive on the wires, as bytes.
use Rattle.std.specs.Prelude.{ℕ, ◌<◌, ◌≤◌, List, [], ◌∷◌, ◌++◌, length, Option, Some, None, IfSome}
use Rattle.cbm_saved.specs.Numbers.{eight_bytes}
use Rattle.cbm_saved.specs.Texts.{counted_text}
use Rattle.cbm_channel.specs.Saved.{flag_byte, saved_dos, MayBeKept}
use Rattle.cbm_channel.specs.Standing.{Kept}
use Rattle.cbm_iec.specs.declared.pace.Pace.{Pace}
use Rattle.cbm_iec.specs.declared.pace.Pace.TheVariants as pace
use Rattle.cbm_iec.specs.declared.party.Role.{Role}
use Rattle.cbm_iec.specs.declared.party.Role.TheVariants as role
use Rattle.cbm_iec.specs.declared.ear.Ear.{Ear}
use Rattle.cbm_iec.specs.declared.ear.Ear.TheVariants as ear
use Rattle.cbm_iec.specs.declared.mouth.Mouth.{Mouth}
use Rattle.cbm_iec.specs.declared.mouth.Mouth.TheVariants as mouth
use Rattle.cbm_iec.specs.declared.port.Port.{Port}
use Rattle.cbm_iec.specs.declared.port.Side.{Side}
use Rattle.cbm_iec.specs.declared.port.Side.TheVariants.{Hearing, Speaking}
use Rattle.cbm_drive.specs.Addressing.{Addressed}
use Rattle.cbm_drive.specs.Desks.{Desk}
use Rattle.cbm_drive.specs.Seats.{Seated}

-- the number of a pace
abbrev pub pace_number : Pace → ℕ
pace_number pace.Profile = 0
pace_number pace.Kernal = 1

-- the number of a role
abbrev pub role_number : Role → ℕ
role_number role.Absent = 0
role_number role.Listener = 1
role_number role.Talker = 2

-- what a drive waits for: its number, four bytes, and a moment; zeros where it has none
abbrev pub waiting_bytes : ℕ → ℕ → ℕ → ℕ → ℕ → ℕ → List ℕ
waiting_bytes kind a b c d moment = kind ∷ a ∷ b ∷ c ∷ d ∷ eight_bytes moment

-- what a listener waits for
abbrev pub saved_ear : Ear → List ℕ
saved_ear ear.Idle = waiting_bytes 0 0 0 0 0 0
saved_ear (ear.Starting t) = waiting_bytes 1 0 0 0 0 t
saved_ear ear.Await = waiting_bytes 2 0 0 0 0 0
saved_ear (ear.Leaving t) = waiting_bytes 3 0 0 0 0 t
saved_ear (ear.Returning t) = waiting_bytes 4 0 0 0 0 t
saved_ear ear.Holding = waiting_bytes 5 0 0 0 0 0
saved_ear (ear.Freeing t) = waiting_bytes 6 0 0 0 0 t
saved_ear ear.Ready = waiting_bytes 7 0 0 0 0 0
saved_ear (ear.Timed t) = waiting_bytes 8 0 0 0 0 t
saved_ear (ear.Pulsing t) = waiting_bytes 9 0 0 0 0 t
saved_ear ear.EoiNoted = waiting_bytes 10 0 0 0 0 0
saved_ear (ear.Gathering eoi count byte) = waiting_bytes 11 (flag_byte eoi) count byte 0 0
saved_ear (ear.Accepting t eoi byte) = waiting_bytes 12 (flag_byte eoi) byte 0 0 t

-- what a talker waits for
abbrev pub saved_mouth : Mouth → List ℕ
saved_mouth mouth.Turned = waiting_bytes 13 0 0 0 0 0
saved_mouth (mouth.Answering t) = waiting_bytes 14 0 0 0 0 t
saved_mouth (mouth.Mute t) = waiting_bytes 15 0 0 0 0 t
saved_mouth (mouth.Led t) = waiting_bytes 16 0 0 0 0 t
saved_mouth (mouth.Offering byte last) = waiting_bytes 17 byte (flag_byte last) 0 0 0
saved_mouth (mouth.EoiOffered byte) = waiting_bytes 18 byte 0 0 0 0
saved_mouth (mouth.EoiPulsed byte) = waiting_bytes 19 byte 0 0 0 0
saved_mouth (mouth.Sending t byte last left half) = waiting_bytes 20 byte (flag_byte last) left half t
saved_mouth (mouth.Waiting byte last) = waiting_bytes 21 byte (flag_byte last) 0 0 0
saved_mouth (mouth.Ending t) = waiting_bytes 22 0 0 0 0 t
saved_mouth mouth.Over = waiting_bytes 23 0 0 0 0 0

-- what a drive waits for
abbrev pub saved_side : Side → List ℕ
saved_side (Hearing e) = saved_ear e
saved_side (Speaking m) = saved_mouth m

-- a drive's port: who it is, its role, the lines that it and the others hold, and what it waits for
abbrev pub saved_port : Port → List ℕ
saved_port p =
    p.party.device ∷ p.party.reaction ∷ pace_number p.party.pace ∷ role_number p.role
    ∷ flag_byte p.own.clock_low ∷ flag_byte p.own.data_low ∷ flag_byte p.others.atn_low ∷ flag_byte p.others.clock_low ∷ flag_byte p.others.data_low
    ∷ saved_side p.side

-- the channel of a secondary address, and 255 where there is none
abbrev pub channel_byte : Option ℕ → ℕ
channel_byte None = 255
channel_byte (Some c) = c

-- who is addressed
abbrev pub saved_addressed : Addressed → List ℕ
saved_addressed a =
    a.device ∷ pace_number a.pace ∷ role_number a.role ∷ channel_byte a.channel ∷ flag_byte a.naming ∷ flag_byte a.freed ∷ counted_text a.name

-- A DRIVE BESIDE ITS DISK, as bytes: its port, who is addressed, and what its DOS keeps
abbrev pub saved_seat : {M : Type 0} → Seated (Desk (Kept M)) → List ℕ
saved_seat s = saved_port s.port ++ (saved_addressed s.machine.addressed ++ saved_dos s.machine.dos)

-- ---- what can be read again

-- who may be addressed: a device below 31, a channel to 15, and a name of at most 256 bytes
pub record MayBeAddressed (a : Addressed) : Type 0 where
  pub device : a.device < 31
  pub channel : IfSome a.channel (λ c. c ≤ 15)
  pub name : length a.name ≤ 256

-- A DRIVE THAT MAY STAND over a disk of this many tracks
pub record MaySit {M : Type 0} (most : ℕ) (s : Seated (Desk (Kept M))) : Type 0 where
  pub device : s.port.party.device < 31
  pub reaction : 1 ≤ s.port.party.reaction
  pub addressed : MayBeAddressed s.machine.addressed
  pub kept : MayBeKept most s.machine.dos
