-- A drive on the wires, read from bytes: each step gives a value and what follows its bytes, or None.
use Rattle.std.specs.Prelude.{ℕ, ◌==◌, ◌&&◌, nat_lt, nat_le, List, [], ◌∷◌, length, Option, Some, None, if◌then◌else◌}
use Rattle.cbm_saved.specs.Steps.{◌>>=◌}
use Rattle.cbm_saved.specs.Numbers.{eight_at}
use Rattle.cbm_saved.specs.Texts.{text_at}
use Rattle.cbm_channel.specs.Loaded.{is_flag, dos_at}
use Rattle.cbm_channel.specs.Standing.{Kept}
use Rattle.cbm_iec.specs.declared.pace.Pace.{Pace}
use Rattle.cbm_iec.specs.declared.pace.Pace.TheVariants as pace
use Rattle.cbm_iec.specs.declared.party.Role.{Role}
use Rattle.cbm_iec.specs.declared.party.Role.TheVariants as role
use Rattle.cbm_iec.specs.declared.ear.Ear.{Ear}
use Rattle.cbm_iec.specs.declared.ear.Ear.TheVariants as ear
use Rattle.cbm_iec.specs.declared.mouth.Mouth.{Mouth}
use Rattle.cbm_iec.specs.declared.mouth.Mouth.TheVariants as mouth
use Rattle.cbm_iec.specs.declared.port.Port.{Port}
use Rattle.cbm_iec.specs.declared.port.Side.{Side}
use Rattle.cbm_iec.specs.declared.port.Side.TheVariants.{Hearing, Speaking}
use Rattle.cbm_drive.specs.Addressing.{Addressed}
use Rattle.cbm_drive.specs.Desks.{Desk}
use Rattle.cbm_drive.specs.Seats.{Seated}

-- the pace of a number
abbrev pub pace_by : ℕ → Pace
pace_by n = if n == 0 then pace.Profile else pace.Kernal

-- the role of a number
abbrev pub role_by : ℕ → Role
role_by n = if n == 1 then role.Listener else if n == 2 then role.Talker else role.Absent

-- what a listener waits for, by its number, four bytes and a moment
abbrev pub ear_by : ℕ → ℕ → ℕ → ℕ → ℕ → Option Ear
ear_by kind a b c t =
    if kind == 0 then Some ear.Idle else
    if kind == 1 then Some (ear.Starting t) else
    if kind == 2 then Some ear.Await else
    if kind == 3 then Some (ear.Leaving t) else
    if kind == 4 then Some (ear.Returning t) else
    if kind == 5 then Some ear.Holding else
    if kind == 6 then Some (ear.Freeing t) else
    if kind == 7 then Some ear.Ready else
    if kind == 8 then Some (ear.Timed t) else
    if kind == 9 then Some (ear.Pulsing t) else
    if kind == 10 then Some ear.EoiNoted else
    if kind == 11 then Some (ear.Gathering (is_flag a) b c) else
    if kind == 12 then Some (ear.Accepting t (is_flag a) b) else None

-- what a talker waits for
abbrev pub mouth_by : ℕ → ℕ → ℕ → ℕ → ℕ → ℕ → Option Mouth
mouth_by kind a b c d t =
    if kind == 13 then Some mouth.Turned else
    if kind == 14 then Some (mouth.Answering t) else
    if kind == 15 then Some (mouth.Mute t) else
    if kind == 16 then Some (mouth.Led t) else
    if kind == 17 then Some (mouth.Offering a (is_flag b)) else
    if kind == 18 then Some (mouth.EoiOffered a) else
    if kind == 19 then Some (mouth.EoiPulsed a) else
    if kind == 20 then Some (mouth.Sending t a (is_flag b) c d) else
    if kind == 21 then Some (mouth.Waiting a (is_flag b)) else
    if kind == 22 then Some (mouth.Ending t) else
    if kind == 23 then Some mouth.Over else None

-- a listener, as a side of the port
abbrev pub hearing_by : ℕ → ℕ → ℕ → ℕ → ℕ → Option Side
hearing_by kind a b c t = do
  e ← ear_by kind a b c t
  Some (Hearing e)

-- a talker, as a side of the port
abbrev pub speaking_by : ℕ → ℕ → ℕ → ℕ → ℕ → ℕ → Option Side
speaking_by kind a b c d t = do
  m ← mouth_by kind a b c d t
  Some (Speaking m)

-- a listener where its number is below 13, else a talker
abbrev pub side_by : ℕ → ℕ → ℕ → ℕ → ℕ → ℕ → Option Side
side_by kind a b c d t = if nat_lt kind 13 then hearing_by kind a b c t else speaking_by kind a b c d t

-- what a drive waits for
abbrev pub side_at : List ℕ → Option (Side × List ℕ)
side_at (kind ∷ a ∷ b ∷ c ∷ d ∷ rest) = do
  t ← eight_at rest
  side ← side_by kind a b c d t.0
  Some (side, t.1)
side_at _ = None

-- a drive's port
abbrev pub port_at : List ℕ → Option (Port × List ℕ)
port_at (device ∷ reaction ∷ p ∷ r ∷ own_clock ∷ own_data ∷ atn ∷ clock ∷ line ∷ rest) = do
  side ← side_at rest
  Some (
    record {
      party = record { device = device; reaction = reaction; pace = pace_by p };
      role = role_by r;
      own = record { clock_low = is_flag own_clock; data_low = is_flag own_data };
      others = record { atn_low = is_flag atn; clock_low = is_flag clock; data_low = is_flag line };
      side = side.0;
    },
    side.1,
  )
port_at _ = None

-- the channel of a secondary address; above 15 there is none
abbrev pub channel_with : ℕ → Option ℕ
channel_with n = if nat_le n 15 then Some n else None

-- who is addressed, with these parts
abbrev pub addressed_of : ℕ → ℕ → ℕ → ℕ → ℕ → ℕ → List ℕ → Option Addressed
addressed_of device p r channel naming freed name =
    if nat_lt device 31 && nat_le (length name) 256 then Some (record {
      device = device;
      pace = pace_by p;
      role = role_by r;
      channel = channel_with channel;
      naming = is_flag naming;
      freed = is_flag freed;
      name = name;
    }) else None

-- who is addressed
abbrev pub addressed_at : List ℕ → Option (Addressed × List ℕ)
addressed_at (device ∷ p ∷ r ∷ channel ∷ naming ∷ freed ∷ rest) = do
  name ← text_at rest
  addressed ← addressed_of device p r channel naming freed name.0
  Some (addressed, name.1)
addressed_at _ = None

-- the DOS on the bus, with this medium of so many tracks
abbrev pub desk_at : {M : Type 0} → M → ℕ → List ℕ → Option (Desk (Kept M) × List ℕ)
desk_at medium most bytes = do
  addressed ← addressed_at bytes
  dos ← dos_at medium most addressed.1
  Some (record { dos = dos.0; addressed = addressed.0 }, dos.1)

-- a drive has a device number below 31 and a reaction of at least a microsecond
abbrev pub seated_of : {M : Type 0} → Port → Desk (Kept M) → Option (Seated (Desk (Kept M)))
seated_of port desk =
    if nat_lt port.party.device 31 && nat_le 1 port.party.reaction then Some (record { port = port; machine = desk }) else None

-- A DRIVE ON THE WIRES, with this medium of so many tracks
abbrev pub seat_at : {M : Type 0} → M → ℕ → List ℕ → Option (Seated (Desk (Kept M)) × List ℕ)
seat_at medium most bytes = do
  port ← port_at bytes
  desk ← desk_at medium most port.1
  seat ← seated_of port.0 desk.0
  Some (seat, desk.1)
