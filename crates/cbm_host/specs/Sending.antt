-- A byte of the host on the wires: what it changes next, and what becomes of it after its own changes and those of who hears.
use Rattle.std.specs.Prelude.{ℕ, ◌+◌, ◌-◌, ◌/◌, ◌%◌, ◌==◌, Bool, false, not, Option, Some, None, if◌then◌else◌}
use Rattle.cbm_iec.specs.Hearing.{is_same}
use Rattle.cbm_iec.specs.Ports.{change_at}
use Rattle.cbm_iec.specs.declared.lines.Change.{Change}
use Rattle.cbm_iec.specs.declared.lines.Line.{Line}
use Rattle.cbm_iec.specs.declared.lines.Line.TheVariants.{Atn, Clock, Data}
use Rattle.cbm_iec.specs.declared.lines.Way.{Way}
use Rattle.cbm_iec.specs.declared.lines.Way.TheVariants.{Pull, Free}
use Rattle.cbm_host.specs.Waits.{answer_wait, phase}
use Rattle.cbm_host.specs.declared.frame.Bits.{Bits}
use Rattle.cbm_host.specs.declared.frame.Frame.{Frame}
use Rattle.cbm_host.specs.declared.frame.Frame.TheVariants.{Readying, Ready, EoiSent, EoiHeard, Starting, Setting, Showing, Hiding, Clearing, Sent}

-- eight bits, DATA free before them
abbrev pub bits_to_send : ℕ → Bits
bits_to_send byte = record { left = byte; count = 8; low = false }

-- whether DATA is held for the next bit: 1 is DATA free
abbrev pub starts_low : ℕ → Bool
starts_low left = (left % 2) == 0

-- the bits of a byte after DATA was changed
abbrev pub toggled : Bits → Bits
toggled b = record { left = b.left; count = b.count; low = not b.low }

-- the change of DATA that the next bit needs
abbrev pub toggle : Bits → Way
toggle b = if b.low then Free else Pull

-- the bits of a byte after one was sent
abbrev pub after_bit : Bits → Bits
after_bit b = record { left = b.left / 2; count = b.count - 1; low = b.low }

-- CLOCK was pulled: DATA is set where the next bit changes it; after the eighth it is freed where it is held
abbrev pub next_bit : ℕ → Bits → Frame
next_bit t b =
    if b.count == 0
    then (if b.low then Clearing t else Sent)
    else (if is_same b.low (starts_low b.left) then Showing (t + phase) b else Setting t b)

-- the host's next change, None where it waits for who hears
abbrev pub frame_change : Frame → Option Change
frame_change (Readying at byte eoi) = Some (change_at at Clock Free)
frame_change (Starting at byte) = Some (change_at at Clock Pull)
frame_change (Setting at b) = Some (change_at at Data (toggle b))
frame_change (Showing at b) = Some (change_at at Clock Free)
frame_change (Hiding at b) = Some (change_at at Clock Pull)
frame_change (Clearing at) = Some (change_at at Data Free)
frame_change frame = None

-- a byte to the drive after the host's change, made at t
abbrev pub frame_made : ℕ → Frame → Frame
frame_made t (Readying at byte eoi) = Ready byte eoi
frame_made t (Starting at byte) = next_bit t (bits_to_send byte)
frame_made t (Setting at b) = Showing (t + phase) (toggled b)
frame_made t (Showing at b) = Hiding (t + phase) b
frame_made t (Hiding at b) = next_bit t (after_bit b)
frame_made t (Clearing at) = Sent
frame_made t frame = frame

-- who hears freed DATA: T, or the end of the EOI pulse
abbrev pub frame_freed : ℕ → Frame → Frame
frame_freed t (Ready byte eoi) = if eoi then EoiSent byte else Starting (t + answer_wait) byte
frame_freed t (EoiHeard byte) = Starting (t + answer_wait) byte
frame_freed t frame = frame

-- who hears pulled DATA: the EOI pulse
abbrev pub frame_pulled : Frame → Frame
frame_pulled (EoiSent byte) = EoiHeard byte
frame_pulled frame = frame

-- a byte to the drive after a change of a line by who hears
abbrev pub frame_lined : ℕ → Line → Way → Frame → Frame
frame_lined t Atn way frame = frame
frame_lined t Clock way frame = frame
frame_lined t Data Pull frame = frame_pulled frame
frame_lined t Data Free frame = frame_freed t frame

-- a byte to the drive after a change of who hears
abbrev pub frame_seen : Change → Frame → Frame
frame_seen c frame = frame_lined c.moment c.line c.way frame
