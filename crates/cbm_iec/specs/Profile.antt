-- The times of the bus, in microseconds: what drives keep to, then what the host keeps to.
use Rattle.std.specs.Prelude.{ℕ, ◌+◌, ◌*◌}
use Rattle.cbm_iec.specs.declared.pace.Pace.TheVariants.{Profile, Kernal}
use Rattle.cbm_iec.specs.declared.pace.Pace.{Pace}

-- a drive reacts in 1 to this many microseconds
abbrev pub slowest_reaction : ℕ
slowest_reaction = 60

-- EOI: a listener's pulse begins this long, and its reaction, after DATA was first free on the wire
abbrev pub eoi_wait : ℕ
eoi_wait = 200

-- EOI: how long a listener's pulse pulls DATA
abbrev pub eoi_pulse : Pace → ℕ
eoi_pulse Profile = 60
eoi_pulse Kernal = 80

-- EOI: this long after DATA was first free on the wire, and its reaction, a listener's pulse has ended
abbrev pub eoi_end : Pace → ℕ
eoi_end p = eoi_wait + eoi_pulse p

-- how long a talker holds CLOCK after the turnaround, before it offers its first byte
abbrev pub lead : ℕ
lead = 80

-- how long a talker that has nothing to say holds CLOCK, at a KERNAL's pace, before it lets go of both lines
abbrev pub mute : ℕ
mute = 80

-- how long a talker holds CLOCK after the accept of a byte, before it offers the next one
abbrev pub next_byte : ℕ
next_byte = 100

-- how long each half of a talker's bit lasts: CLOCK pulled, then CLOCK free
abbrev pub half_bit : Pace → ℕ
half_bit Profile = 60
half_bit Kernal = 80

-- how long a talker's bit lasts
abbrev pub bit_time : Pace → ℕ
bit_time p = 2 * half_bit p

-- the host: CLOCK and DATA stand at least this long before the next change of CLOCK in a bit; as long from an accept to ATN's change
abbrev pub settle : ℕ
settle = 20

-- the host: with several drives, one of them of the pace Profile, from the first accept to ATN's change
abbrev pub settle_all : ℕ
settle_all = 60

-- the host: in a turnaround, from ATN's release to CLOCK's, by the pace of the drive that talks
abbrev pub turn_settle : Pace → ℕ
turn_settle Profile = settle
turn_settle Kernal = 15

-- the host: from a change of ATN, or an accept, to the release of CLOCK for a byte
abbrev pub pause : ℕ
pause = 100

-- the host: from ATN's release to its next pull; where all drives are of a KERNAL's pace, just after the slowest reaction
abbrev pub pull_pause : Pace → ℕ
pull_pause Profile = pause
pull_pause Kernal = slowest_reaction + 1

-- the host: without EOI its first bit begins at most this long after DATA was first free on the wire
abbrev pub latest_start : ℕ
latest_start = 199

-- the host: it accepts a byte at least 1 after its eighth bit, counted here from the first one
abbrev pub first_accept : Pace → ℕ
first_accept p = 8 * bit_time p + 1

-- the host: and at most 1,000 after its eighth bit
abbrev pub latest_accept : Pace → ℕ
latest_accept p = 8 * bit_time p + 1000
