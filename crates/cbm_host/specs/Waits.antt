-- How long the host waits on the bus, in microseconds: each wait keeps the bounds of the bus for every drive that reacts in 1 to 60.
use Rattle.std.specs.Prelude.{ℕ}

-- from ATN's pull, its release or an accept to CLOCK's release for a byte; from ATN's release to its next pull; and from the last release to the end
abbrev pub ready_wait : ℕ
ready_wait = 100

-- from DATA's release, or the end of the EOI pulse, to the first bit; from a talker's release of CLOCK to the host's of DATA; from the end of a
-- talked byte to its accept, and from there to ATN's pull
abbrev pub answer_wait : ℕ
answer_wait = 20

-- how long CLOCK is pulled in a bit, and how long it is free; from ATN's release to CLOCK's in a turnaround
abbrev pub phase : ℕ
phase = 20

-- from a drive's accept to the next change of ATN
abbrev pub turn_wait : ℕ
turn_wait = 60

-- a talker that hasn't begun its byte this long after DATA's release has its last one
abbrev pub last_wait : ℕ
last_wait = 200

-- how long DATA is pulled then
abbrev pub last_pulse : ℕ
last_pulse = 60

-- a talker that hasn't pulled CLOCK this long after its release has nothing to say; at a KERNAL's pace it pulls CLOCK, and lets go of both lines
abbrev pub silence : ℕ
silence = 1000
