-- A byte of the talker on the wires: what the host changes next, and what becomes of it after its own changes and the talker's.
use Rattle.std.specs.Prelude.{ℕ, ◌+◌, ◌==◌, nat_lt, Bool, true, false, Option, Some, None, List, [], ◌∷◌, if◌then◌else◌}
use Rattle.cbm_iec.specs.Changes.{is_pull}
use Rattle.cbm_iec.specs.Hearing.{with_bit_read}
use Rattle.cbm_iec.specs.Ports.{change_at}
use Rattle.cbm_iec.specs.declared.lines.Change.{Change}
use Rattle.cbm_iec.specs.declared.lines.Line.{Line}
use Rattle.cbm_iec.specs.declared.lines.Line.TheVariants.{Atn, Clock, Data}
use Rattle.cbm_iec.specs.declared.lines.Way.{Way}
use Rattle.cbm_iec.specs.declared.lines.Way.TheVariants.{Pull, Free}
use Rattle.cbm_host.specs.Waits.{answer_wait, last_wait, last_pulse}
use Rattle.cbm_host.specs.declared.take.Came.{Came}
use Rattle.cbm_host.specs.declared.take.Take.{Take}
use Rattle.cbm_host.specs.declared.take.Take.TheVariants.{Awaiting, Freeing, Listening, Marking, Unmarking, Gathering, Accepting}

-- before the first bit
abbrev pub nothing_came : Bool → Came
nothing_came last = record { count = 0; byte = 0; low = false; last = last }

-- CLOCK was freed: a bit counts
abbrev pub came_bit : Came → Came
came_bit c = record { count = c.count + 1; byte = with_bit_read c.byte c.low; low = c.low; last = c.last }

-- the host's next change, None where it waits for the talker
abbrev pub take_change : Take → Option Change
take_change (Freeing at) = Some (change_at at Data Free)
take_change (Unmarking at) = Some (change_at at Data Free)
take_change (Marking at) = Some (change_at at Data Pull)
take_change (Accepting at byte last) = Some (change_at at Data Pull)
take_change take = None

-- a byte of the talker after the host's change, made at t
abbrev pub take_made : ℕ → Take → Take
take_made t (Freeing at) = Listening (t + last_wait)
take_made t (Marking at) = Unmarking (t + last_pulse)
take_made t (Unmarking at) = Gathering (nothing_came true)
take_made t take = take

-- the talker freed CLOCK: it offers a byte, or a bit counts
abbrev pub take_freed : ℕ → Take → Take
take_freed t Awaiting = Freeing (t + answer_wait)
take_freed t (Gathering c) = if nat_lt c.count 8 then Gathering (came_bit c) else Gathering c
take_freed t take = take

-- the talker pulled CLOCK: its first bit begins, or its eighth is over
abbrev pub take_pulled : ℕ → Take → Take
take_pulled t (Listening until) = Gathering (nothing_came false)
take_pulled t (Gathering c) = if c.count == 8 then Accepting (t + answer_wait) c.byte c.last else Gathering c
take_pulled t take = take

-- the talker changed DATA
abbrev pub take_set : Bool → Take → Take
take_set low (Gathering c) = Gathering (record { count = c.count; byte = c.byte; low = low; last = c.last })
take_set low take = take

-- a byte of the talker after it changed a line
abbrev pub take_lined : ℕ → Line → Way → Take → Take
take_lined t Atn way take = take
take_lined t Clock Pull take = take_pulled t take
take_lined t Clock Free take = take_freed t take
take_lined t Data way take = take_set (is_pull way) take

-- a byte of the talker after a change of it
abbrev pub take_seen : Change → Take → Take
take_seen c take = take_lined c.moment c.line c.way take

-- a byte of the talker after changes of it, one after the other
abbrev pub take_heard : List Change → Take → Take
take_heard [] take = take
take_heard (c ∷ cs) take = take_heard cs (take_seen c take)

-- bits come, one of them at least
abbrev pub gathers : Take → Bool
gathers (Gathering c) = nat_lt c.count 8
gathers take = false
