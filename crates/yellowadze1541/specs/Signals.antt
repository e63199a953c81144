-- Changes of lines as C passes them and is told of them.
use Rattle.std.specs.Prelude.{ℕ, List, [], ◌∷◌, ◌++◌, ◌==◌, if◌then◌else◌, Option, Some, None}
use Rattle.cbm_iec.specs.declared.event.Event.{Event}
use Rattle.cbm_iec.specs.declared.event.Who.{Who}
use Rattle.cbm_iec.specs.declared.event.Who.TheVariants.{Host, Drive}
use Rattle.cbm_iec.specs.declared.lines.Change.{Change}
use Rattle.cbm_iec.specs.declared.lines.Line.{Line}
use Rattle.cbm_iec.specs.declared.lines.Line.TheVariants.{Atn, Clock, Data}
use Rattle.cbm_iec.specs.declared.lines.Way.{Way}
use Rattle.cbm_iec.specs.declared.lines.Way.TheVariants.{Pull, Free}
use Rattle.yellowadze1541.specs.declared.shapes.Signal.{Signal}

-- the line of a number: 0 ATN, 1 CLOCK, 2 DATA
abbrev pub line_with : ℕ → Option Line
line_with n = if n == 0 then Some Atn else if n == 1 then Some Clock else if n == 2 then Some Data else None

-- the way of a number: 0 frees a line, any other one pulls it
abbrev pub way_with : ℕ → Way
way_with n = if n == 0 then Free else Pull

-- a change of a line at a moment; none where it is no line
abbrev pub with_line : ℕ → ℕ → Option Line → Option Change
with_line moment low None = None
with_line moment low (Some line) = Some (record { moment = moment; line = line; way = way_with low })

-- THE CHANGE that a signal asks for, whoever it names; none where its line is no line
abbrev pub change_of : Signal → Option Change
change_of s = with_line s.moment s.low (line_with s.line)

-- a change before the rest; none where either is none
abbrev pub put_before : Option Change → Option (List Change) → Option (List Change)
put_before None rest = None
put_before (Some c) None = None
put_before (Some c) (Some cs) = Some (c ∷ cs)

-- the changes of signals; none where one of their lines is no line
abbrev pub changes_of : List Signal → Option (List Change)
changes_of [] = Some []
changes_of (s ∷ ss) = put_before (change_of s) (changes_of ss)

-- those that are known before the rest
abbrev pub all_before : List Change → Option (List Change) → Option (List Change)
all_before cs None = None
all_before cs (Some ds) = Some (cs ++ ds)

-- ---- events as signals

-- the number of a line: 0 ATN, 1 CLOCK, 2 DATA
abbrev pub number_of_line : Line → ℕ
number_of_line Atn = 0
number_of_line Clock = 1
number_of_line Data = 2

-- the number of a way: 0 frees a line, 1 pulls it
abbrev pub number_of_way : Way → ℕ
number_of_way Free = 0
number_of_way Pull = 1

-- the number of a party: 0 the host, else the drive's device number
abbrev pub number_of_who : Who → ℕ
number_of_who Host = 0
number_of_who (Drive device) = device

-- an event as C is told of it
abbrev pub signal_of : Event → Signal
signal_of e = record { moment = e.change.moment; who = number_of_who e.who; line = number_of_line e.change.line; low = number_of_way e.change.way }
