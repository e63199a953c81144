-- A trace as a Value Change Dump: 0 is pulled, 1 is free.
use Rattle.std.specs.Prelude.{ℕ, List, [], ◌++◌, codes, decimal, Bool, true, false, ◌==◌, if◌then◌else◌}
use Rattle.cbm_iec.specs.Changes.{is_pull}
use Rattle.cbm_iec.specs.declared.event.Event.{Event}
use Rattle.cbm_iec.specs.declared.event.Who.{Who}
use Rattle.cbm_iec.specs.declared.event.Who.TheVariants.{Host, Drive}
use Rattle.cbm_iec.specs.declared.lines.Line.{Line}
use Rattle.cbm_iec.specs.declared.lines.Line.TheVariants.{Atn, Clock, Data}
use Rattle.bus_traces.specs.declared.cable.Cable.{Cable}
use Rattle.bus_traces.specs.Cables.{is_low, after}

-- a variable's code: a line's letter, after `h` for the host's own and after its number for a drive's
abbrev pub line_code : Line → List ℕ
line_code Atn = codes "a"
line_code Clock = codes "c"
line_code Data = codes "d"

abbrev pub party_code : Who → List ℕ
party_code Host = codes "h"
party_code (Drive device) = decimal device

abbrev pub level_text : Bool → List ℕ
level_text true = codes "0"
level_text false = codes "1"

-- a moment is written where it isn't the last one
abbrev pub time_text : ℕ → ℕ → List ℕ
time_text last moment = if last == moment then [] else codes "#" ++ decimal moment ++ codes "\n"

-- the party's own line
abbrev pub own_text : Event → List ℕ
own_text e = level_text (is_pull e.change.way) ++ party_code e.who ++ line_code e.change.line ++ codes "\n"

-- the wire, where it changes
abbrev pub wire_text : Line → Bool → Bool → List ℕ
wire_text line true true = []
wire_text line false false = []
wire_text line was is = level_text is ++ line_code line ++ codes "\n"

-- WHAT A VCD HAS OF AN EVENT after those of a moment, where the cable was so
abbrev pub dump_event : ℕ → Cable → Event → List ℕ
dump_event last cable e = time_text last e.change.moment ++ own_text e ++ wire_text e.change.line (is_low e.change.line cable) (is_low e.change.line (after e cable))
