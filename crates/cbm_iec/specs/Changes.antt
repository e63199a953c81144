-- A change of a line: which way, and what a party holds after it.
use Rattle.std.specs.Prelude.{Bool, true, false}
use Rattle.cbm_iec.specs.declared.lines.Change.{Change}
use Rattle.cbm_iec.specs.declared.lines.Line.{Line}
use Rattle.cbm_iec.specs.declared.lines.Line.TheVariants.{Atn, Clock, Data}
use Rattle.cbm_iec.specs.declared.lines.Lines.{Lines}
use Rattle.cbm_iec.specs.declared.lines.Way.{Way}
use Rattle.cbm_iec.specs.declared.lines.Way.TheVariants.{Pull, Free}

-- whether a change is a pull
abbrev pub is_pull : Way → Bool
is_pull Pull = true
is_pull Free = false

-- the lines that a party holds after a change of one of them
abbrev pub lines_after : Lines → Line → Way → Lines
lines_after l Atn way = record { atn_low = is_pull way; clock_low = l.clock_low; data_low = l.data_low }
lines_after l Clock way = record { atn_low = l.atn_low; clock_low = is_pull way; data_low = l.data_low }
lines_after l Data way = record { atn_low = l.atn_low; clock_low = l.clock_low; data_low = is_pull way }

-- the same, by the change
abbrev pub lines_changed : Change → Lines → Lines
lines_changed c l = lines_after l c.line c.way
