-- The lines that a host holds after its changes.
use Rattle.std.specs.Prelude.{List, [], ◌∷◌}
use Rattle.cbm_iec.specs.Changes.{lines_changed}
use Rattle.cbm_iec.specs.declared.lines.Change.{Change}
use Rattle.cbm_iec.specs.declared.lines.Lines.{Lines}

-- the lines after several changes, one after another
abbrev pub after_all : List Change → Lines → Lines
after_all [] l = l
after_all (c ∷ cs) l = after_all cs (lines_changed c l)
