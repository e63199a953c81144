-- One change more.
use Rattle.std.proofs.Common.{◌≡◌, List, [], ◌∷◌, ◌++◌, refl}
use Rattle.cbm_iec.specs.declared.lines.Change.{Change}
use Rattle.cbm_iec.specs.declared.lines.Lines.{Lines}
use Rattle.cbm_iec.specs.Changes.{lines_changed}
use Rattle.bus_tidy.specs.Tidied.{after_all}

pub after_more : (cs : List Change) (c : Change) (l : Lines) → after_all (cs ++ c ∷ []) l ≡ lines_changed c (after_all cs l)
after_more [] c l = refl
after_more (x ∷ cs) c l = after_more cs c (lines_changed x l)
