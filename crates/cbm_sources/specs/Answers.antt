-- What a source answers to the number of a file.
use Rattle.std.specs.Prelude.{ℕ, List, Result}
use Rattle.cbm_sources.specs.declared.fault.Fault.{Fault}

-- the bytes of a file, or why there are none
abbrev pub FileTold : Type 0
FileTold = Result (List ℕ) Fault
