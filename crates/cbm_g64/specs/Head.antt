-- What a disk keeps beside its tracks.
use Rattle.std.specs.Prelude.{ℕ, ◌≡◌, List, Bool, Result, Ok, Err, IfOk, IfErr}
use Rattle.cbm_medium.specs.Place.{directory_head}
use Rattle.cbm_medium.specs.declared.fault.Fault.{Fault}
use Rattle.cbm_g64.specs.Tracks.{g64_content}

-- WHAT 18/0 ANSWERS is kept as the tracks give it.
abbrev pub IsHead : List (List Bool) → Result (List ℕ) Fault → Type 0
IsHead tracks head = (IfOk head (λ bytes. g64_content tracks directory_head ≡ Ok bytes))
    × (IfErr head (λ fault. (g64_content tracks directory_head ≡ Err fault.code) × (fault.at ≡ directory_head)))
