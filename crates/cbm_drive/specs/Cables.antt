-- A host and drives on one cable.
use Rattle.std.specs.Prelude.{ℕ, false, List}
use Rattle.cbm_iec.specs.declared.lines.Lines.{Lines}
use Rattle.cbm_drive.specs.Seats.{Seated, IsFirstDue}

-- a bus: the lines that the host holds, and the drives in the order in which they answer at equal moments
pub record Cabled (D : Type 0) : Type 0 where
  pub host : Lines
  pub drives : List (Seated D)

-- no line is pulled
abbrev pub all_free : Lines
all_free = record { atn_low = false; clock_low = false; data_low = false }

-- a reaction is due at this moment, and none before
abbrev pub IsDueFirst : {D : Type 0} → List (Seated D) → ℕ → Type 0
IsDueFirst xs t = (n : ℕ) × IsFirstDue xs (n, t)
