-- A row of the drive's table: what a drive does when its reaction is due.
use Rattle.std.specs.Prelude.{ℕ, Bool, Option, None}
use Rattle.cbm_iec.specs.declared.machine.Act.{Act}
use Rattle.cbm_iec.specs.declared.lines.Held.{Held}
use Rattle.cbm_iec.specs.declared.lines.Lines.{Lines}
use Rattle.cbm_iec.specs.declared.row.Due.{Due}
use Rattle.cbm_iec.specs.declared.row.Row.{Row}

-- The lines that the drive holds from then on, by those that it held; what it waits for then, by its reaction, the moment and the others' lines;
-- and the act that counts, by the others' lines.
pub record TableRow (W : Type 0) : Type 0 where
  pub held : Held → Held
  pub next : ℕ → ℕ → Lines → W
  pub act : Lines → Option Act

-- a reaction with which no act counts
abbrev pub plain_row : {W : Type 0} → (Held → Held) → (ℕ → ℕ → Lines → W) → TableRow W
plain_row held next = record { held = held; next = next; act = λ others. None }

-- nothing is due
abbrev pub stays : {W : Type 0} → W → TableRow W
stays waits = plain_row (λ own. own) (λ r moment others. waits)

-- the row at a moment
abbrev pub happens : {W : Type 0} → Due → TableRow W → Row W
happens due row = record { held = row.held due.own; next = row.next due.reaction due.moment due.others; act = row.act due.others }

-- the lines with DATA held or not
abbrev pub with_data : Bool → Held → Held
with_data data_low own = record { clock_low = own.clock_low; data_low = data_low }

-- the lines with CLOCK held or not
abbrev pub with_clock : Bool → Held → Held
with_clock clock_low own = record { clock_low = clock_low; data_low = own.data_low }
