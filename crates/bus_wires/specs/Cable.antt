-- What each party pulls, and what the wires show of it.
use Rattle.std.specs.Prelude.{◌≡◌, ◌==◌, ℕ, Bool, true, false, List, [], ◌∷◌, map, if◌then◌else◌}
use Rattle.cbm_iec.specs.Changes.{is_pull, lines_changed}
use Rattle.bus_wires.specs.declared.hands.Hands.{Hands}
use Rattle.bus_wires.specs.declared.hands.Seat.{Seat}
use Rattle.cbm_iec.specs.declared.event.Event.{Event}
use Rattle.cbm_iec.specs.declared.event.Who.TheVariants.{Host, Drive}
use Rattle.cbm_iec.specs.declared.lines.Change.{Change}
use Rattle.cbm_iec.specs.declared.lines.Line.{Line}
use Rattle.cbm_iec.specs.declared.lines.Line.TheVariants.{Atn, Clock, Data}
use Rattle.cbm_iec.specs.declared.lines.Way.{Way}
use Rattle.cbm_iec.specs.declared.lines.Way.TheVariants.{Pull, Free}
use Rattle.cbm_iec.specs.declared.lines.Held.{Held}
use Rattle.cbm_iec.specs.declared.lines.Lines.{Lines}
use Rattle.cbm_iec.specs.declared.party.Party.{Party}

-- whether a line is pulled, of three
abbrev pub low : Line → Lines → Bool
low Atn lines = lines.atn_low
low Clock lines = lines.clock_low
low Data lines = lines.data_low

-- whether a drive that holds these pulls a line; it never pulls ATN
abbrev pub holds : Line → Held → Bool
holds Atn held = false
holds Clock held = held.clock_low
holds Data held = held.data_low

-- what a drive holds after it pulls or frees a line
abbrev pub with_held : Line → Bool → Held → Held
with_held Atn is_low held = held
with_held Clock is_low held = record { clock_low = is_low; data_low = held.data_low }
with_held Data is_low held = record { clock_low = held.clock_low; data_low = is_low }

-- what each party pulls: the host, and the drives
pub record Parties : Type 0 where
  pub host : Lines
  pub drives : List Seat

abbrev pub parties_of : Hands → Parties
parties_of h = record { host = h.host; drives = h.seats.items }

-- nobody pulls a line
abbrev pub parties_at_rest : List Party → Parties
parties_at_rest bs = record {
  host = record { atn_low = false; clock_low = false; data_low = false };
  drives = map (λ b. (record { device = b.device; held = record { clock_low = false; data_low = false } })) bs;
}

-- whether one of these drives pulls a line
abbrev pub any_pulls : Line → List Seat → Bool
any_pulls line [] = false
any_pulls line (s ∷ ss) = if holds line s.held then true else any_pulls line ss

-- A LINE IS PULLED ON THE WIRE AS LONG AS ANY PARTY PULLS IT.
abbrev pub wire_low : Line → Parties → Bool
wire_low line p = if low line p.host then true else any_pulls line p.drives

-- the wires show what was read
abbrev pub Shows : Parties → Lines → Type 0
Shows p lines = (line : Line) → wire_low line p ≡ low line lines

-- a drive after a change of the drive with that device number
abbrev pub seat_after : ℕ → Change → Seat → Seat
seat_after device c s = if s.device == device then record { device = s.device; held = with_held c.line (is_pull c.way) s.held } else s

-- what the parties pull after a change of one of them
abbrev pub parties_after : Event → Parties → Parties
parties_after e p = elim e.who [
  | Host ↦ record { host = lines_changed e.change p.host; drives = p.drives }
  | Drive device ↦ record { host = p.host; drives = map (λ s. seat_after device e.change s) p.drives }
]
