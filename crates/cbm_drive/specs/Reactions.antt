-- A drive's reaction on a bus: it changes the lines that it holds, and all others are told each change.
use Rattle.std.specs.Prelude.{ℕ, ◌+◌, ◌≡◌, Bool, not, List, [], ◌∷◌, ◌++◌, map, Option}
use Rattle.std.specs.List.{AllZip}
use Rattle.cbm_iec.specs.Changes.{is_pull}
use Rattle.cbm_iec.specs.Table.{with_clock, with_data}
use Rattle.cbm_iec.specs.declared.machine.Act.{Act}
use Rattle.cbm_iec.specs.declared.lines.Change.{Change}
use Rattle.cbm_iec.specs.declared.lines.Line.TheVariants.{Atn, Clock, Data}
use Rattle.cbm_iec.specs.declared.lines.Line.{Line}
use Rattle.cbm_iec.specs.declared.lines.Way.{Way}
use Rattle.cbm_iec.specs.declared.lines.Held.{Held}
use Rattle.cbm_iec.specs.declared.lines.Lines.{Lines}
use Rattle.cbm_session.specs.Among.{counted}
use Rattle.cbm_session.specs.Playing.{Station, hear_all, IsFirst, shown, reacting}
use Rattle.cbm_drive.specs.declared.wires.Wires.{Wires}
use Rattle.cbm_drive.specs.Seats.{Seated, IsSeat, IsBusAt, pulls_counted, total, clock_of, data_pulls}

-- all changes come at this moment
abbrev pub AreAtMoment : ℕ → List Change → Type 0
AreAtMoment t [] = Unit {0}
AreAtMoment t (c ∷ cs) = (c.moment ≡ t) × AreAtMoment t cs

-- what all hold after a change of a drive
abbrev pub after_a_change : Line → Way → Wires → Wires
after_a_change Atn way all = all
after_a_change Clock way all = record { host = all.host; clocks = counted way all.clocks; datas = all.datas }
after_a_change Data way all = record { host = all.host; clocks = all.clocks; datas = counted way all.datas }

-- what all hold after changes of a drive
abbrev pub wires_after_all : List Change → Wires → Wires
wires_after_all [] all = all
wires_after_all (c ∷ cs) all = wires_after_all cs (after_a_change c.line c.way all)

-- what a drive holds after a change of its own
abbrev pub own_after : Line → Way → Held → Held
own_after Atn way own = own
own_after Clock way own = with_clock (is_pull way) own
own_after Data way own = with_data (is_pull way) own

-- what a drive holds after changes of its own
abbrev pub held_afterwards : List Change → Held → Held
held_afterwards [] own = own
held_afterwards (c ∷ cs) own = held_afterwards cs (own_after c.line c.way own)

-- A line is pulled where it was free, and freed where it was held.
abbrev pub IsToggled : Line → Way → Held → Type 0
IsToggled Atn way own = ⊥
IsToggled Clock way own = own.clock_low ≡ not (is_pull way)
IsToggled Data way own = own.data_low ≡ not (is_pull way)

-- each of these changes pulls a line that is free then, or frees one that is held
abbrev pub Toggles : Held → List Change → Type 0
Toggles own [] = Unit {0}
Toggles own (c ∷ cs) = IsToggled c.line c.way own × Toggles (own_after c.line c.way own) cs

-- These are counted: one drive that holds its own lines, and those before and after it.
pub record IsAllOf {D : Type 0} (all : Wires) (own : Held) (front back : List (Seated D)) : Type 0 where
  pub clocks : all.clocks ≡ total clock_of front + (pulls_counted own.clock_low + total clock_of back)
  pub datas : all.datas ≡ total data_pulls front + (pulls_counted own.data_low + total data_pulls back)

-- the drives before and after another one have been told its changes
pub record HaveHeard (D M : Type 0) (stands : D → M → Type 0) (step : M → Act → M) (says : M → Option (ℕ × Bool)) (all : Wires) (own : Held) (cs : List Change) (front back : List (Seated D)) (bs hs : List (Station M)) : Type 0 where
  pub counts : IsAllOf all own front back
  pub before : AllZip (IsSeat D M stands all) front (map (λ s. hear_all M step says cs s) bs)
  pub afterwards : AllZip (IsSeat D M stands all) back (map (λ s. hear_all M step says cs s) hs)

-- The drives before and after one that made these changes at this moment hear each of them, where it changed its own lines with them and these counts of
-- who holds a line are true.
abbrev pub Hear : (D M : Type 0) (stood stands : D → M → Type 0) (step : M → Act → M) (says : M → Option (ℕ × Bool)) → ℕ → List (Seated D) → List (Seated D) → List (Seated D) → List (Seated D) → Wires → List Change → Type 0
Hear D M stood stands step says t front back front' back' all cs = (own : Held) (bs hs : List (Station M)) → AreAtMoment t cs → Toggles own cs → IsAllOf all own front back → AllZip (IsSeat D M stood all) front bs → AllZip (IsSeat D M stood all) back hs
    → HaveHeard D M stands step says (wires_after_all cs all) (held_afterwards cs own) cs front' back' bs hs

-- THE REACTION THAT IS DUE FIRST HAS HAPPENED: the drives represent the stations after it.
pub record HasReacted (D M : Type 0) (stands : D → M → Type 0) (step : M → Act → M) (says : M → Option (ℕ × Bool)) (host : Lines) (t device : ℕ) (xs : List (Seated D)) (cs : List Change) (ss : List (Station M)) : Type 0 where
  pub before : List (Station M)
  pub station : Station M
  pub afterwards : List (Station M)
  pub is : ss ≡ before ++ station ∷ afterwards
  pub first : IsFirst M step says t before station afterwards
  pub which : device ≡ station.port.party.device
  pub changes : cs ≡ shown M step says t station
  pub now : IsBusAt D M stands host xs (reacting M step says t before station afterwards)
