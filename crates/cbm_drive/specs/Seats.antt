-- The drives of a bus as the code keeps them, and the stations that they represent.
use Rattle.std.specs.Prelude.{ℕ, zero, suc, [], ◌∷◌, Some, None, ◌+◌, ◌≤◌, ◌≡◌, Bool, true, false, List, map}
use Rattle.std.specs.List.{AllZip}
use Rattle.cbm_iec.specs.Ports.{port_due, resting}
use Rattle.cbm_session.specs.Following.{IsInTime}
use Rattle.cbm_iec.specs.declared.lines.Held.{Held}
use Rattle.cbm_iec.specs.declared.lines.Lines.{Lines}
use Rattle.cbm_iec.specs.declared.port.Port.{Port}
use Rattle.cbm_drive.specs.declared.wires.Wires.{Wires}
use Rattle.cbm_session.specs.Among.{Rest}
use Rattle.cbm_session.specs.Playing.{Station, IsLaterDue}

-- a drive on the wires: its port, and the machine above it
pub record Seated (D : Type 0) : Type 0 where
  pub port : Port
  pub machine : D

-- one party that holds a line, or none
abbrev pub pulls_counted : Bool → ℕ
pulls_counted true = 1
pulls_counted false = 0

-- how many these are together
abbrev pub total : {A : Type 0} → (A → ℕ) → List A → ℕ
total f [] = 0
total f (x ∷ xs) = f x + total f xs

module _ {D : Type 0} where
  -- the lines that a drive holds
  abbrev pub own_of : Seated D → Held
  own_of x = x.port.own

  -- 1 for a drive that holds CLOCK, else 0
  abbrev pub clock_of : Seated D → ℕ
  clock_of x = pulls_counted x.port.own.clock_low

  -- 1 for a drive that holds DATA, else 0
  abbrev pub data_pulls : Seated D → ℕ
  data_pulls x = pulls_counted x.port.own.data_low

  -- a number of each drive's machine
  abbrev pub numbers : (D → ℕ) → List (Seated D) → List ℕ
  numbers number xs = map (λ x. number x.machine) xs

  -- how often these drives' machines failed, all together
  abbrev pub failed : (D → ℕ) → List (Seated D) → ℕ
  failed failures xs = total (λ x. failures x.machine) xs

  -- none of them failed in between
  abbrev pub Unfailed : (D → ℕ) → List (Seated D) → List (Seated D) → Type 0
  Unfailed failures old new = failed failures new ≤ failed failures old

  -- THE DRIVES WENT ON: each machine keeps the number that lasts, and how often they failed is counted on.
  pub record AreCarried (number failures : D → ℕ) (old new : List (Seated D)) : Type 0 where
    pub lasting : numbers number new ≡ numbers number old
    pub counted : failed failures old ≤ failed failures new

  -- no reaction of these drives is due
  abbrev pub AreIdle : List (Seated D) → Type 0
  AreIdle [] = Unit {0}
  AreIdle (x ∷ xs) = (port_due x.port ≡ None) × AreIdle xs

  -- no reaction of these drives is due at or before a moment
  abbrev pub AreLater : ℕ → List (Seated D) → Type 0
  AreLater t [] = Unit {0}
  AreLater t (x ∷ xs) = IsLaterDue t (port_due x.port) × AreLater t xs

  -- no reaction of these drives is due before a moment
  abbrev pub AreInTime : ℕ → List (Seated D) → Type 0
  AreInTime t [] = Unit {0}
  AreInTime t (x ∷ xs) = IsInTime t (port_due x.port) × AreInTime t xs

  -- Each of them is as it was switched on: it has no role, nothing is due, and all lines are free as it last saw them.
  abbrev pub AreResting : List (Seated D) → Type 0
  AreResting [] = Unit {0}
  AreResting (x ∷ xs) = (x.port ≡ resting x.port.party) × AreResting xs

  -- The drive at a place is due first: sooner than those listed before it, not later than those after it.
  abbrev pub IsFirstDue : List (Seated D) → ℕ × ℕ → Type 0
  IsFirstDue [] f = ⊥
  IsFirstDue (x ∷ xs) (zero, t) = (port_due x.port ≡ Some t) × AreInTime t xs
  IsFirstDue (x ∷ xs) (suc n, t) = IsLaterDue t (port_due x.port) × IsFirstDue xs (n, t)

  -- what the host and these drives hold
  abbrev pub wires_held_by : Lines → List (Seated D) → Wires
  wires_held_by host xs = record { host = host; clocks = total clock_of xs; datas = total data_pulls xs }

-- What all others than a drive hold is what all hold without its own.
pub record IsWithout (all : Wires) (own : Held) (r : Rest) : Type 0 where
  pub host : r.host ≡ all.host
  pub clocks : r.clocks + pulls_counted own.clock_low ≡ all.clocks
  pub datas : r.datas + pulls_counted own.data_low ≡ all.datas

module _ (D M : Type 0) (stands : D → M → Type 0) where
  -- the drive represents a station, once this is what all others hold
  pub record Meets (all : Wires) (r : Rest) (x : Seated D) (s : Station M) : Type 0 where
    pub port : x.port ≡ s.port
    pub machine : stands x.machine s.machine
    pub rest : IsWithout all x.port.own r

  -- the drive represents a station
  abbrev pub IsSeat : Wires → Seated D → Station M → Type 0
  IsSeat all x s = Meets all s.rest x s

  -- THE DRIVES REPRESENT THE STATIONS of a bus, one by one, beside a host that holds these lines.
  abbrev pub IsBusAt : Lines → List (Seated D) → List (Station M) → Type 0
  IsBusAt host xs ss = AllZip (IsSeat (wires_held_by host xs)) xs ss
