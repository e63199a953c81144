-- The same of a drive that hears, out of attention's pull; and of a drive's side, whatever it does.
use Rattle.cbm_iec.specs.declared.pace.Pace.{Pace}
use Rattle.std.proofs.Common.{◌≡◌, ℕ, ◌+◌, Bool, true, false, not, [], Option, Some, ap, refl}
use Rattle.std.specs.Prelude.{if◌then◌else◌, ◌==◌, nat_lt}
use Rattle.cbm_iec.specs.Hearing.{is_same, ear_due, after_hold, after_ready, after_clock, after_data, after_clocked, after_lines, with_bit_read, ear_row}
use Rattle.cbm_iec.specs.Ports.{side_due, lined_side, lined_act, side_held, side_act, side_after, changes_between}
use Rattle.cbm_iec.specs.declared.machine.Act.{Act}
use Rattle.cbm_iec.specs.declared.ear.Ear.TheVariants.{Idle, Await, Starting, Leaving, Returning, Holding, Freeing, Ready, Timed, Pulsing, EoiNoted, Gathering, Accepting}
use Rattle.cbm_iec.specs.declared.ear.Ear.{Ear}
use Rattle.cbm_iec.specs.declared.lines.Held.{Held}
use Rattle.cbm_iec.specs.declared.lines.Lines.{Lines}
use Rattle.cbm_iec.specs.declared.mouth.Mouth.{Mouth}
use Rattle.cbm_iec.specs.declared.port.Side.TheVariants.{Hearing, Speaking}
use Rattle.cbm_iec.specs.declared.port.Side.{Side}
use Rattle.cbm_session.proofs.headline.TalkStates.{Holds, Asks, NoneSaid, lines_hold, react_holds, same_held, same_after, same_act, lines_ask, react_asks, said_asks, acted_asks}

-- whether it holds DATA
abbrev pub EarHolds : Ear → Held → Type 0
EarHolds Await own = own.data_low ≡ true
EarHolds Idle own = Unit {0}
EarHolds (Starting at) own = ⊥
EarHolds (Leaving at) own = own.data_low ≡ true
EarHolds (Returning at) own = ⊥
EarHolds Holding own = own.data_low ≡ true
EarHolds (Freeing at) own = own.data_low ≡ true
EarHolds Ready own = own.data_low ≡ false
EarHolds (Timed at) own = own.data_low ≡ false
EarHolds (Pulsing at) own = own.data_low ≡ true
EarHolds EoiNoted own = own.data_low ≡ false
EarHolds (Gathering eoi count byte) own = own.data_low ≡ false
EarHolds (Accepting at eoi byte) own = own.data_low ≡ false

hold_holds : (r m : ℕ) (low : Bool) (own : Held) → own.data_low ≡ true → EarHolds (after_hold r m low) own
hold_holds r m true own h = h
hold_holds r m false own h = h

ready_holds : (r m : ℕ) (low : Bool) (own : Held) → own.data_low ≡ false → EarHolds (after_ready r m low) own
ready_holds r m true own h = h
ready_holds r m false own h = h

clock_holds : (r m : ℕ) (low data_low : Bool) (ear : Ear) (own : Held) → EarHolds ear own → EarHolds (after_clock r m low data_low ear) own
clock_holds r m true data_low Await own h = h
clock_holds r m false data_low Await own h = h
clock_holds r m low data_low Idle own h = tt
clock_holds r m low data_low (Starting at) own h = h
clock_holds r m low data_low (Leaving at) own h = h
clock_holds r m low data_low (Returning at) own h = h
clock_holds r m low data_low Holding own h = hold_holds r m low own h
clock_holds r m low data_low (Freeing at) own h = hold_holds r m low own h
clock_holds r m true data_low Ready own h = h
clock_holds r m false data_low Ready own h = h
clock_holds r m true data_low (Timed at) own h = h
clock_holds r m false data_low (Timed at) own h = h
clock_holds r m low data_low (Pulsing at) own h = h
clock_holds r m true data_low EoiNoted own h = h
clock_holds r m false data_low EoiNoted own h = h
clock_holds r m true data_low (Gathering eoi count byte) own h = go (count == 8)
  where
    go : (v : Bool) → EarHolds (if v then Accepting (m + r) eoi byte else Gathering eoi count byte) own
    go true = h
    go false = h
clock_holds r m false data_low (Gathering eoi count byte) own h = go (nat_lt count 8)
  where
    go : (v : Bool) → EarHolds (if v then Gathering eoi (count + 1) (with_bit_read byte data_low) else Gathering eoi count byte) own
    go true = h
    go false = h
clock_holds r m low data_low (Accepting at eoi byte) own h = h

data_holds : (r m : ℕ) (low : Bool) (ear : Ear) (own : Held) → EarHolds ear own → EarHolds (after_data r m low ear) own
data_holds r m low Await own h = h
data_holds r m low Idle own h = tt
data_holds r m low (Starting at) own h = h
data_holds r m low (Leaving at) own h = h
data_holds r m low (Returning at) own h = h
data_holds r m low Holding own h = h
data_holds r m low (Freeing at) own h = h
data_holds r m low Ready own h = ready_holds r m low own h
data_holds r m low (Timed at) own h = h
data_holds r m low (Pulsing at) own h = h
data_holds r m low EoiNoted own h = h
data_holds r m low (Gathering eoi count byte) own h = h
data_holds r m low (Accepting at eoi byte) own h = h

ear_lines : (r m : ℕ) (was now : Lines) (ear : Ear) (own : Held) → EarHolds ear own → EarHolds (after_lines r m was now ear) own
ear_lines r m was now ear own h = second (is_same was.data_low now.data_low) (after_clocked r m was now ear) (first (is_same was.clock_low now.clock_low))
  where
    first : (v : Bool) → EarHolds (if v then ear else after_clock r m now.clock_low now.data_low ear) own
    first true = h
    first false = clock_holds r m now.clock_low now.data_low ear own h

    second : (v : Bool) (x : Ear) → EarHolds x own → EarHolds (if v then x else after_data r m now.data_low x) own
    second true x k = k
    second false x k = data_holds r m now.data_low x own k

data_shows : (t : ℕ) (c c2 : Bool) (own : Held) (d : Bool) → own.data_low ≡ d → changes_between t own (record { clock_low = c2; data_low = not d }) ≡ [] → ⊥
data_shows t c c2 own d h k = go own.clock_low c2 own.data_low d h k
  where
    go : (a b e f : Bool) → e ≡ f → changes_between t (record { clock_low = a; data_low = e }) (record { clock_low = b; data_low = not f }) ≡ [] → ⊥
    go true true true true h k = absurd cc
    go true false true true h k = absurd cc
    go false true true true h k = absurd cc
    go false false true true h k = absurd cc
    go true true false false h k = absurd cc
    go true false false false h k = absurd cc
    go false true false false h k = absurd cc
    go false false false false h k = absurd cc
    go a b true false h k = absurd cc
    go a b false true h k = absurd cc

ear_react : (e : Pace) → (r t : ℕ) (others : Lines) (ear : Ear) (own : Held) → ear_due ear ≡ Some t → EarHolds ear own → EarHolds ((ear_row e ear).next r t others) ((ear_row e ear).held own) × (changes_between t own ((ear_row e ear).held own) ≡ [] → ⊥)
ear_react v r t others Await own e h = absurd cc
ear_react v r t others Idle own e h = absurd cc
ear_react v r t others (Starting at) own e h = elim h [ ]
ear_react v r t others (Leaving at) own e h = (tt, λ k. data_shows t true false own true h k)
ear_react v r t others (Returning at) own e h = elim h [ ]
ear_react v r t others Holding own e h = absurd cc
ear_react v r t others (Freeing at) own e h = (ready_holds r t others.data_low (record { clock_low = own.clock_low; data_low = false }) refl, λ k. data_shows t true own.clock_low own true h k)
ear_react v r t others Ready own e h = absurd cc
ear_react v r t others (Timed at) own e h = (refl, λ k. data_shows t true own.clock_low own false h k)
ear_react v r t others (Pulsing at) own e h = (noted others.clock_low, λ k. data_shows t true own.clock_low own true h k)
  where
    noted : (v : Bool) → EarHolds (if v then Gathering true 0 0 else EoiNoted) (record { clock_low = own.clock_low; data_low = false })
    noted true = refl
    noted false = refl
ear_react v r t others EoiNoted own e h = absurd cc
ear_react v r t others (Gathering eoi count byte) own e h = absurd cc
ear_react v r t others (Accepting at eoi byte) own e h = (hold_holds r t others.clock_low (record { clock_low = own.clock_low; data_low = true }) refl, λ k. data_shows t true own.clock_low own false h k)

-- a drive's side
abbrev pub SideHolds : Side → Held → Type 0
SideHolds (Hearing ear) own = EarHolds ear own
SideHolds (Speaking mouth) own = Holds mouth own

abbrev pub SideAsks : Side → Type 0 → Type 0
SideAsks (Hearing ear) A = Unit {0}
SideAsks (Speaking mouth) A = Asks mouth A

pub side_lines : (r m : ℕ) (was now : Lines) (side : Side) (own : Held) → SideHolds side own → SideHolds (lined_side r m was now side) own
side_lines r m was now (Hearing ear) own h = ear_lines r m was now ear own h
side_lines r m was now (Speaking mouth) own h = lines_hold r m was now mouth own h

pub side_react : (e : Pace) → (r t : ℕ) (others : Lines) (says : Option (ℕ × Bool)) (side : Side) (own : Held) → side_due side ≡ Some t → SideHolds side own
    → SideHolds (side_after e r t others says side) (side_held e says own side) × (changes_between t own (side_held e says own side) ≡ [] → ⊥)
side_react v r t others says (Hearing ear) own e h = ear_react _ r t others ear own e h
side_react v r t others says (Speaking mouth) own e h = react_holds _ r t others says mouth own e h

pub side_same_held : (e : Pace) → (own : Held) (says says2 : Option (ℕ × Bool)) (side : Side) → SideAsks side (says ≡ says2) → side_held e says own side ≡ side_held e says2 own side
side_same_held e own says says2 (Hearing ear) a = refl
side_same_held e own says says2 (Speaking mouth) a = same_held _ own says says2 mouth a

pub side_same_after : (e : Pace) → (r t : ℕ) (others : Lines) (says says2 : Option (ℕ × Bool)) (side : Side) → SideAsks side (says ≡ says2) → side_after e r t others says side ≡ side_after e r t others says2 side
side_same_after e r t others says says2 (Hearing ear) a = refl
side_same_after e r t others says says2 (Speaking mouth) a = ap (λ (x : Mouth). Speaking x) (same_after _ r t others says says2 mouth a)

pub side_same_act : (e : Pace) → (others : Lines) (says says2 : Option (ℕ × Bool)) (side : Side) → SideAsks side (says ≡ says2) → side_act e says others side ≡ side_act e says2 others side
side_same_act e others says says2 (Hearing ear) a = same_ear ear
  where
    same_ear : (ear : Ear) → side_act e says others (Hearing ear) ≡ side_act e says2 others (Hearing ear)
    same_ear Await = refl
    same_ear Idle = refl
    same_ear (Starting at) = refl
    same_ear (Leaving at) = refl
    same_ear (Returning at) = refl
    same_ear Holding = refl
    same_ear (Freeing at) = refl
    same_ear Ready = refl
    same_ear (Timed at) = refl
    same_ear (Pulsing at) = refl
    same_ear EoiNoted = refl
    same_ear (Gathering eoi count byte) = refl
    same_ear (Accepting at eoi byte) = refl
side_same_act e others says says2 (Speaking mouth) a = same_act _ others says says2 mouth a

pub side_lines_ask : (A : Type 0) (r m : ℕ) (was now : Lines) (side : Side) → SideAsks side A → NoneSaid (lined_act was now side) → SideAsks (lined_side r m was now side) A
side_lines_ask A r m was now (Hearing ear) a n = tt
side_lines_ask A r m was now (Speaking mouth) a n = lines_ask A r m was now mouth a n

pub side_said_asks : (A : Type 0) (r m : ℕ) (was now : Lines) (side : Side) (act : Act) → lined_act was now side ≡ Some act → NoneSaid (Some act) → SideAsks (lined_side r m was now side) A
side_said_asks A r m was now (Hearing ear) act e n = tt
side_said_asks A r m was now (Speaking mouth) act e n = said_asks A r m was now mouth act e n

pub side_react_asks : (e : Pace) → (A : Type 0) (r t : ℕ) (others : Lines) (says : Option (ℕ × Bool)) (side : Side) → SideAsks side A → NoneSaid (side_act e says others side) → SideAsks (side_after e r t others says side) A
side_react_asks e A r t others says (Hearing ear) a n = tt
side_react_asks e A r t others says (Speaking mouth) a n = react_asks _ A r t others says mouth a n

pub side_acted_asks : (e : Pace) → (A : Type 0) (r t : ℕ) (others : Lines) (says : Option (ℕ × Bool)) (side : Side) (act : Act) → side_act e says others side ≡ Some act → NoneSaid (Some act) → SideAsks (side_after e r t others says side) A
side_acted_asks v A r t others says (Hearing ear) act e n = tt
side_acted_asks v A r t others says (Speaking mouth) act e n = acted_asks _ A r t others says mouth act e n
