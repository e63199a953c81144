-- What a drive heeds of two hosts' lines, on the wires: with the same other drives.
use Rattle.std.proofs.Common.{◌≡◌, ℕ, zero, suc, Bool, true, false, ap, sym, ◌∙◌, subst, refl, ◌⊎◌, inl, inr}
use Rattle.std.specs.Prelude.{◌||◌, if◌then◌else◌}
use Rattle.cbm_iec.specs.Hearing.{is_same, after_clock, after_clocked, after_data, after_lines}
use Rattle.cbm_iec.specs.declared.ear.Ear.TheVariants.{Idle, Await, Starting, Leaving, Returning, Holding, Freeing, Ready, Timed, Pulsing, EoiNoted, Gathering, Accepting}
use Rattle.cbm_iec.specs.declared.ear.Ear.{Ear}
use Rattle.cbm_iec.specs.declared.lines.Lines.{Lines}
use Rattle.cbm_iec.specs.declared.mouth.Mouth.TheVariants.{Turned, Answering, Mute, Led, Offering, EoiOffered, EoiPulsed, Sending, Waiting, Ending, Over}
use Rattle.cbm_iec.specs.declared.mouth.Mouth.{Mouth}
use Rattle.cbm_iec.specs.declared.pace.Pace.{Pace}
use Rattle.cbm_iec.specs.declared.port.Side.TheVariants.{Hearing, Speaking}
use Rattle.cbm_iec.specs.declared.port.Side.{Side}
use Rattle.cbm_session.proofs.loose.Sides.{Sees, WiresHeard, MouthHeard, Heard}
use Rattle.cbm_session.specs.Among.{some}
use Rattle.cbm_session.specs.Loosely.{HearsAlike, EarHeeds, MouthHeeds, HeedsAlike}

-- the wires, by what other drives hold and by the host
abbrev pub on_wires : ℕ → ℕ → Lines → Lines
on_wires n d h = record { atn_low = h.atn_low; clock_low = some n || h.clock_low; data_low = some d || h.data_low }

pub or_right : (a b : Bool) → (a || b) ≡ false → b ≡ false
or_right true b e = absurd cc
or_right false b e = e

or_left : (a b : Bool) → (a || b) ≡ false → a ≡ false
or_left true b e = e
or_left false b e = refl

pub or_true : (a b : Bool) → b ≡ true → (a || b) ≡ true
or_true true b e = refl
or_true false b e = e

pub clocks_heard : (n : ℕ) (h k : Lines) → h.clock_low ≡ k.clock_low → (some n || h.clock_low) ≡ (some n || k.clock_low)
clocks_heard n h k e = ap (λ (v : Bool). some n || v) e

pub datas_heard : (d : ℕ) (h k : Lines) → h.data_low ≡ k.data_low → (some d || h.data_low) ≡ (some d || k.data_low)
datas_heard d h k e = ap (λ (v : Bool). some d || v) e

wires_heard : (n n2 d d2 : ℕ) (h h2 k k2 : Lines) → HearsAlike h k → HearsAlike h2 k2 → WiresHeard (on_wires n d h) (on_wires n2 d2 h2) (on_wires n d k) (on_wires n2 d2 k2)
wires_heard n n2 d d2 h h2 k k2 a b = record {
  was_clock = clocks_heard n h k a.0;
  now_clock = clocks_heard n2 h2 k2 b.0;
  was_data = λ e. datas_heard d h k (a.1 (or_right (some n) h.clock_low e));
  now_data = λ e. datas_heard d2 h2 k2 (b.1 (or_right (some n2) h2.clock_low e));
}

turn_heard : (n n2 d d2 : ℕ) (h h2 k k2 : Lines) → (h.clock_low ≡ k.clock_low) × (h.data_low ≡ k.data_low) → (h2.clock_low ≡ k2.clock_low) × (h2.data_low ≡ k2.data_low)
    → ((on_wires n d h).clock_low ≡ (on_wires n d k).clock_low) × ((on_wires n2 d2 h2).clock_low ≡ (on_wires n2 d2 k2).clock_low)
turn_heard n n2 d d2 h h2 k k2 a b = (clocks_heard n h k a.0, clocks_heard n2 h2 k2 b.0)

talk_heard : (n n2 d d2 : ℕ) (h h2 k k2 : Lines) → h.data_low ≡ k.data_low → h2.data_low ≡ k2.data_low
    → ((on_wires n d h).data_low ≡ (on_wires n d k).data_low) × ((on_wires n2 d2 h2).data_low ≡ (on_wires n2 d2 k2).data_low)
talk_heard n n2 d d2 h h2 k k2 a b = (datas_heard d h k a, datas_heard d2 h2 k2 b)

mouth_heard : (n n2 d d2 : ℕ) (h h2 k k2 : Lines) (mouth : Mouth) → MouthHeeds h k mouth → MouthHeeds h2 k2 mouth → MouthHeard (on_wires n d h) (on_wires n2 d2 h2) (on_wires n d k) (on_wires n2 d2 k2) mouth
mouth_heard n n2 d d2 h h2 k k2 Turned a b = turn_heard n n2 d d2 h h2 k k2 a b
mouth_heard n n2 d d2 h h2 k k2 (Answering at_) a b = turn_heard n n2 d d2 h h2 k k2 a b
mouth_heard n n2 d d2 h h2 k k2 (Mute at_) a b = tt
mouth_heard n n2 d d2 h h2 k k2 (Ending at_) a b = tt
mouth_heard n n2 d d2 h h2 k k2 Over a b = tt
mouth_heard n n2 d d2 h h2 k k2 (Led at_) a b = talk_heard n n2 d d2 h h2 k k2 a b
mouth_heard n n2 d d2 h h2 k k2 (Offering byte last) a b = talk_heard n n2 d d2 h h2 k k2 a b
mouth_heard n n2 d d2 h h2 k k2 (EoiOffered byte) a b = talk_heard n n2 d d2 h h2 k k2 a b
mouth_heard n n2 d d2 h h2 k k2 (EoiPulsed byte) a b = talk_heard n n2 d d2 h h2 k k2 a b
mouth_heard n n2 d d2 h h2 k k2 (Sending at_ byte last left half) a b = talk_heard n n2 d d2 h h2 k k2 a b
mouth_heard n n2 d d2 h h2 k k2 (Waiting byte last) a b = talk_heard n n2 d d2 h h2 k k2 a b

-- WHAT A DRIVE HEEDS IS ALIKE ON THE WIRES where it is so of the hosts' lines, before a change and after it
pub is_heard : (e : Pace) (n n2 n3 d d2 : ℕ) (h h2 k k2 : Lines) (side : Side) → HeedsAlike e n h k side side → HeedsAlike e n3 h2 k2 side side → Sees side (on_wires n d k).clock_low
    → Heard (on_wires n d h) (on_wires n2 d2 h2) (on_wires n d k) (on_wires n2 d2 k2) side
is_heard e n n2 n3 d d2 h h2 k k2 (Speaking mouth) a b s = mouth_heard n n2 d d2 h h2 k k2 mouth a b
is_heard e n n2 n3 d d2 h h2 k k2 (Hearing Idle) a b s = tt
is_heard e n n2 n3 d d2 h h2 k k2 (Hearing (Leaving at_)) a b s = tt
is_heard e n n2 n3 d d2 h h2 k k2 (Hearing (Starting at_)) a b s = tt
is_heard e n n2 n3 d d2 h h2 k k2 (Hearing Await) a b s = (clocks_heard n h k a, clocks_heard n2 h2 k2 b)
is_heard e n n2 n3 d d2 h h2 k k2 (Hearing (Returning at_)) a b s = wires_heard n n2 d d2 h h2 k k2 a b
is_heard e n n2 n3 d d2 h h2 k k2 (Hearing Holding) a b s = wires_heard n n2 d d2 h h2 k k2 a b
is_heard e n n2 n3 d d2 h h2 k k2 (Hearing (Freeing at_)) a b s = wires_heard n n2 d d2 h h2 k k2 a b
is_heard e n n2 n3 d d2 h h2 k k2 (Hearing Ready) a b s = wires_heard n n2 d d2 h h2 k k2 a b
is_heard e n n2 n3 d d2 h h2 k k2 (Hearing (Timed at_)) a b s = wires_heard n n2 d d2 h h2 k k2 a b
is_heard e n n2 n3 d d2 h h2 k k2 (Hearing (Pulsing at_)) a b s = wires_heard n n2 d d2 h h2 k k2 a b
is_heard e n n2 n3 d d2 h h2 k k2 (Hearing EoiNoted) a b s = wires_heard n n2 d d2 h h2 k k2 a b
is_heard e n n2 n3 d d2 h h2 k k2 (Hearing (Gathering eoi count byte)) a b s = wires_heard n n2 d d2 h h2 k k2 a b
is_heard e n n2 n3 d d2 h h2 k k2 (Hearing (Accepting at_ eoi byte)) a b s = wires_heard n n2 d d2 h h2 k k2 a b

-- ---- before CLOCK's pull after ATN's

pub await_lines : (r m : ℕ) (was now : Lines) → (after_lines r m was now Await ≡ Await) ⊎ (after_lines r m was now Await ≡ Holding)
await_lines r m was now = go (is_same was.data_low now.data_low) (is_same was.clock_low now.clock_low) now.clock_low
  where
    first : Bool → Bool → Ear
    first v low = if v then Await else (if low then Holding else Await)

    go : (u v low : Bool) → ((if u then first v low else after_data r m now.data_low (first v low)) ≡ Await) ⊎ ((if u then first v low else after_data r m now.data_low (first v low)) ≡ Holding)
    go true true low = inl refl
    go false true low = inl refl
    go true false true = inr refl
    go false false true = inr refl
    go true false false = inl refl
    go false false false = inl refl

pub holding_lines : (r m : ℕ) (was now : Lines) → was.clock_low ≡ true → now.clock_low ≡ true → after_lines r m was now Holding ≡ Holding
holding_lines r m was now a b =
    ap (λ (v : Bool). if is_same was.data_low now.data_low then (if is_same v now.clock_low then Holding else after_clock r m now.clock_low now.data_low Holding) else after_data r m now.data_low (if is_same v now.clock_low then Holding else after_clock r m now.clock_low now.data_low Holding)) a
    ∙ ap (λ (v : Bool). if is_same was.data_low now.data_low then (if is_same true v then Holding else after_clock r m v now.data_low Holding) else after_data r m now.data_low (if is_same true v then Holding else after_clock r m v now.data_low Holding)) b
    ∙ go (is_same was.data_low now.data_low)
  where
    go : (u : Bool) → (if u then Holding else after_data r m now.data_low Holding) ≡ Holding
    go true = refl
    go false = refl
