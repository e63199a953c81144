-- A drive that talks, out of attention: which line it holds in each state, so each of its reactions shows on the wires; and when it asks for the byte to say.
use Rattle.cbm_iec.specs.declared.pace.Pace.TheVariants.{Profile, Kernal}
use Rattle.cbm_iec.specs.declared.pace.Pace.{Pace}
use Rattle.std.proofs.Common.{◌≡◌, ℕ, ◌+◌, ◌%◌, ◌≤◌, ◌<◌, inl, inr, Bool, true, false, not, [], Option, Some, None, ap, sym, ◌∙◌, subst, arith, refl, eq-eqb}
use Rattle.std.proofs.lemmas.Bool.Decides.{leb_tells, eqb_tells}
use Rattle.std.proofs.lemmas.Bool.{le-leb, lt-leb, ne_eqb}
use Rattle.std.specs.Prelude.{if◌then◌else◌, ◌==◌, ◌||◌, ◌&&◌, nat_le}
use Rattle.cbm_iec.specs.Hearing.{is_same}
use Rattle.cbm_iec.specs.Ports.{changes_between}
use Rattle.cbm_iec.specs.Speaking.{mouth_due, after_turn, after_free, after_offer, after_taken, talk_clock, talk_data, talk_clocked, talk_lines, after_wait, taken_act, mouth_row, half_row, end_frame_row, set_bit_row, show_bit_row}
use Rattle.cbm_iec.specs.Table.{TableRow}
use Rattle.cbm_iec.specs.declared.machine.Act.TheVariants.{Pulled, Attention, Released, Heard, Said, Silent}
use Rattle.cbm_iec.specs.declared.machine.Act.{Act}
use Rattle.cbm_iec.specs.declared.lines.Held.{Held}
use Rattle.cbm_iec.specs.declared.lines.Lines.{Lines}
use Rattle.cbm_iec.specs.declared.mouth.Mouth.TheVariants.{Turned, Answering, Mute, Led, Offering, EoiOffered, EoiPulsed, Sending, Waiting, Ending, Over}
use Rattle.cbm_iec.specs.declared.mouth.Mouth.{Mouth}
use Rattle.cbm_session.proofs.Truths.{or_there}

-- whether CLOCK is held before this half of a bit
abbrev pub clock_before : ℕ → Bool
clock_before half = if nat_le 16 half then false else (if (half % 2) == 0 then false else true)

-- the lines that it holds
abbrev pub Holds : Mouth → Held → Type 0
Holds Turned own = (own.data_low ≡ true) × (own.clock_low ≡ false)
Holds (Answering at) own = (own.data_low ≡ true) × (own.clock_low ≡ false)
Holds (Led at) own = own.clock_low ≡ true
Holds (Offering byte last) own = own.clock_low ≡ false
Holds (EoiOffered byte) own = own.clock_low ≡ false
Holds (EoiPulsed byte) own = own.clock_low ≡ false
Holds (Sending at byte last left half) own = own.clock_low ≡ clock_before half
Holds (Waiting byte last) own = own.clock_low ≡ true
Holds (Mute at) own = own.clock_low ≡ true
Holds (Ending at) own = own.clock_low ≡ true
Holds Over own = Unit {0}

-- it may still ask for the byte to say
abbrev pub Asks : Mouth → Type 0 → Type 0
Asks Turned A = A
Asks (Answering at) A = A
Asks (Led at) A = A
Asks (Offering byte last) A = Unit {0}
Asks (EoiOffered byte) A = Unit {0}
Asks (EoiPulsed byte) A = Unit {0}
Asks (Sending at byte last left half) A = Unit {0}
Asks (Waiting byte last) A = Unit {0}
Asks (Mute at) A = Unit {0}
Asks (Ending at) A = Unit {0}
Asks Over A = Unit {0}

turn_holds : (r m : ℕ) (low : Bool) (own : Held) → (own.data_low ≡ true) × (own.clock_low ≡ false) → Holds (after_turn r m low) own
turn_holds r m true own h = h
turn_holds r m false own h = h

free_holds : (r m byte : ℕ) (last : Bool) (own : Held) → own.clock_low ≡ false → Holds (after_free r m byte last) own
free_holds r m byte true own h = h
free_holds r m byte false own h = h

offer_holds : (r m : ℕ) (low : Bool) (byte : ℕ) (last : Bool) (own : Held) → own.clock_low ≡ false → Holds (after_offer r m low byte last) own
offer_holds r m true byte last own h = h
offer_holds r m false byte last own h = free_holds r m byte last own h

taken_holds : (r m : ℕ) (last : Bool) (own : Held) → own.clock_low ≡ true → Holds (after_taken r m last) own
taken_holds r m true own h = h
taken_holds r m false own h = h

clock_holds : (r m : ℕ) (low : Bool) (mouth : Mouth) (own : Held) → Holds mouth own → Holds (talk_clock r m low mouth) own
clock_holds r m low Turned own h = turn_holds r m low own h
clock_holds r m low (Answering at) own h = turn_holds r m low own h
clock_holds r m low (Led at) own h = h
clock_holds r m low (Offering byte last) own h = h
clock_holds r m low (EoiOffered byte) own h = h
clock_holds r m low (EoiPulsed byte) own h = h
clock_holds r m low (Sending at byte last left half) own h = h
clock_holds r m low (Waiting byte last) own h = h
clock_holds r m low (Mute at) own h = h
clock_holds r m low (Ending at) own h = h
clock_holds r m low Over own h = tt

data_holds : (r m : ℕ) (low : Bool) (mouth : Mouth) (own : Held) → Holds mouth own → Holds (talk_data r m low mouth) own
data_holds r m low Turned own h = h
data_holds r m low (Answering at) own h = h
data_holds r m low (Led at) own h = h
data_holds r m true (Offering byte last) own h = h
data_holds r m false (Offering byte last) own h = free_holds r m byte last own h
data_holds r m true (EoiOffered byte) own h = h
data_holds r m false (EoiOffered byte) own h = h
data_holds r m true (EoiPulsed byte) own h = h
data_holds r m false (EoiPulsed byte) own h = h
data_holds r m low (Sending at byte last left half) own h = h
data_holds r m true (Waiting byte last) own h = taken_holds r m last own h
data_holds r m false (Waiting byte last) own h = h
data_holds r m low (Mute at) own h = h
data_holds r m low (Ending at) own h = h
data_holds r m low Over own h = tt

-- told of a change of CLOCK or DATA it holds what it should
pub lines_hold : (r m : ℕ) (was now : Lines) (mouth : Mouth) (own : Held) → Holds mouth own → Holds (talk_lines r m was now mouth) own
lines_hold r m was now mouth own h = second (is_same was.data_low now.data_low) (talk_clocked r m was now mouth) (first (is_same was.clock_low now.clock_low))
  where
    first : (v : Bool) → Holds (if v then mouth else talk_clock r m now.clock_low mouth) own
    first true = h
    first false = clock_holds r m now.clock_low mouth own h

    second : (v : Bool) (x : Mouth) → Holds x own → Holds (if v then x else talk_data r m now.data_low x) own
    second true x k = k
    second false x k = data_holds r m now.data_low x own k

even_next : (half : ℕ) → half < 16 → half % 2 ≡ 0 → clock_before (half + 1) ≡ true
even_next half l e = rw (lt-leb 16 (half + 1) (omega (arith, l, e)), nat_ne half e)
  where
    nat_ne : (half : ℕ) → half % 2 ≡ 0 → (((half + 1) % 2) == 0) ≡ false
    nat_ne half e = ne_eqb ((half + 1) % 2) 0 (λ k. absurd (omega (arith, e, k)))

odd_next : (half : ℕ) → half < 16 → (half % 2 ≡ 0 → ⊥) → clock_before (half + 1) ≡ false
odd_next half l n = go (nat_le 16 (half + 1))
  where
    odd : half % 2 ≡ 1
    odd = elim (leb_tells (half % 2) 0) [
      | inl x ↦ absurd (n (omega (arith, x.1)))
      | inr x ↦ (let y = x.1 in omega (arith, y))
    ]

    go : (v : Bool) → (if v then false else (if ((half + 1) % 2) == 0 then false else true)) ≡ false
    go true = refl
    go false = let k = odd in rw (eq-eqb ((half + 1) % 2) 0 (omega (arith, k)))

half_true : (half : ℕ) → half < 16 → half % 2 ≡ 0 → clock_before half ≡ false
half_true half l e = rw (lt-leb 16 half (omega (arith, l)), eq-eqb (half % 2) 0 e)

half_false : (half : ℕ) → half < 16 → (half % 2 ≡ 0 → ⊥) → clock_before half ≡ true
half_false half l n = rw (lt-leb 16 half (omega (arith, l)), ne_eqb (half % 2) 0 n)

half_over : (half : ℕ) → 16 ≤ half → clock_before half ≡ false
half_over half l = rw (le-leb 16 half l)

nothing_clock : (t : ℕ) (c : Bool) (e e2 : Bool) (own : Held) → own.clock_low ≡ c → changes_between t own (record { clock_low = not c; data_low = e2 }) ≡ [] → ⊥
nothing_clock t c e e2 own h k = go own.clock_low own.data_low h (k)
  where
    go : (v d : Bool) → v ≡ c → changes_between t (record { clock_low = v; data_low = d }) (record { clock_low = not c; data_low = e2 }) ≡ [] → ⊥
    go true d h k = (let x : c ≡ true = sym h in by c x k)
      where
        by : (u : Bool) → u ≡ true → changes_between t (record { clock_low = true; data_low = d }) (record { clock_low = not u; data_low = e2 }) ≡ [] → ⊥
        by true x k = absurd cc
        by false x k = absurd cc
    go false d h k = (let x : c ≡ false = sym h in by c x k)
      where
        by : (u : Bool) → u ≡ false → changes_between t (record { clock_low = false; data_low = d }) (record { clock_low = not u; data_low = e2 }) ≡ [] → ⊥
        by true x k = absurd cc
        by false x k = absurd cc

sending_holds : (e : Pace) → (r t : ℕ) (others : Lines) (peek : Option (ℕ × Bool)) (at byte : ℕ) (last : Bool) (left half : ℕ) (own : Held) → own.clock_low ≡ clock_before half
    → Holds ((half_row e byte last left half).next r t others) ((half_row e byte last left half).held own) × (changes_between t own ((half_row e byte last left half).held own) ≡ [] → ⊥)
sending_holds e r t others peek at byte last left half own h = elim (leb_tells 16 half) [
  | inl x ↦ over x.0 (h ∙ half_over half x.1)
  | inr x ↦ elim (eqb_tells (half % 2) 0) [
    | inl y ↦ (let l = x.1 in even x.0 y.0 (h ∙ half_true half (omega (arith, l)) y.1) (even_next half (omega (arith, l)) y.1))
    | inr y ↦ (let l = x.1 in odd x.0 y.0 (h ∙ half_false half (omega (arith, l)) y.1) (odd_next half (omega (arith, l)) y.1))
  ]
]
  where
    row : Bool → Bool → TableRow Mouth
    row v u = if v then end_frame_row byte last else (if u then set_bit_row e byte last left half else show_bit_row e byte last left half)

    Goal : Bool → Bool → Type 0
    Goal v u = Holds ((row v u).next r t others) ((row v u).held own) × (changes_between t own ((row v u).held own) ≡ [] → ⊥)

    wait : (v : Bool) → Holds (after_wait r t v byte last) (record { clock_low = true; data_low = false })
    wait true = taken_holds r t last (record { clock_low = true; data_low = false }) refl
    wait false = refl

    over : nat_le 16 half ≡ true → own.clock_low ≡ false → Goal (nat_le 16 half) ((half % 2) == 0)
    over e o = subst (λ (v : Bool). Goal v ((half % 2) == 0)) (sym e) (wait others.data_low, λ k. nothing_clock t false own.data_low false own o k)

    even : nat_le 16 half ≡ false → ((half % 2) == 0) ≡ true → own.clock_low ≡ false → clock_before (half + 1) ≡ true → Goal (nat_le 16 half) ((half % 2) == 0)
    even e f o n = subst (λ (v : Bool). Goal v ((half % 2) == 0)) (sym e) (subst (λ (u : Bool). Goal false u) (sym f) (sym n, λ k. nothing_clock t false own.data_low ((left % 2) == 0) own o k))

    odd : nat_le 16 half ≡ false → ((half % 2) == 0) ≡ false → own.clock_low ≡ true → clock_before (half + 1) ≡ false → Goal (nat_le 16 half) ((half % 2) == 0)
    odd e f o n = subst (λ (v : Bool). Goal v ((half % 2) == 0)) (sym e) (subst (λ (u : Bool). Goal false u) (sym f) (sym n, λ k. nothing_clock t true own.data_low own.data_low own o k))

-- After its reaction it holds what it should, and the reaction shows.
pub react_holds : (e : Pace) → (r t : ℕ) (others : Lines) (peek : Option (ℕ × Bool)) (mouth : Mouth) (own : Held) → mouth_due mouth ≡ Some t → Holds mouth own
    → Holds ((mouth_row e peek mouth).next r t others) ((mouth_row e peek mouth).held own) × (changes_between t own ((mouth_row e peek mouth).held own) ≡ [] → ⊥)
react_holds v r t others peek Turned own e h = absurd cc
react_holds Profile r t others None (Answering at) own e h = (tt, data_shows own.clock_low (own.clock_low || false) own.data_low h.0)
  where
    data_shows : (c c2 d : Bool) → d ≡ true → changes_between t (record { clock_low = c; data_low = d }) (record { clock_low = c2; data_low = false }) ≡ [] → ⊥
    data_shows true true true h k = absurd cc
    data_shows true false true h k = absurd cc
    data_shows false true true h k = absurd cc
    data_shows false false true h k = absurd cc
    data_shows c c2 false h k = absurd cc
react_holds Kernal r t others None (Answering at) own e h = (refl, λ k. nothing_clock t false own.data_low own.data_low own h.1 k)
react_holds Profile r t others (Some x) (Answering at) own e h = (or_there own.clock_low, data_shows own.clock_low (own.clock_low || true) own.data_low h.0)
  where
    data_shows : (c c2 d : Bool) → d ≡ true → changes_between t (record { clock_low = c; data_low = d }) (record { clock_low = c2; data_low = false }) ≡ [] → ⊥
    data_shows true true true h k = absurd cc
    data_shows true false true h k = absurd cc
    data_shows false true true h k = absurd cc
    data_shows false false true h k = absurd cc
    data_shows c c2 false h k = absurd cc
react_holds Kernal r t others (Some x) (Answering at) own e h = (refl, data_shows own.clock_low true own.data_low h.0)
  where
    data_shows : (c c2 d : Bool) → d ≡ true → changes_between t (record { clock_low = c; data_low = d }) (record { clock_low = c2; data_low = false }) ≡ [] → ⊥
    data_shows true true true h k = absurd cc
    data_shows true false true h k = absurd cc
    data_shows false true true h k = absurd cc
    data_shows false false true h k = absurd cc
    data_shows c c2 false h k = absurd cc
react_holds v r t others None (Led at) own e h = (tt, λ k. nothing_clock t true own.data_low own.data_low own h k)
react_holds v r t others (Some x) (Led at) own e h = (offer_holds r t others.data_low x.0 x.1 (record { clock_low = false; data_low = own.data_low }) refl, λ k. nothing_clock t true own.data_low own.data_low own h k)
react_holds v r t others peek (Offering byte last) own e h = absurd cc
react_holds v r t others peek (EoiOffered byte) own e h = absurd cc
react_holds v r t others peek (EoiPulsed byte) own e h = absurd cc
react_holds v r t others peek (Sending at byte last left half) own e h = sending_holds _ r t others peek at byte last left half own h
react_holds v r t others peek (Waiting byte last) own e h = absurd cc
react_holds v r t others peek (Mute at) own e h = (tt, λ k. nothing_clock t true own.data_low false own h k)
react_holds v r t others peek (Ending at) own e h = (tt, λ k. nothing_clock t true own.data_low own.data_low own h k)
react_holds v r t others peek Over own e h = absurd cc

-- what a reaction does depends on the byte to say only where it asks
pub same_held : (e : Pace) → (own : Held) (peek peek2 : Option (ℕ × Bool)) (mouth : Mouth) → Asks mouth (peek ≡ peek2) → ((mouth_row e peek mouth).held own) ≡ ((mouth_row e peek2 mouth).held own)
same_held e own peek peek2 Turned a = refl
same_held e own peek peek2 (Answering at) a = ap (λ (x : Option (ℕ × Bool)). ((mouth_row e x (Answering at)).held own)) a
same_held e own peek peek2 (Led at) a = refl
same_held e own peek peek2 (Offering byte last) a = refl
same_held e own peek peek2 (EoiOffered byte) a = refl
same_held e own peek peek2 (EoiPulsed byte) a = refl
same_held e own peek peek2 (Sending at byte last left half) a = refl
same_held e own peek peek2 (Waiting byte last) a = refl
same_held e own peek peek2 (Mute at) a = refl
same_held e own peek peek2 (Ending at) a = refl
same_held e own peek peek2 Over a = refl

pub same_after : (e : Pace) → (r t : ℕ) (others : Lines) (peek peek2 : Option (ℕ × Bool)) (mouth : Mouth) → Asks mouth (peek ≡ peek2) → ((mouth_row e peek mouth).next r t others) ≡ ((mouth_row e peek2 mouth).next r t others)
same_after e r t others peek peek2 Turned a = refl
same_after e r t others peek peek2 (Answering at) a = ap (λ (x : Option (ℕ × Bool)). ((mouth_row e x (Answering at)).next r t others)) a
same_after e r t others peek peek2 (Led at) a = ap (λ (x : Option (ℕ × Bool)). ((mouth_row e x (Led at)).next r t others)) a
same_after e r t others peek peek2 (Offering byte last) a = refl
same_after e r t others peek peek2 (EoiOffered byte) a = refl
same_after e r t others peek peek2 (EoiPulsed byte) a = refl
same_after e r t others peek peek2 (Sending at byte last left half) a = refl
same_after e r t others peek peek2 (Waiting byte last) a = refl
same_after e r t others peek peek2 (Mute at) a = refl
same_after e r t others peek peek2 (Ending at) a = refl
same_after e r t others peek peek2 Over a = refl

pub same_act : (e : Pace) → (others : Lines) (peek peek2 : Option (ℕ × Bool)) (mouth : Mouth) → Asks mouth (peek ≡ peek2) → ((mouth_row e peek mouth).act others) ≡ ((mouth_row e peek2 mouth).act others)
same_act e others peek peek2 Turned a = refl
same_act e others peek peek2 (Answering at) a = ap (λ (x : Option (ℕ × Bool)). ((mouth_row e x (Answering at)).act others)) a
same_act e others peek peek2 (Led at) a = refl
same_act e others peek peek2 (Offering byte last) a = refl
same_act e others peek peek2 (EoiOffered byte) a = refl
same_act e others peek peek2 (EoiPulsed byte) a = refl
same_act e others peek peek2 (Sending at byte last left half) a = refl
same_act e others peek peek2 (Waiting byte last) a = refl
same_act e others peek peek2 (Mute at) a = refl
same_act e others peek peek2 (Ending at) a = refl
same_act e others peek peek2 Over a = refl

-- no byte that isn't the last was said
abbrev pub NoneSaid : Option Act → Type 0
NoneSaid None = Unit {0}
NoneSaid (Some (Said n false)) = ⊥
NoneSaid (Some (Said n true)) = Unit {0}
NoneSaid (Some Silent) = Unit {0}
NoneSaid (Some Pulled) = Unit {0}
NoneSaid (Some Released) = Unit {0}
NoneSaid (Some (Attention n)) = Unit {0}
NoneSaid (Some (Heard n eoi)) = Unit {0}

-- told of a change of CLOCK or DATA, and after its reaction, it asks for the same byte, unless one that isn't the last was said
turn_asks : (A : Type 0) (r m : ℕ) (low : Bool) → A → Asks (after_turn r m low) A
turn_asks A r m true a = a
turn_asks A r m false a = a

free_asks : (A : Type 0) (r m byte : ℕ) (last : Bool) → Asks (after_free r m byte last) A
free_asks A r m byte true = tt
free_asks A r m byte false = tt

offer_asks : (A : Type 0) (r m : ℕ) (low : Bool) (byte : ℕ) (last : Bool) → Asks (after_offer r m low byte last) A
offer_asks A r m true byte last = tt
offer_asks A r m false byte last = free_asks A r m byte last

clock_asks : (A : Type 0) (r m : ℕ) (low : Bool) (mouth : Mouth) → Asks mouth A → Asks (talk_clock r m low mouth) A
clock_asks A r m low Turned a = turn_asks A r m low a
clock_asks A r m low (Answering at) a = turn_asks A r m low a
clock_asks A r m low (Led at) a = a
clock_asks A r m low (Offering byte last) a = tt
clock_asks A r m low (EoiOffered byte) a = tt
clock_asks A r m low (EoiPulsed byte) a = tt
clock_asks A r m low (Sending at byte last left half) a = tt
clock_asks A r m low (Waiting byte last) a = tt
clock_asks A r m low (Mute at) a = tt
clock_asks A r m low (Ending at) a = tt
clock_asks A r m low Over a = tt

waits_stay : (r m byte : ℕ) (last low v : Bool) → (if v then Waiting byte last else talk_clock r m low (Waiting byte last)) ≡ Waiting byte last
waits_stay r m byte last low true = refl
waits_stay r m byte last low false = refl

pub lines_ask : (A : Type 0) (r m : ℕ) (was now : Lines) (mouth : Mouth) → Asks mouth A → NoneSaid (taken_act was now mouth) → Asks (talk_lines r m was now mouth) A
lines_ask A r m was now Turned a n = other (is_same was.data_low now.data_low) (is_same was.clock_low now.clock_low) now.clock_low
  where
    other : (v u low : Bool) → Asks (if v then (if u then Turned else after_turn r m low) else talk_data r m now.data_low (if u then Turned else after_turn r m low)) A
    other true true low = a
    other true false true = a
    other true false false = a
    other false true low = a
    other false false true = a
    other false false false = a
lines_ask A r m was now (Answering at) a n = other (is_same was.data_low now.data_low) (is_same was.clock_low now.clock_low) now.clock_low
  where
    other : (v u low : Bool) → Asks (if v then (if u then Answering at else after_turn r m low) else talk_data r m now.data_low (if u then Answering at else after_turn r m low)) A
    other true true low = a
    other true false true = a
    other true false false = a
    other false true low = a
    other false false true = a
    other false false false = a
lines_ask A r m was now (Led at) a n = other (is_same was.data_low now.data_low) (is_same was.clock_low now.clock_low)
  where
    other : (v u : Bool) → Asks (if v then (if u then Led at else Led at) else talk_data r m now.data_low (if u then Led at else Led at)) A
    other true true = a
    other true false = a
    other false true = a
    other false false = a
lines_ask A r m was now (Offering byte last) a n = other (is_same was.data_low now.data_low) (is_same was.clock_low now.clock_low) now.data_low
  where
    other : (v u low : Bool) → Asks (if v then (if u then Offering byte last else Offering byte last) else talk_data r m low (if u then Offering byte last else Offering byte last)) A
    other true true low = tt
    other true false low = tt
    other false true true = tt
    other false true false = free_asks A r m byte last
    other false false true = tt
    other false false false = free_asks A r m byte last
lines_ask A r m was now (EoiOffered byte) a n = other (is_same was.data_low now.data_low) (is_same was.clock_low now.clock_low) now.data_low
  where
    other : (v u low : Bool) → Asks (if v then (if u then EoiOffered byte else EoiOffered byte) else talk_data r m low (if u then EoiOffered byte else EoiOffered byte)) A
    other true true low = tt
    other true false low = tt
    other false true true = tt
    other false true false = tt
    other false false true = tt
    other false false false = tt
lines_ask A r m was now (EoiPulsed byte) a n = other (is_same was.data_low now.data_low) (is_same was.clock_low now.clock_low) now.data_low
  where
    other : (v u low : Bool) → Asks (if v then (if u then EoiPulsed byte else EoiPulsed byte) else talk_data r m low (if u then EoiPulsed byte else EoiPulsed byte)) A
    other true true low = tt
    other true false low = tt
    other false true true = tt
    other false true false = tt
    other false false true = tt
    other false false false = tt
lines_ask A r m was now (Sending at byte last left half) a n = other (is_same was.data_low now.data_low) (is_same was.clock_low now.clock_low)
  where
    other : (v u : Bool) → Asks (if v then (if u then Sending at byte last left half else Sending at byte last left half) else talk_data r m now.data_low (if u then Sending at byte last left half else Sending at byte last left half)) A
    other true true = tt
    other true false = tt
    other false true = tt
    other false false = tt
lines_ask A r m was now (Waiting byte true) a n = other (is_same was.data_low now.data_low) (is_same was.clock_low now.clock_low) now.data_low
  where
    other : (v u low : Bool) → Asks (if v then (if u then Waiting byte true else Waiting byte true) else talk_data r m low (if u then Waiting byte true else Waiting byte true)) A
    other true true low = tt
    other true false low = tt
    other false true true = tt
    other false true false = tt
    other false false true = tt
    other false false false = tt
lines_ask A r m was now (Waiting byte false) a n = other (is_same was.clock_low now.clock_low) was.data_low now.data_low n
  where
    other : (u d e : Bool) → NoneSaid (if not d && e then Some (Said byte false) else None) → Asks (if is_same d e then (if u then Waiting byte false else Waiting byte false) else talk_data r m e (if u then Waiting byte false else Waiting byte false)) A
    other true true true n = tt
    other true true false n = tt
    other true false true n = elim n [ ]
    other true false false n = tt
    other false true true n = tt
    other false true false n = tt
    other false false true n = elim n [ ]
    other false false false n = tt
lines_ask A r m was now (Mute at) a n = other (is_same was.data_low now.data_low) (is_same was.clock_low now.clock_low)
  where
    other : (v u : Bool) → Asks (if v then (if u then Mute at else Mute at) else talk_data r m now.data_low (if u then Mute at else Mute at)) A
    other true true = tt
    other true false = tt
    other false true = tt
    other false false = tt
lines_ask A r m was now (Ending at) a n = other (is_same was.data_low now.data_low) (is_same was.clock_low now.clock_low)
  where
    other : (v u : Bool) → Asks (if v then (if u then Ending at else Ending at) else talk_data r m now.data_low (if u then Ending at else Ending at)) A
    other true true = tt
    other true false = tt
    other false true = tt
    other false false = tt
lines_ask A r m was now Over a n = other (is_same was.data_low now.data_low) (is_same was.clock_low now.clock_low)
  where
    other : (v u : Bool) → Asks (if v then (if u then Over else Over) else talk_data r m now.data_low (if u then Over else Over)) A
    other true true = tt
    other true false = tt
    other false true = tt
    other false false = tt

pub react_asks : (e : Pace) → (A : Type 0) (r t : ℕ) (others : Lines) (peek : Option (ℕ × Bool)) (mouth : Mouth) → Asks mouth A → NoneSaid ((mouth_row e peek mouth).act others) → Asks ((mouth_row e peek mouth).next r t others) A
react_asks e A r t others peek Turned a n = a
react_asks Profile A r t others None (Answering at) a n = tt
react_asks Kernal A r t others None (Answering at) a n = tt
react_asks Profile A r t others (Some x) (Answering at) a n = a
react_asks Kernal A r t others (Some x) (Answering at) a n = a
react_asks e A r t others None (Led at) a n = tt
react_asks e A r t others (Some x) (Led at) a n = offer_asks A r t others.data_low x.0 x.1
react_asks e A r t others peek (Offering byte last) a n = tt
react_asks e A r t others peek (EoiOffered byte) a n = tt
react_asks e A r t others peek (EoiPulsed byte) a n = tt
react_asks e A r t others peek (Sending at byte last left half) a n = go (nat_le 16 half) ((half % 2) == 0) n
  where
    row : Bool → Bool → TableRow Mouth
    row v u = if v then end_frame_row byte last else (if u then set_bit_row e byte last left half else show_bit_row e byte last left half)

    ended : (low last : Bool) → NoneSaid (if low then Some (Said byte last) else None) → Asks (after_wait r t low byte last) A
    ended true true n = tt
    ended true false n = elim n [ ]
    ended false last n = tt

    go : (over even : Bool) → NoneSaid ((row over even).act others) → Asks ((row over even).next r t others) A
    go true even n = ended others.data_low last n
    go false true n = tt
    go false false n = tt
react_asks e A r t others peek (Waiting byte last) a n = tt
react_asks e A r t others peek (Mute at) a n = tt
react_asks e A r t others peek (Ending at) a n = tt
react_asks e A r t others peek Over a n = tt

-- where something was said or nothing was to be said, it asks no more, unless a byte that isn't the last was said
pub said_asks : (A : Type 0) (r m : ℕ) (was now : Lines) (mouth : Mouth) (act : Act) → taken_act was now mouth ≡ Some act → NoneSaid (Some act) → Asks (talk_lines r m was now mouth) A
said_asks A r m was now Turned act e n = absurd cc
said_asks A r m was now (Answering at) act e n = absurd cc
said_asks A r m was now (Led at) act e n = absurd cc
said_asks A r m was now (Offering byte last) act e n = absurd cc
said_asks A r m was now (EoiOffered byte) act e n = absurd cc
said_asks A r m was now (EoiPulsed byte) act e n = absurd cc
said_asks A r m was now (Sending at byte last left half) act e n = absurd cc
said_asks A r m was now (Waiting byte true) act e n = lines_ask A r m was now (Waiting byte true) tt (said (not was.data_low && now.data_low))
  where
    said : (v : Bool) → NoneSaid (if v then Some (Said byte true) else None)
    said true = tt
    said false = tt
said_asks A r m was now (Waiting byte false) act e n = lines_ask A r m was now (Waiting byte false) tt (subst (λ (o : Option Act). NoneSaid o) (sym e) n)
said_asks A r m was now (Mute at) act e n = absurd cc
said_asks A r m was now (Ending at) act e n = absurd cc
said_asks A r m was now Over act e n = absurd cc

pub acted_asks : (e : Pace) → (A : Type 0) (r t : ℕ) (others : Lines) (peek : Option (ℕ × Bool)) (mouth : Mouth) (act : Act) → ((mouth_row e peek mouth).act others) ≡ Some act → NoneSaid (Some act) → Asks ((mouth_row e peek mouth).next r t others) A
acted_asks v A r t others peek Turned act e n = absurd cc
acted_asks Profile A r t others None (Answering at) act e n = tt
acted_asks Kernal A r t others None (Answering at) act e n = absurd cc
acted_asks Profile A r t others (Some x) (Answering at) act e n = absurd cc
acted_asks Kernal A r t others (Some x) (Answering at) act e n = absurd cc
acted_asks v A r t others peek (Led at) act e n = absurd cc
acted_asks v A r t others peek (Offering byte last) act e n = absurd cc
acted_asks v A r t others peek (EoiOffered byte) act e n = absurd cc
acted_asks v A r t others peek (EoiPulsed byte) act e n = absurd cc
acted_asks v A r t others peek (Sending at byte last left half) act e n = react_asks _ A r t others peek (Sending at byte last left half) tt (subst (λ (o : Option Act). NoneSaid o) (sym e) n)
acted_asks v A r t others peek (Waiting byte last) act e n = absurd cc
acted_asks v A r t others peek (Mute at) act e n = tt
acted_asks v A r t others peek (Ending at) act e n = absurd cc
acted_asks v A r t others peek Over act e n = absurd cc
