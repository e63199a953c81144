-- What a talker's own lines have shown of its byte in each state, whatever the host does.
use Rattle.cbm_iec.specs.declared.pace.Pace.TheVariants.{Profile, Kernal}
use Rattle.cbm_iec.specs.declared.pace.Pace.{Pace}
use Rattle.std.proofs.Common.{◌≡◌, ℕ, ◌+◌, ◌/◌, ◌%◌, ◌≤◌, ◌<◌, Bool, true, false, not, List, [], ◌∷◌, ◌++◌, length, Option, Some, None, ap, sym, ◌∙◌, subst, refl, arith, inl, inr, eq-eqb}
use Rattle.std.proofs.lemmas.Bool.Decides.{leb_tells, eqb_tells}
use Rattle.std.proofs.lemmas.Bool.{ne_eqb}
use Rattle.std.proofs.lemmas.List.{length-append}
use Rattle.std.specs.Prelude.{if◌then◌else◌, ◌==◌, ◌&&◌, ◌||◌, nat_le}
use Rattle.cbm_iec.specs.Hearing.{is_same}
use Rattle.cbm_iec.specs.Speaking.{mouth_due, after_turn, after_free, after_offer, after_taken, after_wait, talk_clock, talk_data, talk_clocked, talk_lines, taken_act, mouth_row, half_row, end_frame_row, set_bit_row, show_bit_row}
use Rattle.cbm_iec.specs.Table.{TableRow}
use Rattle.cbm_iec.specs.declared.machine.Act.TheVariants.{Pulled, Attention, Released, Heard, Said, Silent}
use Rattle.cbm_iec.specs.declared.machine.Act.{Act}
use Rattle.cbm_iec.specs.declared.lines.Held.{Held}
use Rattle.cbm_iec.specs.declared.lines.Lines.{Lines}
use Rattle.cbm_iec.specs.declared.mouth.Mouth.TheVariants.{Turned, Answering, Mute, Led, Offering, EoiOffered, EoiPulsed, Sending, Waiting, Ending, Over}
use Rattle.cbm_iec.specs.declared.mouth.Mouth.{Mouth}
use Rattle.cbm_session.proofs.Truths.{or_there}
use Rattle.cbm_session.proofs.handed.Knowing.{waits}
use Rattle.cbm_session.proofs.handed.Voices.{spelled, spelled_whole, spelled_on, nothing_left, freed_bits}
use Rattle.cbm_session.specs.Bits.{number_of}
use Rattle.cbm_session.specs.Handed.{clocked}

-- a byte under way: so many bits of it were shown, and CLOCK is held in each bit's first half, with DATA set
pub record IsSending (byte left half : ℕ) (clock low : Bool) (bits : Option (List Bool)) : Type 0 where
  pub shown : List Bool
  pub are : bits ≡ Some shown
  pub count : length shown ≡ half / 2
  pub spells : spelled shown left ≡ byte
  pub few : half ≤ 16
  pub clock_is : clock ≡ not ((half % 2) == 0)
  pub set : half % 2 ≡ 1 → low ≡ ((left % 2) == 0)

-- all of it was shown
pub record IsShown (byte : ℕ) (bits : Option (List Bool)) : Type 0 where
  pub shown : List Bool
  pub are : bits ≡ Some shown
  pub count : length shown ≡ 8
  pub number : number_of shown ≡ byte

abbrev pub Spells : Mouth → Bool → Bool → Option (List Bool) → Type 0
Spells Turned clock low bits = bits ≡ None
Spells (Answering at_) clock low bits = bits ≡ None
Spells (Led at_) clock low bits = (bits ≡ None) × (clock ≡ true)
Spells (Offering byte last) clock low bits = (bits ≡ Some []) × (clock ≡ false)
Spells (EoiOffered byte) clock low bits = (bits ≡ Some []) × (clock ≡ false)
Spells (EoiPulsed byte) clock low bits = (bits ≡ Some []) × (clock ≡ false)
Spells (Sending at_ byte last left half) clock low bits = IsSending byte left half clock low bits
Spells (Waiting byte last) clock low bits = IsShown byte bits × (clock ≡ true)
Spells (Mute at_) clock low bits = Unit {0}
Spells (Ending at_) clock low bits = Unit {0}
Spells Over clock low bits = Unit {0}

-- a byte that was taken leaves none
abbrev pub bits_after : Option Act → Option (List Bool) → Option (List Bool)
bits_after None bits = bits
bits_after (Some Pulled) bits = bits
bits_after (Some (Attention byte)) bits = bits
bits_after (Some Released) bits = bits
bits_after (Some (Heard byte eoi)) bits = bits
bits_after (Some (Said byte last)) bits = None
bits_after (Some Silent) bits = bits

-- and was shown whole
abbrev pub WasShown : Option Act → Option (List Bool) → Type 0
WasShown None bits = Unit {0}
WasShown (Some Pulled) bits = Unit {0}
WasShown (Some (Attention byte)) bits = Unit {0}
WasShown (Some Released) bits = Unit {0}
WasShown (Some (Heard byte eoi)) bits = Unit {0}
WasShown (Some (Said byte last)) bits = IsShown byte bits
WasShown (Some Silent) bits = Unit {0}

turn_spells : (r t : ℕ) (v clock low : Bool) (bits : Option (List Bool)) → bits ≡ None → Spells (after_turn r t v) clock low bits
turn_spells r t true clock low bits h = h
turn_spells r t false clock low bits h = h

pub turned_spells : (r t : ℕ) (v clock low : Bool) → Spells (after_turn r t v) clock low None
turned_spells r t v clock low = turn_spells r t v clock low None refl

begins : (r t byte : ℕ) (last clock low : Bool) (bits : Option (List Bool)) → (bits ≡ Some []) × (clock ≡ false) → IsSending byte byte 0 clock low bits
begins r t byte last clock low bits h = record { shown = []; are = h.0; count = refl; spells = refl; few = omega arith; clock_is = h.1; set = λ e. absurd (omega (arith, e)) }

free_spells : (r t byte : ℕ) (last clock low : Bool) (bits : Option (List Bool)) → (bits ≡ Some []) × (clock ≡ false) → Spells (after_free r t byte last) clock low bits
free_spells r t byte true clock low bits h = h
free_spells r t byte false clock low bits h = begins r t byte false clock low bits h

offer_spells : (r t : ℕ) (v : Bool) (byte : ℕ) (last clock low : Bool) (bits : Option (List Bool)) → (bits ≡ Some []) × (clock ≡ false) → Spells (after_offer r t v byte last) clock low bits
offer_spells r t true byte last clock low bits h = h
offer_spells r t false byte last clock low bits h = free_spells r t byte last clock low bits h

taken_spells : (r t : ℕ) (last clock low : Bool) (bits : Option (List Bool)) → bits ≡ None → clock ≡ true → Spells (after_taken r t last) clock low bits
taken_spells r t true clock low bits h e = tt
taken_spells r t false clock low bits h e = (h, e)

clock_spells : (r t : ℕ) (v : Bool) (mouth : Mouth) (clock low : Bool) (bits : Option (List Bool)) → Spells mouth clock low bits → Spells (talk_clock r t v mouth) clock low bits
clock_spells r t v Turned clock low bits h = turn_spells r t v clock low bits h
clock_spells r t v (Answering at_) clock low bits h = turn_spells r t v clock low bits h
clock_spells r t v (Led at_) clock low bits h = h
clock_spells r t v (Offering byte last) clock low bits h = h
clock_spells r t v (EoiOffered byte) clock low bits h = h
clock_spells r t v (EoiPulsed byte) clock low bits h = h
clock_spells r t v (Sending at_ byte last left half) clock low bits h = h
clock_spells r t v (Waiting byte last) clock low bits h = h
clock_spells r t v (Mute at_) clock low bits h = tt
clock_spells r t v (Ending at_) clock low bits h = tt
clock_spells r t v Over clock low bits h = tt

clocked_spells : (r t : ℕ) (was now : Lines) (mouth : Mouth) (clock low : Bool) (bits : Option (List Bool)) → Spells mouth clock low bits → Spells (talk_clocked r t was now mouth) clock low bits
clocked_spells r t was now mouth clock low bits h = go (is_same was.clock_low now.clock_low)
  where
    go : (v : Bool) → Spells (if v then mouth else talk_clock r t now.clock_low mouth) clock low bits
    go true = h
    go false = clock_spells r t now.clock_low mouth clock low bits h

-- where no byte waits to be taken
abbrev IsBefore : Mouth → Type 0
IsBefore Turned = Unit {0}
IsBefore (Answering at_) = Unit {0}
IsBefore (Led at_) = Unit {0}
IsBefore (Offering byte last) = Unit {0}
IsBefore (EoiOffered byte) = Unit {0}
IsBefore (EoiPulsed byte) = Unit {0}
IsBefore (Sending at_ byte last left half) = Unit {0}
IsBefore (Waiting byte last) = ⊥
IsBefore (Mute at_) = Unit {0}
IsBefore (Ending at_) = Unit {0}
IsBefore Over = Unit {0}

clock_before : (r t : ℕ) (v : Bool) (mouth : Mouth) → IsBefore mouth → IsBefore (talk_clock r t v mouth)
clock_before r t true Turned h = tt
clock_before r t false Turned h = tt
clock_before r t true (Answering at_) h = tt
clock_before r t false (Answering at_) h = tt
clock_before r t v (Led at_) h = h
clock_before r t v (Offering byte last) h = h
clock_before r t v (EoiOffered byte) h = h
clock_before r t v (EoiPulsed byte) h = h
clock_before r t v (Sending at_ byte last left half) h = h
clock_before r t v (Waiting byte last) h = h
clock_before r t v (Mute at_) h = h
clock_before r t v (Ending at_) h = h
clock_before r t v Over h = h

clocked_before : (r t : ℕ) (was now : Lines) (mouth : Mouth) → IsBefore mouth → IsBefore (talk_clocked r t was now mouth)
clocked_before r t was now mouth h = go (is_same was.clock_low now.clock_low)
  where
    go : (v : Bool) → IsBefore (if v then mouth else talk_clock r t now.clock_low mouth)
    go true = h
    go false = clock_before r t now.clock_low mouth h

data_spells : (r t : ℕ) (v : Bool) (mouth : Mouth) (clock low : Bool) (bits : Option (List Bool)) → IsBefore mouth → Spells mouth clock low bits → Spells (talk_data r t v mouth) clock low bits
data_spells r t v Turned clock low bits n h = h
data_spells r t v (Answering at_) clock low bits n h = h
data_spells r t v (Led at_) clock low bits n h = h
data_spells r t true (Offering byte last) clock low bits n h = h
data_spells r t false (Offering byte last) clock low bits n h = free_spells r t byte last clock low bits h
data_spells r t true (EoiOffered byte) clock low bits n h = h
data_spells r t false (EoiOffered byte) clock low bits n h = h
data_spells r t true (EoiPulsed byte) clock low bits n h = h
data_spells r t false (EoiPulsed byte) clock low bits n h = begins r t byte true clock low bits h
data_spells r t v (Sending at_ byte last left half) clock low bits n h = h
data_spells r t v (Waiting byte last) clock low bits n h = elim n [ ]
data_spells r t v (Mute at_) clock low bits n h = tt
data_spells r t v (Ending at_) clock low bits n h = tt
data_spells r t v Over clock low bits n h = tt

plainly : (r t : ℕ) (was now : Lines) (mouth : Mouth) (clock low : Bool) (bits : Option (List Bool)) → IsBefore mouth → Spells mouth clock low bits → Spells (talk_lines r t was now mouth) clock low bits
plainly r t was now mouth clock low bits n h = go (is_same was.data_low now.data_low)
  where
    go : (v : Bool) → Spells (if v then talk_clocked r t was now mouth else talk_data r t now.data_low (talk_clocked r t was now mouth)) clock low bits
    go true = clocked_spells r t was now mouth clock low bits h
    go false = data_spells r t now.data_low (talk_clocked r t was now mouth) clock low bits (clocked_before r t was now mouth n) (clocked_spells r t was now mouth clock low bits h)

abbrev Led_to : Mouth → Option Act → Bool → Bool → Option (List Bool) → Type 0
Led_to mouth act clock low bits = WasShown act bits × Spells mouth clock low (bits_after act bits)

-- TOLD A CHANGE of CLOCK or DATA
pub lines_spell : (r t : ℕ) (was now : Lines) (mouth : Mouth) (clock low : Bool) (bits : Option (List Bool)) → Spells mouth clock low bits → Led_to (talk_lines r t was now mouth) (taken_act was now mouth) clock low bits
lines_spell r t was now (Waiting byte last) clock low bits h =
    subst (λ (x : Mouth). At was.data_low now.data_low x) (sym (waits r t byte last was now)) (go was.data_low now.data_low)
  where
    At : Bool → Bool → Mouth → Type 0
    At d e x = Led_to (if is_same d e then x else talk_data r t e x) (if not d && e then Some (Said byte last) else None) clock low bits

    go : (d e : Bool) → At d e (Waiting byte last)
    go true true = (tt, h)
    go true false = (tt, h)
    go false true = (h.0, taken_spells r t last clock low None refl h.1)
    go false false = (tt, h)
lines_spell r t was now Turned clock low bits h = (tt, plainly r t was now Turned clock low bits tt h)
lines_spell r t was now (Answering at_) clock low bits h = (tt, plainly r t was now (Answering at_) clock low bits tt h)
lines_spell r t was now (Led at_) clock low bits h = (tt, plainly r t was now (Led at_) clock low bits tt h)
lines_spell r t was now (Offering byte last) clock low bits h = (tt, plainly r t was now (Offering byte last) clock low bits tt h)
lines_spell r t was now (EoiOffered byte) clock low bits h = (tt, plainly r t was now (EoiOffered byte) clock low bits tt h)
lines_spell r t was now (EoiPulsed byte) clock low bits h = (tt, plainly r t was now (EoiPulsed byte) clock low bits tt h)
lines_spell r t was now (Sending at_ byte last left half) clock low bits h = (tt, plainly r t was now (Sending at_ byte last left half) clock low bits tt h)
lines_spell r t was now (Mute at_) clock low bits h = (tt, plainly r t was now (Mute at_) clock low bits tt h)
lines_spell r t was now (Ending at_) clock low bits h = (tt, plainly r t was now (Ending at_) clock low bits tt h)
lines_spell r t was now Over clock low bits h = (tt, plainly r t was now Over clock low bits tt h)

-- ---- its own reaction

freed_there : (v low : Bool) (bits : Option (List Bool)) → freed_bits v (v || true) low bits ≡ bits
freed_there true low bits = refl
freed_there false low bits = refl

freed_pulled : (v low : Bool) (bits : Option (List Bool)) → freed_bits v true low bits ≡ bits
freed_pulled true low bits = refl
freed_pulled false low bits = refl

freed_now : (v low : Bool) (bits : Option (List Bool)) → v ≡ true → freed_bits v false low bits ≡ clocked low bits
freed_now v low bits e = ap (λ (w : Bool). freed_bits w false low bits) e

-- the lines after it, and the bits
abbrev Afterwards : TableRow Mouth → ℕ → ℕ → Lines → Held → Bool → Option (List Bool) → Type 0
Afterwards row r t others own low bits = Led_to (row.next r t others) (row.act others) (row.held own).clock_low (row.held own).data_low (freed_bits own.clock_low (row.held own).clock_low low bits)

-- the byte is a byte
abbrev pub IsBound : Mouth → Type 0
IsBound Turned = Unit {0}
IsBound (Answering at_) = Unit {0}
IsBound (Led at_) = Unit {0}
IsBound (Offering byte last) = Unit {0}
IsBound (EoiOffered byte) = Unit {0}
IsBound (EoiPulsed byte) = Unit {0}
IsBound (Sending at_ byte last left half) = byte < 256
IsBound (Waiting byte last) = Unit {0}
IsBound (Mute at_) = Unit {0}
IsBound (Ending at_) = Unit {0}
IsBound Over = Unit {0}

sending_spells : (e : Pace) → (r t : ℕ) (others : Lines) (byte : ℕ) (last : Bool) (left half : ℕ) (own : Held) (low : Bool) (bits : Option (List Bool)) → byte < 256 → low ≡ own.data_low
    → IsSending byte left half own.clock_low own.data_low bits → Afterwards (half_row e byte last left half) r t others own low bits
sending_spells v r t others byte last left half own low bits bound e s = elim (leb_tells 16 half) [
  | inl x ↦ (let l = x.1 in let f = s.few in over x.0 (omega (arith, l, f)))
  | inr x ↦ elim (eqb_tells (half % 2) 0) [
    | inl y ↦ even x.0 y.0 x.1 y.1
    | inr y ↦ odd x.0 y.0 x.1 y.1
  ]
]
  where
    row : Bool → Bool → TableRow Mouth
    row w u = if w then end_frame_row byte last else (if u then set_bit_row v byte last left half else show_bit_row v byte last left half)

    Goal : Bool → Bool → Type 0
    Goal v u = Afterwards (row v u) r t others own low bits

    whole : half ≡ 16 → IsShown byte bits
    whole h =
        let c = s.count in
        let eight : length s.shown ≡ 8 = omega (arith, c, h) in
        let none = nothing_left s.shown left eight (subst (λ (n : ℕ). n < 256) (sym s.spells) bound) in
        record { shown = s.shown; are = s.are; count = eight; number = sym (spelled_whole s.shown) ∙ ap (λ (n : ℕ). spelled s.shown n) (sym none) ∙ s.spells }

    ended : (v : Bool) (b : Option (List Bool)) → IsShown byte b → Led_to (after_wait r t v byte last) (if v then Some (Said byte last) else None) true false b
    ended true b w = (w, taken_spells r t last true false None refl refl)
    ended false b w = (tt, (w, refl))

    over : nat_le 16 half ≡ true → half ≡ 16 → Goal (nat_le 16 half) ((half % 2) == 0)
    over v h = subst (λ (w : Bool). Goal w ((half % 2) == 0)) (sym v) (ended others.data_low (freed_bits own.clock_low true low bits) (subst (λ (b : Option (List Bool)). IsShown byte b) (sym (freed_pulled own.clock_low low bits)) (whole h)))

    even : nat_le 16 half ≡ false → ((half % 2) == 0) ≡ true → half < 16 → half % 2 ≡ 0 → Goal (nat_le 16 half) ((half % 2) == 0)
    even v u l z = subst (λ (w : Bool). Goal w ((half % 2) == 0)) (sym v) (subst (λ (w : Bool). Goal false w) (sym u) (
      tt,
      record {
        shown = s.shown;
        are = freed_pulled own.clock_low low bits ∙ s.are;
        count = (let c = s.count in omega (arith, c, z));
        spells = s.spells;
        few = omega (arith, l);
        clock_is = ap not (sym (ne_eqb ((half + 1) % 2) 0 (λ k. absurd (omega (arith, z, k)))));
        set = λ k. refl;
      },
    ))

    is_odd : (half % 2 ≡ 0 → ⊥) → half % 2 ≡ 1
    is_odd n = elim (leb_tells (half % 2) 0) [
      | inl y ↦ (let l = y.1 in absurd (n (omega (arith, l))))
      | inr y ↦ (let l = y.1 in omega (arith, l))
    ]

    odd : nat_le 16 half ≡ false → ((half % 2) == 0) ≡ false → half < 16 → (half % 2 ≡ 0 → ⊥) → Goal (nat_le 16 half) ((half % 2) == 0)
    odd v u l n =
        let one : half % 2 ≡ 1 = is_odd n in
        let clock : own.clock_low ≡ true = s.clock_is ∙ ap not u in
        let bit : low ≡ ((left % 2) == 0) = e ∙ s.set one in
        subst (λ (w : Bool). Goal w ((half % 2) == 0)) (sym v) (subst (λ (w : Bool). Goal false w) (sym u) (
          tt,
          record {
            shown = s.shown ++ not low ∷ [];
            are = freed_now own.clock_low low bits clock ∙ ap (λ (b : Option (List Bool)). clocked low b) s.are;
            count = (let c = s.count in let k = length-append s.shown (not low ∷ []) in omega (arith, c, k, one));
            spells = ap (λ (b : Bool). spelled (s.shown ++ not b ∷ []) (left / 2)) bit ∙ spelled_on s.shown left ∙ s.spells;
            few = omega (arith, l);
            clock_is = ap not (sym (eq-eqb ((half + 1) % 2) 0 (omega (arith, one))));
            set = λ k. absurd (omega (arith, one, k));
          },
        ))

pub reaction_spells : (e : Pace) → (r t : ℕ) (others : Lines) (p : Option (ℕ × Bool)) (mouth : Mouth) (own : Held) (low : Bool) (bits : Option (List Bool)) → IsBound mouth → low ≡ own.data_low
    → Spells mouth own.clock_low own.data_low bits → mouth_due mouth ≡ Some t → Afterwards (mouth_row e p mouth) r t others own low bits
reaction_spells v r t others p Turned own low bits b e h d = absurd cc
reaction_spells Profile r t others None (Answering at_) own low bits b e h d = (tt, tt)
reaction_spells Kernal r t others None (Answering at_) own low bits b e h d = (tt, tt)
reaction_spells Profile r t others (Some x) (Answering at_) own low bits b e h d = (tt, (freed_there own.clock_low low bits ∙ h, or_there own.clock_low))
reaction_spells Kernal r t others (Some x) (Answering at_) own low bits b e h d = (tt, (freed_pulled own.clock_low low bits ∙ h, refl))
reaction_spells v r t others None (Led at_) own low bits b e h d = (tt, tt)
reaction_spells v r t others (Some x) (Led at_) own low bits b e h d =
    (tt, offer_spells r t others.data_low x.0 x.1 false own.data_low (freed_bits own.clock_low false low bits) (freed_now own.clock_low low bits h.1 ∙ ap (λ (v : Option (List Bool)). clocked low v) h.0, refl))
reaction_spells v r t others p (Offering byte last) own low bits b e h d = absurd cc
reaction_spells v r t others p (EoiOffered byte) own low bits b e h d = absurd cc
reaction_spells v r t others p (EoiPulsed byte) own low bits b e h d = absurd cc
reaction_spells v r t others p (Sending at_ byte last left half) own low bits b e h d = sending_spells _ r t others byte last left half own low bits b e h
reaction_spells v r t others p (Waiting byte last) own low bits b e h d = absurd cc
reaction_spells v r t others p (Mute at_) own low bits b e h d = (tt, tt)
reaction_spells v r t others p (Ending at_) own low bits b e h d = (tt, tt)
reaction_spells v r t others p Over own low bits b e h d = absurd cc
