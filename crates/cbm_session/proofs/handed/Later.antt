-- What is due after a change is due later than it, or was due before; what is due after a reaction is due later.
use Rattle.cbm_iec.specs.Profile.{half_bit}
use Rattle.cbm_iec.specs.declared.pace.Pace.TheVariants.{Profile, Kernal}
use Rattle.cbm_iec.specs.declared.pace.Pace.{Pace}
use Rattle.std.proofs.Common.{◌≡◌, ◌∙◌, subst, sym, ℕ, ◌+◌, ◌≤◌, Bool, true, false, Option, Some, None, refl, inl, inr, ◌⊎◌, arith}
use Rattle.std.specs.Prelude.{◌==◌, nat_lt, nat_le, if◌then◌else◌, ◌%◌}
use Rattle.cbm_iec.specs.Hearing.{with_bit_read, ear_due, after_hold, after_start, after_ready, after_clock, after_data, after_lines, after_release, is_same, after_clocked, ear_row}
use Rattle.cbm_iec.specs.Speaking.{set_bit_row, show_bit_row, end_frame_row, mouth_due, after_turn, after_free, after_offer, after_taken, after_wait, talk_clock, talk_data, talk_clocked, talk_lines, mouth_row, half_row}
use Rattle.cbm_iec.specs.Ports.{port_due, side_due, told, reacted, lined_side, turned_side, freed_side, side_after}
use Rattle.cbm_iec.specs.declared.ear.Ear.TheVariants.{Idle, Await, Starting, Leaving, Returning, Holding, Freeing, Ready, Timed, Pulsing, EoiNoted, Gathering, Accepting}
use Rattle.cbm_iec.specs.declared.ear.Ear.{Ear}
use Rattle.cbm_iec.specs.declared.mouth.Mouth.TheVariants.{Turned, Answering, Mute, Led, Offering, EoiOffered, EoiPulsed, Sending, Waiting, Ending, Over}
use Rattle.cbm_iec.specs.declared.mouth.Mouth.{Mouth}
use Rattle.cbm_iec.specs.declared.lines.Lines.{Lines}
use Rattle.cbm_iec.specs.declared.party.Role.TheVariants.{Absent, Listener, Talker}
use Rattle.cbm_iec.specs.declared.party.Role.{Role}
use Rattle.cbm_iec.specs.declared.port.Port.{Port}
use Rattle.cbm_iec.specs.declared.port.Side.TheVariants.{Hearing, Speaking}
use Rattle.cbm_iec.specs.declared.port.Side.{Side}
use Rattle.cbm_session.specs.Playing.{IsLaterDue}

-- What was due is still due, or something is due later than this moment, or nothing.
abbrev pub IsKeptDue : ℕ → Option ℕ → Option ℕ → Type 0
IsKeptDue t was now = (now ≡ was) ⊎ IsLaterDue t now

kept_then : (t : ℕ) (a b c : Option ℕ) → IsKeptDue t a b → IsKeptDue t b c → IsKeptDue t a c
kept_then t a b c h (inr l) = inr l
kept_then t a b c (inl e) (inl f) = inl (f ∙ e)
kept_then t a b c (inr l) (inl f) = inr (subst (IsLaterDue t) (sym f) l)

-- ---- hearing

hold_later : (r t : ℕ) (low : Bool) → 1 ≤ r → IsLaterDue t (ear_due (after_hold r t low))
hold_later r t true h = tt
hold_later r t false h = omega (arith, h)

ready_later : (r t : ℕ) (low : Bool) → 1 ≤ r → IsLaterDue t (ear_due (after_ready r t low))
ready_later r t true h = tt
ready_later r t false h = omega (arith, h)

clock_kept : (r t : ℕ) (low data_low : Bool) (ear : Ear) → 1 ≤ r → IsKeptDue t (ear_due ear) (ear_due (after_clock r t low data_low ear))
clock_kept r t true data_low Await h = inr tt
clock_kept r t false data_low Await h = inl refl
clock_kept r t low data_low Idle h = inl refl
clock_kept r t low data_low (Starting at_) h = inl refl
clock_kept r t low data_low (Leaving at_) h = inl refl
clock_kept r t low data_low (Returning at_) h = inl refl
clock_kept r t low data_low Holding h = inr (hold_later r t low h)
clock_kept r t low data_low (Freeing at_) h = inr (hold_later r t low h)
clock_kept r t true data_low Ready h = inr tt
clock_kept r t false data_low Ready h = inl refl
clock_kept r t true data_low (Timed at_) h = inr tt
clock_kept r t false data_low (Timed at_) h = inl refl
clock_kept r t low data_low (Pulsing at_) h = inl refl
clock_kept r t true data_low EoiNoted h = inr tt
clock_kept r t false data_low EoiNoted h = inl refl
clock_kept r t true data_low (Gathering eoi count byte) h = inr (by_count (count == 8))
  where
    by_count : (b : Bool) → IsLaterDue t (ear_due (if b then Accepting (t + r) eoi byte else Gathering eoi count byte))
    by_count true = omega (arith, h)
    by_count false = tt
clock_kept r t false data_low (Gathering eoi count byte) h = inr (by_count (nat_lt count 8))
  where
    by_count : (b : Bool) → IsLaterDue t (ear_due (if b then Gathering eoi (count + 1) (with_bit_read byte data_low) else Gathering eoi count byte))
    by_count true = tt
    by_count false = tt
clock_kept r t low data_low (Accepting at_ eoi byte) h = inl refl

data_kept : (r t : ℕ) (low : Bool) (ear : Ear) → 1 ≤ r → IsKeptDue t (ear_due ear) (ear_due (after_data r t low ear))
data_kept r t low Ready h = inr (ready_later r t low h)
data_kept r t low Await h = inl refl
data_kept r t low Idle h = inl refl
data_kept r t low (Starting at_) h = inl refl
data_kept r t low (Leaving at_) h = inl refl
data_kept r t low (Returning at_) h = inl refl
data_kept r t low Holding h = inl refl
data_kept r t low (Freeing at_) h = inl refl
data_kept r t low (Timed at_) h = inl refl
data_kept r t low (Pulsing at_) h = inl refl
data_kept r t low EoiNoted h = inl refl
data_kept r t low (Gathering eoi count byte) h = inl refl
data_kept r t low (Accepting at_ eoi byte) h = inl refl

clocked_kept : (r t : ℕ) (was now : Lines) (ear : Ear) → 1 ≤ r → IsKeptDue t (ear_due ear) (ear_due (after_clocked r t was now ear))
clocked_kept r t was now ear h = by_same (is_same was.clock_low now.clock_low)
  where
    by_same : (b : Bool) → IsKeptDue t (ear_due ear) (ear_due (if b then ear else after_clock r t now.clock_low now.data_low ear))
    by_same true = inl refl
    by_same false = clock_kept r t now.clock_low now.data_low ear h

ear_kept : (r t : ℕ) (was now : Lines) (ear : Ear) → 1 ≤ r → IsKeptDue t (ear_due ear) (ear_due (after_lines r t was now ear))
ear_kept r t was now ear h = by_same (is_same was.data_low now.data_low)
  where
    by_same : (b : Bool) → IsKeptDue t (ear_due ear) (ear_due (if b then after_clocked r t was now ear else after_data r t now.data_low (after_clocked r t was now ear)))
    by_same true = clocked_kept r t was now ear h
    by_same false = kept_then t (ear_due ear) (ear_due (after_clocked r t was now ear)) (ear_due (after_data r t now.data_low (after_clocked r t was now ear))) (clocked_kept r t was now ear h) (data_kept r t now.data_low (after_clocked r t was now ear) h)

release_kept : (r t : ℕ) (ear : Ear) → 1 ≤ r → IsKeptDue t (ear_due ear) (ear_due (after_release r t ear))
release_kept r t Holding h = inl refl
release_kept r t (Freeing at_) h = inl refl
release_kept r t Await h = inr (omega (arith, h))
release_kept r t Idle h = inr (omega (arith, h))
release_kept r t (Starting at_) h = inr (omega (arith, h))
release_kept r t (Leaving at_) h = inr (omega (arith, h))
release_kept r t (Returning at_) h = inr (omega (arith, h))
release_kept r t Ready h = inr (omega (arith, h))
release_kept r t (Timed at_) h = inr (omega (arith, h))
release_kept r t (Pulsing at_) h = inr (omega (arith, h))
release_kept r t EoiNoted h = inr (omega (arith, h))
release_kept r t (Gathering eoi count byte) h = inr (omega (arith, h))
release_kept r t (Accepting at_ eoi byte) h = inr (omega (arith, h))

start_later : (v : Pace) (r t : ℕ) (low : Bool) → 1 ≤ r → IsLaterDue t (ear_due (after_start v r t low))
start_later Profile r t low h = hold_later r t low h
start_later Kernal r t true h = tt
start_later Kernal r t false h = tt

ear_later : (e : Pace) → (r t : ℕ) (others : Lines) (ear : Ear) → 1 ≤ r → ear_due ear ≡ Some t → IsLaterDue t (ear_due ((ear_row e ear).next r t others))
ear_later v r t others Await h e = absurd (cc)
ear_later v r t others Idle h e = absurd (cc)
ear_later v r t others (Starting at_) h e = start_later v r t others.clock_low h
ear_later v r t others (Leaving at_) h e = tt
ear_later v r t others (Returning at_) h e = hold_later r t others.clock_low h
ear_later v r t others Holding h e = absurd (cc)
ear_later v r t others (Freeing at_) h e = ready_later r t others.data_low h
ear_later v r t others Ready h e = absurd (cc)
ear_later Profile r t others (Timed at_) h e = omega arith
ear_later Kernal r t others (Timed at_) h e = omega arith
ear_later v r t others (Pulsing at_) h e = by_low others.clock_low
  where
    by_low : (b : Bool) → IsLaterDue t (ear_due (if b then Gathering true 0 0 else EoiNoted))
    by_low true = tt
    by_low false = tt
ear_later v r t others EoiNoted h e = absurd (cc)
ear_later v r t others (Gathering eoi count byte) h e = absurd (cc)
ear_later v r t others (Accepting at_ eoi byte) h e = hold_later r t others.clock_low h

-- ---- talking

turn_later : (r t : ℕ) (low : Bool) → 1 ≤ r → IsLaterDue t (mouth_due (after_turn r t low))
turn_later r t true h = tt
turn_later r t false h = omega (arith, h)

free_later : (r t byte : ℕ) (last : Bool) → 1 ≤ r → IsLaterDue t (mouth_due (after_free r t byte last))
free_later r t byte true h = tt
free_later r t byte false h = omega (arith, h)

taken_later : (r t : ℕ) (last : Bool) → 1 ≤ r → IsLaterDue t (mouth_due (after_taken r t last))
taken_later r t true h = omega (arith, h)
taken_later r t false h = omega arith

talk_clock_kept : (r t : ℕ) (low : Bool) (mouth : Mouth) → 1 ≤ r → IsKeptDue t (mouth_due mouth) (mouth_due (talk_clock r t low mouth))
talk_clock_kept r t low Turned h = inr (turn_later r t low h)
talk_clock_kept r t low (Answering at_) h = inr (turn_later r t low h)
talk_clock_kept r t low (Led at_) h = inl refl
talk_clock_kept r t low (Offering byte last) h = inl refl
talk_clock_kept r t low (EoiOffered byte) h = inl refl
talk_clock_kept r t low (EoiPulsed byte) h = inl refl
talk_clock_kept r t low (Sending at_ byte last left half) h = inl refl
talk_clock_kept r t low (Waiting byte last) h = inl refl
talk_clock_kept r t low (Mute at_) h = inl refl
talk_clock_kept r t low (Ending at_) h = inl refl
talk_clock_kept r t low Over h = inl refl

talk_data_kept : (r t : ℕ) (low : Bool) (mouth : Mouth) → 1 ≤ r → IsKeptDue t (mouth_due mouth) (mouth_due (talk_data r t low mouth))
talk_data_kept r t true (Offering byte last) h = inl refl
talk_data_kept r t false (Offering byte last) h = inr (free_later r t byte last h)
talk_data_kept r t true (EoiOffered byte) h = inr tt
talk_data_kept r t false (EoiOffered byte) h = inl refl
talk_data_kept r t true (EoiPulsed byte) h = inl refl
talk_data_kept r t false (EoiPulsed byte) h = inr (omega (arith, h))
talk_data_kept r t true (Waiting byte last) h = inr (taken_later r t last h)
talk_data_kept r t false (Waiting byte last) h = inl refl
talk_data_kept r t low Turned h = inl refl
talk_data_kept r t low (Answering at_) h = inl refl
talk_data_kept r t low (Led at_) h = inl refl
talk_data_kept r t low (Sending at_ byte last left half) h = inl refl
talk_data_kept r t low (Mute at_) h = inl refl
talk_data_kept r t low (Ending at_) h = inl refl
talk_data_kept r t low Over h = inl refl

talk_clocked_kept : (r t : ℕ) (was now : Lines) (mouth : Mouth) → 1 ≤ r → IsKeptDue t (mouth_due mouth) (mouth_due (talk_clocked r t was now mouth))
talk_clocked_kept r t was now mouth h = by_same (is_same was.clock_low now.clock_low)
  where
    by_same : (b : Bool) → IsKeptDue t (mouth_due mouth) (mouth_due (if b then mouth else talk_clock r t now.clock_low mouth))
    by_same true = inl refl
    by_same false = talk_clock_kept r t now.clock_low mouth h

mouth_kept : (r t : ℕ) (was now : Lines) (mouth : Mouth) → 1 ≤ r → IsKeptDue t (mouth_due mouth) (mouth_due (talk_lines r t was now mouth))
mouth_kept r t was now mouth h = by_same (is_same was.data_low now.data_low)
  where
    by_same : (b : Bool) → IsKeptDue t (mouth_due mouth) (mouth_due (if b then talk_clocked r t was now mouth else talk_data r t now.data_low (talk_clocked r t was now mouth)))
    by_same true = talk_clocked_kept r t was now mouth h
    by_same false = kept_then t (mouth_due mouth) (mouth_due (talk_clocked r t was now mouth)) (mouth_due (talk_data r t now.data_low (talk_clocked r t was now mouth))) (talk_clocked_kept r t was now mouth h) (talk_data_kept r t now.data_low (talk_clocked r t was now mouth) h)

half_some : (e : Pace) → 1 ≤ half_bit e
half_some Profile = omega arith
half_some Kernal = omega arith

half_later : (e : Pace) → (r t : ℕ) (others : Lines) (byte left half : ℕ) (last : Bool) → 1 ≤ r → IsLaterDue t (mouth_due ((half_row e byte last left half).next r t others))
half_later e r t others byte left half last h = by_end (nat_le 16 half)
  where
    ends : (low : Bool) → IsLaterDue t (mouth_due (after_wait r t low byte last))
    ends true = taken_later r t last h
    ends false = tt

    by_half : (b : Bool) → IsLaterDue t (mouth_due ((if b then set_bit_row e byte last left half else show_bit_row e byte last left half).next r t others))
    by_half true = let some = half_some e in omega (arith, some)
    by_half false = let some = half_some e in omega (arith, some)

    by_end : (b : Bool) → IsLaterDue t (mouth_due ((if b then end_frame_row byte last else (if (half % 2) == 0 then set_bit_row e byte last left half else show_bit_row e byte last left half)).next r t others))
    by_end true = ends others.data_low
    by_end false = by_half ((half % 2) == 0)

mouth_later : (e : Pace) → (r t : ℕ) (others : Lines) (peek : Option (ℕ × Bool)) (mouth : Mouth) → 1 ≤ r → mouth_due mouth ≡ Some t → IsLaterDue t (mouth_due ((mouth_row e peek mouth).next r t others))
mouth_later v r t others peek Turned h e = absurd (cc)
mouth_later Profile r t others None (Answering at_) h e = tt
mouth_later Kernal r t others None (Answering at_) h e = omega arith
mouth_later Profile r t others (Some x) (Answering at_) h e = omega arith
mouth_later Kernal r t others (Some x) (Answering at_) h e = omega arith
mouth_later v r t others None (Led at_) h e = tt
mouth_later v r t others (Some x) (Led at_) h e = by_low others.data_low
  where
    by_low : (b : Bool) → IsLaterDue t (mouth_due (after_offer r t b x.0 x.1))
    by_low true = tt
    by_low false = free_later r t x.0 x.1 h
mouth_later v r t others peek (Offering byte last) h e = absurd (cc)
mouth_later v r t others peek (EoiOffered byte) h e = absurd (cc)
mouth_later v r t others peek (EoiPulsed byte) h e = absurd (cc)
mouth_later v r t others peek (Sending at_ byte last left half) h e = half_later _ r t others byte left half last h
mouth_later v r t others peek (Waiting byte last) h e = absurd (cc)
mouth_later v r t others peek (Mute at_) h e = tt
mouth_later v r t others peek (Ending at_) h e = tt
mouth_later v r t others peek Over h e = absurd (cc)

-- ---- the drive

freed_later : (r t : ℕ) (low : Bool) (role : Role) (side : Side) → 1 ≤ r → IsKeptDue t (side_due side) (side_due (freed_side r t low role side))
freed_later r t low Absent side h = inr (omega (arith, h))
freed_later r t low Listener (Hearing ear) h = release_kept r t ear h
freed_later r t low Listener (Speaking mouth) h = inr (omega (arith, h))
freed_later r t low Talker side h = inr (turn_later r t low h)

lined_kept : (r t : ℕ) (was now : Lines) (side : Side) → 1 ≤ r → IsKeptDue t (side_due side) (side_due (lined_side r t was now side))
lined_kept r t was now (Hearing ear) h = ear_kept r t was now ear h
lined_kept r t was now (Speaking mouth) h = mouth_kept r t was now mouth h

turned_kept : (t : ℕ) (others : Lines) (p : Port) → 1 ≤ p.party.reaction → IsKeptDue t (port_due p) (side_due (turned_side t others p))
turned_kept t others p h = by_low others.atn_low
  where
    by_low : (b : Bool) → IsKeptDue t (port_due p) (side_due (if b then Hearing (Starting (t + p.party.reaction)) else freed_side p.party.reaction t others.clock_low p.role p.side))
    by_low true = inr (omega (arith, h))
    by_low false = freed_later p.party.reaction t others.clock_low p.role p.side h

-- WHAT IS DUE AFTER A CHANGE of the others
pub told_kept : (t : ℕ) (others : Lines) (p : Port) → 1 ≤ p.party.reaction → IsKeptDue t (port_due p) (port_due (told t others p))
told_kept t others p h = by_same (is_same p.others.atn_low others.atn_low)
  where
    by_same : (b : Bool) → IsKeptDue t (port_due p) (side_due (if b then lined_side p.party.reaction t p.others others p.side else turned_side t others p))
    by_same true = lined_kept p.party.reaction t p.others others p.side h
    by_same false = turned_kept t others p h

-- WHAT IS DUE AFTER THE REACTION
pub reacted_later : (t : ℕ) (peek : Option (ℕ × Bool)) (p : Port) → 1 ≤ p.party.reaction → port_due p ≡ Some t → IsLaterDue t (port_due (reacted t peek p))
reacted_later t peek p h due = by_side p.side due
  where
    by_side : (side : Side) → side_due side ≡ Some t → IsLaterDue t (side_due (side_after p.party.pace p.party.reaction t p.others peek side))
    by_side (Hearing ear) e = ear_later _ p.party.reaction t p.others ear h e
    by_side (Speaking mouth) e = mouth_later _ p.party.reaction t p.others peek mouth h e
