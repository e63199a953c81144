-- From its offer on a talker knows the byte that its machine has to say, whatever the host does: no act comes to it but the byte's own, or a pull of ATN, which
-- ends its talk.
use Rattle.cbm_iec.specs.declared.pace.Pace.TheVariants.{Profile, Kernal}
use Rattle.cbm_iec.specs.declared.pace.Pace.{Pace}
use Rattle.std.proofs.Common.{◌≡◌, ℕ, ◌+◌, Bool, true, false, List, Option, Some, None, sym, subst, refl}
use Rattle.std.specs.Prelude.{if◌then◌else◌, ◌==◌, ◌%◌, ◌&&◌, not, nat_le}
use Rattle.cbm_iec.specs.Hearing.{is_same, heard_act, ear_row}
use Rattle.cbm_iec.specs.Machines.{acted}
use Rattle.cbm_iec.specs.Ports.{side_after, side_act, lined_side, lined_act, freed_side, told, told_act, turned_side, reacted, reaction_act}
use Rattle.cbm_iec.specs.Speaking.{after_turn, after_free, after_offer, after_taken, after_wait, talk_clock, talk_data, talk_clocked, talk_lines, taken_act, mouth_row, half_row, end_frame_row, set_bit_row, show_bit_row}
use Rattle.cbm_iec.specs.Table.{TableRow}
use Rattle.cbm_iec.specs.declared.machine.Act.TheVariants.{Pulled, Released, Said}
use Rattle.cbm_iec.specs.declared.machine.Act.{Act}
use Rattle.cbm_iec.specs.declared.ear.Ear.TheVariants.{Idle, Await, Starting, Leaving, Returning, Holding, Freeing, Ready, Timed, Pulsing, EoiNoted, Gathering, Accepting}
use Rattle.cbm_iec.specs.declared.ear.Ear.{Ear}
use Rattle.cbm_iec.specs.declared.lines.Lines.{Lines}
use Rattle.cbm_iec.specs.declared.mouth.Mouth.TheVariants.{Turned, Answering, Mute, Led, Offering, EoiOffered, EoiPulsed, Sending, Waiting, Ending, Over}
use Rattle.cbm_iec.specs.declared.mouth.Mouth.{Mouth}
use Rattle.cbm_iec.specs.declared.party.Role.TheVariants.{Absent, Listener, Talker}
use Rattle.cbm_iec.specs.declared.party.Role.{Role}
use Rattle.cbm_iec.specs.declared.port.Port.{Port}
use Rattle.cbm_iec.specs.declared.port.Side.TheVariants.{Hearing, Speaking}
use Rattle.cbm_iec.specs.declared.port.Side.{Side}
use Rattle.cbm_session.specs.Answers.{AnswersAct, Run}
use Rattle.cbm_session.specs.Handed.{with_act}

-- the byte under way is the one that there is to say
abbrev pub Knows : Mouth → Option (ℕ × Bool) → Type 0
Knows Turned p = Unit {0}
Knows (Answering at_) p = Unit {0}
Knows (Led at_) p = Unit {0}
Knows (Offering byte last) p = p ≡ Some (byte, last)
Knows (EoiOffered byte) p = p ≡ Some (byte, true)
Knows (EoiPulsed byte) p = p ≡ Some (byte, true)
Knows (Sending at_ byte last left half) p = p ≡ Some (byte, last)
Knows (Waiting byte last) p = p ≡ Some (byte, last)
Knows (Mute at_) p = p ≡ None
Knows (Ending at_) p = Unit {0}
Knows Over p = Unit {0}

abbrev pub SideKnows : Side → Option (ℕ × Bool) → Type 0
SideKnows (Hearing ear) p = Unit {0}
SideKnows (Speaking mouth) p = Knows mouth p

turn_knows : (r t : ℕ) (low : Bool) (p : Option (ℕ × Bool)) → Knows (after_turn r t low) p
turn_knows r t true p = tt
turn_knows r t false p = tt

free_knows : (r t byte : ℕ) (last : Bool) (p : Option (ℕ × Bool)) → p ≡ Some (byte, last) → Knows (after_free r t byte last) p
free_knows r t byte true p h = h
free_knows r t byte false p h = h

offer_knows : (r t : ℕ) (low : Bool) (byte : ℕ) (last : Bool) (p : Option (ℕ × Bool)) → p ≡ Some (byte, last) → Knows (after_offer r t low byte last) p
offer_knows r t true byte last p h = h
offer_knows r t false byte last p h = free_knows r t byte last p h

taken_knows : (r t : ℕ) (last : Bool) (p : Option (ℕ × Bool)) → Knows (after_taken r t last) p
taken_knows r t true p = tt
taken_knows r t false p = tt

clock_knows : (r t : ℕ) (low : Bool) (mouth : Mouth) (p : Option (ℕ × Bool)) → Knows mouth p → Knows (talk_clock r t low mouth) p
clock_knows r t low Turned p h = turn_knows r t low p
clock_knows r t low (Answering at_) p h = turn_knows r t low p
clock_knows r t low (Led at_) p h = tt
clock_knows r t low (Offering byte last) p h = h
clock_knows r t low (EoiOffered byte) p h = h
clock_knows r t low (EoiPulsed byte) p h = h
clock_knows r t low (Sending at_ byte last left half) p h = h
clock_knows r t low (Waiting byte last) p h = h
clock_knows r t low (Mute at_) p h = h
clock_knows r t low (Ending at_) p h = tt
clock_knows r t low Over p h = tt

clocked_knows : (r t : ℕ) (was now : Lines) (mouth : Mouth) (p : Option (ℕ × Bool)) → Knows mouth p → Knows (talk_clocked r t was now mouth) p
clocked_knows r t was now mouth p h = go (is_same was.clock_low now.clock_low)
  where
    go : (v : Bool) → Knows (if v then mouth else talk_clock r t now.clock_low mouth) p
    go true = h
    go false = clock_knows r t now.clock_low mouth p h

data_knows : (r t : ℕ) (low : Bool) (mouth : Mouth) (p : Option (ℕ × Bool)) → Knows mouth p → Knows (talk_data r t low mouth) p
data_knows r t low Turned p h = tt
data_knows r t low (Answering at_) p h = tt
data_knows r t low (Led at_) p h = tt
data_knows r t true (Offering byte last) p h = h
data_knows r t false (Offering byte last) p h = free_knows r t byte last p h
data_knows r t true (EoiOffered byte) p h = h
data_knows r t false (EoiOffered byte) p h = h
data_knows r t true (EoiPulsed byte) p h = h
data_knows r t false (EoiPulsed byte) p h = h
data_knows r t low (Sending at_ byte last left half) p h = h
data_knows r t true (Waiting byte last) p h = taken_knows r t last p
data_knows r t false (Waiting byte last) p h = h
data_knows r t low (Mute at_) p h = h
data_knows r t low (Ending at_) p h = tt
data_knows r t low Over p h = tt

lines_know : (r t : ℕ) (was now : Lines) (mouth : Mouth) (p : Option (ℕ × Bool)) → Knows mouth p → Knows (talk_lines r t was now mouth) p
lines_know r t was now mouth p h = go (is_same was.data_low now.data_low)
  where
    go : (v : Bool) → Knows (if v then talk_clocked r t was now mouth else talk_data r t now.data_low (talk_clocked r t was now mouth)) p
    go true = clocked_knows r t was now mouth p h
    go false = data_knows r t now.data_low (talk_clocked r t was now mouth) p (clocked_knows r t was now mouth p h)

-- where a byte was taken, nothing is known of the next one
pub waits : (r t byte : ℕ) (last : Bool) (was now : Lines) → talk_clocked r t was now (Waiting byte last) ≡ Waiting byte last
waits r t byte last was now = go (is_same was.clock_low now.clock_low)
  where
    go : (v : Bool) → (if v then Waiting byte last else Waiting byte last) ≡ Waiting byte last
    go true = refl
    go false = refl

module _ (M : Type 0) (step : M → Act → M) (peek : M → Option (ℕ × Bool)) where
  -- an act is what the machine answers
  abbrev pub AnswersAny : M → Option Act → Type 0
  AnswersAny m None = Unit {0}
  AnswersAny m (Some act) = AnswersAct M step peek m act

  pub run_with : (m m2 : M) (act : Option Act) (acts : List Act) → AnswersAny m act → Run M step peek (acted M step act m) acts m2 → Run M step peek m (with_act act acts) m2
  run_with m m2 None acts a r = r
  run_with m m2 (Some act) acts a r = (a, r)

  -- what a change of the others' lines leads to
  abbrev Led_to : Side → M → Option Act → Type 0
  Led_to side m act = AnswersAny m act × SideKnows side (peek (acted M step act m))

  waiting_told : (r t byte : ℕ) (last : Bool) (was now : Lines) (m : M) → peek m ≡ Some (byte, last) → Led_to (Speaking (talk_lines r t was now (Waiting byte last))) m (taken_act was now (Waiting byte last))
  waiting_told r t byte last was now m h = subst (λ (x : Mouth). At was.data_low now.data_low x) (sym (waits r t byte last was now)) (go was.data_low now.data_low)
    where
      At : Bool → Bool → Mouth → Type 0
      At d e x = AnswersAny m (if not d && e then Some (Said byte last) else None) × Knows (if is_same d e then x else talk_data r t e x) (peek (acted M step (if not d && e then Some (Said byte last) else None) m))

      go : (d e : Bool) → At d e (Waiting byte last)
      go true true = (tt, h)
      go true false = (tt, h)
      go false true = (h, taken_knows r t last (peek (step m (Said byte last))))
      go false false = (tt, h)

  mouth_told : (r t : ℕ) (was now : Lines) (mouth : Mouth) (m : M) → Knows mouth (peek m) → Led_to (Speaking (talk_lines r t was now mouth)) m (taken_act was now mouth)
  mouth_told r t was now Turned m h = (tt, lines_know r t was now Turned (peek m) h)
  mouth_told r t was now (Answering at_) m h = (tt, lines_know r t was now (Answering at_) (peek m) h)
  mouth_told r t was now (Led at_) m h = (tt, lines_know r t was now (Led at_) (peek m) h)
  mouth_told r t was now (Offering byte last) m h = (tt, lines_know r t was now (Offering byte last) (peek m) h)
  mouth_told r t was now (EoiOffered byte) m h = (tt, lines_know r t was now (EoiOffered byte) (peek m) h)
  mouth_told r t was now (EoiPulsed byte) m h = (tt, lines_know r t was now (EoiPulsed byte) (peek m) h)
  mouth_told r t was now (Sending at_ byte last left half) m h = (tt, lines_know r t was now (Sending at_ byte last left half) (peek m) h)
  mouth_told r t was now (Waiting byte last) m h = waiting_told r t byte last was now m h
  mouth_told r t was now (Mute at_) m h = (tt, lines_know r t was now (Mute at_) (peek m) h)
  mouth_told r t was now (Ending at_) m h = (tt, lines_know r t was now (Ending at_) (peek m) h)
  mouth_told r t was now Over m h = (tt, lines_know r t was now Over (peek m) h)

  freed_told : (r t : ℕ) (low : Bool) (role : Role) (side : Side) (p : Option (ℕ × Bool)) → SideKnows (freed_side r t low role side) p
  freed_told r t low Absent side p = tt
  freed_told r t low Listener (Hearing ear) p = tt
  freed_told r t low Listener (Speaking mouth) p = tt
  freed_told r t low Talker side p = turn_knows r t low p

  -- TOLD A CHANGE of the others' lines: what counts with it is the machine's answer, and the byte under way stays the one that it has to say.
  pub told_knows : (t : ℕ) (now : Lines) (q : Port) (m : M) → SideKnows q.side (peek m) → AnswersAny m (told_act now q) × SideKnows (told t now q).side (peek (acted M step (told_act now q) m))
  told_knows t now q m h = go (is_same q.others.atn_low now.atn_low)
    where
      lined : (side : Side) → SideKnows side (peek m) → Led_to (lined_side q.party.reaction t q.others now side) m (lined_act q.others now side)
      lined (Hearing ear) k = (tt, tt)
      lined (Speaking mouth) k = mouth_told q.party.reaction t q.others now mouth m k

      turned : (v : Bool) → Led_to (if v then Hearing (Starting (t + q.party.reaction)) else freed_side q.party.reaction t now.clock_low q.role q.side) m (Some (if v then Pulled else Released))
      turned true = (tt, tt)
      turned false = (tt, freed_told q.party.reaction t now.clock_low q.role q.side (peek (step m Released)))

      go : (v : Bool) → Led_to (if v then lined_side q.party.reaction t q.others now q.side else turned_side t now q) m (if v then lined_act q.others now q.side else Some (if now.atn_low then Pulled else Released))
      go true = lined q.side h
      go false = turned now.atn_low

  ear_answers : (e : Pace) → (others : Lines) (ear : Ear) (m : M) → AnswersAny m ((ear_row e ear).act others)
  ear_answers e others (Accepting at_ eoi byte) m = go others.atn_low
    where
      go : (v : Bool) → AnswersAct M step peek m (heard_act v byte eoi)
      go true = tt
      go false = tt
  ear_answers e others Await m = tt
  ear_answers e others Idle m = tt
  ear_answers e others (Starting at_) m = tt
  ear_answers e others (Leaving at_) m = tt
  ear_answers e others (Returning at_) m = tt
  ear_answers e others Holding m = tt
  ear_answers e others (Freeing at_) m = tt
  ear_answers e others Ready m = tt
  ear_answers e others (Timed at_) m = tt
  ear_answers e others (Pulsing at_) m = tt
  ear_answers e others EoiNoted m = tt
  ear_answers e others (Gathering eoi count byte) m = tt

  sending_reacts : (e : Pace) → (r t : ℕ) (others : Lines) (at_ byte : ℕ) (last : Bool) (left half : ℕ) (m : M) → peek m ≡ Some (byte, last)
      → Led_to (Speaking ((half_row e byte last left half).next r t others)) m ((half_row e byte last left half).act others)
  sending_reacts e r t others at_ byte last left half m h = go (nat_le 16 half) ((half % 2) == 0)
    where
      row : Bool → Bool → TableRow Mouth
      row v u = if v then end_frame_row byte last else (if u then set_bit_row e byte last left half else show_bit_row e byte last left half)

      ended : (low : Bool) → Led_to (Speaking (after_wait r t low byte last)) m (if low then Some (Said byte last) else None)
      ended true = (h, taken_knows r t last (peek (step m (Said byte last))))
      ended false = (tt, h)

      go : (v u : Bool) → Led_to (Speaking ((row v u).next r t others)) m ((row v u).act others)
      go true u = ended others.data_low
      go false true = (tt, h)
      go false false = (tt, h)

  mouth_reacts : (e : Pace) → (r t : ℕ) (others : Lines) (p : Option (ℕ × Bool)) (mouth : Mouth) (m : M) → peek m ≡ p → Knows mouth (peek m)
      → Led_to (Speaking ((mouth_row e p mouth).next r t others)) m ((mouth_row e p mouth).act others)
  mouth_reacts v r t others p Turned m e h = (tt, tt)
  mouth_reacts Profile r t others None (Answering at_) m e h = (e, tt)
  mouth_reacts Kernal r t others None (Answering at_) m e h = (tt, e)
  mouth_reacts Profile r t others (Some x) (Answering at_) m e h = (tt, tt)
  mouth_reacts Kernal r t others (Some x) (Answering at_) m e h = (tt, tt)
  mouth_reacts v r t others None (Led at_) m e h = (tt, tt)
  mouth_reacts v r t others (Some x) (Led at_) m e h = (tt, offer_knows r t others.data_low x.0 x.1 (peek m) e)
  mouth_reacts v r t others p (Offering byte last) m e h = (tt, h)
  mouth_reacts v r t others p (EoiOffered byte) m e h = (tt, h)
  mouth_reacts v r t others p (EoiPulsed byte) m e h = (tt, h)
  mouth_reacts v r t others p (Sending at_ byte last left half) m e h = sending_reacts _ r t others at_ byte last left half m h
  mouth_reacts v r t others p (Waiting byte last) m e h = (tt, h)
  mouth_reacts e r t others p (Mute at_) m x h = (h, tt)
  mouth_reacts v r t others p (Ending at_) m e h = (tt, tt)
  mouth_reacts v r t others p Over m e h = (tt, tt)

  -- ITS OWN REACTION: the same.
  pub reacted_knows : (t : ℕ) (q : Port) (m : M) → SideKnows q.side (peek m)
      → AnswersAny m (reaction_act (peek m) q) × SideKnows (reacted t (peek m) q).side (peek (acted M step (reaction_act (peek m) q) m))
  reacted_knows t q m h = go q.side h
    where
      go : (side : Side) → SideKnows side (peek m) → Led_to (side_after q.party.pace q.party.reaction t q.others (peek m) side) m (side_act q.party.pace (peek m) q.others side)
      go (Hearing ear) k = (ear_answers _ q.others ear m, tt)
      go (Speaking mouth) k = mouth_reacts _ q.party.reaction t q.others (peek m) mouth m refl k
