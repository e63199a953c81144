-- One drive under two hosts whose lines are alike where it heeds them: it goes on in the same way.
use Rattle.std.proofs.Common.{◌≡◌, ℕ, zero, suc, ◌+◌, Bool, true, false, Option, Some, None, ap, sym, ◌∙◌, subst, refl, ◌⊎◌, inl, inr}
use Rattle.std.specs.Prelude.{if◌then◌else◌, not, ◌||◌, ◌&&◌, ◌==◌, ◌%◌, nat_lt, nat_le}
use Rattle.cbm_iec.specs.Hearing.{is_same, after_hold, after_start, after_ready, gathering, with_bit_read, after_clock, after_data, after_clocked, after_lines, ear_row, heard_act}
use Rattle.cbm_iec.specs.Ports.{side_due, lined_side, lined_act, freed_side, side_role, side_after, side_act}
use Rattle.cbm_iec.specs.Roles.{role_after}
use Rattle.cbm_iec.specs.Speaking.{talk_clock, talk_clocked, talk_data, talk_lines, taken_act, after_turn, mouth_row, half_row, end_frame_row, set_bit_row, show_bit_row, after_lead, after_wait}
use Rattle.cbm_iec.specs.Table.{TableRow}
use Rattle.cbm_iec.specs.declared.machine.Act.TheVariants.{Said}
use Rattle.cbm_iec.specs.declared.machine.Act.{Act}
use Rattle.cbm_iec.specs.declared.ear.Ear.TheVariants.{Idle, Await, Starting, Leaving, Returning, Holding, Freeing, Ready, Timed, Pulsing, EoiNoted, Gathering, Accepting}
use Rattle.cbm_iec.specs.declared.ear.Ear.{Ear}
use Rattle.cbm_iec.specs.declared.lines.Lines.{Lines}
use Rattle.cbm_iec.specs.declared.mouth.Mouth.TheVariants.{Turned, Answering, Mute, Led, Offering, EoiOffered, EoiPulsed, Sending, Waiting, Ending, Over}
use Rattle.cbm_iec.specs.declared.mouth.Mouth.{Mouth}
use Rattle.cbm_iec.specs.declared.pace.Pace.TheVariants.{Profile, Kernal}
use Rattle.cbm_iec.specs.declared.pace.Pace.{Pace}
use Rattle.cbm_iec.specs.declared.party.Role.TheVariants.{Absent, Listener, Talker}
use Rattle.cbm_iec.specs.declared.party.Role.{Role}
use Rattle.cbm_iec.specs.declared.port.Side.TheVariants.{Hearing, Speaking}
use Rattle.cbm_iec.specs.declared.port.Side.{Side}

-- ---- a drive that is ready, or about to be, has seen CLOCK free

abbrev pub EarSees : Ear → Bool → Type 0
EarSees Await low = low ≡ false
EarSees (Freeing at_) low = low ≡ false
EarSees Ready low = low ≡ false
EarSees ear low = Unit {0}

abbrev pub Sees : Side → Bool → Type 0
Sees (Hearing ear) low = EarSees ear low
Sees (Speaking mouth) low = Unit {0}

clock_sees : (r m : ℕ) (low held : Bool) (ear : Ear) → EarSees (after_clock r m low held ear) low
clock_sees r m true held Await = tt
clock_sees r m false held Await = refl
clock_sees r m true held Holding = tt
clock_sees r m false held Holding = refl
clock_sees r m true held (Freeing at_) = tt
clock_sees r m false held (Freeing at_) = refl
clock_sees r m true held Ready = tt
clock_sees r m false held Ready = refl
clock_sees r m true held (Timed at_) = tt
clock_sees r m false held (Timed at_) = tt
clock_sees r m true held EoiNoted = tt
clock_sees r m false held EoiNoted = tt
clock_sees r m true held (Gathering eoi count byte) = go (count == 8)
  where
    go : (v : Bool) → EarSees (if v then Accepting (m + r) eoi byte else Gathering eoi count byte) true
    go true = tt
    go false = tt
clock_sees r m false held (Gathering eoi count byte) = go (nat_lt count 8)
  where
    go : (v : Bool) → EarSees (if v then Gathering eoi (count + 1) (with_bit_read byte held) else Gathering eoi count byte) false
    go true = tt
    go false = tt
clock_sees r m low held Idle = tt
clock_sees r m low held (Starting at_) = tt
clock_sees r m low held (Leaving at_) = tt
clock_sees r m low held (Returning at_) = tt
clock_sees r m low held (Pulsing at_) = tt
clock_sees r m low held (Accepting at_ eoi byte) = tt

data_sees : (r m : ℕ) (low clock : Bool) (ear : Ear) → EarSees ear clock → EarSees (after_data r m low ear) clock
data_sees r m true clock Ready s = s
data_sees r m false clock Ready s = tt
data_sees r m low clock Await s = s
data_sees r m low clock Idle s = s
data_sees r m low clock (Starting at_) s = s
data_sees r m low clock (Leaving at_) s = s
data_sees r m low clock (Returning at_) s = s
data_sees r m low clock Holding s = s
data_sees r m low clock (Freeing at_) s = s
data_sees r m low clock (Timed at_) s = s
data_sees r m low clock (Pulsing at_) s = s
data_sees r m low clock EoiNoted s = s
data_sees r m low clock (Gathering eoi count byte) s = s
data_sees r m low clock (Accepting at_ eoi byte) s = s

clocked_sees : (r m : ℕ) (was now held : Bool) (ear : Ear) → EarSees ear was → EarSees (if is_same was now then ear else after_clock r m now held ear) now
clocked_sees r m true true held ear s = s
clocked_sees r m true false held ear s = clock_sees r m false held ear
clocked_sees r m false true held ear s = clock_sees r m true held ear
clocked_sees r m false false held ear s = s

ear_sees : (r m : ℕ) (was now : Lines) (ear : Ear) → EarSees ear was.clock_low → EarSees (after_lines r m was now ear) now.clock_low
ear_sees r m was now ear s = go (is_same was.data_low now.data_low) (after_clocked r m was now ear) (clocked_sees r m was.clock_low now.clock_low now.data_low ear s)
  where
    go : (v : Bool) (x : Ear) → EarSees x now.clock_low → EarSees (if v then x else after_data r m now.data_low x) now.clock_low
    go true x k = k
    go false x k = data_sees r m now.data_low now.clock_low x k

pub lined_sees : (r m : ℕ) (was now : Lines) (side : Side) → Sees side was.clock_low → Sees (lined_side r m was now side) now.clock_low
lined_sees r m was now (Hearing ear) s = ear_sees r m was now ear s
lined_sees r m was now (Speaking mouth) s = tt

pub freed_sees : (r m : ℕ) (low : Bool) (role : Role) (side : Side) → Sees side low → Sees (freed_side r m low role side) low
freed_sees r m low Absent side s = tt
freed_sees r m low Listener (Speaking mouth) s = tt
freed_sees r m low Talker side s = tt
freed_sees r m low Listener (Hearing (Freeing at_)) s = s
freed_sees r m low Listener (Hearing Holding) s = tt
freed_sees r m low Listener (Hearing Await) s = tt
freed_sees r m low Listener (Hearing Idle) s = tt
freed_sees r m low Listener (Hearing (Starting at_)) s = tt
freed_sees r m low Listener (Hearing (Leaving at_)) s = tt
freed_sees r m low Listener (Hearing (Returning at_)) s = tt
freed_sees r m low Listener (Hearing Ready) s = tt
freed_sees r m low Listener (Hearing (Timed at_)) s = tt
freed_sees r m low Listener (Hearing (Pulsing at_)) s = tt
freed_sees r m low Listener (Hearing EoiNoted) s = tt
freed_sees r m low Listener (Hearing (Gathering eoi count byte)) s = tt
freed_sees r m low Listener (Hearing (Accepting at_ eoi byte)) s = tt

hold_sees : (r m : ℕ) (low : Bool) → EarSees (after_hold r m low) low
hold_sees r m true = tt
hold_sees r m false = refl

start_sees : (e : Pace) (r m : ℕ) (low : Bool) → EarSees (after_start e r m low) low
start_sees Profile r m true = tt
start_sees Profile r m false = refl
start_sees Kernal r m true = tt
start_sees Kernal r m false = refl

ready_sees : (r m : ℕ) (held low : Bool) → low ≡ false → EarSees (after_ready r m held) low
ready_sees r m true low s = s
ready_sees r m false low s = tt

pulsed_sees : (low : Bool) → EarSees (if low then gathering true else EoiNoted) low
pulsed_sees true = tt
pulsed_sees false = tt

pub after_sees : (e : Pace) (r m : ℕ) (others : Lines) (p : Option (ℕ × Bool)) (side : Side) → Sees side others.clock_low → Sees (side_after e r m others p side) others.clock_low
after_sees e r m others p (Speaking mouth) s = tt
after_sees e r m others p (Hearing (Starting at_)) s = start_sees e r m others.clock_low
after_sees e r m others p (Hearing (Leaving at_)) s = tt
after_sees e r m others p (Hearing (Returning at_)) s = hold_sees r m others.clock_low
after_sees e r m others p (Hearing (Freeing at_)) s = ready_sees r m others.data_low others.clock_low s
after_sees e r m others p (Hearing (Timed at_)) s = tt
after_sees e r m others p (Hearing (Pulsing at_)) s = pulsed_sees others.clock_low
after_sees e r m others p (Hearing (Accepting at_ eoi byte)) s = hold_sees r m others.clock_low
after_sees e r m others p (Hearing Idle) s = s
after_sees e r m others p (Hearing Await) s = s
after_sees e r m others p (Hearing Holding) s = s
after_sees e r m others p (Hearing Ready) s = s
after_sees e r m others p (Hearing EoiNoted) s = s
after_sees e r m others p (Hearing (Gathering eoi count byte)) s = s

-- ---- the others' lines, as a drive heeds them

-- what has to be alike on the wires, before a change and after it
pub record WiresHeard (was now was2 now2 : Lines) : Type 0 where
  pub was_clock : was.clock_low ≡ was2.clock_low
  pub now_clock : now.clock_low ≡ now2.clock_low
  pub was_data : was.clock_low ≡ false → was.data_low ≡ was2.data_low
  pub now_data : now.clock_low ≡ false → now.data_low ≡ now2.data_low

abbrev IsReady : Ear → Type 0
IsReady Ready = Unit {0}
IsReady ear = ⊥

-- a change of CLOCK: the bit alone goes by DATA
clock_alike : (r m : ℕ) (low held held2 : Bool) (ear : Ear) → (low ≡ false → held ≡ held2) → after_clock r m low held ear ≡ after_clock r m low held2 ear
clock_alike r m false held held2 ear h = ap (λ (v : Bool). after_clock r m false v ear) (h refl)
clock_alike r m true held held2 (Gathering eoi count byte) h = refl
clock_alike r m true held held2 Await h = refl
clock_alike r m true held held2 Idle h = refl
clock_alike r m true held held2 (Starting at_) h = refl
clock_alike r m true held held2 (Leaving at_) h = refl
clock_alike r m true held held2 (Returning at_) h = refl
clock_alike r m true held held2 Holding h = refl
clock_alike r m true held held2 (Freeing at_) h = refl
clock_alike r m true held held2 Ready h = refl
clock_alike r m true held held2 (Timed at_) h = refl
clock_alike r m true held held2 (Pulsing at_) h = refl
clock_alike r m true held held2 EoiNoted h = refl
clock_alike r m true held held2 (Accepting at_ eoi byte) h = refl

pub either : (v : Bool) (x y : Ear) → y ≡ x → (if v then x else y) ≡ x
either true x y e = refl
either false x y e = e

-- a change of DATA goes by nothing but DATA, and only where the drive is ready
data_alike : (r m : ℕ) (was now was2 now2 : Bool) (ear : Ear) → (IsReady ear → (was ≡ was2) × (now ≡ now2))
    → (if is_same was now then ear else after_data r m now ear) ≡ (if is_same was2 now2 then ear else after_data r m now2 ear)
data_alike r m was now was2 now2 Ready h =
    ap (λ (v : Bool). if is_same v now then Ready else after_ready r m now) (h tt).0 ∙ ap (λ (v : Bool). if is_same was2 v then Ready else after_ready r m v) (h tt).1
data_alike r m was now was2 now2 ear h = either (is_same was now) ear (after_data r m now ear) refl ∙ sym (either (is_same was2 now2) ear (after_data r m now2 ear) refl)

-- where it is ready after a change of CLOCK, CLOCK was free, and is
ready_free : (r m : ℕ) (was now held : Bool) (ear : Ear) → EarSees ear was → IsReady (if is_same was now then ear else after_clock r m now held ear) → (was ≡ false) × (now ≡ false)
ready_free r m false false held ear s k = (refl, refl)
ready_free r m true true held Ready s k = absurd cc
ready_free r m true true held ear s k = elim k [ ]
ready_free r m true false held Ready s k = absurd cc
ready_free r m true false held (Gathering eoi count byte) s k = go (nat_lt count 8) k
  where
    go : (v : Bool) → IsReady (if v then Gathering eoi (count + 1) (with_bit_read byte held) else Gathering eoi count byte) → (true ≡ false) × (false ≡ false)
    go true e = elim e [ ]
    go false e = elim e [ ]
ready_free r m true false held ear s k = elim k [ ]
ready_free r m false true held (Gathering eoi count byte) s k = go (count == 8) k
  where
    go : (v : Bool) → IsReady (if v then Accepting (m + r) eoi byte else Gathering eoi count byte) → (false ≡ false) × (true ≡ false)
    go true e = elim e [ ]
    go false e = elim e [ ]
ready_free r m false true held ear s k = elim k [ ]

ear_alike : (r m : ℕ) (was now was2 now2 : Lines) (ear : Ear) → EarSees ear was.clock_low → WiresHeard was now was2 now2 → after_lines r m was now ear ≡ after_lines r m was2 now2 ear
ear_alike r m was now was2 now2 ear s h =
    data_alike r m was.data_low now.data_low was2.data_low now2.data_low first (λ k. let f = ready_free r m was.clock_low now.clock_low now.data_low ear s k in (h.was_data f.0, h.now_data f.1))
    ∙ ap (λ (x : Ear). if is_same was2.data_low now2.data_low then x else after_data r m now2.data_low x) same
  where
    first : Ear
    first = after_clocked r m was now ear

    same : after_clocked r m was now ear ≡ after_clocked r m was2 now2 ear
    same =
        ap (λ (v : Bool). if is_same v now.clock_low then ear else after_clock r m now.clock_low now.data_low ear) h.was_clock
        ∙ ap (λ (x : Ear). if is_same was2.clock_low now.clock_low then ear else x) (clock_alike r m now.clock_low now.data_low now2.data_low ear h.now_data)
        ∙ ap (λ (v : Bool). if is_same was2.clock_low v then ear else after_clock r m v now2.data_low ear) h.now_clock

-- what has to be alike for a drive that talks
abbrev pub MouthHeard : Lines → Lines → Lines → Lines → Mouth → Type 0
MouthHeard was now was2 now2 Turned = (was.clock_low ≡ was2.clock_low) × (now.clock_low ≡ now2.clock_low)
MouthHeard was now was2 now2 (Answering at_) = (was.clock_low ≡ was2.clock_low) × (now.clock_low ≡ now2.clock_low)
MouthHeard was now was2 now2 (Mute at_) = Unit {0}
MouthHeard was now was2 now2 (Ending at_) = Unit {0}
MouthHeard was now was2 now2 Over = Unit {0}
MouthHeard was now was2 now2 mouth = (was.data_low ≡ was2.data_low) × (now.data_low ≡ now2.data_low)

mouth_either : (v : Bool) (x y : Mouth) → y ≡ x → (if v then x else y) ≡ x
mouth_either true x y e = refl
mouth_either false x y e = e

-- CLOCK isn't heeded, so DATA alone counts
pub by_data : (r m : ℕ) (was now : Lines) (mouth : Mouth) → talk_clock r m now.clock_low mouth ≡ mouth → talk_lines r m was now mouth ≡ (if is_same was.data_low now.data_low then mouth else talk_data r m now.data_low mouth)
by_data r m was now mouth e =
    ap (λ (x : Mouth). if is_same was.data_low now.data_low then x else talk_data r m now.data_low x) (mouth_either (is_same was.clock_low now.clock_low) mouth (talk_clock r m now.clock_low mouth) e)

same_data : (r m : ℕ) (was now was2 now2 : Lines) (mouth : Mouth) → talk_clock r m now.clock_low mouth ≡ mouth → talk_clock r m now2.clock_low mouth ≡ mouth → (was.data_low ≡ was2.data_low) × (now.data_low ≡ now2.data_low)
    → talk_lines r m was now mouth ≡ talk_lines r m was2 now2 mouth
same_data r m was now was2 now2 mouth e e2 h =
    by_data r m was now mouth e
    ∙ ap (λ (v : Bool). if is_same v now.data_low then mouth else talk_data r m now.data_low mouth) h.0
    ∙ ap (λ (v : Bool). if is_same was2.data_low v then mouth else talk_data r m v mouth) h.1
    ∙ sym (by_data r m was2 now2 mouth e2)

-- neither line is heeded
pub calm : (r m : ℕ) (was now : Lines) (mouth : Mouth) → talk_clock r m now.clock_low mouth ≡ mouth → talk_data r m now.data_low mouth ≡ mouth → talk_lines r m was now mouth ≡ mouth
calm r m was now mouth e f = by_data r m was now mouth e ∙ mouth_either (is_same was.data_low now.data_low) mouth (talk_data r m now.data_low mouth) f

-- DATA isn't heeded, so CLOCK alone counts
turn_alike : (r m : ℕ) (was now : Lines) (mouth : Mouth) → ((low held : Bool) → talk_data r m held (after_turn r m low) ≡ after_turn r m low) → ((held : Bool) → talk_data r m held mouth ≡ mouth) → talk_clock r m now.clock_low mouth ≡ after_turn r m now.clock_low
    → talk_lines r m was now mouth ≡ (if is_same was.clock_low now.clock_low then mouth else after_turn r m now.clock_low)
turn_alike r m was now mouth f g e = mouth_either (is_same was.data_low now.data_low) first (talk_data r m now.data_low first) (still (is_same was.clock_low now.clock_low)) ∙ ap (λ (x : Mouth). if is_same was.clock_low now.clock_low then mouth else x) e
  where
    first : Mouth
    first = talk_clocked r m was now mouth

    still : (v : Bool) → talk_data r m now.data_low (if v then mouth else talk_clock r m now.clock_low mouth) ≡ (if v then mouth else talk_clock r m now.clock_low mouth)
    still true = g now.data_low
    still false = subst (λ (x : Mouth). talk_data r m now.data_low x ≡ x) (sym e) (f now.clock_low now.data_low)

turned_still : (r m : ℕ) (low held : Bool) → talk_data r m held (after_turn r m low) ≡ after_turn r m low
turned_still r m true held = refl
turned_still r m false held = refl

same_clock : (r m : ℕ) (was now was2 now2 : Lines) (mouth : Mouth) → ((held : Bool) → talk_data r m held mouth ≡ mouth) → ((low : Bool) → talk_clock r m low mouth ≡ after_turn r m low) → (was.clock_low ≡ was2.clock_low) × (now.clock_low ≡ now2.clock_low)
    → talk_lines r m was now mouth ≡ talk_lines r m was2 now2 mouth
same_clock r m was now was2 now2 mouth g e h =
    turn_alike r m was now mouth (turned_still r m) g (e now.clock_low)
    ∙ ap (λ (v : Bool). if is_same v now.clock_low then mouth else after_turn r m now.clock_low) h.0
    ∙ ap (λ (v : Bool). if is_same was2.clock_low v then mouth else after_turn r m v) h.1
    ∙ sym (turn_alike r m was2 now2 mouth (turned_still r m) g (e now2.clock_low))

mouth_alike : (r m : ℕ) (was now was2 now2 : Lines) (mouth : Mouth) → MouthHeard was now was2 now2 mouth → talk_lines r m was now mouth ≡ talk_lines r m was2 now2 mouth
mouth_alike r m was now was2 now2 Turned h = same_clock r m was now was2 now2 Turned (λ held. refl) (λ low. refl) h
mouth_alike r m was now was2 now2 (Answering at_) h = same_clock r m was now was2 now2 (Answering at_) (λ held. refl) (λ low. refl) h
mouth_alike r m was now was2 now2 (Mute at_) h = calm r m was now (Mute at_) refl refl ∙ sym (calm r m was2 now2 (Mute at_) refl refl)
mouth_alike r m was now was2 now2 (Ending at_) h = calm r m was now (Ending at_) refl refl ∙ sym (calm r m was2 now2 (Ending at_) refl refl)
mouth_alike r m was now was2 now2 Over h = calm r m was now Over refl refl ∙ sym (calm r m was2 now2 Over refl refl)
mouth_alike r m was now was2 now2 (Led at_) h = same_data r m was now was2 now2 (Led at_) refl refl h
mouth_alike r m was now was2 now2 (Offering byte last) h = same_data r m was now was2 now2 (Offering byte last) refl refl h
mouth_alike r m was now was2 now2 (EoiOffered byte) h = same_data r m was now was2 now2 (EoiOffered byte) refl refl h
mouth_alike r m was now was2 now2 (EoiPulsed byte) h = same_data r m was now was2 now2 (EoiPulsed byte) refl refl h
mouth_alike r m was now was2 now2 (Sending at_ byte last left half) h = same_data r m was now was2 now2 (Sending at_ byte last left half) refl refl h
mouth_alike r m was now was2 now2 (Waiting byte last) h = same_data r m was now was2 now2 (Waiting byte last) refl refl h

taken_alike : (was now was2 now2 : Lines) (mouth : Mouth) → MouthHeard was now was2 now2 mouth → taken_act was now mouth ≡ taken_act was2 now2 mouth
taken_alike was now was2 now2 (Waiting byte last) h =
    ap (λ (v : Bool). if not v && now.data_low then Some (Said byte last) else None) h.0 ∙ ap (λ (v : Bool). if not was2.data_low && v then Some (Said byte last) else None) h.1
taken_alike was now was2 now2 mouth h = refl

-- what has to be alike on the wires for a drive that waits for this
abbrev pub Heard : Lines → Lines → Lines → Lines → Side → Type 0
Heard was now was2 now2 (Hearing Idle) = Unit {0}
Heard was now was2 now2 (Hearing (Leaving at_)) = Unit {0}
Heard was now was2 now2 (Hearing (Starting at_)) = Unit {0}
Heard was now was2 now2 (Hearing Await) = (was.clock_low ≡ was2.clock_low) × (now.clock_low ≡ now2.clock_low)
Heard was now was2 now2 (Hearing ear) = WiresHeard was now was2 now2
Heard was now was2 now2 (Speaking mouth) = MouthHeard was now was2 now2 mouth

-- ---- neither line is heeded by a drive that hears

pub ear_calm : (r m : ℕ) (was now : Lines) (ear : Ear) → ((low held : Bool) → after_clock r m low held ear ≡ ear) → ((held : Bool) → after_data r m held ear ≡ ear) → after_lines r m was now ear ≡ ear
ear_calm r m was now ear e f =
    ap (λ (x : Ear). if is_same was.data_low now.data_low then x else after_data r m now.data_low x) (either (is_same was.clock_low now.clock_low) ear (after_clock r m now.clock_low now.data_low ear) (e now.clock_low now.data_low))
    ∙ either (is_same was.data_low now.data_low) ear (after_data r m now.data_low ear) (f now.data_low)

-- before CLOCK's pull after ATN's, DATA isn't heeded
abbrev awaits : Bool → Bool → Ear
awaits was now = if is_same was now then Await else (if now then Holding else Await)

await_clock : (r m : ℕ) (was now : Lines) → after_lines r m was now Await ≡ awaits was.clock_low now.clock_low
await_clock r m was now = go (is_same was.data_low now.data_low) (is_same was.clock_low now.clock_low) now.clock_low
  where
    first : Bool → Bool → Ear
    first v low = if v then Await else (if low then Holding else Await)

    go : (u v low : Bool) → (if u then first v low else after_data r m now.data_low (first v low)) ≡ first v low
    go true v low = refl
    go false true low = refl
    go false false true = refl
    go false false false = refl

-- A CHANGE OF CLOCK OR DATA: a drive goes on alike, and so does what counts with it.
pub lined_alike : (r m : ℕ) (was now was2 now2 : Lines) (side : Side) → Sees side was.clock_low → Heard was now was2 now2 side → lined_side r m was now side ≡ lined_side r m was2 now2 side
lined_alike r m was now was2 now2 (Speaking mouth) s h = ap (λ (x : Mouth). Speaking x) (mouth_alike r m was now was2 now2 mouth h)
lined_alike r m was now was2 now2 (Hearing Idle) s h = ap (λ (x : Ear). Hearing x) (ear_calm r m was now Idle (λ low held. refl) (λ held. refl) ∙ sym (ear_calm r m was2 now2 Idle (λ low held. refl) (λ held. refl)))
lined_alike r m was now was2 now2 (Hearing (Leaving at_)) s h = ap (λ (x : Ear). Hearing x) (ear_calm r m was now (Leaving at_) (λ low held. refl) (λ held. refl) ∙ sym (ear_calm r m was2 now2 (Leaving at_) (λ low held. refl) (λ held. refl)))
lined_alike r m was now was2 now2 (Hearing (Starting at_)) s h = ap (λ (x : Ear). Hearing x) (ear_calm r m was now (Starting at_) (λ low held. refl) (λ held. refl) ∙ sym (ear_calm r m was2 now2 (Starting at_) (λ low held. refl) (λ held. refl)))
lined_alike r m was now was2 now2 (Hearing Await) s h = ap (λ (x : Ear). Hearing x) (await_clock r m was now ∙ ap (λ (v : Bool). awaits v now.clock_low) h.0 ∙ ap (λ (v : Bool). awaits was2.clock_low v) h.1 ∙ sym (await_clock r m was2 now2))
lined_alike r m was now was2 now2 (Hearing ear) s h = ap (λ (x : Ear). Hearing x) (ear_alike r m was now was2 now2 ear s h)

pub lined_act_alike : (was now was2 now2 : Lines) (side : Side) → Heard was now was2 now2 side → lined_act was now side ≡ lined_act was2 now2 side
lined_act_alike was now was2 now2 (Hearing ear) h = refl
lined_act_alike was now was2 now2 (Speaking mouth) h = taken_alike was now was2 now2 mouth h

-- ---- what a drive waits for under both hosts

-- the same; or, at a KERNAL's pace, the host hasn't pulled CLOCK after ATN yet, and the tidy one has
pub data WaitAlike : Side → Side → Type 0 where
  same : {x y : Side} → y ≡ x → WaitAlike x y
  early : {x y : Side} → x ≡ Hearing Await → y ≡ Hearing Holding → WaitAlike x y
