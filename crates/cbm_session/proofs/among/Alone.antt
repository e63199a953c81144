-- What a drive follows alone with the host it follows among others that hold no line and change none.
use Rattle.cbm_iec.specs.declared.pace.Pace.TheVariants.{Profile, Kernal}
use Rattle.cbm_iec.specs.declared.pace.Pace.{Pace}
use Rattle.std.proofs.Common.{◌≡◌, ℕ, ◌≤◌, Bool, true, false, List, [], ◌∷◌, ◌++◌, Option, Some, None, ap, sym, ◌∙◌, subst, arith}
use Rattle.std.specs.Prelude.{if◌then◌else◌, nat_eq, nat_le, ◌==◌, ◌%◌}
use Rattle.cbm_iec.specs.Hearing.{ear_due, after_hold, after_start, after_ready, ear_row}
use Rattle.cbm_iec.specs.Ports.{side_due, port_due, reaction_act, reacted, reaction_changes, side_after}
use Rattle.cbm_iec.specs.Speaking.{mouth_due, after_offer, after_wait, after_answer, after_lead, mouth_row, end_frame_row, set_bit_row, show_bit_row}
use Rattle.cbm_iec.specs.declared.machine.Act.{Act}
use Rattle.cbm_iec.specs.declared.ear.Ear.TheVariants.{Idle, Await, Starting, Leaving, Returning, Holding, Freeing, Ready, Timed, Pulsing, EoiNoted, Gathering, Accepting}
use Rattle.cbm_iec.specs.declared.ear.Ear.{Ear}
use Rattle.cbm_iec.specs.declared.lines.Change.{Change}
use Rattle.cbm_iec.specs.declared.lines.Lines.{Lines}
use Rattle.cbm_iec.specs.declared.mouth.Mouth.TheVariants.{Turned, Answering, Mute, Led, Offering, EoiOffered, EoiPulsed, Sending, Waiting, Ending, Over}
use Rattle.cbm_iec.specs.declared.mouth.Mouth.{Mouth}
use Rattle.cbm_iec.specs.declared.port.Port.{Port}
use Rattle.cbm_iec.specs.declared.port.Side.TheVariants.{Hearing, Speaking}
use Rattle.cbm_iec.specs.declared.port.Side.{Side}
use Rattle.cbm_session.proofs.alone.Fronts.{AllAt, reaction_at, in_time_le}
use Rattle.cbm_session.proofs.among.Around.{NotHost, late_drive}
use Rattle.cbm_session.proofs.among.Bits.{quiet}
use Rattle.cbm_session.proofs.among.Calm.{Every}
use Rattle.cbm_session.specs.Among.{CountsFor, FirstIsAfter, FollowsAmong, ends, tells, reacts}
use Rattle.cbm_session.specs.Following as alone
use Rattle.cbm_session.specs.Following.{IsInTime, IsLater, Counts, own_steps, reaction_steps, Follows}
use Rattle.cbm_session.specs.Steps.{Mark, Step, moment_of, Plain, ForEach, For}

-- After a reaction nothing is due before it.
hold_later : (r t : ℕ) (low : Bool) → IsInTime t (ear_due (after_hold r t low))
hold_later r t true = tt
hold_later r t false = omega arith

ready_later : (r t : ℕ) (low : Bool) → IsInTime t (ear_due (after_ready r t low))
ready_later r t true = tt
ready_later r t false = omega arith

pulse_later : (t : ℕ) (low : Bool) → IsInTime t (ear_due (if low then Gathering true 0 0 else EoiNoted))
pulse_later t true = tt
pulse_later t false = tt

start_later : (e : Pace) (r t : ℕ) (low : Bool) → IsInTime t (ear_due (after_start e r t low))
start_later Profile r t low = hold_later r t low
start_later Kernal r t true = tt
start_later Kernal r t false = tt

ear_later : (e : Pace) → (r t : ℕ) (others : Lines) (ear : Ear) → IsInTime t (ear_due ((ear_row e ear).next r t others))
ear_later e r t others (Starting at) = start_later e r t others.clock_low  -- hold_later r t others.clock_low
ear_later e r t others (Returning at) = hold_later r t others.clock_low
ear_later e r t others (Accepting at eoi byte) = hold_later r t others.clock_low
ear_later e r t others (Freeing at) = ready_later r t others.data_low
ear_later e r t others (Leaving at) = tt
ear_later e r t others (Timed at) = omega arith
ear_later e r t others (Pulsing at) = pulse_later t others.clock_low
ear_later e r t others Await = tt
ear_later e r t others Idle = tt
ear_later e r t others Holding = tt
ear_later e r t others Ready = tt
ear_later e r t others EoiNoted = tt
ear_later e r t others (Gathering eoi count byte) = tt

answer_later : (e : Pace) → (t : ℕ) (peek : Option (ℕ × Bool)) → IsInTime t (mouth_due (after_answer e t peek))
answer_later Profile t None = tt
answer_later Kernal t None = omega arith
answer_later Profile t (Some x) = omega arith
answer_later Kernal t (Some x) = omega arith

offer_later : (r t : ℕ) (low : Bool) (byte : ℕ) (last : Bool) → IsInTime t (mouth_due (after_offer r t low byte last))
offer_later r t true byte last = tt
offer_later r t false byte true = tt
offer_later r t false byte false = omega arith

lead_later : (r t : ℕ) (low : Bool) (peek : Option (ℕ × Bool)) → IsInTime t (mouth_due (after_lead r t low peek))
lead_later r t low None = tt
lead_later r t low (Some x) = offer_later r t low x.0 x.1

wait_later : (r t : ℕ) (low : Bool) (byte : ℕ) (last : Bool) → IsInTime t (mouth_due (after_wait r t low byte last))
wait_later r t true byte true = omega arith
wait_later r t true byte false = omega arith
wait_later r t false byte last = tt

half_later : (e : Pace) → (r t : ℕ) (others : Lines) (byte : ℕ) (last : Bool) (left half : ℕ) (over even : Bool)
    → IsInTime t (mouth_due ((if over then end_frame_row byte last else (if even then set_bit_row e byte last left half else show_bit_row e byte last left half)).next r t others))
half_later e r t others byte last left half true even = wait_later r t others.data_low byte last
half_later e r t others byte last left half false true = omega arith
half_later e r t others byte last left half false false = omega arith

mouth_later : (e : Pace) → (r t : ℕ) (others : Lines) (peek : Option (ℕ × Bool)) (mouth : Mouth) → mouth_due mouth ≡ Some t → IsInTime t (mouth_due ((mouth_row e peek mouth).next r t others))
mouth_later Profile r t others peek (Answering at) e = answer_later Profile t peek
mouth_later Kernal r t others None (Answering at) e = omega arith
mouth_later Kernal r t others (Some x) (Answering at) e = omega arith
mouth_later v r t others peek (Led at) e = lead_later r t others.data_low peek
mouth_later v r t others peek (Sending at byte last left half) e = half_later _ r t others byte last left half (nat_le 16 half) ((half % 2) == 0)
mouth_later v r t others peek (Mute at) e = tt
mouth_later v r t others peek (Ending at) e = tt
mouth_later v r t others peek Turned e = tt
mouth_later v r t others peek (Offering byte last) e = tt
mouth_later v r t others peek (EoiOffered byte) e = tt
mouth_later v r t others peek (EoiPulsed byte) e = tt
mouth_later v r t others peek (Waiting byte last) e = tt
mouth_later v r t others peek Over e = tt

side_later : (e : Pace) → (r t : ℕ) (others : Lines) (peek : Option (ℕ × Bool)) (side : Side) → side_due side ≡ Some t → IsInTime t (side_due (side_after e r t others peek side))
side_later v r t others peek (Hearing ear) e = ear_later _ r t others ear
side_later v r t others peek (Speaking mouth) e = mouth_later _ r t others peek mouth e

-- its changes are a drive's
own_drives : (d : ℕ) (cs : List Change) (act : Option Act) → Every (λ s. NotHost s.event.who) (own_steps d cs act)
own_drives d [] act = tt
own_drives d (c ∷ []) None = (tt, tt)
own_drives d (c ∷ []) (Some a) = (tt, tt)
own_drives d (c ∷ e ∷ []) None = (tt, (tt, tt))
own_drives d (c ∷ e ∷ []) (Some a) = (tt, (tt, tt))
own_drives d (c ∷ e ∷ x ∷ cs) act = tt

at_first : (t m : ℕ) (ss rs more : List Step) → t ≤ m → AllAt m rs → Every (λ s. NotHost s.event.who) rs → ss ≡ rs ++ more → IsLater t ss → (IsLater t more → FirstIsAfter t more) → FirstIsAfter t ss
at_first t m ss [] more l a n e h f = subst (FirstIsAfter t) (sym e) (f (subst (IsLater t) e h))
at_first t m ss (r ∷ rs) more l a n e h f = let k = a.0 in subst (FirstIsAfter t) (sym e) (late_drive t (moment_of r) r.event.who n.0 (omega (arith, k, l)))

module _ (peek : Option (ℕ × Bool)) where
  -- so what follows a moment at which nothing is overdue comes after it
  comes_after_it : {q q2 : Port} {ss : List Step} → Follows peek q ss q2 → (t : ℕ) → IsInTime t (port_due q) → IsLater t ss → FirstIsAfter t ss
  comes_after_it (alone.ends e) t i h = tt
  comes_after_it (alone.tells j k f) t i h = h
  comes_after_it {q} {q2} {ss} (alone.reacts m more d e sh l f) t i h =
      let soon : t ≤ m = subst (IsInTime t) d i in
      at_first t m ss (reaction_steps m peek q) more soon (reaction_at m peek q) (own_drives q.party.device (reaction_changes m peek q) (reaction_act peek q)) e h
      (λ (g : IsLater t more). comes_after_it f t (in_time_le t m (port_due (reacted m peek q)) soon (side_later _ q.party.reaction m q.others peek q.side d)) g)

-- what counts there counts for this drive
abbrev pub IsSolo : ℕ → Mark → Type 0
IsSolo d Plain = Unit {0}
IsSolo d (ForEach act) = Unit {0}
IsSolo d (For o act) = nat_eq d o ≡ true

counts_so : (d : ℕ) (mark : Mark) (told : Option Act) → IsSolo d mark → Counts mark told → CountsFor d mark told
counts_so d Plain told s c = c
counts_so d (ForEach act) told s c = c
counts_so d (For o act) told s c = c ∙ sym (ap (λ (v : Bool). if v then Some act else None) s)

solo_right : (d : ℕ) (xs ys : List Step) → Every (λ s. IsSolo d s.mark) (xs ++ ys) → Every (λ s. IsSolo d s.mark) ys
solo_right d [] ys a = a
solo_right d (x ∷ xs) ys a = solo_right d xs ys a.1

module _ (peek : Option (ℕ × Bool)) where
  pub alone_among : {q q2 : Port} {ss : List Step} → Follows peek q ss q2 → Every (λ s. IsSolo q.party.device s.mark) ss → FollowsAmong peek (quiet q.others) q ss (quiet q2.others) q2
  alone_among (alone.ends e) a = ends (ap (λ (x : Port). quiet x.others) e) e
  alone_among {q} (alone.tells {t} {line} {way} {mark} i k f) a = tells i (counts_so q.party.device mark _ a.0 k) (alone_among f a.1)
  alone_among {q} (alone.reacts m more d e sh l f) a =
      let rest = solo_right q.party.device (reaction_steps m peek q) more (subst (Every (λ s. IsSolo q.party.device s.mark)) e a) in
      reacts m more d e sh (comes_after_it peek f m (side_later _ q.party.reaction m q.others peek q.side d) l) (alone_among f rest)
