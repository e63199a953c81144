-- A reaction of one drive under two hosts whose lines are alike where it heeds them.
use Rattle.std.proofs.Common.{◌≡◌, ℕ, zero, suc, ◌+◌, Bool, true, false, Option, Some, None, ap, sym, ◌∙◌, subst, refl, ◌⊎◌, inl, inr}
use Rattle.std.specs.Prelude.{if◌then◌else◌, ◌||◌, ◌==◌, ◌%◌, nat_le}
use Rattle.cbm_iec.specs.Hearing.{after_hold, after_start, after_ready, gathering, heard_act}
use Rattle.cbm_iec.specs.Ports.{side_role, side_after, side_act}
use Rattle.cbm_iec.specs.Roles.{role_after}
use Rattle.cbm_iec.specs.Speaking.{end_frame_row, set_bit_row, show_bit_row, after_lead, after_wait}
use Rattle.cbm_iec.specs.Table.{TableRow}
use Rattle.cbm_iec.specs.declared.machine.Act.TheVariants.{Said}
use Rattle.cbm_iec.specs.declared.machine.Act.{Act}
use Rattle.cbm_iec.specs.declared.ear.Ear.TheVariants.{Idle, Await, Starting, Leaving, Returning, Holding, Freeing, Ready, Timed, Pulsing, EoiNoted, Gathering, Accepting}
use Rattle.cbm_iec.specs.declared.ear.Ear.{Ear}
use Rattle.cbm_iec.specs.declared.lines.Lines.{Lines}
use Rattle.cbm_iec.specs.declared.mouth.Mouth.TheVariants.{Turned, Answering, Mute, Led, Offering, EoiOffered, EoiPulsed, Sending, Waiting, Ending, Over}
use Rattle.cbm_iec.specs.declared.mouth.Mouth.{Mouth}
use Rattle.cbm_iec.specs.declared.pace.Pace.TheVariants.{Profile, Kernal}
use Rattle.cbm_iec.specs.declared.pace.Pace.{Pace}
use Rattle.cbm_iec.specs.declared.party.Role.{Role}
use Rattle.cbm_iec.specs.declared.port.Side.TheVariants.{Hearing, Speaking}
use Rattle.cbm_iec.specs.declared.port.Side.{Side}
use Rattle.cbm_session.proofs.loose.Sides.{Sees, WaitAlike, same, early}
use Rattle.cbm_session.proofs.loose.Wires.{on_wires, or_true, or_right, clocks_heard, datas_heard}
use Rattle.cbm_session.specs.Among.{some}
use Rattle.cbm_session.specs.Loosely.{CallsAlike, HeedsAlike}

-- the answer to ATN's pull: where the host hasn't pulled CLOCK yet, and the tidy one has, the drive waits for it
started : (e : Pace) (r m n d d2 : ℕ) (h k : Lines) → CallsAlike e n h k → WaitAlike (Hearing (after_start e r m (some n || h.clock_low))) (Hearing (after_start e r m (some n || k.clock_low)))
started e r m n d d2 h k (inl c) = same (ap (λ (v : Bool). Hearing (after_start e r m (some n || v))) (sym c))
started e r m n d d2 h k (inr c) =
    early
    (ap (λ (p : Pace). Hearing (after_start p r m (some n || h.clock_low))) c.0 ∙ ap (λ (v : ℕ). Hearing (after_start Kernal r m (some v || h.clock_low))) c.1 ∙ ap (λ (v : Bool). Hearing (after_start Kernal r m v)) c.2)
    (ap (λ (p : Pace). Hearing (after_start p r m (some n || k.clock_low))) c.0 ∙ ap (λ (v : Bool). Hearing (after_start Kernal r m v)) (or_true (some n) k.clock_low c.3))

half_alike : (e : Pace) (r m : ℕ) (u u2 : Lines) (byte : ℕ) (last : Bool) (left half : ℕ) → u.data_low ≡ u2.data_low
    → (side_after e r m u2 None (Speaking (Sending m byte last left half)) ≡ side_after e r m u None (Speaking (Sending m byte last left half)))
half_alike e r m u u2 byte last left half h = go (nat_le 16 half) ((half % 2) == 0)
  where
    row : Bool → Bool → TableRow Mouth
    row v w = if v then end_frame_row byte last else (if w then set_bit_row e byte last left half else show_bit_row e byte last left half)

    go : (v w : Bool) → Speaking ((row v w).next r m u2) ≡ Speaking ((row v w).next r m u)
    go true w = ap (λ (x : Bool). Speaking (after_wait r m x byte last)) (sym h)
    go false true = refl
    go false false = refl

-- WHAT A DRIVE WAITS FOR AFTER ITS REACTION is alike
pub after_alike : (e : Pace) (r m n d : ℕ) (h k : Lines) (p : Option (ℕ × Bool)) (side : Side) → HeedsAlike e n h k side side → Sees side (on_wires n d h).clock_low
    → WaitAlike (side_after e r m (on_wires n d h) p side) (side_after e r m (on_wires n d k) p side)
after_alike e r m n d h k p (Hearing (Starting at_)) a s = started e r m n d d h k a
after_alike e r m n d h k p (Hearing (Returning at_)) a s = same (ap (λ (v : Bool). Hearing (after_hold r m v)) (sym (clocks_heard n h k a.0)))
after_alike e r m n d h k p (Hearing (Freeing at_)) a s = same (ap (λ (v : Bool). Hearing (after_ready r m v)) (sym (datas_heard d h k (a.1 (or_right (some n) h.clock_low s)))))
after_alike e r m n d h k p (Hearing (Pulsing at_)) a s = same (ap (λ (v : Bool). Hearing (if v then gathering true else EoiNoted)) (sym (clocks_heard n h k a.0)))
after_alike e r m n d h k p (Hearing (Accepting at_ eoi byte)) a s = same (ap (λ (v : Bool). Hearing (after_hold r m v)) (sym (clocks_heard n h k a.0)))
after_alike e r m n d h k p (Hearing (Leaving at_)) a s = same refl
after_alike e r m n d h k p (Hearing (Timed at_)) a s = same refl
after_alike e r m n d h k p (Hearing Idle) a s = same refl
after_alike e r m n d h k p (Hearing Await) a s = same refl
after_alike e r m n d h k p (Hearing Holding) a s = same refl
after_alike e r m n d h k p (Hearing Ready) a s = same refl
after_alike e r m n d h k p (Hearing EoiNoted) a s = same refl
after_alike e r m n d h k p (Hearing (Gathering eoi count byte)) a s = same refl
after_alike Profile r m n d h k None (Speaking (Answering at_)) a s = same refl
after_alike Profile r m n d h k (Some x) (Speaking (Answering at_)) a s = same refl
after_alike Kernal r m n d h k None (Speaking (Answering at_)) a s = same refl
after_alike Kernal r m n d h k (Some x) (Speaking (Answering at_)) a s = same refl
after_alike e r m n d h k None (Speaking (Led at_)) a s = same refl
after_alike e r m n d h k (Some x) (Speaking (Led at_)) a s = same (ap (λ (v : Bool). Speaking (after_lead r m v (Some x))) (sym (datas_heard d h k a)))
after_alike e r m n d h k p (Speaking (Sending at_ byte last left half)) a s = same (half_alike e r m (on_wires n d h) (on_wires n d k) byte last left half (datas_heard d h k a))
after_alike e r m n d h k p (Speaking mouth) a s = same refl

-- and so is the act that counts with it
pub act_alike : (e : Pace) (n d : ℕ) (h k : Lines) (p : Option (ℕ × Bool)) (side : Side) → k.atn_low ≡ h.atn_low → HeedsAlike e n h k side side → side_act e p (on_wires n d k) side ≡ side_act e p (on_wires n d h) side
act_alike e n d h k p (Hearing (Accepting at_ eoi byte)) t a = ap (λ (v : Bool). Some (heard_act v byte eoi)) t
act_alike e n d h k p (Hearing ear) t a = refl
act_alike Profile n d h k None (Speaking (Answering at_)) t a = refl
act_alike Profile n d h k (Some x) (Speaking (Answering at_)) t a = refl
act_alike Kernal n d h k None (Speaking (Answering at_)) t a = refl
act_alike Kernal n d h k (Some x) (Speaking (Answering at_)) t a = refl
act_alike e n d h k p (Speaking (Sending at_ byte last left half)) t a = go (nat_le 16 half) ((half % 2) == 0)
  where
    row : Bool → Bool → TableRow Mouth
    row v w = if v then end_frame_row byte last else (if w then set_bit_row e byte last left half else show_bit_row e byte last left half)

    go : (v w : Bool) → (row v w).act (on_wires n d k) ≡ (row v w).act (on_wires n d h)
    go true w = ap (λ (x : Bool). if x then Some (Said byte last) else None) (sym (datas_heard d h k a))
    go false true = refl
    go false false = refl
act_alike e n d h k p (Speaking mouth) t a = refl

pub role_alike : (device : ℕ) (v w : Bool) (role : Role) (side : Side) → v ≡ w → side_role device v role side ≡ side_role device w role side
role_alike device v w role side e = ap (λ (x : Bool). side_role device x role side) e
