-- P on a channel of the code, beside the machine's.
use Rattle.std.proofs.Common.{◌≡◌, ℕ, ◌<◌, ◌≤◌, Bool, true, false, List, Option, refl, sym, ap, ◌∙◌, subst}
use Rattle.std.specs.Prelude.{nat_lt, if◌then◌else◌, is_some}
use Rattle.std.proofs.lemmas.Bool.{lt-ltb, le-ltb}
use Rattle.cbm_file.specs.Files.{Disk, record_length_in}
use Rattle.cbm_medium.specs.Content.{Content}
use Rattle.cbm_volume.specs.Writers.{Use, Relates, HoldsNow, with_use}
use Rattle.cbm_machine.specs.declared.code.Code.{Code}
use Rattle.cbm_machine.specs.declared.code.Code.TheVariants.{Fine, NoRecord, RecordOverflow, WrongType}
use Rattle.cbm_machine.specs.Finding.{body_at}
use Rattle.cbm_machine.specs.Machines as machine
use Rattle.cbm_file.specs.Records.{record_at}
use Rattle.cbm_channel.specs.declared.channel.Channel.{Channel}
use Rattle.cbm_channel.specs.declared.channel.Channel.TheVariants as code
use Rattle.cbm_channel.specs.declared.on_record.Waiting.{Waiting}
use Rattle.cbm_channel.specs.declared.on_record.Waiting.TheVariants as waits
use Rattle.cbm_channel.specs.Moved.{code_placed, placed_on}
use Rattle.cbm_channel.specs.Placed.{Placed, IsOnRecord, IsPlacedAt, record_of, is_absent, is_broken}
use Rattle.cbm_channel.specs.Standing.{ChannelStands, WaitsFor, use_of}
use Rattle.cbm_channel.proofs.OnRecords.{body_there, record_on}
use Rattle.cbm_channel.proofs.Takes.{relative_is}
use Rattle.cbm_channel.proofs.Uses.{with_same}

-- the channel went where the machine's goes
abbrev pub IsWellPlaced : ℕ → Content → Disk → (ℕ → Use) → ℕ → Channel → machine.Channel → ℕ → ℕ → Code → Type 0
IsWellPlaced t c d uses ch new x k p code =
    (code ≡ code_placed k p d x) × ChannelStands new (placed_on k p d x) × WaitsFor d new × HoldsNow t c d (with_use uses ch (use_of new (placed_on k p d x)))

-- it stays
stays_there : (t : ℕ) (c : Content) (d : Disk) (uses : ℕ → Use) (ch k p : ℕ) (x : machine.Channel) (old : Channel) (said : Code) → said ≡ code_placed k p d x → placed_on k p d x ≡ x → HoldsNow t c d uses → uses ch ≡ use_of old x → ChannelStands old x → WaitsFor d old
    → IsWellPlaced t c d uses ch old x k p said
stays_there t c d uses ch k p x old said e same h used stands w = (
  e,
  subst (ChannelStands old) (sym same) stands,
  w,
  subst (λ (y : machine.Channel). HoldsNow t c d (with_use uses ch (use_of old y))) (sym same) (subst (HoldsNow t c d) (sym (with_same uses ch (use_of old x) used)) h),
)

pub place_closed : (t : ℕ) (c : Content) (d : Disk) (uses : ℕ → Use) (ch k p : ℕ) (x : machine.Channel) (old : Channel) (said : Code) → old ≡ code.Closed → said ≡ code_placed k p d machine.Closed → HoldsNow t c d uses → uses ch ≡ use_of old x → ChannelStands old x
    → WaitsFor d old → IsWellPlaced t c d uses ch old x k p said
place_closed t c d uses ch k p x old said is e h used stands w =
    let at : x ≡ machine.Closed = subst (λ (y : Channel). ChannelStands y x) is stands in
    stays_there t c d uses ch k p x old said (e ∙ sym (ap (code_placed k p d) at)) (ap (placed_on k p d) at ∙ sym at) h used stands w

plain_place : (d : Disk) (k p : ℕ) (x : machine.Channel) (old : Channel) → (old ≡ code.Closed → ⊥) → ((r : Placed) → old ≡ code.Records r → ⊥) → ChannelStands old x → (WrongType ≡ code_placed k p d x) × (placed_on k p d x ≡ x)
plain_place d k p x code.Closed no_closed no_records h = absurd (no_closed refl)
plain_place d k p x (code.Listing l) no_closed no_records h = rw h (refl, refl)
plain_place d k p x (code.File s r) no_closed no_records h = rw h.1 (refl, refl)
plain_place d k p x (code.Writing w full) no_closed no_records h = rw h.2 (refl, refl)
plain_place d k p x (code.Stopped s) no_closed no_records h = rw h (refl, refl)
plain_place d k p x (code.Records r) no_closed no_records h = absurd (no_records r refl)

pub place_plain : (t : ℕ) (c : Content) (d : Disk) (uses : ℕ → Use) (ch k p : ℕ) (x : machine.Channel) (old : Channel) → (old ≡ code.Closed → ⊥) → ((r : Placed) → old ≡ code.Records r → ⊥) → HoldsNow t c d uses → uses ch ≡ use_of old x → ChannelStands old x
    → WaitsFor d old → IsWellPlaced t c d uses ch old x k p WrongType
place_plain t c d uses ch k p x old no_closed no_records h used stands w =
    let law = plain_place d k p x old no_closed no_records stands in
    stays_there t c d uses ch k p x old WrongType law.0 law.1 h used stands w

width_of : (d : Disk) (r : Placed) → IsOnRecord d r → record_length_in (body_at d r.slot) ≡ r.width
width_of d r on = ap record_length_in (body_there d r.slot on.file on.in_slot ∙ on.body)

-- the place lies after the record's end
pub place_beyond : (t : ℕ) (c : Content) (d : Disk) (uses : ℕ → Use) (ch k p : ℕ) (x : machine.Channel) (old : Channel) (r : Placed) → old ≡ code.Records r → r.width < p → HoldsNow t c d uses → uses ch ≡ use_of old x → ChannelStands old x → WaitsFor d old
    → IsWellPlaced t c d uses ch (code.Records r) x k p RecordOverflow
place_beyond t c d uses ch k p x old r is far h used stands w =
    let on : IsOnRecord d r = subst (WaitsFor d) is w in
    let at = relative_is old r x is stands in
    let afterwards : nat_lt (record_length_in (body_at d r.slot)) p ≡ true = ap (λ (n : ℕ). nat_lt n p) (width_of d r on) ∙ lt-ltb r.width p far in
    subst (λ (y : Channel). IsWellPlaced t c d uses ch y x k p RecordOverflow) is (stays_there t c d uses ch k p x old RecordOverflow
    (sym (ap (code_placed k p d) at ∙ ap (λ (b : Bool). if b then RecordOverflow else if is_some (record_at (body_at d r.slot) k) then Fine else NoRecord) afterwards))
    (ap (placed_on k p d) at ∙ ap (λ (b : Bool). if b then machine.Relative r.slot r.number r.position else machine.Relative r.slot k p) afterwards ∙ sym at) h used stands w)

said_there : (w : Waiting) (b : Bool) → is_broken w ≡ false → is_absent w ≡ b → (if b then NoRecord else Fine) ≡ (if is_some (record_of w) then Fine else NoRecord)
said_there (waits.Record r) b whole e = ap (λ (a : Bool). if a then NoRecord else Fine) (sym e)
said_there waits.Absent b whole e = ap (λ (a : Bool). if a then NoRecord else Fine) (sym e)
said_there waits.Broken b whole e = absurd (cc)

-- the place is reached
pub place_reached : (t : ℕ) (c : Content) (d : Disk) (uses : ℕ → Use) (ch k p : ℕ) (x : machine.Channel) (old : Channel) (r s : Placed) (b : Bool) → old ≡ code.Records r → p ≤ r.width → IsPlacedAt r s k p → IsOnRecord d s → is_absent s.waiting ≡ b → HoldsNow t c d uses
    → uses ch ≡ use_of old x → ChannelStands old x → WaitsFor d old → IsWellPlaced t c d uses ch (code.Records s) x k p (if b then NoRecord else Fine)
place_reached t c d uses ch k p x old r s b is near at now there h used stands w =
    let on : IsOnRecord d r = subst (WaitsFor d) is w in
    let was = relative_is old r x is stands in
    let within : nat_lt (record_length_in (body_at d r.slot)) p ≡ false = ap (λ (n : ℕ). nat_lt n p) (width_of d r on) ∙ le-ltb r.width p near in
    let same : record_at (body_at d r.slot) k ≡ record_of s.waiting = (λ i. record_at (body_at d (sym at.same_slot i)) (sym at.at_number i)) ∙ record_on d s now in
    let next : placed_on k p d x ≡ machine.Relative s.slot s.number s.position =
    ap (placed_on k p d) was ∙ ap (λ (y : Bool). if y then machine.Relative r.slot r.number r.position else machine.Relative r.slot k p) within ∙ (λ i. machine.Relative (sym at.same_slot i) (sym at.at_number i) (sym at.at_position i)) in (
      said_there s.waiting b now.waits.whole there
          ∙ sym (ap (code_placed k p d) was ∙ ap (λ (y : Bool). if y then RecordOverflow else if is_some (record_at (body_at d r.slot) k) then Fine else NoRecord) within ∙ ap (λ (o : Option (List ℕ)). if is_some o then Fine else NoRecord) same),
      next,
      now,
      (let now_used : uses ch ≡ Relates s.slot = used ∙ ap (λ (y : Channel). use_of y x) is ∙ ap Relates (sym at.same_slot) in subst (HoldsNow t c d) (sym (with_same uses ch (Relates s.slot) now_used)) h),
    )
