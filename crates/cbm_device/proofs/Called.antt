-- Acts that a drive is told by a call, and what it says, seen from above: as other acts, and of the machine that a desk represents.
use Rattle.std.proofs.Common.{◌≡◌, ◌∙◌, ◌+◌, ℕ, zero, suc, Bool, true, false, List, [], ◌∷◌, Option, Some, None, Result, Ok, Err, IfOk, OnOk, ap, refl, subst, sym, if◌then◌else◌}
use Rattle.cbm_iec.specs.declared.machine.Act.{Act}
use Rattle.cbm_iec.specs.declared.machine.Act.TheVariants.{Said}
use Rattle.cbm_iec.specs.Attentions.{talk, untalk, data_on}
use Rattle.cbm_channel.specs.Standing.{Kept}
use Rattle.cbm_machine.specs.Machines.{Machine}
use Rattle.cbm_drive.specs.Desks.{Desk, DeskStands, desk_step, desk_says}
use Rattle.cbm_device.specs.declared.calls.CalledAct.{CalledAct}
use Rattle.cbm_device.specs.Devices.{OnLines}
use Rattle.cbm_device.specs.Channels.{by_call, HasBeenTold, HasTalked, attention_acts, leaving_acts, IsToldAll, Speaks, full, silent, last, more, Talks, DeskIsTold, DeskShows, DeskSaid, desk_after, said_after, desk_speaks, desk_talks}
use Rattle.cbm_device.specs.ImageDisks.{Counted, counted_seen}

-- what follows where a call went well
pub on_ok : {A E P Q : Type 0} (r : Result A E) → (P → Q) → OnOk r P → OnOk r Q
on_ok (Ok v) f p = f p
on_ok (Err e) f p = p

pub if_ok : {A E : Type 0} {P Q : A → Type 0} (r : Result A E) → ((a : A) → P a → Q a) → IfOk r P → IfOk r Q
if_ok (Ok v) f p = f v p
if_ok (Err e) f p = p

module _ {D : Type 0} (tells others : Act → D → D → Type 0) (turns : (act : Act) (x y : D) → tells act x y → others act x y) where
  -- acts told one way are told another way
  pub told_as : (acts : List Act) (x y : D) → IsToldAll tells acts x y → IsToldAll others acts x y
  told_as [] x y e = e
  told_as (act ∷ acts) x y t = (t.0, turns act x t.0 t.1, told_as acts t.0 y t.2)

  module _ (is_shown shown_as : D → Option (ℕ × Bool) → Type 0) (shows : (x : D) (o : Option (ℕ × Bool)) → is_shown x o → shown_as x o) where
    -- what is said one way is said another way
    pub spoken_as : (n : ℕ) (bytes : List ℕ) (marked : Bool) (x y : D) → Speaks tells is_shown n bytes marked x y → Speaks others shown_as n bytes marked x y
    spoken_as n bytes marked x y (full e b m s) = full e b m s
    spoken_as n bytes marked x y (silent o b m s) = silent (shows x None o) b m s
    spoken_as n bytes marked x y (last k byte e o t b m) = last k byte e (shows x (Some (byte, true)) o) (turns (Said byte true) x y t) b m
    spoken_as n bytes marked x y (more k byte rest z e o t b s) =
        more k byte rest z e (shows x (Some (byte, false)) o) (turns (Said byte false) x z t) b (spoken_as k rest marked z y s)

    pub talks_as : (device channel most : ℕ) (bytes : List ℕ) (marked : Bool) (x y : D) → Talks tells is_shown device channel most bytes marked x y → Talks others shown_as device channel most bytes marked x y
    talks_as device channel most bytes marked x y t = record {
      asked = t.asked;
      spoken = t.spoken;
      begins = told_as (attention_acts (talk + device) (data_on + channel)) x t.asked t.begins;
      speaks = spoken_as most bytes marked t.asked t.spoken t.speaks;
      ends = told_as (leaving_acts untalk) t.spoken y t.ends;
    }

-- ---- the machine that a desk represents

-- acts lead it on
pub desk_led : (acts : List Act) (x y : Desk (Kept Counted)) → IsToldAll DeskIsTold acts x y → (m : Desk Machine) → DeskStands counted_seen x m → DeskStands counted_seen y (desk_after acts m)
desk_led [] x y e m s = subst (λ w. DeskStands counted_seen w m) (sym e) s
desk_led (act ∷ acts) x y t m s = desk_led acts t.0 y t.2 (desk_step m act) (t.1.stands m s)

-- these bytes are what it said, and the desk represents what it is then
pub record IsSaidSo (items : List ℕ) (mark : Bool) (y : Desk (Kept Counted)) (said : DeskSaid) : Type 0 where
  pub same_bytes : items ≡ said.bytes
  pub same_mark : mark ≡ said.marked
  pub stands : DeskStands counted_seen y said.machine

-- by the byte that it has to say
abbrev said_from : Option (ℕ × Bool) → ℕ → Desk Machine → DeskSaid
said_from o n m = elim o [
  | None ↦ record { bytes = []; marked = false; machine = m }
  | Some p ↦
      if p.1 then record { bytes = p.0 ∷ []; marked = true; machine = desk_step m (Said p.0 true) }
      else said_after p.0 (desk_speaks n (desk_step m (Said p.0 false)))
]

none_said : (n : ℕ) (m : Desk Machine) → desk_says m ≡ None → desk_speaks n m ≡ record { bytes = []; marked = false; machine = m }
none_said zero m e = refl
none_said (suc n) m e = ap (λ o. said_from o n m) e

pub desk_spoken : (n : ℕ) (bytes : List ℕ) (marked : Bool) (x y : Desk (Kept Counted)) → Speaks DeskIsTold DeskShows n bytes marked x y
    → (m : Desk Machine) → DeskStands counted_seen x m → IsSaidSo bytes marked y (desk_speaks n m)
desk_spoken n bytes marked x y (full e b mk same) m s =
    subst (λ (k : ℕ). IsSaidSo bytes marked y (desk_speaks k m)) (sym e) (record { same_bytes = b; same_mark = mk; stands = subst (λ w. DeskStands counted_seen w m) (sym same) s })
desk_spoken n bytes marked x y (silent o b mk same) m s =
    subst (λ (d : DeskSaid). IsSaidSo bytes marked y d) (sym (none_said n m (sym (o.1 m s))))
    (record { same_bytes = b; same_mark = mk; stands = subst (λ w. DeskStands counted_seen w m) (sym same) s })
desk_spoken n bytes marked x y (last k byte e o t b mk) m s =
    subst (λ (j : ℕ). IsSaidSo bytes marked y (desk_speaks j m)) (sym e)
    (subst (λ (p : Option (ℕ × Bool)). IsSaidSo bytes marked y (said_from p k m)) (o.1 m s)
    (record { same_bytes = b; same_mark = mk; stands = t.stands m s }))
desk_spoken n bytes marked x y (more k byte rest z e o t b so) m s =
    let after = desk_spoken k rest marked z y so (desk_step m (Said byte false)) (t.stands m s) in
    subst (λ (j : ℕ). IsSaidSo bytes marked y (desk_speaks j m)) (sym e)
    (subst (λ (p : Option (ℕ × Bool)). IsSaidSo bytes marked y (said_from p k m)) (o.1 m s)
    (record { same_bytes = b ∙ ap (λ (l : List ℕ). byte ∷ l) after.same_bytes; same_mark = after.same_mark; stands = after.stands }))

-- it talks on a channel
pub desk_talked : (device channel most : ℕ) (bytes : List ℕ) (marked : Bool) (x y : Desk (Kept Counted)) → Talks DeskIsTold DeskShows device channel most bytes marked x y
    → (m : Desk Machine) → DeskStands counted_seen x m → (let said = desk_talks device channel most m in (bytes ≡ said.bytes) × (marked ≡ said.marked) × DeskStands counted_seen y said.machine)
desk_talked device channel most bytes marked x y t m s =
    let asks = attention_acts (talk + device) (data_on + channel) in
    let said = desk_spoken most bytes marked t.asked t.spoken t.speaks (desk_after asks m) (desk_led asks x t.asked t.begins m s) in (
      said.same_bytes,
      said.same_mark,
      desk_led (leaving_acts untalk) t.spoken y t.ends (desk_speaks most (desk_after asks m)).machine said.stands,
    )

-- ---- a drive on lines

-- an act that it takes is told to it
pub desk_called : (act : Act) (x y : Desk (Kept Counted)) → by_call (λ (a : Act) (called : CalledAct). called.act ≡ a) (λ (called : CalledAct) old new. DeskIsTold called.act old new) act x y → DeskIsTold act x y
desk_called act x y t = subst (λ a. DeskIsTold a x y) t.1 t.2

-- what a call tells a drive of the lines
pub has_been_told : (acts : List Act) (old new : OnLines) → IsToldAll (by_call (λ (a : Act) (called : CalledAct). called.act ≡ a) (λ (called : CalledAct) x y. DeskIsTold called.act x y)) acts old.seat.machine new.seat.machine
    → new.seat.port ≡ old.seat.port → new.kind ≡ old.kind → new.latest ≡ old.latest → HasBeenTold acts old new
has_been_told acts old new t port kind latest =
    let told = told_as (by_call (λ (a : Act) (called : CalledAct). called.act ≡ a) (λ (called : CalledAct) x y. DeskIsTold called.act x y)) DeskIsTold desk_called acts old.seat.machine new.seat.machine t in
    record { machine = told; stands = desk_led acts old.seat.machine new.seat.machine told; port = port; kind = kind; latest = latest }

-- what it says to a call
pub has_talked : (channel most : ℕ) (bytes : List ℕ) (marked : Bool) (old new : OnLines)
    → Talks (by_call (λ (a : Act) (called : CalledAct). called.act ≡ a) (λ (called : CalledAct) x y. DeskIsTold called.act x y)) DeskShows old.seat.port.party.device channel most bytes marked old.seat.machine new.seat.machine
    → new.seat.port ≡ old.seat.port → new.kind ≡ old.kind → new.latest ≡ old.latest → HasTalked channel most bytes marked old new
has_talked channel most bytes marked old new t port kind latest =
    let device = old.seat.port.party.device in
    let talks = talks_as (by_call (λ (a : Act) (called : CalledAct). called.act ≡ a) (λ (called : CalledAct) x y. DeskIsTold called.act x y)) DeskIsTold desk_called DeskShows DeskShows (λ x o s. s)
    device channel most bytes marked old.seat.machine new.seat.machine t in
    record { machine = talks; stands = desk_talked device channel most bytes marked old.seat.machine new.seat.machine talks; port = port; kind = kind; latest = latest }
