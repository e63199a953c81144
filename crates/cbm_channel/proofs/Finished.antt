-- CLOSE of what a channel writes, beside the machine's.
use Rattle.std.proofs.Common.{◌≡◌, ◌≢◌, ℕ, ◌+◌, Bool, true, false, List, refl, sym, ap, ◌∙◌, subst, inl, inr}
use Rattle.std.specs.Prelude.{Option, Some, None, Result, Ok, Err, OnOk, OnErr}
use Rattle.cbm_medium.specs.declared.fault.Trouble.{Trouble}
use Rattle.std.proofs.lemmas.Bool.{eq-eqb}
use Rattle.std.proofs.lemmas.Bool.Decides.{eqb_tells}
use Rattle.std.proofs.lemmas.List.{get_or-set_other}
use Rattle.cbm_file.specs.Files.{File, Disk, file_at}
use Rattle.cbm_file.specs.Changes.{finished, finished_in, with_finished, replaced_in, with_replaced}
use Rattle.cbm_medium.specs.Content.{Content}
use Rattle.cbm_bam.specs.Map.{geometry_of}
use Rattle.cbm_volume.specs.Writers.{Filling, Use, Idle, Writes, IsWriting, IsUsed, HoldsNow, with_use, known, IsEither, Stopped, needs_block, one_block_less}
use Rattle.cbm_machine.specs.Machines as machine
use Rattle.cbm_machine.specs.Machines.{Machine}
use Rattle.cbm_machine.specs.Orderly.{IsOrderly, channel_in, still_uses, still_writes}
use Rattle.cbm_machine.specs.Closing.{finish_slot, finish_channel}
use Rattle.cbm_channel.specs.declared.channel.Channel.{Channel}
use Rattle.cbm_channel.specs.Standing.{ChannelStands}
use Rattle.cbm_channel.specs.Written.{is_unbegun, disk_closed, disk_put, finds_none}
use Rattle.cbm_channel.proofs.BytesPut.{IsNotWritten, of_others_by}
use Rattle.cbm_channel.proofs.Stands.{let_go_now}

-- a channel that isn't written
pub unbegun_none : (k : Channel) (x : machine.Channel) → IsNotWritten k → ChannelStands k x → is_unbegun x ≡ false
unbegun_none k x none h = of_others_by (λ y. is_unbegun y ≡ false) k x none h refl (λ slot left. refl) (λ slot. refl) (λ slot number position. refl)

pub closed_none : (d : Disk) (k : Channel) (x : machine.Channel) → IsNotWritten k → ChannelStands k x → disk_closed d x ≡ d
closed_none d k x none h = of_others_by (λ y. disk_closed d y ≡ d) k x none h refl (λ slot left. refl) (λ slot. refl) (λ slot number position. refl)

pub let_go_none : (t : ℕ) (c : Content) (d : Disk) (uses : ℕ → Use) (ch : ℕ) (k : Channel) (x : machine.Channel) → IsNotWritten k → ChannelStands k x → HoldsNow t c d uses → HoldsNow t c (disk_closed d x) (with_use uses ch Idle)
let_go_none t c d uses ch k x none stands h = subst (λ y. HoldsNow t c y (with_use uses ch Idle)) (sym (closed_none d k x none stands)) (let_go_now t c d uses ch h)

-- ---- the disk that CLOSE leaves

plain_slot : (o : Option File) (d : Disk) (slot blocks : ℕ) (bytes : List ℕ) (full : Bool) → finish_slot o slot bytes blocks full false d ≡ finished_in o d slot bytes blocks
plain_slot None d slot blocks bytes full = refl
plain_slot (Some f) d slot blocks bytes full = refl

replaced_slot : (o : Option File) (d : Disk) (slot blocks : ℕ) (bytes : List ℕ) → finish_slot o slot bytes blocks false true d ≡ replaced_in o d slot bytes blocks
replaced_slot None d slot blocks bytes = refl
replaced_slot (Some f) d slot blocks bytes = refl

pub closed_plain : (d : Disk) (slot blocks : ℕ) (bytes : List ℕ) (full replaces : Bool) (x : machine.Channel) → x ≡ machine.Writing slot bytes blocks full replaces → replaces ≡ false → disk_closed d x ≡ with_finished d slot bytes blocks
closed_plain d slot blocks bytes full replaces x e f =
    ap (disk_closed d) (e ∙ ap (machine.Writing slot bytes blocks full) f) ∙ plain_slot (file_at d slot) d slot blocks bytes full

pub closed_replaced : (d : Disk) (slot blocks : ℕ) (bytes : List ℕ) (full replaces : Bool) (x : machine.Channel) → x ≡ machine.Writing slot bytes blocks full replaces → full ≡ false → replaces ≡ true
    → disk_closed d x ≡ with_replaced d slot bytes blocks
closed_replaced d slot blocks bytes full replaces x e f r =
    ap (disk_closed d) (e ∙ (λ i. machine.Writing slot bytes blocks (f i) (r i))) ∙ replaced_slot (file_at d slot) d slot blocks bytes

-- the slot that is written has a file
slot_there : (t : ℕ) (c : Content) (d : Disk) (uses : ℕ → Use) (ch : ℕ) (w : Filling) (bytes : List ℕ) (blocks : ℕ) → HoldsNow t c d uses → uses ch ≡ Writes w bytes blocks → (f : File) × (file_at d w.slot ≡ Some f)
slot_there t c d uses ch w bytes blocks h e =
    let k : IsWriting (geometry_of t c) c h.layout d ch w bytes blocks = subst (λ (u : Use). IsUsed (geometry_of t c) c h.layout d ch u) e (h.so.each ch) in
    (k.file, k.in_slot)

pub closed_given : (t : ℕ) (c : Content) (d : Disk) (uses : ℕ → Use) (ch : ℕ) (w : Filling) (bytes : List ℕ) (blocks : ℕ) (full : Bool) (x : machine.Channel) → HoldsNow t c d uses → uses ch ≡ Writes w bytes blocks
    → x ≡ machine.Writing w.slot bytes blocks full w.replaces → full ≡ true → w.replaces ≡ true → disk_closed d x ≡ record d { free = d.free + blocks }
closed_given t c d uses ch w bytes blocks full x h at e f r =
    let there = slot_there t c d uses ch w bytes blocks h at in
    ap (disk_closed d) (e ∙ (λ i. machine.Writing w.slot bytes blocks (f i) (r i))) ∙ ap (λ o. finish_slot o w.slot bytes blocks true true d) there.1

-- the same disk by another name
pub ok_to : (t : ℕ) (c : Content) (after after' : Disk) (uses : ℕ → Use) (ch : ℕ) (r : Result (Unit {0}) Trouble) → after' ≡ after → OnOk r (HoldsNow t c after (with_use uses ch Idle)) → OnOk r (HoldsNow t c after' (with_use uses ch Idle))
ok_to t c after after' uses ch r e h = subst (λ y. OnOk r (HoldsNow t c y (with_use uses ch Idle))) (sym e) h

pub err_to : (t : ℕ) (c : Content) (before after after' : Disk) (uses : ℕ → Use) (ch : ℕ) (r : Result (Unit {0}) Trouble) → after' ≡ after → OnErr r (Stopped t c before after (with_use uses ch Idle))
    → OnErr r (Stopped t c before after' (with_use uses ch Idle))
err_to t c before after after' uses ch r e h = subst (λ y. OnErr r (Stopped t c before y (with_use uses ch Idle))) (sym e) h

-- a stop before anything was changed
pub stopped_early : (t : ℕ) (c : Content) (before after : Disk) (uses : ℕ → Use) (r : Result (Unit {0}) Trouble) → OnErr r (Stopped t c before before uses) → OnErr r (Stopped t c before after uses)
stopped_early t c before after uses (Ok a) s = tt
stopped_early t c before after uses (Err e) s = record {
  disk = s.disk;
  holds = s.holds;
  either = λ n. elim (s.either n) [ inl k ↦ inl k | inr k ↦ inl k ];
  total = s.total;
}

-- what holds anyway holds where a call is refused
pub on_err : {A E : Type 0} (r : Result A E) (P : Type 0) → P → OnErr r P
on_err (Ok a) P h = tt
on_err (Err e) P h = h

-- ---- what the other channels have open stays

finished_else : (o : Option File) (d : Disk) (slot n blocks : ℕ) (bytes : List ℕ) (full replaces : Bool) → n ≢ slot → file_at (finish_slot o slot bytes blocks full replaces d) n ≡ file_at d n
finished_else None d slot n blocks bytes full replaces ne = refl
finished_else (Some f) d slot n blocks bytes true true ne = refl
finished_else (Some f) d slot n blocks bytes false true ne = get_or-set_other d.slots slot n (Some (finished f bytes blocks)) None ne
finished_else (Some f) d slot n blocks bytes full false ne = get_or-set_other d.slots slot n (Some (finished f bytes blocks)) None ne

pub closed_else : (d : Disk) (protected : Bool) (channels : List machine.Channel) (ch : ℕ) (x : machine.Channel) → IsOrderly d protected channels → channel_in channels ch ≡ x
    → (k slot : ℕ) → k ≢ ch → still_uses slot (channel_in channels k) ≡ true → file_at (disk_closed d x) slot ≡ file_at d slot
closed_else d protected channels ch machine.Closed o e k slot ne h = refl
closed_else d protected channels ch (machine.Reading s left) o e k slot ne h = refl
closed_else d protected channels ch (machine.Stopped s) o e k slot ne h = refl
closed_else d protected channels ch (machine.Relative s n p) o e k slot ne h = refl
closed_else d protected channels ch (machine.Writing s bytes blocks full replaces) o e k slot ne h = elim (eqb_tells slot s) [
  | inl same ↦ absurd (ne (sym (o.alone ch k slot (ap (still_writes slot) e ∙ eq-eqb s slot (sym same.1)) h)))
  | inr other ↦ finished_else (file_at d s) d s slot blocks bytes full replaces other.1
]

-- the disk is one of a stop
pub stop_else : (before after now : Disk) (slot : ℕ) → IsEither before after now slot → file_at after slot ≡ file_at before slot → known (file_at now slot) ≡ known (file_at before slot)
stop_else before after now slot (inl e) same = e
stop_else before after now slot (inr e) same = e ∙ ap known same

-- a byte changes no slot
pub put_else : (d : Disk) (x : machine.Channel) (slot : ℕ) → file_at (disk_put d x) slot ≡ file_at d slot
put_else d machine.Closed slot = refl
put_else d (machine.Reading s left) slot = refl
put_else d (machine.Stopped s) slot = refl
put_else d (machine.Relative s k p) slot = refl
put_else d (machine.Writing s bytes blocks true replaces) slot = refl
put_else d (machine.Writing s bytes blocks false replaces) slot = by_none (finds_none d (machine.Writing s bytes blocks false replaces)) refl
  where
    x : machine.Channel
    x = machine.Writing s bytes blocks false replaces

    less : (b : Bool) → file_at (one_block_less b d) slot ≡ file_at d slot
    less true = refl
    less false = refl

    by_none : (b : Bool) → finds_none d x ≡ b → file_at (disk_put d x) slot ≡ file_at d slot
    by_none true e = rw e refl
    by_none false e = rw e (less (needs_block bytes blocks))

-- CLOSE of a channel in these words
pub finish_law : (ch : ℕ) (m : Machine) (x : machine.Channel) → machine.channel m ch ≡ x → finish_channel ch m ≡ machine.with_channel ch machine.Closed (machine.with_disk (disk_closed m.disk x) m)
finish_law ch m machine.Closed e = rw e refl
finish_law ch m (machine.Reading s left) e = rw e refl
finish_law ch m (machine.Stopped s) e = rw e refl
finish_law ch m (machine.Relative s k p) e = rw e refl
finish_law ch m (machine.Writing s bytes blocks full replaces) e = rw e refl
