use Rattle.std.proofs.Common.{◌≡◌, ◌+◌, refl, subst, ◌∙◌, arith}
use Rattle.std.specs.Prelude.{MatchBool}
use Rattle.cbm_shell.specs.Editing.{HasNoSlot}
use Rattle.cbm_shell.specs.Locking.{LocksSlot}
use Rattle.cbm_shell.proofs.LockLemmas.{slots_begin, slots_on, lock_slots}
use Rattle.cbm_shell.proofs.changing.locking.lock_matching.Goals as goal

pub slots-init : goal.slots-init
slots-init g c = (slots_begin c.args.is_locked c.args.geometry c.args.pattern.now (g.M.Medium.seen c.args.medium.now).content, record { tracks = refl; protected = refl; outside = refl }, omega arith)

pub returns-in_err-lock_slot-clause-never : goal.returns-in_err-lock_slot-clause-never
returns-in_err-lock_slot-clause-never g c = λ can.
    let old = g.M.Medium.seen c.args.medium.now in
    let now = g.M.Medium.seen c.slots.medium in
    let s = lock_slots c.args.is_locked c.args.geometry c.args.pattern.now c.slots.number old.content now.content can.layout can.sound c.slots.invariant.0 in
    let bad = c.in_err-lock_slot.ensures.never (record { layout = s.layout; sound = s.sound; free = c.slots.invariant.1.protected ∙ can.free }) in absurd (cc)

pub slots-preserved : goal.slots-preserved
slots-preserved g c =
    let old = g.M.Medium.seen c.args.medium.now in
    let now = g.M.Medium.seen c.slots.medium in
    let next = g.M.Medium.seen c.lock_slot.new.medium in
    let step = subst (λ b. MatchBool b (LocksSlot c.args.is_locked c.args.geometry c.args.pattern.now c.slots.number now.content next.content) (HasNoSlot c.args.geometry now.content c.slots.number × (next.content ≡ now.content)))
    c.if-branch.true c.in_ok-lock_slot.ensures.locks in
    let below = c.in_ok-lock_slot.ensures.few c.if-branch.true in
    let m = c.slots.invariant.1 in (
      slots_on c.args.is_locked c.args.geometry c.args.pattern.now c.slots.number (c.slots.number + 1) old.content now.content next.content (omega arith) c.slots.invariant.0 step,
      record { tracks = c.lock_slot.ensures.same.tracks ∙ m.tracks; protected = c.lock_slot.ensures.same.protected ∙ m.protected; outside = c.lock_slot.ensures.same.outside ∙ m.outside },
      omega arith,
    )
