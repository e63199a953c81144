use Rattle.std.proofs.Common.{◌≡◌, ◌∙◌, Some, None, Bool, true, false, ℕ, ap, arith, length, refl, subst, sym}
use Rattle.cbm_iec.specs.declared.machine.Act.TheVariants.{Said}
use Rattle.cbm_device.specs.Channels.{by_call, IsPeeked}
use Rattle.cbm_device.proofs.Calling.{speaking_first, speaking_more, said_last, said_silent, said_full, AreSaid}
use Rattle.cbm_device.proofs.calls.take_bytes.Goals as goal

pub loop-count-init : goal.loop-count-init
loop-count-init g c = (refl, speaking_first (by_call g.A.From.from_gives g.D.Takes.takes) (IsPeeked g.D.Machine.shows g.D.Machine.stands g.D.Machine.says) (length c.args.out.now) c.args.out.now c.args.drive.now.machine)

pub loop-count-preserved : goal.loop-count-preserved
loop-count-preserved g c =
    let tells = by_call g.A.From.from_gives g.D.Takes.takes in
    let is_shown = IsPeeked g.D.Machine.shows g.D.Machine.stands g.D.Machine.says in
    let byte = c.in-Some.byte in
    let now = c.loop-count.drive.machine in
    let shown = c.in-Some.is ∙ ap (λ (b : Bool). Some (byte, b)) c.if-marked.false in (
      c.tell.ensures.port ∙ c.loop-count.invariant.0,
      speaking_more tells is_shown (length c.args.out.now) c.loop-count.count byte c.args.out.now c.loop-count.out c.args.drive.now.machine now c.tell.new.drive.machine c.loop-count-test.true refl
          c.loop-count.invariant.1 (subst (λ x. is_shown x (Some (byte, false))) c.machine.ensures (subst (λ o. is_shown c.machine.result.now o) shown (c.peek.ensures.shows, c.peek.ensures.says)))
          (subst (λ (b : Bool). tells (Said byte b) now c.tell.new.drive.machine) c.if-marked.false c.tell.ensures.told),
    )

pub returns-in_default-clause-said : goal.returns-in_default-clause-said
returns-in_default-clause-said g c =
    let is_shown = IsPeeked g.D.Machine.shows g.D.Machine.stands g.D.Machine.says in
    said_silent (by_call g.A.From.from_gives g.D.Takes.takes) is_shown (length c.args.out.now) c.loop-count.count c.args.out.now c.loop-count.out c.args.drive.now.machine c.loop-count.drive.machine
    c.loop-count.invariant.1 (subst (λ x. is_shown x None) c.machine.ensures (subst (λ o. is_shown c.machine.result.now o) c.in_default.is (c.peek.ensures.shows, c.peek.ensures.says)))

pub returns-then-marked-clause-said : goal.returns-then-marked-clause-said
returns-then-marked-clause-said g c =
    let tells = by_call g.A.From.from_gives g.D.Takes.takes in
    let is_shown = IsPeeked g.D.Machine.shows g.D.Machine.stands g.D.Machine.says in
    let byte = c.in-Some.byte in
    let now = c.loop-count.drive.machine in
    let shown = c.in-Some.is ∙ ap (λ (b : Bool). Some (byte, b)) c.if-marked.true in
    said_last tells is_shown (length c.args.out.now) c.loop-count.count byte c.args.out.now c.loop-count.out c.args.drive.now.machine now c.tell.new.drive.machine c.loop-count-test.true refl
    c.loop-count.invariant.1 (subst (λ x. is_shown x (Some (byte, true))) c.machine.ensures (subst (λ o. is_shown c.machine.result.now o) shown (c.peek.ensures.shows, c.peek.ensures.says)))
    (subst (λ (b : Bool). tells (Said byte b) now c.tell.new.drive.machine) c.if-marked.true c.tell.ensures.told)

pub returns-clause-said : goal.returns-clause-said
returns-clause-said g c =
    let is_shown = IsPeeked g.D.Machine.shows g.D.Machine.stands g.D.Machine.says in
    let full : c.loop-count.count ≡ length c.args.out.now = omega arith in
    subst (λ (n : ℕ). AreSaid (by_call g.A.From.from_gives g.D.Takes.takes) is_shown (length c.args.out.now) c.args.out.now c.loop-count.out n false c.args.drive.now.machine c.loop-count.drive.machine) full
    (said_full (by_call g.A.From.from_gives g.D.Takes.takes) is_shown (length c.args.out.now) c.loop-count.count c.args.out.now c.loop-count.out c.args.drive.now.machine c.loop-count.drive.machine
    c.loop-count.invariant.1 (sym full))
