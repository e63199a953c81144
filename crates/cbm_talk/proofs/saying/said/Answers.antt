use Rattle.std.proofs.Common.{◌≡◌, ◌∙◌, rules, arith, sym, ◌-◌, subst, ◌+◌}
use Rattle.cbm_channel.specs.Standing.{Stands}
use Rattle.cbm_talk.proofs.SayingLemmas.{Sends, sends-start, sends-more, sends-last, sends-none, sends-over}
use Rattle.cbm_talk.proofs.saying.said.Goals as goal

pub bytes-init : goal.bytes-init
bytes-init g c =
    let stands = Stands g.M.Medium.seen in (
      subst (λ t. Sends (stands c.args.dos.now) (stands c.talk.new.self) c.args.most (c.args.most - 0) c.args.channel t) (sym c.new-bytes.ensures.items)
          (sends-start (stands c.args.dos.now) (stands c.talk.new.self) c.args.most (c.args.most - 0) c.args.channel c.talk.ensures.leads (omega arith)),
      c.talk.ensures.medium,
    )

pub bytes-preserved : goal.bytes-preserved
bytes-preserved g c =
    let stands = Stands g.M.Medium.seen in (
      sends-more (stands c.args.dos.now) (stands c.bytes.dos) (stands c.taken.new.self) c.args.most (c.args.most - c.bytes.done) _ c.args.channel c.in-Some.byte c.in-Some.is_last
          c.bytes.bytes.items c.push.new.self.items c.bytes.invariant.0 c.in-Some.ensures.next c.if-is_last.false c.taken.ensures.leads (search rules) (omega arith),
      c.taken.ensures.medium ∙ c.bytes.invariant.1,
    )

pub returns-in_default-clause-bytes : goal.returns-in_default-clause-bytes
returns-in_default-clause-bytes g c = λ m s.
    let stands = Stands g.M.Medium.seen in
    (sends-none (stands c.args.dos.now) (stands c.bytes.dos) c.args.most (c.args.most - c.bytes.done) (c.args.most - (c.bytes.done + 1)) c.args.channel c.bytes.bytes.items
    c.bytes.invariant.0 c.in_default.ensures.next (omega arith) m s).bytes

pub returns-in_default-clause-stands : goal.returns-in_default-clause-stands
returns-in_default-clause-stands g c = λ m s.
    let stands = Stands g.M.Medium.seen in
    (sends-none (stands c.args.dos.now) (stands c.bytes.dos) c.args.most (c.args.most - c.bytes.done) (c.args.most - (c.bytes.done + 1)) c.args.channel c.bytes.bytes.items
    c.bytes.invariant.0 c.in_default.ensures.next (omega arith) m s).stands

pub returns-then-is_last-clause-bytes : goal.returns-then-is_last-clause-bytes
returns-then-is_last-clause-bytes g c = λ m s.
    let stands = Stands g.M.Medium.seen in
    (sends-last (stands c.args.dos.now) (stands c.bytes.dos) (stands c.taken.new.self) c.args.most (c.args.most - c.bytes.done) (c.args.most - (c.bytes.done + 1)) c.args.channel c.in-Some.byte
    c.in-Some.is_last c.bytes.bytes.items c.push.new.self.items c.bytes.invariant.0 c.in-Some.ensures.next c.if-is_last.true c.taken.ensures.leads (search rules) (omega arith) m s).bytes

pub returns-then-is_last-clause-stands : goal.returns-then-is_last-clause-stands
returns-then-is_last-clause-stands g c = λ m s.
    let stands = Stands g.M.Medium.seen in
    (sends-last (stands c.args.dos.now) (stands c.bytes.dos) (stands c.taken.new.self) c.args.most (c.args.most - c.bytes.done) (c.args.most - (c.bytes.done + 1)) c.args.channel c.in-Some.byte
    c.in-Some.is_last c.bytes.bytes.items c.push.new.self.items c.bytes.invariant.0 c.in-Some.ensures.next c.if-is_last.true c.taken.ensures.leads (search rules) (omega arith) m s).stands

pub returns-clause-bytes : goal.returns-clause-bytes
returns-clause-bytes g c = λ m s.
    let stands = Stands g.M.Medium.seen in
    (sends-over (stands c.args.dos.now) (stands c.bytes.dos) c.args.most (c.args.most - c.bytes.done) c.args.channel c.bytes.bytes.items c.bytes.invariant.0 (omega arith) m s).bytes

pub returns-clause-stands : goal.returns-clause-stands
returns-clause-stands g c = λ m s.
    let stands = Stands g.M.Medium.seen in
    (sends-over (stands c.args.dos.now) (stands c.bytes.dos) c.args.most (c.args.most - c.bytes.done) c.args.channel c.bytes.bytes.items c.bytes.invariant.0 (omega arith) m s).stands

pub returns-in_default-clause-medium : goal.returns-in_default-clause-medium
returns-in_default-clause-medium g c = c.bytes.invariant.1

pub returns-in_err-push-clause-medium : goal.returns-in_err-push-clause-medium
returns-in_err-push-clause-medium g c = c.bytes.invariant.1

pub returns-then-is_last-clause-medium : goal.returns-then-is_last-clause-medium
returns-then-is_last-clause-medium g c = c.taken.ensures.medium ∙ c.bytes.invariant.1

pub returns-clause-medium : goal.returns-clause-medium
returns-clause-medium g c = c.bytes.invariant.1
