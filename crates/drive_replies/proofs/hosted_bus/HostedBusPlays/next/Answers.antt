use Rattle.std.proofs.Common.{arith}
use Rattle.drive_replies.proofs.Turning.{turn_of, drives_in, from_of, some_of, match_of, still_after, under}
use Rattle.drive_replies.proofs.hosted_bus.HostedBusPlays.next.Goals as goal

pub returns-clause-given : goal.returns-clause-given
returns-clause-given g c = λ s es a.
    under _ _ c.next.result (omega (arith, a.0, c.next.ensures.carried.counted)) (λ few.
    let was = a.1 (omega (arith, c.next.ensures.carried.counted, few)) in
    match_of c.next.result (λ h. still_after _ g.D.Machine.State g.D.Machine.stands g.D.Machine.step g.D.Machine.says _ _ _ _ _ s.1 s.2 es was h) (λ e h. h.after) (c.next.ensures.gives.given (omega (arith, a.0, few)) s.1 s.2 es was))

pub returns-clause-turn : goal.returns-clause-turn
returns-clause-turn g c = some_of c.next.result (λ e h. turn_of e.who e.change _ _ h) c.next.ensures.event.turn

pub returns-clause-from : goal.returns-clause-from
returns-clause-from g c = some_of c.next.result (λ e h. from_of e.who e.change _ h) c.next.ensures.event.afterwards

pub returns-clause-fewer : goal.returns-clause-fewer
returns-clause-fewer g c = some_of c.next.result (λ e h d limit l. h (drives_in e.who d) limit (omega (arith, l))) c.next.ensures.event.fewer
