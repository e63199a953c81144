use Rattle.std.proofs.Common.{arith}
use Rattle.drive_replies.proofs.Turning.{drives_of, some_of, match_of, under}
use Rattle.drive_replies.proofs.hosted_bus.HostedBusPlays.finish.Goals as goal

pub returns-clause-given : goal.returns-clause-given
returns-clause-given g c = λ s es a.
    under _ _ c.finish.result (omega (arith, a.0, c.finish.ensures.carried.counted)) (λ few.
    match_of c.finish.result (λ h. h.after) (λ e h. h) (c.finish.ensures.gives.given (omega (arith, a.0, few)) s.1 s.2 es (a.1 (omega (arith, c.finish.ensures.carried.counted, few)))))

pub returns-clause-drive : goal.returns-clause-drive
returns-clause-drive g c = some_of c.finish.result (λ e h. drives_of e.who h) c.finish.ensures.event.drive

pub returns-clause-fewer : goal.returns-clause-fewer
returns-clause-fewer g c = some_of c.finish.result (λ e h limit l. h limit (omega (arith, l))) c.finish.ensures.event.fewer
