use Rattle.std.proofs.Common.{ap, refl}
use Rattle.cbm_drive.specs.Players.{Turns}
use Rattle.drive_replies.proofs.Turning.{after_same}
use Rattle.drive_replies.proofs.hosted_bus.HostedBusPlays.offer.Goals as goal

pub returns-clause-gave : goal.returns-clause-gave
returns-clause-gave g c = λ s es a.
    let after = (c.offer.ensures.taken c.requires.from).1 in
    (a.0, λ few. after_same _ g.D.Machine.State g.D.Machine.stands g.D.Machine.step g.D.Machine.says _ _ _ _ s.1 s.2 es (ap (λ (p : Turns). p.second) after) (ap (λ (p : Turns). p.from) after) refl (a.1 few))
