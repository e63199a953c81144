use Rattle.std.proofs.Common.{◌+◌, ◌∷◌, [], ◌∙◌, arith}
use Rattle.bus_replies.proofs.Giving.{none_given, event_given, of_drive, of_host, still_waits, not_host}
use Rattle.bus_replies.proofs.carrying.change.Goals as goal

pub events-init : goal.events-init
events-init g c = record {
  given = none_given g.B.Plays.gave _ _ _ c.offer.ensures.gave;
  waiting = c.offer.ensures.waiting;
}

pub events-smaller : goal.events-smaller
events-smaller g c = c.in-Some.ensures.fewer (not_host c.in-Some.event.who c.in_default-who.not-Host) (c.args.change.moment + 1) (omega arith)

pub events-preserved : goal.events-preserved
events-preserved g c =
    let drive = not_host c.in-Some.event.who c.in_default-who.not-Host in
    record {
      given = event_given g.B.Plays.gave _ _ _ [] [] _ c.events.bus c.next.new.self c.in-Some.event c.events.invariant.given c.in-Some.ensures.given (of_drive c.in-Some.event drive) c.in_ok-write_event.ensures;
      waiting = still_waits c.in-Some.event (g.B.Plays.waiting c.events.bus) (g.B.Plays.waiting c.next.new.self) drive c.in-Some.ensures.turn ∙ c.events.invariant.waiting;
    }

pub returns-in-Host-clause-given : goal.returns-in-Host-clause-given
returns-in-Host-clause-given g c =
    event_given g.B.Plays.gave _ _ _ [] (c.args.change ∷ []) _ c.events.bus c.next.new.self c.in-Some.event c.events.invariant.given c.in-Some.ensures.given
    (of_host c.in-Some.event c.args.change (g.B.Plays.waiting c.events.bus) (g.B.Plays.waiting c.next.new.self) c.in-Host.is c.events.invariant.waiting c.in-Some.ensures.turn) c.in_ok-write_event.ensures
