use Rattle.std.proofs.Common.{[]}
use Rattle.bus_replies.proofs.Giving.{event_given, of_drive}
use Rattle.bus_replies.proofs.carrying.play.Goals as goal

pub events-preserved : goal.events-preserved
events-preserved g c = record {
  given = event_given g.B.Plays.gave _ _ _ [] [] _ c.events.bus c.finish.new.self c.in-Some.event c.events.invariant.given c.in-Some.ensures.given (of_drive c.in-Some.event c.in-Some.ensures.drive) c.in_ok-write_event.ensures;
  waiting = c.finish.ensures.waiting;
  from = c.finish.ensures.from;
}
