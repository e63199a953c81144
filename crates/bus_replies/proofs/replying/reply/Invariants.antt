use Rattle.std.proofs.Common.{◌≡◌}
use Rattle.bus_replies.specs.Replies.{HaveAnswered, IsReady, come_to}
use Rattle.bus_replies.proofs.replying.reply.Given as goal

-- the lines so far were answered, and the talk has come to the clock's moment
abbrev pub invariant-lines : goal.invariant-lines
invariant-lines g l = record {
  answered : HaveAnswered g.B.Plays.gave g.B.Plays.due (g.W.Write.contents l.fn.writer) (g.W.Write.contents l.writer) l.fn.bus l.bus;
  moment : l.clock.moment ≡ come_to 0 answered.replies;
  ready : IsReady g.B.Plays.waiting g.B.Plays.from l.bus l.clock;
}
