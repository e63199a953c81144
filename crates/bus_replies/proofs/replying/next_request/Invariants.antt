use Rattle.std.specs.Io.KnownBytes.{Keeps}
use Rattle.bus_replies.proofs.replying.next_request.Given as goal

abbrev pub invariant-reads : goal.invariant-reads
invariant-reads g l = Keeps (g.W.Write.contents l.fn.writer) (g.W.Write.contents l.writer)
