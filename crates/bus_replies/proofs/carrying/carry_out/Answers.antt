use Rattle.std.proofs.Common.{◌∙◌}
use Rattle.bus_replies.proofs.Answering.{marked, on_ok}
use Rattle.bus_replies.proofs.carrying.carry_out.Goals as goal

pub returns-clause-answered : goal.returns-clause-answered
returns-clause-answered g c = on_ok c.write_mark.result c.write_mark.ensures
    (marked g.B.Plays.gave g.B.Plays.due _ _ _ _ c.args.request _ _ _ _ c.in_ok-give.ensures.given (c.moment.ensures ∙ c.give.ensures.moment) c.next_due.ensures)
