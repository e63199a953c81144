use Rattle.std.proofs.Common.{rules, ◌∙◌}
use Rattle.bus_replies.proofs.Answering.{none_answered, kept_answered, known_ok, one_more}
use Rattle.bus_replies.proofs.replying.reply.Goals as goal

pub lines-init : goal.lines-init
lines-init g c =
    let none = none_answered g.B.Plays.gave g.B.Plays.due (g.W.Write.contents c.args.writer.now) c.args.bus.now in
    record { answered = none.0; moment = c.new-clock.ensures.moment ∙ none.1; ready = (search rules) }

pub lines-preserved : goal.lines-preserved
lines-preserved g c =
    let more = one_more g.B.Plays.gave g.B.Plays.due _ _ _ _ _ _ _ c.lines.bus _ c.lines.invariant.answered c.lines.invariant.moment c.in_ok-asked.ensures.kept c.in_ok-carry_out.ensures.answered in
    record { answered = more.0; moment = c.carry_out.ensures.moment ∙ more.1; ready = c.in_ok-carry_out.ensures.ready }

pub returns-in-End : goal.returns-in-End
returns-in-End g c =
    let more = one_more g.B.Plays.gave g.B.Plays.due _ _ _ _ _ _ _ c.lines.bus _ c.lines.invariant.answered c.lines.invariant.moment c.in_ok-asked.ensures.kept c.in_ok-carry_out.ensures.answered in
    record { answered = known_ok c.send_on.result (kept_answered g.B.Plays.gave g.B.Plays.due _ _ _ _ _ more.0 c.send_on.ensures) }
