use Rattle.std.proofs.Common.{ap}
use Rattle.cbm_channel.proofs.Goings.{ends_15, keeps_free, keeps_more, keeps_same, keeps_then}
use Rattle.cbm_channel.proofs.Steady.{steady_end}
use Rattle.cbm_talk.proofs.hearing.hear.Goals as goal

pub returns-clause-leads : goal.returns-clause-leads
returns-clause-leads g c = λ m s.
    steady_end g.M.Medium.seen g.met.M.Steady.steady c.put_each.new.dos c.end_put.new.self c.args.channel c.end_put.ensures.goes _
    (c.put_each.ensures.leads _ (c.listen.ensures.leads m s))

pub returns-clause-medium : goal.returns-clause-medium
returns-clause-medium g c =
    keeps_then _ _ _ (keeps_same _ _ (ap g.M.Medium.seen c.listen.ensures.medium))
    (keeps_then _ _ _ (keeps_free _ _ c.put_each.ensures.medium) (keeps_more _ _ _ _ (ends_15 c.args.channel c.put_each.new.dos.text) c.end_put.ensures.leaves.medium))
