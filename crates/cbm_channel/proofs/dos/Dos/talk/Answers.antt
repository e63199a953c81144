use Rattle.std.proofs.Common.{◌<◌, sym, ◌∙◌, arith}
use Rattle.cbm_channel.proofs.Asked.{below_15, talk_said, talk_fine, talk_15, none_of}
use Rattle.cbm_channel.proofs.Stands.{stands_here, waits_here, moved, stood}
use Rattle.cbm_channel.proofs.dos.Dos.talk.Goals as goal

pub returns-then-channel-eq15-clause-leads : goal.returns-then-channel-eq15-clause-leads
returns-then-channel-eq15-clause-leads g c = λ m s. moved _ _ _ _ _ _ _ _ (talk_15 c.args.channel m c.if-channel-eq15.true) s

pub returns-in-Some-clause-leads : goal.returns-in-Some-clause-leads
returns-in-Some-clause-leads g c = λ m s.
    let st = stood g.M.Medium.seen _ _ m c.self.view_is s in
    let lt : c.args.channel < 15 = omega (arith, c.requires, c.if-channel-eq15.false) in
    let at = stands_here _ _ _ _ _ _ m c.args.channel c.index.result.now c.index.ensures lt c.self.invariant st in
    let waits = waits_here _ _ _ _ _ _ m c.args.channel c.index.result.now c.index.ensures lt c.self.invariant st in
    moved _ _ _ _ _ _ _ _ (talk_said c.args.channel m _ (below_15 c.args.channel lt) at c.in-Some.code waits (sym c.talk_refused.ensures ∙ c.in-Some.is)) (c.say.ensures.leads m s)

pub returns-in_default-clause-leads : goal.returns-in_default-clause-leads
returns-in_default-clause-leads g c = λ m s.
    let st = stood g.M.Medium.seen _ _ m c.self.view_is s in
    let lt : c.args.channel < 15 = omega (arith, c.requires, c.if-channel-eq15.false) in
    let at = stands_here _ _ _ _ _ _ m c.args.channel c.index.result.now c.index.ensures lt c.self.invariant st in
    let waits = waits_here _ _ _ _ _ _ m c.args.channel c.index.result.now c.index.ensures lt c.self.invariant st in
    moved _ _ _ _ _ _ _ _ (talk_fine c.args.channel m _ (below_15 c.args.channel lt) at waits (sym c.talk_refused.ensures ∙ none_of _ c.in_default.not-Some)) s
