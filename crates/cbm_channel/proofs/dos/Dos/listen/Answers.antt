use Rattle.std.proofs.Common.{◌<◌, sym, ◌∙◌, arith}
use Rattle.cbm_channel.proofs.Asked.{below_15, listen_other, listen_written, listen_15}
use Rattle.cbm_channel.proofs.Stands.{stands_here, moved, stood}
use Rattle.cbm_channel.proofs.dos.Dos.listen.Goals as goal

pub returns-then-channel-eq15-clause-leads : goal.returns-then-channel-eq15-clause-leads
returns-then-channel-eq15-clause-leads g c = λ m s. moved _ _ _ _ _ _ _ _ (listen_15 c.args.channel m c.if-channel-eq15.true) s

pub returns-then-not-is_written-clause-leads : goal.returns-then-not-is_written-clause-leads
returns-then-not-is_written-clause-leads g c = λ m s.
    let st = stood g.M.Medium.seen _ _ m c.self.view_is s in
    let lt : c.args.channel < 15 = omega (arith, c.requires, c.if-channel-eq15.false) in
    let at = stands_here _ _ _ _ _ _ m c.args.channel c.index.result.now c.index.ensures lt c.self.invariant st in
    moved _ _ _ _ _ _ _ _ (listen_other c.args.channel m _ (below_15 c.args.channel lt) at (sym c.is_written.ensures ∙ c.if-not-is_written.true)) (c.say.ensures.leads m s)

pub returns-else-not-is_written-clause-leads : goal.returns-else-not-is_written-clause-leads
returns-else-not-is_written-clause-leads g c = λ m s.
    let st = stood g.M.Medium.seen _ _ m c.self.view_is s in
    let lt : c.args.channel < 15 = omega (arith, c.requires, c.if-channel-eq15.false) in
    let at = stands_here _ _ _ _ _ _ m c.args.channel c.index.result.now c.index.ensures lt c.self.invariant st in
    moved _ _ _ _ _ _ _ _ (listen_written c.args.channel m _ (below_15 c.args.channel lt) at (sym c.is_written.ensures ∙ c.if-not-is_written.false)) s
