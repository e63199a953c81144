use Rattle.std.proofs.Common.{refl, sym, subst, ◌∙◌, arith}
use Rattle.std.specs.Prelude.{slice_index_or}
use Rattle.cbm_machine.specs.Machines.{channel}
use Rattle.cbm_channel.specs.Standing.{FitsTracks, uses_of}
use Rattle.cbm_channel.proofs.Asked.{below_15, peek_other}
use Rattle.cbm_channel.proofs.Stands.{stands_here, waits_here, stood, shows, use_at}
use Rattle.cbm_channel.proofs.dos.Dos.peek.Goals as goal

pub returns-then-channel-lt15-clause-next : goal.returns-then-channel-lt15-clause-next
returns-then-channel-lt15-clause-next g c = λ m s.
    let st = stood g.M.Medium.seen _ _ m c.self.view_is s in
    let at = stands_here _ _ _ _ _ _ m c.args.channel c.index.result.now c.index.ensures c.if-channel-lt15.true c.self.invariant st in
    let same = use_at c.index.result.now _ m.channels c.args.channel _ (omega (arith, c.if-channel-lt15.true, c.self.invariant.count)) c.index.ensures in
    c.peek.ensures
    ∙ sym (shows (g.M.Medium.seen c.self.inside.volume).tracks (g.M.Medium.seen c.self.inside.volume).content m.disk (uses_of c.self.inside.channels.items m.channels) c.args.channel _ (channel m c.args.channel)
    (subst (FitsTracks (g.M.Medium.seen c.self.inside.volume).tracks) (sym c.index.ensures) (c.self.invariant.each c.args.channel c.index.result.now (omega (arith, c.self.invariant.count, c.if-channel-lt15.true)))) at (waits_here _ _ _ _ _ _ m c.args.channel c.index.result.now c.index.ensures c.if-channel-lt15.true c.self.invariant st) st.holds same)
    ∙ sym (peek_other c.args.channel m _ (below_15 c.args.channel c.if-channel-lt15.true) at)
