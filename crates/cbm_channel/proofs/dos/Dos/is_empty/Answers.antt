use Rattle.std.proofs.Common.{refl, arith, ap, ◌∙◌}
use Rattle.std.specs.Prelude.{slice_index_or}
use Rattle.cbm_machine.specs.Machines.{channel}
use Rattle.cbm_channel.specs.Standing.{uses_of}
use Rattle.cbm_channel.proofs.Stands.{borrowed_at, stood, stands_here, use_at}
use Rattle.cbm_channel.proofs.dos.Dos.is_empty.Goals as goal
use Rattle.cbm_channel.specs.BytesMeant.{is_file_empty}

pub returns-clause-value : goal.returns-clause-value
returns-clause-value g c = λ m s.
    let st = stood g.M.Medium.seen _ _ m c.self.view_is s in
    let at = stands_here _ _ _ _ _ _ m c.args.channel c.index.result.now c.index.ensures c.requires c.self.invariant st in
    let same = use_at c.index.result.now _ m.channels c.args.channel _ (omega (arith, c.requires, c.self.invariant.count)) c.index.ensures in
    c.is_empty.ensures.value m.disk (uses_of c.self.inside.channels.items m.channels) c.args.channel (channel m c.args.channel) st.holds same at

pub returns-clause-holds : goal.returns-clause-holds
returns-clause-holds g c = c.is_empty.ensures.holds ∙ ap is_file_empty (c.index.ensures ∙ borrowed_at c.args.channel c.index.result.now (ap (λ k. k.channels) c.self.view_is) (omega (arith, c.requires, c.self.invariant.count)))
