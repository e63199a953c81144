use Rattle.cbm_channel.proofs.Stands.{other_text, stood, gathered}
use Rattle.cbm_channel.proofs.dos.Dos.gather.Goals as goal

pub returns-clause-leads : goal.returns-clause-leads
returns-clause-leads g c = λ m s.
    let st = stood g.M.Medium.seen _ _ m c.self.view_is s in
    other_text _ _ _ _ _ _ m _ _ (gathered c.args.channel c.args.byte m _ c.gather.new.text st.same_text c.gather.ensures) st
