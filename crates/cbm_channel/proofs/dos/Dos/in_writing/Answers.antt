use Rattle.std.proofs.Common.{sym, ap, ◌∙◌}
use Rattle.std.specs.List.{list_any}
use Rattle.cbm_channel.specs.Shown.{writes_on}
use Rattle.cbm_channel.proofs.Stands.{stood, any_same}
use Rattle.cbm_channel.proofs.dos.Dos.in_writing.Goals as goal

pub returns : goal.returns
returns g c = λ m s.
    let st = stood g.M.Medium.seen _ _ m c.self.view_is s in
    c.any_writes.ensures ∙ ap (list_any (writes_on c.args.slot)) c.as_slice.ensures.value ∙ sym (any_same c.args.slot _ m.channels st.each)
