use Rattle.std.proofs.Common.{sym, ap, ◌∙◌}
use Rattle.std.specs.List.{list_any}
use Rattle.cbm_channel.specs.Shown.{is_channel_open}
use Rattle.cbm_channel.proofs.Stands.{stood}
use Rattle.cbm_channel.proofs.Uses.{any_open_same}
use Rattle.cbm_channel.proofs.dos.Dos.is_any_open.Goals as goal

pub returns : goal.returns
returns g c = λ m s.
    let st = stood g.M.Medium.seen _ _ m c.self.view_is s in
    c.any_open.ensures ∙ ap (list_any is_channel_open) c.as_slice.ensures.value ∙ sym (any_open_same _ m.channels st.each)
