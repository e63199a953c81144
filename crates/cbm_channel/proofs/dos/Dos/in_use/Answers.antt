use Rattle.std.proofs.Common.{sym, ap, ◌∙◌}
use Rattle.std.specs.List.{list_any}
use Rattle.cbm_channel.specs.Shown.{uses_on}
use Rattle.cbm_channel.proofs.Stands.{stood}
use Rattle.cbm_channel.proofs.Uses.{any_uses_same}
use Rattle.cbm_channel.proofs.dos.Dos.in_use.Goals as goal

pub returns : goal.returns
returns g c = λ m s.
    let st = stood g.M.Medium.seen _ _ m c.self.view_is s in
    c.any_uses.ensures ∙ ap (list_any (uses_on c.args.slot)) c.as_slice.ensures.value ∙ sym (any_uses_same c.args.slot _ m.channels st.each)
