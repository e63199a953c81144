use Rattle.std.proofs.Common.{◌+◌, sym, ap, ◌∙◌}
use Rattle.std.specs.Prelude.{sum_by, nat_lt}
use Rattle.cbm_channel.specs.Shown.{cost_on}
use Rattle.cbm_channel.proofs.Stands.{stood, costs_same}
use Rattle.cbm_channel.proofs.dos.Dos.is_too_many.Goals as goal

pub returns : goal.returns
returns g c = λ m s.
    let st = stood g.M.Medium.seen _ _ m c.self.view_is s in
    ap (λ n. nat_lt 3 (c.args.cost + n)) (c.open_count.ensures.value ∙ ap (sum_by cost_on) c.as_slice.ensures.value ∙ sym (costs_same _ m.channels st.each))
