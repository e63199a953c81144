use Rattle.std.proofs.Common.{◌≡◌, sym, ◌∙◌, ap, subst}
use Rattle.cbm_iec.specs.Machines.{acted}
use Rattle.cbm_iec.specs.Ports.{reaction_changes}
use Rattle.bus_beside.specs.declared.wired.Wired.{Wired}
use Rattle.bus_beside.specs.Seats.{SeatedTwice, GoesAlone}
use Rattle.bus_beside.proofs.Reacted.{Reacts, reacts_alike}
use Rattle.bus_beside.proofs.seat.Seat.react.Goals as goal

pub returns : goal.returns
returns g c =
    let so = c.is_alike.ensures in
    let is = c.if-not-is_alike.false in
    let t = c.args.moment in
    let said = c.peek-said.result in
    let real : c.self.inside.real ≡ c.args.self.now.real = ap (λ (x : SeatedTwice _). x.real) c.self.view_is in
    let tidy : c.self.inside.tidy ≡ c.args.self.now.tidy = ap (λ (x : SeatedTwice _). x.tidy) c.self.view_is in
    let machine = ap (λ (x : SeatedTwice _). x.machine) c.self.view_is in
    let failed = subst (λ d. GoesAlone g.D.Machine.failures (record { real = c.self.inside.real; tidy = c.self.inside.tidy; machine = d }) c.act.new.self ((m : g.D.Machine.State) → g.D.Machine.stands d m
    → g.D.Machine.stands c.act.new.self.machine (acted g.D.Machine.State g.D.Machine.step c.due-reaction.result.act m))) machine (c.act.ensures.counted, c.act.ensures.machine) in (
      failed.0,
      λ u. reacts_alike _ g.D.Machine.State g.D.Machine.stands g.D.Machine.step g.D.Machine.says t c.self.inside.real.port.party.device said c.due-reaction.result.act c.due-tidied.result.act c.due-reaction.result.changes.items c.args.self.now c.act.new.self
          (ap (λ (w : Wired). w.port.party.device) real) (so.due is) (so.heeds is) (so.own is)
          (subst (λ d. (m : g.D.Machine.State) → g.D.Machine.stands d m → said ≡ g.D.Machine.says m) machine c.peek-said.ensures.says)
          (subst (λ (w : Wired). Reacts t said c.due-reaction.result.act w c.act.new.self.real) real
          (record { port = ap (λ (w : Wired). w.port) c.act.ensures.real ∙ c.due-reaction.ensures.stands; others = ap (λ (w : Wired). w.others) c.act.ensures.real; counts = c.due-reaction.ensures.act }))
          (subst (λ (w : Wired). Reacts t said c.due-tidied.result.act w c.act.new.self.tidy) tidy
          (record { port = ap (λ (w : Wired). w.port) c.act.ensures.tidy ∙ c.due-tidied.ensures.stands; others = ap (λ (w : Wired). w.others) c.act.ensures.tidy; counts = c.due-tidied.ensures.act }))
          (c.same_act.ensures c.if-not-same_act.false)
          (ap (λ (w : Wired). w.port.own) c.act.ensures.tidy ∙ c.same_held.ensures c.if-not-same_held.false ∙ sym (ap (λ (w : Wired). w.port.own) c.act.ensures.real))
          (c.due-reaction.ensures.changes ∙ ap (λ (w : Wired). reaction_changes t said w.port) real)
          (failed.1 u),
    )
