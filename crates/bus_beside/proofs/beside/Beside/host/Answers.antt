use Rattle.std.proofs.Common.{◌≡◌, [], ◌∷◌, None, sym, ap, subst, ◌∙◌}
use Rattle.cbm_session.specs.Playing.{host_event}
use Rattle.bus_beside.specs.Courses.{Course, Sides, GoOnBeside, host_events}
use Rattle.bus_beside.proofs.Seen.{not_some, seen_all}
use Rattle.bus_beside.proofs.beside.Beside.host.Goals as goal

pub returns : goal.returns
returns g c =
    let still : c.self.inside.second ≡ None = not_some c.self.inside.second c.is_some.result c.is_some.ensures c.if-is_some.false in
    let course = ap (λ (b : Sides _). b.course) c.self.view_is in
    let none : c.args.self.now.second ≡ None = sym (ap (λ (b : Sides _). b.second) c.self.view_is) ∙ still in
    seen_all _ g.D.Machine.State g.D.Machine.stands g.D.Machine.step g.D.Machine.says g.D.Machine.failures c.args.self.now c.host.new.self (host_event c.args.change ∷ []) (host_events c.args.tidied.now) c.self.inside.second none still
    (subst (λ (b : Course _). GoOnBeside _ g.D.Machine.State g.D.Machine.stands g.D.Machine.step g.D.Machine.says g.D.Machine.failures b c.host.new.self (host_event c.args.change ∷ []) (host_events c.args.tidied.now)) course (c.host.ensures c.if-not-host.false))
