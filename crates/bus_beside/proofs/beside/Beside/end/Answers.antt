use Rattle.std.proofs.Common.{◌≡◌, None, sym, ap, subst, ◌∙◌}
use Rattle.bus_beside.specs.Courses.{Course, Sides, EndsBeside}
use Rattle.bus_beside.proofs.Seen.{not_some, seen_out}
use Rattle.bus_beside.proofs.beside.Beside.end.Goals as goal

pub returns : goal.returns
returns g c =
    let still : c.self.inside.second ≡ None = not_some c.self.inside.second c.is_some.result c.is_some.ensures c.if-is_some.false in
    let course = ap (λ (b : Sides _). b.course) c.self.view_is in
    let none : c.args.self.now.second ≡ None = sym (ap (λ (b : Sides _). b.second) c.self.view_is) ∙ still in
    seen_out _ g.D.Machine.State g.D.Machine.stands g.D.Machine.step g.D.Machine.says g.D.Machine.failures c.args.self.now c.end.new.self c.self.inside.second c.args.moment none
    (subst (λ (b : Course _). EndsBeside _ g.D.Machine.State g.D.Machine.stands g.D.Machine.step g.D.Machine.says g.D.Machine.failures b c.end.new.self c.args.moment) course (c.end.ensures c.if-not-end.false))
