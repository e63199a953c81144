use Rattle.std.proofs.Common.{◌≡◌, [], ◌∷◌, ap, subst, ◌∙◌}
use Rattle.cbm_iec.specs.declared.event.Event.{Event}
use Rattle.cbm_session.specs.Playing.{drive_events}
use Rattle.bus_beside.specs.Courses.{Course, Sides, GoOnBeside, events_shown, pending_event}
use Rattle.bus_beside.proofs.Seen.{seen_on}
use Rattle.bus_beside.proofs.beside.Beside.first.Goals as goal

pub returns : goal.returns
returns g c =
    let course = ap (λ (b : Sides _). b.course) c.self.view_is in
    let all = drive_events c.in-Some.answer.device c.in-Some.answer.changes.items in
    let next : all ≡ c.args.event ∷ pending_event c.in-Some-events_of.second = c.in-Some-events_of.ensures ∙ ap (λ (e : Event). e ∷ pending_event c.in-Some-events_of.second) (c.same_event.ensures c.if-not-same_event.false) in
    seen_on _ g.D.Machine.State g.D.Machine.stands g.D.Machine.step g.D.Machine.says g.D.Machine.failures c.args.self.now c.next_shown.new.self all all (c.args.event ∷ []) (c.args.event ∷ []) c.in-Some-events_of.second c.requires
    (subst (λ (b : Course _). GoOnBeside _ g.D.Machine.State g.D.Machine.stands g.D.Machine.step g.D.Machine.says g.D.Machine.failures b c.next_shown.new.self all all) course
    (subst (λ o. GoOnBeside _ g.D.Machine.State g.D.Machine.stands g.D.Machine.step g.D.Machine.says g.D.Machine.failures c.self.inside.plays c.next_shown.new.self (events_shown o) (events_shown o)) c.in-Some.is c.in_ok-answer.ensures)) next next
