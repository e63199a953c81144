use Rattle.std.proofs.Common.{◌≡◌, Bool, List, [], ◌∷◌, sym, ap, subst, ◌∙◌}
use Rattle.std.specs.Prelude.{if◌then◌else◌}
use Rattle.cbm_iec.specs.declared.event.Event.{Event}
use Rattle.cbm_iec.specs.declared.lines.Change.{Change}
use Rattle.cbm_session.specs.Playing.{host_event}
use Rattle.bus_beside.specs.Courses.{GoOnBeside, host_events}
use Rattle.bus_beside.proofs.Courses.{both_then, tidy_then}
use Rattle.bus_beside.proofs.Sitting.{no_items}
use Rattle.bus_beside.proofs.plays.Plays.+host.Goals as goal

pub returns-else-is_made : goal.returns-else-is_made
returns-else-is_made g t c = λ so.
    subst (λ (made : List Event). GoOnBeside _ g.D.Machine.State g.D.Machine.stands g.D.Machine.step g.D.Machine.says g.D.Machine.failures c.args.self.now c.late.new.self made (host_events c.args.tidied.now)) (ap (λ (b : Bool). if b then [] else (host_event c.args.change ∷ [])) (sym c.if-is_made.false))
    (subst (λ (xs : List Change). GoOnBeside _ g.D.Machine.State g.D.Machine.stands g.D.Machine.step g.D.Machine.says g.D.Machine.failures c.args.self.now c.late.new.self (host_event c.args.change ∷ []) (host_events xs)) (sym (no_items c.args.tidied.now c.in_default.ensures.cases)) (c.late.ensures so))

pub returns-then-same_change : goal.returns-then-same_change
returns-then-same_change g t c = λ so.
    let is : c.args.tidied.now ≡ c.args.change ∷ c.in-Some.rest.now = c.in-Some.ensures.cases.0 ∙ ap (λ (x : Change). x ∷ c.in-Some.rest.now) (c.same_change.ensures c.if-same_change.true) in
    both_then _ g.D.Machine.State g.D.Machine.stands g.D.Machine.step g.D.Machine.says g.D.Machine.failures c.args.self.now c.settle.new.self c.both.new.self c.host.new.self c.args.change c.args.is_made c.in-Some.rest.now c.args.tidied.now c.if-not-is_made.true is
    (c.settle.ensures c.if-not-settle.false) (c.both.ensures c.if-not-both.false) (c.host.ensures so)

pub returns : goal.returns
returns g t c = λ so.
    tidy_then _ g.D.Machine.State g.D.Machine.stands g.D.Machine.step g.D.Machine.says g.D.Machine.failures c.args.self.now c.settle.new.self c.tidies.new.self c.host-2.new.self c.in-Some.first.now (if c.args.is_made then [] else (host_event c.args.change ∷ [])) c.in-Some.rest.now c.args.tidied.now c.in-Some.ensures.cases.0
    (c.settle.ensures c.if-not-settle.false) (c.tidies.ensures c.if-not-tidies.false) (c.host-2.ensures so)
