use Rattle.std.proofs.Common.{List, [], refl, sym, ap, subst, ◌∙◌}
use Rattle.cbm_iec.specs.declared.event.Event.{Event}
use Rattle.cbm_session.specs.Steps.{events_of}
use Rattle.cbm_session.specs.Timing.{HostKeeps}
use Rattle.bus_beside.proofs.Judged.{on_ok}
use Rattle.bus_beside.proofs.court.Court.end.Goals as goal

pub returns-then-self : goal.returns-then-self
returns-then-self c = λ bs es bus h. on_ok c.end.result (λ k. subst (λ (xs : List Event). HostKeeps bs xs c.args.moment) h.events k.kept) (c.end.ensures bs h.done bus h.stands (h.busy c.if-self.true))

pub returns : goal.returns
returns c = λ bs es bus h.
    subst (λ (xs : List Event). HostKeeps bs xs c.args.moment) (ap events_of (sym (h.fresh c.if-self.false)) ∙ h.events)
    (c.keeps_timing.ensures.host bs [] [] [] c.args.moment bus (record { linked = tt; steps = refl }) tt)
