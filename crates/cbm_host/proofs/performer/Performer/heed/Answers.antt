use Rattle.std.proofs.Common.{sym, ap, ◌∙◌, subst}
use Rattle.cbm_host.proofs.performer.Performer.heed.Goals as goal
use Rattle.cbm_host.proofs.Recorded.{match_none}
use Rattle.cbm_host.specs.Engines.{engine_due}
use Rattle.cbm_host.specs.Performers.{IsDue}
use Rattle.cbm_iec.specs.declared.event.Who.TheVariants.{Host}
use Rattle.cbm_iec.specs.declared.event.Who.{Who}

-- none of the host's is due
pub returns-in-Host-clause-come : goal.returns-in-Host-clause-come
returns-in-Host-clause-come g c = λ u n ss es k asked.
    let e = c.in_ok-event.event in
    let due : IsDue Host e.change c.ask.new.self.engine = subst (λ (w : Who). IsDue w e.change c.ask.new.self.engine) c.in-Host.is (c.in_ok-event.ensures.come u n ss es k asked).due in
    absurd (c.requires.none e.change (sym (ap engine_due c.ask.ensures.asked.engine) ∙ due))

pub returns-in-Host-clause-recorded : goal.returns-in-Host-clause-recorded
returns-in-Host-clause-recorded g c = λ one.
    let shows = g.D.Machine.shows in
    let e = c.in_ok-event.event in
    let come = c.in_ok-event.ensures.recorded one in (
      come.0,
      λ later n ss es k asked.
          let due : IsDue Host e.change c.ask.new.self.engine = subst (λ (w : Who). IsDue w e.change c.ask.new.self.engine) c.in-Host.is (come.1 later n ss es k asked).due in
          absurd (c.requires.none e.change (sym (ap engine_due c.ask.ensures.asked.engine) ∙ due)),
    )

pub returns-in_err-event-clause-recorded : goal.returns-in_err-event-clause-recorded
returns-in_err-event-clause-recorded g c = λ one.
    let shows = g.D.Machine.shows in
    let come = c.in_err-event.ensures.recorded one in
    (come.0, λ later n ss es k asked. match_none c.from_residual.result _ _ c.from_residual.ensures (come.1 later n ss es k asked))
