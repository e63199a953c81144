use Rattle.std.proofs.Common.{◌≡◌, List, [], ◌∷◌, ◌++◌, sym, subst, ◌∙◌}
use Rattle.cbm_iec.specs.declared.event.Event.{Event}
use Rattle.cbm_iec.specs.declared.lines.Change.{Change}
use Rattle.cbm_session.specs.Playing.{host_event}
use Rattle.bus_beside.specs.Courses.{HaveSeen, host_events}
use Rattle.bus_beside.specs.Courts.{HasJudged}
use Rattle.bus_beside.specs.Keeping.{Looked, KeepsSoFar}
use Rattle.bus_beside.proofs.loosely.Loosely.host.Goals as goal

pub returns : goal.returns
returns g c = λ least bs ms es h.
    let k = subst (λ (l : Looked _). KeepsSoFar _ g.D.Machine.State g.D.Machine.stands g.D.Machine.step g.D.Machine.says g.D.Machine.failures least bs ms l es) (sym c.self.view_is) h in
    let is : host_event c.args.event.change ≡ c.args.event = λ i. record { who = sym c.requires i; change = c.args.event.change } in
    let same : c.deref-2.result.now ≡ c.deref.result.now = c.deref-2.ensures.0 ∙ sym c.deref.ensures.0 in
    record {
      tidied = k.tidied ++ host_events c.deref.result.now;
      judged = subst (λ (cs : List Change). HasJudged bs c.see_all.new.self (k.tidied ++ host_events cs)) same (c.in_ok-see_all.ensures bs k.tidied k.judged);
      seen = subst (λ (e : Event). HaveSeen _ g.D.Machine.State g.D.Machine.stands g.D.Machine.step g.D.Machine.says g.D.Machine.failures least bs ms c.host.new.self (es ++ e ∷ []) (k.tidied ++ host_events c.deref.result.now)) is (c.in_ok-host.ensures least bs ms es k.tidied k.seen);
    }
