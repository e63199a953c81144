use Rattle.std.proofs.Common.{◌≡◌, List, [], ◌∷◌, ◌++◌, sym, ap, subst, ◌∙◌}
use Rattle.std.proofs.lemmas.List.{append_assoc, append-nil}
use Rattle.std.specs.Prelude.{OnOk}
use Rattle.cbm_iec.specs.declared.event.Event.{Event}
use Rattle.cbm_iec.specs.declared.lines.Change.{Change}
use Rattle.cbm_session.specs.Playing.{host_event}
use Rattle.bus_beside.specs.Courses.{host_events}
use Rattle.bus_beside.specs.Courts.{HasJudged}
use Rattle.bus_beside.proofs.Sitting.{no_items}
use Rattle.bus_beside.proofs.court.Court.+see_all.Goals as goal

pub returns-in_default : goal.returns-in_default
returns-in_default t c = λ bs es h.
    let none : c.args.changes.now ≡ [] = no_items c.args.changes.now c.in_default.ensures.cases in
    subst (λ (xs : List Event). HasJudged bs c.args.self.now xs) (sym (ap (λ (cs : List Change). es ++ host_events cs) none ∙ append-nil es)) h

pub returns : goal.returns
returns t c = λ bs es h.
    let x = c.in-Some.change.now in
    let more = c.in-Some.more.now in
    subst (λ (xs : List Event). OnOk c.see_all.result (HasJudged bs c.see_all.new.self xs)) (append_assoc es (host_event x ∷ []) (host_events more) ∙ ap (λ (cs : List Change). es ++ host_events cs) (sym c.in-Some.ensures.cases.0))
    (c.see_all.ensures bs (es ++ host_event x ∷ []) (c.in_ok-see.ensures bs es h))
