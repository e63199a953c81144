-- What the judge has seen.
use Rattle.std.proofs.Common.{◌≡◌, List, [], ◌∷◌, ◌++◌, refl, ap, ◌∙◌}
use Rattle.std.specs.Prelude.{true, false, Result, Ok, Err, OnOk}
use Rattle.cbm_iec.specs.declared.event.Event.{Event}
use Rattle.cbm_iec.specs.declared.party.Party.{Party}
use Rattle.cbm_session.specs.Steps.{Step, events_of}
use Rattle.bus_judge.specs.declared.judge.Judge.{Judge}
use Rattle.bus_judge.specs.declared.step.Mark.{Mark}
use Rattle.bus_judge.specs.Judging.{JudgeStands, IsBusy, and_then}
use Rattle.bus_beside.specs.declared.court.Court.{Court}
use Rattle.bus_beside.specs.Courts.{HasJudged}

-- what follows from an answer
pub on_ok : {A E P Q : Type 0} (r : Result A E) → (P → Q) → OnOk r P → OnOk r Q
on_ok (Ok a) f h = f h
on_ok (Err e) f h = tt

-- the events of some steps and one more
events_more : (done : List Step) (s : Step) → events_of (done ++ s ∷ []) ≡ events_of done ++ s.event ∷ []
events_more [] s = refl
events_more (d ∷ done) s = ap (λ es. d.event ∷ es) (events_more done s)

pub judged_more : (bs : List Party) (c : Court) (judge : Judge) (e : Event) (es : List Event) (mark : Mark) → ((done : List Step) → JudgeStands bs c.judge done → JudgeStands bs judge (and_then done e mark)) → IsBusy judge → HasJudged bs c es
    → HasJudged bs (record { judge = judge; is_begun = true }) (es ++ e ∷ [])
judged_more bs c judge e es mark stands busy h = record {
  done = and_then h.done e mark;
  events = events_more h.done _ ∙ ap (λ (xs : List Event). xs ++ e ∷ []) h.events;
  stands = stands h.done h.stands;
  busy = λ so. busy;
  fresh = λ so. absurd (let z : true ≡ false = so in cc);
}
