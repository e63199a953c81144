-- What the judge knows of the tidy host's trace.
use Rattle.std.specs.Prelude.{◌≡◌, true, false, List, []}
use Rattle.cbm_iec.specs.declared.event.Event.{Event}
use Rattle.cbm_iec.specs.declared.party.Party.{Party}
use Rattle.cbm_session.specs.Steps.{Step, events_of}
use Rattle.bus_judge.specs.Judging.{JudgeStands, IsBusy}
use Rattle.bus_beside.specs.declared.court.Court.{Court}

-- The judge has seen these events of these drives, and took them all.
pub record HasJudged (bs : List Party) (c : Court) (es : List Event) : Type 0 where
  pub done : List Step
  pub events : events_of done ≡ es
  pub stands : JudgeStands bs c.judge done
  pub busy : c.is_begun ≡ true → IsBusy c.judge
  pub fresh : c.is_begun ≡ false → done ≡ []
