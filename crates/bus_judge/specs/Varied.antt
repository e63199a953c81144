-- A session of drives whose reactions vary within a range: that of drives which always react in the least time, in which each change of a drive may come later by up to the range, and the host waits for it.
use Rattle.std.specs.Prelude.{◌≡◌, ℕ, ◌+◌, ◌≤◌, max, List, [], ◌∷◌, ◌++◌, nat_eq, if◌then◌else◌, Option, None, Some, slice_get, remove}
use Rattle.bus_judge.specs.Judging.{JudgeStands, BeginsSo}
use Rattle.bus_judge.specs.Views.{step_mark}
use Rattle.bus_judge.specs.declared.varied.range.Range.{Range}
use Rattle.bus_judge.specs.declared.varied.Come.{Come}
use Rattle.bus_judge.specs.declared.varied.Taken.{Taken}
use Rattle.bus_judge.specs.declared.varied.VariedJudge.{VariedJudge}
use Rattle.cbm_iec.specs.Ports.{change_at}
use Rattle.cbm_iec.specs.declared.event.Event.{Event}
use Rattle.cbm_iec.specs.declared.event.Who.TheVariants.{Host, Drive}
use Rattle.cbm_iec.specs.declared.event.Who.{Who}
use Rattle.cbm_iec.specs.declared.party.Party.{Party}
use Rattle.cbm_session.specs.Steps.{Step, moment_of}

-- how much longer than its least reaction the drive with this device number may take; 0 where nothing is said of it
abbrev pub range_at : ℕ → List Range → ℕ
range_at device [] = 0
range_at device (r ∷ rs) = if nat_eq r.device device then r.more else range_at device rs

-- the greatest range
abbrev pub widest : List Range → ℕ
widest [] = 0
widest (r ∷ rs) = max r.more (widest rs)

-- a step of the session of the quickest drives, and the moment at which the trace has its change
pub record Timed : Type 0 where
  pub step : Step
  pub moment : ℕ

-- the steps of that session
abbrev pub steps_in : List Timed → List Step
steps_in [] = []
steps_in (t ∷ ts) = t.step ∷ steps_in ts

-- A change that is due in that session at a moment comes in the trace at another one. The trace was `lag` later than the session before it, and is `next` later from it on: the change is counted from changes of drives, of which each may be later by up to its range. The host's comes just so much later, a drive's up to its range more.
abbrev pub ComesLater : List Range → ℕ → Who → ℕ → ℕ → ℕ → Type 0
ComesLater rs lag Host due moment next = (lag ≤ next) × (next ≤ lag + widest rs) × (moment ≡ due + next)
ComesLater rs lag (Drive d) due moment next = (lag ≤ next) × (next ≤ lag + widest rs) × (due + next ≤ moment) × (moment ≤ due + next + range_at d rs)

-- each change comes so, one after another; after the last the trace is so much later than the session
abbrev pub AreInRange : List Range → ℕ → List Timed → ℕ → Type 0
AreInRange rs lag [] end = end ≡ lag
AreInRange rs lag (t ∷ ts) end = (next : ℕ) × (ComesLater rs lag t.step.event.who (moment_of t.step) t.moment next × AreInRange rs next ts end)

-- these changes begin a session of drives that take their least time to react or more, within these ranges
pub record BeginsVaried (bs : List Party) (rs : List Range) (trail : List Timed) : Type 0 where
  pub begins : BeginsSo bs (steps_in trail)
  pub end : ℕ
  pub in_range : AreInRange rs 0 trail end

-- the change that the judge took: its step of the session, and its moment in the trace
abbrev pub timed : Taken → Timed
timed t = record {
  step = record { event = record { who = t.event.who; change = change_at t.due t.event.change.line t.event.change.way }; mark = step_mark t.mark };
  moment = t.event.change.moment;
}

-- so stands the judge of such drives
pub record VariedStands (bs : List Party) (rs : List Range) (j : VariedJudge) (trail : List Timed) : Type 0 where
  pub stands : JudgeStands bs j.judge (steps_in trail)
  pub in_range : AreInRange rs 0 trail j.lag
  pub ranges : j.ranges.items ≡ rs

-- one change more was taken, with which the trace begins a session in range; or none
abbrev pub IsOneMore : List Party → List Range → VariedJudge → List Timed → Option Taken → Type 0
IsOneMore bs rs j trail None = VariedStands bs rs j trail
IsOneMore bs rs j trail (Some t) = VariedStands bs rs j (trail ++ timed t ∷ []) × BeginsVaried bs rs (trail ++ timed t ∷ [])

-- of the changes that wait the one that was taken is gone, and the others stay
abbrev pub IsTakenOut : List Come → List Come → Option Taken → Type 0
IsTakenOut old new None = new ≡ old
IsTakenOut old new (Some t) = (i : ℕ) × ((slice_get old i ≡ Some (record { event = t.event })) × (new ≡ remove old i))
