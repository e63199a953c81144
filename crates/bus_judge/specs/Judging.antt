-- What the judge's state means: pieces from rest up to a point, one under way, and the steps that were seen of both.
use Rattle.std.specs.Prelude.{◌≡◌, ◌<◌, true, ℕ, List, [], ◌∷◌, ◌++◌, Option, Some, None, take, slice_get}
use Rattle.bus_judge.specs.declared.judge.Judge.{Judge}
use Rattle.bus_judge.specs.declared.step.Mark.{Mark as OwnMark}
use Rattle.bus_judge.specs.declared.step.Step.{Step as OwnStep}
use Rattle.bus_judge.specs.declared.whole.Whole.{Whole as OwnWhole}
use Rattle.bus_judge.specs.Views.{point_of, whole_of, step_mark, steps_shown}
use Rattle.cbm_iec.specs.declared.event.Event.{Event}
use Rattle.cbm_iec.specs.declared.party.Party.{Party}
use Rattle.cbm_session.specs.Frames.{is_last}
use Rattle.cbm_session.specs.Pieces.{Piece, Point, Whole, PieceFits, point_after, Fits, steps_of, ToTalker, Talk}
use Rattle.cbm_session.specs.Laws.{NotSooner}
use Rattle.cbm_session.specs.Sessions.{rest, session_steps, Begins, IsBeginning, acts_of}
use Rattle.cbm_session.specs.Steps.{Step, moment_of, events_of}
use Rattle.cbm_session.specs.Timing.{HostKeeps, IsLate, any}

-- these pieces lead from a point to another
abbrev pub LeadsTo : Point → List Piece → Point → Type 0
LeadsTo p [] q = q ≡ p
LeadsTo p (k ∷ ks) q = PieceFits p k × LeadsTo (point_after p k) ks q

-- the piece under way fits, and these are its steps
abbrev pub IsPieceUnderWay : Point → Option OwnWhole → List OwnStep → Type 0
IsPieceUnderWay p None steps = steps ≡ []
IsPieceUnderWay p (Some w) steps = Fits p (whole_of w) × (steps_shown steps ≡ steps_of p (whole_of w))

-- after these steps of a session of these drives: pieces up to a point, and so many steps of the one under way
pub record JudgeStandsAt (bs : List Party) (p : Point) (whole : Option OwnWhole) (steps : List OwnStep) (seen : ℕ) (done : List Step) : Type 0 where
  pub ks : List Piece
  pub leads : LeadsTo (rest bs) ks p
  pub under_way : IsPieceUnderWay p whole steps
  pub steps_done : session_steps (rest bs) ks ++ steps_shown (take seen steps) ≡ done

-- so stands the judge
abbrev pub JudgeStands : List Party → Judge → List Step → Type 0
JudgeStands bs j done = JudgeStandsAt bs (point_of j.point) j.whole j.steps.items j.seen done

-- a piece is under way
abbrev pub IsBusy : Judge → Type 0
IsBusy j = (w : OwnWhole) × (j.whole ≡ Some w)

-- and its next step is this event, with this act
abbrev pub Awaits : Judge → Event → OwnMark → Type 0
Awaits j event mark = slice_get j.steps.items j.seen ≡ Some (record { event = event; mark = mark })

-- one more step
abbrev pub and_then : List Step → Event → OwnMark → List Step
and_then done event mark = done ++ (record { event = event; mark = step_mark mark } ∷ [])

-- these steps, with their events and acts, begin a session of these drives
abbrev pub BeginsSo : List Party → List Step → Type 0
BeginsSo bs done = Begins bs (acts_of bs done) (events_of done)

-- a piece after which a session may end
abbrev pub JudgeRests : Whole → Type 0
JudgeRests (ToTalker at clock) = ⊥
JudgeRests (Talk at f) = is_last f ≡ true
JudgeRests w = Unit {0}

abbrev pub RestsIn : Option OwnWhole → Type 0
RestsIn None = Unit {0}
RestsIn (Some w) = JudgeRests (whole_of w)

-- the piece under way has nothing more up to that moment
abbrev pub IsQuietTo : Judge → ℕ → Type 0
IsQuietTo j moment = elim (slice_get j.steps.items j.seen) [ None ↦ RestsIn j.whole | Some s ↦ moment < s.event.change.moment ]

-- up to that moment the host has kept the timing, and no drive was late
pub record InTime (bs : List Party) (done : List Step) (moment : ℕ) : Type 0 where
  pub kept : HostKeeps bs (events_of done) moment
  pub prompt : IsLate bs any (events_of done) moment → ⊥

-- an event comes too soon after a step: before it, or at its moment where the step is a drive's and the event the host's
abbrev pub IsTooSoon : Step → Event → Type 0
IsTooSoon s e = NotSooner s.event.who (moment_of s) e.who e.change.moment → ⊥

-- no session of these drives begins with these steps' events and then this one
abbrev pub NoneBegins : List Party → List Step → Event → Type 0
NoneBegins bs done e = IsBeginning bs (events_of done ++ e ∷ []) → ⊥
