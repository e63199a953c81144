-- An event that comes too soon after another one begins no session with it.
use Rattle.std.proofs.Common.{ℕ, List, [], ◌∷◌, ◌++◌, subst}
use Rattle.bus_judge.specs.Judging.{BeginsSo, NoneBegins, IsTooSoon, and_then}
use Rattle.bus_judge.specs.Views.{step_mark}
use Rattle.bus_judge.specs.declared.step.Mark.{Mark as OwnMark}
use Rattle.cbm_iec.specs.declared.event.Event.{Event}
use Rattle.cbm_iec.specs.declared.event.Who.{Who}
use Rattle.cbm_iec.specs.declared.party.Party.{Party}
use Rattle.cbm_session.proofs.headline.Keeping.{events_append}
use Rattle.cbm_session.proofs.timing.SessionOrder.{goes_on}
use Rattle.cbm_session.specs.Laws.{NotSooner, AllAfter, GoesOn}
use Rattle.cbm_session.specs.Sessions.{IsBus, Begins, acts_of}
use Rattle.cbm_session.specs.Steps.{Step, moment_of, events_of}

-- each of these events comes so after a change, and after all before it
abbrev AllLater : Who → ℕ → List Event → Type 0
AllLater w m [] = Unit {0}
AllLater w m (e ∷ es) = NotSooner w m e.who e.change.moment × AllLater w m es

abbrev AllGoOn : List Event → Type 0
AllGoOn [] = Unit {0}
AllGoOn (e ∷ es) = AllLater e.who e.change.moment es × AllGoOn es

all-later : (w : Who) (m : ℕ) (ss more : List Step) → AllAfter w m (ss ++ more) → AllLater w m (events_of ss)
all-later w m [] more h = tt
all-later w m (s ∷ ss) more h = (h.0, all-later w m ss more h.1)

all-go-on : (ss more : List Step) → GoesOn (ss ++ more) → AllGoOn (events_of ss)
all-go-on [] more g = tt
all-go-on (s ∷ ss) more g = (all-later s.event.who (moment_of s) ss more g.0, all-go-on ss more g.1)

last-later : (w : Who) (m : ℕ) (back : List Step) (e : Event) → AllLater w m (events_of back ++ e ∷ []) → NotSooner w m e.who e.change.moment
last-later w m [] e h = h.0
last-later w m (s ∷ back) e h = last-later w m back e h.1

later : (front : List Step) (s : Step) (back : List Step) (e : Event) → AllGoOn (events_of (front ++ s ∷ back) ++ e ∷ []) → NotSooner s.event.who (moment_of s) e.who e.change.moment
later [] s back e g = last-later s.event.who (moment_of s) back e g.0
later (x ∷ front) s back e g = later front s back e g.1

pub none_begins : (bs : List Party) (front : List Step) (s : Step) (back : List Step) (e : Event) → IsBus bs → IsTooSoon s e → NoneBegins bs (front ++ s ∷ back) e
none_begins bs front s back e bus soon = λ b.
    let found = b.1.1.1.1 in
    let g = subst GoesOn found.0.steps (goes_on bs b.1.0 bus found.0.linked) in
    soon (later front s back e (subst AllGoOn found.1 (all-go-on b.1.1.0 b.1.1.1.0 g)))

-- so it isn't taken
pub not_taken : (bs : List Party) (done : List Step) (e : Event) (mark : OwnMark) → NoneBegins bs done e → BeginsSo bs (and_then done e mark) → ⊥
not_taken bs done e mark n b =
    let step : Step = record { event = e; mark = step_mark mark } in
    let acts = acts_of bs (and_then done e mark) in
    n (acts, subst (λ (t : List Event). Begins bs acts t) (events_append done (step ∷ [])) b)
