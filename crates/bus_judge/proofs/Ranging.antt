-- One change more, within its range.
use Rattle.std.proofs.Common.{◌≡◌, ℕ, List, [], ◌∷◌, ◌++◌, refl, sym, ◌∙◌, ap, subst}
use Rattle.bus_judge.specs.Judging.{JudgeStands, BeginsSo, and_then}
use Rattle.bus_judge.specs.Varied.{Timed, timed, steps_in, ComesLater, AreInRange}
use Rattle.bus_judge.specs.declared.judge.Judge.{Judge}
use Rattle.bus_judge.specs.declared.varied.range.Range.{Range}
use Rattle.bus_judge.specs.declared.varied.Taken.{Taken}
use Rattle.cbm_iec.specs.declared.event.Event.{Event}
use Rattle.cbm_iec.specs.declared.party.Party.{Party}
use Rattle.cbm_session.specs.Steps.{Step, moment_of}

pub in_range_append : (rs : List Range) (lag : ℕ) (ts : List Timed) (t : Timed) (mid next : ℕ)
    → AreInRange rs lag ts mid → ComesLater rs mid t.step.event.who (moment_of t.step) t.moment next → AreInRange rs lag (ts ++ t ∷ []) next
in_range_append rs lag [] t mid next h c = (next, (subst (λ (x : ℕ). ComesLater rs x t.step.event.who (moment_of t.step) t.moment next) h c, refl))
in_range_append rs lag (s ∷ ts) t mid next h c = (h.0, (h.1.0, in_range_append rs h.0 ts t mid next h.1.1 c))

pub steps_in_append : (ts : List Timed) (t : Timed) → steps_in (ts ++ t ∷ []) ≡ steps_in ts ++ t.step ∷ []
steps_in_append [] t = refl
steps_in_append (s ∷ ts) t = ap (λ (x : List Step). s.step ∷ x) (steps_in_append ts t)

-- so the judge stands after a change that it took
pub stands_after : (bs : List Party) (rs : List Range) (ranges : List Range) (j : Judge) (trail : List Timed) (t : Taken) (e : Event) (lag next : ℕ)
    → e ≡ (timed t).step.event → ranges ≡ rs → JudgeStands bs j (and_then (steps_in trail) e t.mark) → AreInRange rs 0 trail lag → ComesLater ranges lag t.event.who t.due t.event.change.moment next
    → JudgeStands bs j (steps_in (trail ++ timed t ∷ [])) × AreInRange rs 0 (trail ++ timed t ∷ []) next
stands_after bs rs ranges j trail t e lag next same is stands old comes =
    let done = steps_in trail in
    let one : and_then done e t.mark ≡ done ++ (timed t).step ∷ [] = ap (λ (x : Event). and_then done x t.mark) same in
    let all : and_then done e t.mark ≡ steps_in (trail ++ timed t ∷ []) = one ∙ sym (steps_in_append trail (timed t)) in
    let here : ComesLater rs lag t.event.who t.due t.event.change.moment next = subst (λ (x : List Range). ComesLater x lag t.event.who t.due t.event.change.moment next) is comes in
    (subst (λ (x : List Step). JudgeStands bs j x) all stands, in_range_append rs 0 trail (timed t) lag next old here)

-- and the trace begins a session in range
pub begins_after : (bs : List Party) (trail : List Timed) (t : Taken) (e : Event)
    → e ≡ (timed t).step.event → BeginsSo bs (and_then (steps_in trail) e t.mark) → BeginsSo bs (steps_in (trail ++ timed t ∷ []))
begins_after bs trail t e same b =
    let done = steps_in trail in
    let one : and_then done e t.mark ≡ done ++ (timed t).step ∷ [] = ap (λ (x : Event). and_then done x t.mark) same in
    subst (λ (x : List Step). BeginsSo bs x) (one ∙ sym (steps_in_append trail (timed t))) b
