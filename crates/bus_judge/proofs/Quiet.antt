-- Up to a moment by which nothing is due the host has kept the timing, and no drive was late.
use Rattle.std.proofs.Common.{◌≡◌, ℕ, ◌+◌, ◌≤◌, ◌<◌, zero, suc, List, [], ◌∷◌, ◌++◌, length, drop, Option, Some, None, Bool, refl, sym, ◌∙◌, ap, subst, arith, slice_get, if◌then◌else◌}
use Rattle.std.proofs.lemmas.List.{drop_more, drop_all}
use Rattle.std.proofs.lemmas.Option.{slice_get_within, get_or_from_slice_get}
use Rattle.bus_judge.proofs.Standing.{splits_with, goes_on_to_an_end}
use Rattle.bus_judge.specs.Judging.{JudgeStands, JudgeStandsAt, IsBusy, JudgeRests, RestsIn, IsQuietTo, InTime}
use Rattle.bus_judge.specs.Views.{point_of, whole_of, step_of, steps_shown}
use Rattle.bus_judge.specs.declared.judge.Judge.{Judge}
use Rattle.bus_judge.specs.declared.step.Step.{Step as OwnStep}
use Rattle.bus_judge.specs.declared.whole.Whole.{Whole as OwnWhole}
use Rattle.cbm_iec.specs.Profile.{next_byte}
use Rattle.cbm_iec.specs.declared.event.Who.TheVariants.{Host, Drive}
use Rattle.cbm_iec.specs.declared.event.Who.{Who}
use Rattle.cbm_iec.specs.declared.party.Party.{Party}
use Rattle.cbm_session.proofs.timing.KeepsTiming.{fronts_keep, fronts_in_time}
use Rattle.cbm_session.proofs.timing.SessionOrder.{goes_on}
use Rattle.cbm_session.specs.Laws.{NotSooner, AllAfter, GoesOn}
use Rattle.cbm_session.specs.Pieces.{Piece, Point, Whole, whole_point, Full, Open, Leading, PullPiece, Command, Byte, ToListener, ToNobody, ToTalker, Nothing, Talk}
use Rattle.cbm_session.specs.Sessions.{session_steps, MayEnd, Splits, IsBus}
use Rattle.cbm_session.specs.Steps.{Step, moment_of}
use Rattle.cbm_session.specs.Timing.{LaterHost, Owes}

rests-end : (p : Point) (v : Whole) → JudgeRests v → MayEnd (whole_point p v).place
rests-end p (PullPiece at) h = tt
rests-end p (Command f) h = tt
rests-end p (Byte eoi f) h = tt
rests-end p (ToListener at) h = tt
rests-end p (ToNobody at clock) h = tt
rests-end p (ToTalker at clock) h = absurd h
rests-end p (Nothing at clock freed) h = tt
rests-end p (Talk at f) h = subst (λ (b : Bool). MayEnd (if b then Open else Leading (f.accept + next_byte))) (sym h) tt

not-sooner : (w : Who) (m : ℕ) (v : Who) (n : ℕ) → NotSooner w m v n → m ≤ n
not-sooner Host m v n h = h
not-sooner (Drive o) m Host n h = omega (arith, h)
not-sooner (Drive o) m (Drive p) n h = h

all-later : (e : ℕ) (w : Who) (m : ℕ) (ss : List Step) → e < m → AllAfter w m ss → LaterHost e ss
all-later e w m [] l h = tt
all-later e w m (s ∷ ss) l h = let k = not-sooner w m s.event.who (moment_of s) h.0 in (λ i. omega (arith, l, k), all-later e w m ss l h.1)

goes-right : (xs ys : List Step) → GoesOn (xs ++ ys) → GoesOn ys
goes-right [] ys g = g
goes-right (x ∷ xs) ys g = goes-right xs ys g.1

in-time : (bs : List Party) (ks : List Piece) (done more : List Step) (moment : ℕ) → IsBus bs → Splits bs ks done more → LaterHost moment more → (Owes moment more → ⊥) → InTime bs done moment
in-time bs ks done more moment bus s l o = record { kept = fronts_keep bs ks done more moment bus s l; prompt = fronts_in_time bs ks done more moment bus tt s l o }

-- the next step comes later
later-step : (bs : List Party) (p : Point) (w : OwnWhole) (steps : List OwnStep) (seen : ℕ) (done : List Step) (x : OwnStep) (moment : ℕ)
    → IsBus bs → JudgeStandsAt bs p (Some w) steps seen done → slice_get steps seen ≡ Some x → moment < x.event.change.moment → InTime bs done moment
later-step bs p w steps seen done x moment bus s e l =
    let others = goes_on_to_an_end p (whole_of w) in
    let tail = session_steps (whole_point p (whole_of w)) others.0 in
    let ks = s.ks ++ Full (whole_of w) ∷ others.0 in
    let split = splits_with bs p w steps seen done s others.0 others.1 in
    let d : drop seen steps ≡ x ∷ drop (seen + 1) steps =
    drop_more steps seen x (slice_get_within steps seen x e) ∙ ap (λ (y : OwnStep). y ∷ drop (seen + 1) steps) (get_or_from_slice_get steps seen x x e) in
    let m : steps_shown (drop seen steps) ++ tail ≡ step_of x ∷ (steps_shown (drop (seen + 1) steps) ++ tail) = ap (λ (y : List OwnStep). steps_shown y ++ tail) d in
    let more = step_of x ∷ (steps_shown (drop (seen + 1) steps) ++ tail) in
    let here : Splits bs ks done more = subst (λ (y : List Step). Splits bs ks done y) m split in
    let g : GoesOn more = goes-right done more (subst GoesOn here.steps (goes_on bs ks bus here.linked)) in
    in-time bs ks done more moment bus here (λ i. l, all-later moment x.event.who x.event.change.moment (steps_shown (drop (seen + 1) steps) ++ tail) l g.0) (λ o. absurd (omega (arith, l, o.1)))

-- the piece has come, and nothing need follow it
no-step : (bs : List Party) (p : Point) (w : OwnWhole) (steps : List OwnStep) (seen : ℕ) (done : List Step) (moment : ℕ)
    → IsBus bs → JudgeStandsAt bs p (Some w) steps seen done → length steps ≤ seen → JudgeRests (whole_of w) → InTime bs done moment
no-step bs p w steps seen done moment bus s e r =
    let split = splits_with bs p w steps seen done s [] (rests-end p (whole_of w) r) in
    let m : steps_shown (drop seen steps) ++ [] ≡ [] = ap (λ (y : List OwnStep). steps_shown y ++ []) (drop_all seen steps e) in
    let here : Splits bs (s.ks ++ Full (whole_of w) ∷ []) done [] = subst (λ (y : List Step). Splits bs (s.ks ++ Full (whole_of w) ∷ []) done y) m split in
    in-time bs (s.ks ++ Full (whole_of w) ∷ []) done [] moment bus here tt (λ o. o)

none-there : (steps : List OwnStep) (seen : ℕ) → slice_get steps seen ≡ None → length steps ≤ seen
none-there [] seen e = omega arith
none-there (x ∷ steps) zero e = absurd cc
none-there (x ∷ steps) (suc seen) e = let h = none-there steps seen e in omega (arith, h)

by-next : (bs : List Party) (p : Point) (w : OwnWhole) (steps : List OwnStep) (seen : ℕ) (done : List Step) (moment : ℕ) (next : Option OwnStep)
    → IsBus bs → JudgeStandsAt bs p (Some w) steps seen done → slice_get steps seen ≡ next → elim next as (λ x. Type 0) [ None ↦ JudgeRests (whole_of w) | Some s ↦ moment < s.event.change.moment ] → InTime bs done moment
by-next bs p w steps seen done moment None bus s e q = no-step bs p w steps seen done moment bus s (none-there steps seen e) q
by-next bs p w steps seen done moment (Some x) bus s e q = later-step bs p w steps seen done x moment bus s e q

-- so it is where the judge owes nothing more
pub in_time : (bs : List Party) (j : Judge) (done : List Step) (moment : ℕ) → IsBus bs → JudgeStands bs j done → IsBusy j → IsQuietTo j moment → InTime bs done moment
in_time bs j done moment bus s b q =
    let p = point_of j.point in
    let busy : JudgeStandsAt bs p (Some b.0) j.steps.items j.seen done = subst (λ (w : Option OwnWhole). JudgeStandsAt bs p w j.steps.items j.seen done) b.1 s in
    let quiet : elim (slice_get j.steps.items j.seen) as (λ x. Type 0) [ None ↦ JudgeRests (whole_of b.0) | Some s ↦ moment < s.event.change.moment ] =
    subst (λ (w : Option OwnWhole). elim (slice_get j.steps.items j.seen) as (λ x. Type 0) [ None ↦ RestsIn w | Some s ↦ moment < s.event.change.moment ]) b.1 q in
    by-next bs p b.0 j.steps.items j.seen done moment (slice_get j.steps.items j.seen) bus busy refl quiet
