-- How the judge's state goes on: with a step, with a piece, with a cut; and that it begins a session.
use Rattle.std.proofs.Common.{◌≡◌, ℕ, ◌+◌, ◌≤◌, List, [], ◌∷◌, ◌++◌, length, take, drop, Option, Some, None, true, refl, sym, ◌∙◌, ap, subst, arith, append_assoc, slice_get}
use Rattle.std.proofs.lemmas.List.{append-nil, map-append, take-append-drop, take_all, take_more}
use Rattle.std.proofs.lemmas.Option.{slice_get_within, get_or_from_slice_get}
use Rattle.bus_judge.specs.Judging.{LeadsTo, IsPieceUnderWay, IsBusy, JudgeStands, JudgeStandsAt, BeginsSo}
use Rattle.bus_judge.specs.declared.judge.Judge.{Judge}
use Rattle.bus_judge.specs.Views.{point_of, whole_of, step_of, steps_shown}
use Rattle.bus_judge.specs.declared.step.Step.{Step as OwnStep}
use Rattle.bus_judge.specs.declared.whole.Whole.{Whole as OwnWhole}
use Rattle.cbm_iec.specs.declared.pace.Pace.TheVariants.{Profile, Kernal}
use Rattle.cbm_iec.specs.declared.party.Party.{Party}
use Rattle.cbm_session.specs.Frames.{Told, ToldFits}
use Rattle.cbm_session.specs.Pieces.{Piece, Point, BusPlace, Whole, PieceFits, point_after, whole_point, CutFits, some_from, before, steps_of, piece_steps, Full, Cut, Open, Commanding, Listening, Leading, Cutting, PullPiece, Command, Byte, ToListener, ToNobody, ToTalker, Nothing, Talk, told_place}
use Rattle.cbm_session.specs.Seats.{talker_of}
use Rattle.cbm_session.specs.Sessions.{rest, session_steps, Linked, MayEnd, Splits}
use Rattle.cbm_session.specs.Steps.{Step}

-- one piece more
leads-append : (p : Point) (ks : List Piece) (k : Piece) (q : Point) → LeadsTo p ks q → PieceFits q k → LeadsTo p (ks ++ k ∷ []) (point_after q k)
leads-append p [] k q l f = (subst (λ (x : Point). PieceFits x k) l f, ap (λ (x : Point). point_after x k) l)
leads-append p (j ∷ ks) k q l f = (l.0, leads-append (point_after p j) ks k q l.1 f)

steps-append : (p : Point) (ks more : List Piece) (q : Point) → LeadsTo p ks q → session_steps p (ks ++ more) ≡ session_steps p ks ++ session_steps q more
steps-append p [] more q l = ap (λ (x : Point). session_steps x more) (sym l)
steps-append p (j ∷ ks) more q l = ap (λ (x : List Step). piece_steps p j ++ x) (steps-append (point_after p j) ks more q l.1) ∙ sym (append_assoc (piece_steps p j) (session_steps (point_after p j) ks) (session_steps q more))

links-append : (p : Point) (ks more : List Piece) (q : Point) → LeadsTo p ks q → Linked q more → Linked p (ks ++ more)
links-append p [] more q l f = subst (λ (x : Point). Linked x more) l f
links-append p (j ∷ ks) more q l f = (l.0, links-append (point_after p j) ks more q l.1 f)

-- a place at which a session may end, or a frame that ends it may come
abbrev IsEnding : BusPlace → Type 0
IsEnding (Cutting at) = ⊥
IsEnding place = Unit {0}

told-ending : (f : Told) → IsEnding (told_place f)
told-ending f = elim f.signal as (λ s. IsEnding (told_place (record f { signal = s }))) [ None ↦ tt | Some x ↦ tt ]

whole-ending : (p : Point) (w : Whole) → IsEnding (whole_point p w).place
whole-ending p (PullPiece at) = tt
whole-ending p (Command f) = tt
whole-ending p (Byte eoi f) = tt
whole-ending p (ToListener at) = tt
whole-ending p (ToNobody at clock) = tt
whole-ending p (ToTalker at clock) = tt
whole-ending p (Nothing at clock freed) = tt
whole-ending p (Talk at f) = told-ending f

-- the last frame of a drive that leads
abbrev last_frame : Party → ℕ → Told
last_frame b at = record {
  bits = true ∷ true ∷ true ∷ true ∷ true ∷ true ∷ true ∷ true ∷ [];
  free = at + 1;
  signal = Some (at + 201, at + 261);
  accept = at + 261 + b.reaction + 1300;
}

last-fits : (b : Party) (at : ℕ) → ToldFits b at (last_frame b at)
last-fits b at = elim b.pace as (λ x. ToldFits (record b { pace = x }) at (last_frame (record b { pace = x }) at)) [
  | Profile ↦ record { eight = refl; free = omega arith; signal = (omega arith, omega arith); accept = omega arith; soon = omega arith }
  | Kernal ↦ record { eight = refl; free = omega arith; signal = (omega arith, omega arith); accept = omega arith; soon = omega arith }
]

-- a session goes on from there to an end
goes-on-at : (p : Point) (place : BusPlace) → p.place ≡ place → IsEnding place → (ks : List Piece) × Linked p ks
goes-on-at p Open e h = ([], subst MayEnd (sym e) tt)
goes-on-at p (Commanding some) e h = ([], subst MayEnd (sym e) tt)
goes-on-at p Listening e h = ([], subst MayEnd (sym e) tt)
goes-on-at p (Leading at) e h = (Full (Talk at (last_frame (talker_of p.seats) at)) ∷ [], ((e, last-fits (talker_of p.seats) at), tt))
goes-on-at p (Cutting at) e h = absurd h

-- the session of the pieces so far, the one under way, and others after it
pub splits_with : (bs : List Party) (p : Point) (w : OwnWhole) (steps : List OwnStep) (seen : ℕ) (done : List Step) (s : JudgeStandsAt bs p (Some w) steps seen done) (others : List Piece)
    → Linked (whole_point p (whole_of w)) others
    → Splits bs (s.ks ++ Full (whole_of w) ∷ others) done (steps_shown (drop seen steps) ++ session_steps (whole_point p (whole_of w)) others)
splits_with bs p w steps seen done s others link =
    let v = whole_of w in
    let q = whole_point p v in
    let ks = Full v ∷ others in
    let linked : Linked (rest bs) (s.ks ++ ks) = links-append (rest bs) s.ks ks p s.leads (s.under_way.0, link) in
    let left = steps_shown (drop seen steps) in
    let parts : steps_of p v ≡ steps_shown (take seen steps) ++ left =
    sym s.under_way.1 ∙ (ap steps_shown (sym (take-append-drop seen steps)) ∙ map-append step_of (take seen steps) (drop seen steps)) in
    let a : session_steps (rest bs) (s.ks ++ ks) ≡ session_steps (rest bs) s.ks ++ (steps_of p v ++ session_steps q others) = steps-append (rest bs) s.ks ks p s.leads in
    let b : session_steps (rest bs) s.ks ++ (steps_of p v ++ session_steps q others) ≡ session_steps (rest bs) s.ks ++ ((steps_shown (take seen steps) ++ left) ++ session_steps q others) =
    ap (λ (x : List Step). session_steps (rest bs) s.ks ++ (x ++ session_steps q others)) parts in
    let d : session_steps (rest bs) s.ks ++ ((steps_shown (take seen steps) ++ left) ++ session_steps q others) ≡ (session_steps (rest bs) s.ks ++ steps_shown (take seen steps)) ++ (left ++ session_steps q others) = simp append_assoc in
    let f : (session_steps (rest bs) s.ks ++ steps_shown (take seen steps)) ++ (left ++ session_steps q others) ≡ done ++ (left ++ session_steps q others) =
    ap (λ (x : List Step). x ++ (left ++ session_steps q others)) s.steps_done in
    record { linked = linked; steps = a ∙ (b ∙ (d ∙ f)) }

-- a piece under way may be followed to an end
pub goes_on_to_an_end : (p : Point) (v : Whole) → (ks : List Piece) × Linked (whole_point p v) ks
goes_on_to_an_end p v = goes-on-at (whole_point p v) (whole_point p v).place refl (whole-ending p v)

-- what was seen begins a session
pub begins_so : (bs : List Party) (p : Point) (w : OwnWhole) (steps : List OwnStep) (seen : ℕ) (done : List Step) → JudgeStandsAt bs p (Some w) steps seen done → BeginsSo bs done
begins_so bs p w steps seen done s =
    let more = goes_on_to_an_end p (whole_of w) in
    (s.ks ++ Full (whole_of w) ∷ more.0, (done, (steps_shown (drop seen steps) ++ session_steps (whole_point p (whole_of w)) more.0, (splits_with bs p w steps seen done s more.0 more.1, refl, refl))))

-- at rest nothing was seen
pub stands_at_rest : (bs : List Party) → JudgeStandsAt bs (rest bs) None [] 0 []
stands_at_rest bs = record { ks = []; leads = refl; under_way = refl; steps_done = refl }

-- a piece is under way
pub stands_led : (bs : List Party) (p : Point) (w : OwnWhole) (steps : List OwnStep) (done : List Step) → JudgeStandsAt bs p None [] 0 done → IsPieceUnderWay p (Some w) steps → JudgeStandsAt bs p (Some w) steps 0 done
stands_led bs p w steps done s u = record { ks = s.ks; leads = s.leads; under_way = u; steps_done = s.steps_done }

-- another piece begins with what was seen
pub stands_adopted : (bs : List Party) (p : Point) (old : Option OwnWhole) (w : OwnWhole) (steps list : List OwnStep) (seen : ℕ) (done : List Step)
    → JudgeStandsAt bs p old steps seen done → IsPieceUnderWay p (Some w) list → take seen list ≡ take seen steps → JudgeStandsAt bs p (Some w) list seen done
stands_adopted bs p old w steps list seen done s u t =
    record { ks = s.ks; leads = s.leads; under_way = u; steps_done = ap (λ (y : List OwnStep). session_steps (rest bs) s.ks ++ steps_shown y) t ∙ s.steps_done }

-- one step more was seen
pub stands_more : (bs : List Party) (p : Point) (whole : Option OwnWhole) (steps : List OwnStep) (x : OwnStep) (seen : ℕ) (done : List Step)
    → JudgeStandsAt bs p whole steps seen done → slice_get steps seen ≡ Some x → JudgeStandsAt bs p whole steps (seen + 1) (done ++ step_of x ∷ [])
stands_more bs p whole steps x seen done s h =
    let front = session_steps (rest bs) s.ks in
    let t : take (seen + 1) steps ≡ take seen steps ++ x ∷ [] =
    take_more steps seen x (slice_get_within steps seen x h) ∙ ap (λ (y : OwnStep). take seen steps ++ y ∷ []) (get_or_from_slice_get steps seen x x h) in
    let m : steps_shown (take (seen + 1) steps) ≡ steps_shown (take seen steps) ++ step_of x ∷ [] = ap steps_shown t ∙ map-append step_of (take seen steps) (x ∷ []) in
    let a : front ++ steps_shown (take (seen + 1) steps) ≡ front ++ (steps_shown (take seen steps) ++ step_of x ∷ []) = ap (λ (y : List Step). front ++ y) m in
    let b : front ++ (steps_shown (take seen steps) ++ step_of x ∷ []) ≡ (front ++ steps_shown (take seen steps)) ++ step_of x ∷ [] = sym (append_assoc front (steps_shown (take seen steps)) (step_of x ∷ [])) in
    record { ks = s.ks; leads = s.leads; under_way = s.under_way; steps_done = a ∙ (b ∙ ap (λ (y : List Step). y ++ step_of x ∷ []) s.steps_done) }

-- a piece has come, whole or cut: all its steps were seen
stands-afterwards : (bs : List Party) (p : Point) (w : OwnWhole) (k : Piece) (q : Point) (steps : List OwnStep) (seen : ℕ) (done : List Step)
    → JudgeStandsAt bs p (Some w) steps seen done → PieceFits p k → piece_steps p k ≡ steps_shown (take seen steps) → q ≡ point_after p k → JudgeStandsAt bs q None [] 0 done
stands-afterwards bs p w k q steps seen done s f e g =
    let front = session_steps (rest bs) s.ks in
    let l : LeadsTo (rest bs) (s.ks ++ k ∷ []) q = subst (λ (x : Point). LeadsTo (rest bs) (s.ks ++ k ∷ []) x) (sym g) (leads-append (rest bs) s.ks k p s.leads f) in
    let a : session_steps (rest bs) (s.ks ++ k ∷ []) ≡ front ++ (piece_steps p k ++ []) = steps-append (rest bs) s.ks (k ∷ []) p s.leads in
    let b : front ++ (piece_steps p k ++ []) ≡ front ++ steps_shown (take seen steps) = ap (λ (x : List Step). front ++ x) (append-nil (piece_steps p k) ∙ e) in
    record { ks = s.ks ++ k ∷ []; leads = l; under_way = refl; steps_done = append-nil (session_steps (rest bs) (s.ks ++ k ∷ [])) ∙ (a ∙ (b ∙ s.steps_done)) }

pub stands_passed : (bs : List Party) (p : Point) (w : OwnWhole) (q : Point) (steps : List OwnStep) (seen : ℕ) (done : List Step)
    → JudgeStandsAt bs p (Some w) steps seen done → length steps ≤ seen → q ≡ whole_point p (whole_of w) → JudgeStandsAt bs q None [] 0 done
stands_passed bs p w q steps seen done s h g =
    stands-afterwards bs p w (Full (whole_of w)) q steps seen done s s.under_way.0 (sym s.under_way.1 ∙ ap steps_shown (sym (take_all seen steps h))) g

pub stands_cut : (bs : List Party) (p : Point) (w : OwnWhole) (cut : ℕ) (q : Point) (steps : List OwnStep) (seen : ℕ) (done : List Step)
    → JudgeStandsAt bs p (Some w) steps seen done → CutFits p (whole_of w) cut → some_from cut (steps_shown steps) ≡ true → before cut (steps_shown steps) ≡ steps_shown (take seen steps)
    → q ≡ point_after p (Cut (whole_of w) cut) → JudgeStandsAt bs q None [] 0 done
stands_cut bs p w cut q steps seen done s f more e g =
    let fits : PieceFits p (Cut (whole_of w) cut) = (s.under_way.0, f, subst (λ (x : List Step). some_from cut x ≡ true) s.under_way.1 more) in
    stands-afterwards bs p w (Cut (whole_of w) cut) q steps seen done s fits (ap (λ (x : List Step). before cut x) (sym s.under_way.1) ∙ e) g

-- the same with another judge's words for nothing under way
pub stands_cleared : (bs : List Party) (p q : Point) (whole : Option OwnWhole) (steps : List OwnStep) (seen : ℕ) (done : List Step)
    → JudgeStandsAt bs p None [] 0 done → q ≡ p → whole ≡ None → steps ≡ [] → seen ≡ 0 → JudgeStandsAt bs q whole steps seen done
stands_cleared bs p q whole steps seen done s a b c d = record {
  ks = s.ks;
  leads = subst (λ (x : Point). LeadsTo (rest bs) s.ks x) (sym a) s.leads;
  under_way = subst (λ (x : Option OwnWhole). IsPieceUnderWay q x steps) (sym b) c;
  steps_done = ap (λ (x : List OwnStep). session_steps (rest bs) s.ks ++ steps_shown (take seen x)) c ∙ (ap (λ (n : ℕ). session_steps (rest bs) s.ks ++ steps_shown (take n [])) d ∙ s.steps_done);
}

pub stands_uncleared : (bs : List Party) (p : Point) (whole : Option OwnWhole) (steps : List OwnStep) (seen : ℕ) (done : List Step)
    → JudgeStandsAt bs p whole steps seen done → whole ≡ None → steps ≡ [] → seen ≡ 0 → JudgeStandsAt bs p None [] 0 done
stands_uncleared bs p whole steps seen done s b c d = record {
  ks = s.ks;
  leads = s.leads;
  under_way = refl;
  steps_done = ap (λ (n : ℕ). session_steps (rest bs) s.ks ++ steps_shown (take n [])) (sym d) ∙ (ap (λ (x : List OwnStep). session_steps (rest bs) s.ks ++ steps_shown (take seen x)) (sym c) ∙ s.steps_done);
}

-- a judge with a piece under way says so
pub begins_busy : (bs : List Party) (j : Judge) (done : List Step) → JudgeStands bs j done → IsBusy j → BeginsSo bs done
begins_busy bs j done s b = begins_so bs (point_of j.point) b.0 j.steps.items j.seen done (subst (λ (w : Option OwnWhole). JudgeStandsAt bs (point_of j.point) w j.steps.items j.seen done) b.1 s)
