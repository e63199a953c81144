-- A request isn't over before its first change, which comes at its start.
use Rattle.std.proofs.Common.{◌≡◌, ℕ, ◌≤◌, List, [], ◌∷◌, ◌++◌, refl, sym, ap, ◌∙◌, subst, arith}
use Rattle.cbm_iec.specs.Ports.{change_at}
use Rattle.cbm_iec.specs.declared.event.Who.TheVariants.{Host, Drive}
use Rattle.cbm_iec.specs.declared.lines.Change.{Change}
use Rattle.cbm_iec.specs.declared.lines.Line.TheVariants.{Atn}
use Rattle.cbm_iec.specs.declared.lines.Way.TheVariants.{Pull}
use Rattle.cbm_iec.specs.declared.party.Party.{Party}
use Rattle.cbm_session.proofs.timing.SessionOrder.{goes_on}
use Rattle.cbm_session.specs.Laws.{GoesOn}
use Rattle.cbm_session.specs.Pieces.{Piece}
use Rattle.cbm_session.specs.Sessions.{rest, IsBus}
use Rattle.cbm_session.specs.Steps.{Step, moment_of, event_of}
use Rattle.cbm_host.proofs.Finished.{upto_last}
use Rattle.cbm_host.specs.Engines.{Engined, engine_at, engine_due, engine_seen}
use Rattle.cbm_host.specs.Performing.{Performs, ends, makes, sees, passes}
use Rattle.cbm_host.specs.Requests.{IsPlayed}
use Rattle.cbm_host.specs.declared.due.Due.TheVariants.{Makes, Waits}
use Rattle.cbm_host.specs.declared.request.Request.{Request}
use Rattle.cbm_host.specs.declared.stage.Stage.TheVariants.{Ending}

-- a step of these is made at that moment
record HasStepAt (t : ℕ) (ss : List Step) : Type 0 where
  front : List Step
  here : Step
  afterwards : List Step
  parts : ss ≡ front ++ here ∷ afterwards
  moment : moment_of here ≡ t

one_more : (t : ℕ) (s : Step) (ss : List Step) → HasStepAt t ss → HasStepAt t (s ∷ ss)
one_more t s ss h = record { front = s ∷ h.front; here = h.here; afterwards = h.afterwards; parts = ap (λ (l : List Step). s ∷ l) h.parts; moment = h.moment }

module _ (start d : ℕ) (request : Request) (until : ℕ) where
  -- before the pull nothing that the drive does changes what the host is at
  pulls : {e e2 : Engined} {ss : List Step} → Performs e ss e2 → e ≡ engine_at start d request → e2.stage ≡ Ending until → HasStepAt start ss
  pulls {e} {e2} (ends same) first ending = let k : (engine_at start d request).stage ≡ Ending until = ap (λ (x : Engined). x.stage) (sym first ∙ sym same) ∙ ending in absurd cc
  pulls {e} (makes {t} {line} {way} {mark} {ss} due taken h) first ending =
      let k : Makes (change_at t line way) ≡ Makes (change_at start Atn Pull) = sym due ∙ ap engine_due first in
      let c : change_at t line way ≡ change_at start Atn Pull = cc in
      record { front = []; here = _; afterwards = ss; parts = refl; moment = ap (λ (x : Change). x.moment) c }
  pulls {e} (sees {o} {t} {line} {way} {mark} {ss} early h) first ending = one_more start _ ss (pulls h (ap (engine_seen (change_at t line way)) first) ending)
  pulls {e} (passes u due silent h) first ending = let k : Waits u ≡ Makes (change_at start Atn Pull) = sym due ∙ ap engine_due first in absurd cc

-- THE END ISN'T BEFORE THE START
pub not_before_start : (b : Party) (start d limit : ℕ) (request : Request) (ks : List Piece) → IsBus (b ∷ []) → (f : IsPlayed b (rest (b ∷ [])) (engine_at start d request) ks limit) → start ≤ f.until
not_before_start b start d limit request ks is_bus f =
    let h = pulls start d request f.until f.performs refl f.ending in
    let order : GoesOn (h.front ++ h.here ∷ h.afterwards) = subst GoesOn h.parts (goes_on (b ∷ []) ks is_bus f.linked) in
    let last = upto_last h.front h.here h.afterwards f.front f.last order (sym h.parts ∙ f.steps) in
    let here = h.moment in
    let over = f.over in
    omega (arith, last, here, over)

-- where the host's change is the first step, it comes at the start
pub starts_at : (start d : ℕ) (request : Request) {e e2 : Engined} {ss : List Step} → Performs e ss e2 → e ≡ engine_at start d request → (x : Step) (xs : List Step) → ss ≡ x ∷ xs → x.event.who ≡ Host → moment_of x ≡ start
starts_at start d request (ends same) first x xs e host = absurd cc
starts_at start d request {e} (makes {t} {line} {way} {mark} {ss} due taken h) first x xs e2 host =
    let k : Makes (change_at t line way) ≡ Makes (change_at start Atn Pull) = sym due ∙ ap engine_due first in
    let c : change_at t line way ≡ change_at start Atn Pull = cc in
    let same : record { event = event_of Host t line way; mark = mark } ≡ x = cc in
    ap moment_of (sym same) ∙ ap (λ (y : Change). y.moment) c
starts_at start d request (sees {o} {t} {line} {way} {mark} {ss} early h) first x xs e host =
    let same : record { event = event_of (Drive o) t line way; mark = mark } ≡ x = cc in
    let no : Drive o ≡ Host = ap (λ (s : Step). s.event.who) same ∙ host in
    absurd cc
starts_at start d request (passes u due silent h) first x xs e host = let k : Waits u ≡ Makes (change_at start Atn Pull) = sym due ∙ ap engine_due first in absurd cc
