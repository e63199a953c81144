-- What a script of line changes prints, on the way from a drive to an image.
use Rattle.cbm_iec.specs.declared.pace.Pace.{Pace}
use Rattle.cbm_iec.specs.declared.party.Party.{Party}
use Rattle.std.proofs.Common.{◌≡◌, ℕ, List, [], ◌∷◌, ◌++◌, Bool, true, false, Option, Some, None, refl, sym, ap, subst, ◌∙◌, append-nil}
use Rattle.std.specs.Prelude.{IfSome, IfErr, OnErr, Result, Ok, Err, codes}
use Rattle.cbm_session.specs.Playing.{stays}
use Rattle.cbm_machine.specs.Machines.{Machine}
use Rattle.cbm_program.specs.Beginnings.{NotTimed, FirstRead}
use Rattle.cbm_program.specs.Checking.{checked_text}
use Rattle.bus_traces.specs.Lines.{lines_of, TakesLine}
use Rattle.cbm_program.specs.Output.{AppendsPart}
use Rattle.cbm_program.specs.Running.{EndsAs, EndsBy}
use Rattle.cbm_program.specs.Timetables.{Timetable, of_requests, of_changes, script_if, begins_timed, is_timed, timetable_of}
use Rattle.bus_traces.specs.Events.{trace_text}
use Rattle.cbm_program.specs.Traces.{IsTraceBegun, PrintsTrace, PrintsTracePart, WritesTrace, trace_powered}
use Rattle.cbm_program.specs.declared.fault.RunFault.{RunFault}
use Rattle.cbm_program.specs.declared.fault.RunFault.TheVariants.{Script, Image, Memory, Reading, Writing}
use Rattle.bus_traces.proofs.Appending.{appends-nothing, appends-more}
use Rattle.cbm_program.proofs.OutputLemmas.{part_after, part_before, whole_part}
use Rattle.cbm_program.proofs.RunLemmas.{Ended, faulted, run-start}
use Rattle.cbm_program.proofs.StartLemmas.{AreAmong, Said, ended-among}

-- ---- what the first line says

pub requests_are : (o : Option (List ℕ)) → NotTimed o → of_requests o ≡ o
requests_are None h = refl
requests_are (Some xs) h = ap (λ b. script_if false b xs) h

pub no_changes : (o : Option (List ℕ)) → NotTimed o → of_changes o ≡ None
no_changes None h = refl
no_changes (Some xs) h = ap (λ b. script_if true b xs) h

begins : (xs ys : List ℕ) → lines_of xs ≡ codes "lines" ∷ lines_of ys → is_timed xs ≡ true
begins xs ys e = ap begins_timed e

pub changes_are : (o l : Option (List ℕ)) → TakesLine o l (codes "lines") → of_changes o ≡ o
changes_are None l h = refl
changes_are (Some xs) None h = absurd h
changes_are (Some xs) (Some ys) h = ap (λ b. script_if true b xs) (begins xs ys h)

pub no_requests : (o l : Option (List ℕ)) → TakesLine o l (codes "lines") → of_requests o ≡ None
no_requests None l h = refl
no_requests (Some xs) None h = absurd h
no_requests (Some xs) (Some ys) h = ap (λ b. script_if false b xs) (begins xs ys h)

-- ---- traces

abbrev pub Traced : List ℕ → Option (List ℕ) → Option (List ℕ) → Option (List ℕ) → (Machine → Type 0) → (Machine → Type 0) → Party → Option ℕ → Type 0
Traced text a b x stood now drive bad = IfSome x (λ input. ((timetable_of input).bad ≡ bad) × PrintsTrace a b stood now drive text (timetable_of input))

abbrev pub Left : List ℕ → Option (List ℕ) → Option (List ℕ) → Option (List ℕ) → (Machine → Type 0) → (Machine → Type 0) → Party → Type 0
Left text a b x stood now drive = IfSome x (λ input. PrintsTrace a b stood now drive text (timetable_of input))

abbrev pub Cut : List ℕ → Option (List ℕ) → Option (List ℕ) → Option (List ℕ) → (Machine → Type 0) → Party → Type 0
Cut text a b x stood drive = IfSome x (λ input. PrintsTracePart a b stood drive text (timetable_of input))

trace-among : (text : List ℕ) (a b : Option (List ℕ)) (some all now next : Machine → Type 0) (drive : Party) (t : Timetable) → AreAmong some all → AreAmong now next → PrintsTrace a b all now drive text t → PrintsTrace a b some next drive text t
trace-among text a b some all now next drive t is then p m s = (let r = p m (is m s) in (r.0, r.1, r.2, r.3, then r.1.machine.dos r.4))

pub traced-among : (text : List ℕ) (a b x : Option (List ℕ)) (some all now next : Machine → Type 0) (drive : Party) (bad : Option ℕ) → AreAmong some all → AreAmong now next → Traced text a b x all now drive bad → Traced text a b x some next drive bad
traced-among text a b None some all now next drive bad is then h = tt
traced-among text a b (Some xs) some all now next drive bad is then h = (h.0, trace-among text a b some all now next drive (timetable_of xs) is then h.1)

pub left-traced : (text : List ℕ) (a b x : Option (List ℕ)) (some all now next : Machine → Type 0) (drive : Party) (bad : Option ℕ) → AreAmong some all → AreAmong now next → Traced text a b x all now drive bad → Left text a b x some next drive
left-traced text a b None some all now next drive bad is then h = tt
left-traced text a b (Some xs) some all now next drive bad is then h = trace-among text a b some all now next drive (timetable_of xs) is then h.1

pub left-among : (text : List ℕ) (a b x : Option (List ℕ)) (some all now next : Machine → Type 0) (drive : Party) → AreAmong some all → AreAmong now next → Left text a b x all now drive → Left text a b x some next drive
left-among text a b None some all now next drive is then h = tt
left-among text a b (Some xs) some all now next drive is then h = trace-among text a b some all now next drive (timetable_of xs) is then h

pub cut-among : (text : List ℕ) (a b x : Option (List ℕ)) (some all : Machine → Type 0) (drive : Party) → AreAmong some all → Cut text a b x all drive → Cut text a b x some drive
cut-among text a b None some all drive is h = tt
cut-among text a b (Some xs) some all drive is h = λ m s. h m (is m s)

-- what was printed whole is a beginning, and so is nothing
pub cut-left : (text : List ℕ) (a b x : Option (List ℕ)) (stood now : Machine → Type 0) (drive : Party) → Left text a b x stood now drive → Cut text a b x stood drive
cut-left text a b None stood now drive h = tt
cut-left text a b (Some xs) stood now drive h = λ m s. (let r = h m s in let trace = r.2 in (
  r.0,
  record { from = trace.from; stations = r.1 ∷ []; plays = trace.plays; rest = []; hosts = append-nil _ ∙ trace.hosts },
  whole_part a b (text ++ trace_text r.0) r.3,
))

begun-none : (drive : Party) (m : Machine) (t : Timetable) → IsTraceBegun drive m t []
begun-none drive m t = record { from = 0; stations = trace_powered drive m; plays = stays (tt, tt) refl refl refl; rest = t.changes; hosts = refl }

pub cut-text : (text : List ℕ) (a b x : Option (List ℕ)) (stood : Machine → Type 0) (drive : Party) → ((m : Machine) → stood m → AppendsPart a b text) → Cut text a b x stood drive
cut-text text a b None stood drive h = tt
cut-text text a b (Some xs) stood drive h = λ m s. ([], begun-none drive m (timetable_of xs), part_before a b text [] (h m s))

pub cut-nothing : (text : List ℕ) (a x : Option (List ℕ)) (stood : Machine → Type 0) (drive : Party) → Cut text a a x stood drive
cut-nothing text a x stood drive = cut-text text a a x stood drive (λ m s. ([], text, appends-nothing a, refl))

-- ---- after the line of a check

pub traced-afterwards : (checks : Bool) (a b c x : Option (List ℕ)) (stood now : Machine → Type 0) (drive : Party) (bad : Option ℕ) → Said checks a b stood → Traced [] b c x stood now drive bad → Traced (checked_text checks) a c x stood now drive bad
traced-afterwards checks a b c None stood now drive bad said h = tt
traced-afterwards checks a b c (Some xs) stood now drive bad said h = (h.0, λ m s. (let r = h.1 m s in (r.0, r.1, r.2, appends-more a b c (checked_text checks) (trace_text r.0) (said m s) r.3, r.4)))

pub left-afterwards : (checks : Bool) (a b c x : Option (List ℕ)) (stood now : Machine → Type 0) (drive : Party) → Said checks a b stood → Left [] b c x stood now drive → Left (checked_text checks) a c x stood now drive
left-afterwards checks a b c None stood now drive said h = tt
left-afterwards checks a b c (Some xs) stood now drive said h = λ m s. (let r = h m s in (r.0, r.1, r.2, appends-more a b c (checked_text checks) (trace_text r.0) (said m s) r.3, r.4))

pub cut-afterwards : (checks : Bool) (a b c x : Option (List ℕ)) (stood : Machine → Type 0) (drive : Party) → Said checks a b stood → Cut [] b c x stood drive → Cut (checked_text checks) a c x stood drive
cut-afterwards checks a b c None stood drive said h = tt
cut-afterwards checks a b c (Some xs) stood drive said h = λ m s. (let r = h m s in (r.0, r.1, part_after a b c (checked_text checks) (trace_text r.0) (said m s) r.2))

-- ---- where the first line can't be had

pub first-ended : {A : Type 0} (pace : Pace) (a x k : Option (List ℕ)) (stood now : Machine → Type 0) → AreAmong stood now → (r : Result A RunFault) (f : RunFault) → FirstRead x k (Err f) → r ≡ Err f → EndsAs r (λ bad. Ended pace a a (of_requests x) stood now bad)
first-ended pace a x k stood now then r (Script bad) h e =
    let base : Ended pace a a x stood stood (Some bad) = faulted {A = Unit {0}} pace a a x x k stood stood 1 (Err (Script bad)) (Script bad) (run-start pace a x x stood refl) h.0 refl in
    subst (λ v. EndsAs v (λ b. Ended pace a a (of_requests x) stood now b)) (sym e)
    (ended-among pace false a a stood stood stood now (λ m s. s) then (of_requests x) (Some bad) (subst (λ o. Ended pace a a o stood stood (Some bad)) (sym (requests_are x h.1)) base))
first-ended pace a x k stood now then r (Image n) h e = absurd h
first-ended pace a x k stood now then r Memory h e = absurd h
first-ended pace a x k stood now then r Reading h e = subst (λ v. EndsAs v (λ b. Ended pace a a (of_requests x) stood now b)) (sym e) tt
first-ended pace a x k stood now then r Writing h e = absurd h

pub first-of : {A : Type 0} (pace : Pace) (a y x k : Option (List ℕ)) → y ≡ x → (stood now : Machine → Type 0) → AreAmong stood now → (r : Result A RunFault) (f : RunFault) → FirstRead y k (Err f) → r ≡ Err f → EndsAs r (λ bad. Ended pace a a (of_requests x) stood now bad)
first-of pace a y x k same stood now then r f h e = first-ended pace a x k stood now then r f (subst (λ o. FirstRead o k (Err f)) same h) e

pub first-traced : {A : Type 0} (a x k : Option (List ℕ)) (stood now : Machine → Type 0) (drive : Party) (r : Result A RunFault) (f : RunFault) → FirstRead x k (Err f) → r ≡ Err f → EndsAs r (λ bad. Traced [] a a (of_changes x) stood now drive bad)
first-traced a x k stood now drive r (Script bad) h e = subst (λ v. EndsAs v (λ b. Traced [] a a (of_changes x) stood now drive b)) (sym e) (subst (λ o. Traced [] a a o stood now drive (Some bad)) (sym (no_changes x h.1)) tt)
first-traced a x k stood now drive r (Image n) h e = absurd h
first-traced a x k stood now drive r Memory h e = absurd h
first-traced a x k stood now drive r Reading h e = subst (λ v. EndsAs v (λ b. Traced [] a a (of_changes x) stood now drive b)) (sym e) tt
first-traced a x k stood now drive r Writing h e = absurd h

-- no event was written
pub first-wrote : {A : Type 0} (drive : Party) (a y x k : Option (List ℕ)) → y ≡ x → (r : Result A RunFault) (f : RunFault) → FirstRead y k (Err f) → r ≡ Err f → EndsAs r (λ bad. WritesTrace drive (of_changes x) a a bad)
first-wrote drive a y x k same r (Script bad) h e =
    let read = subst (λ o. FirstRead o k (Err (Script bad))) same h in
    subst (λ v. EndsAs v (λ b. WritesTrace drive (of_changes x) a a b)) (sym e) (subst (λ o. WritesTrace drive o a a (Some bad)) (sym (no_changes x read.1)) tt)
first-wrote drive a y x k same r (Image n) h e = absurd h
first-wrote drive a y x k same r Memory h e = absurd h
first-wrote drive a y x k same r Reading h e = subst (λ v. EndsAs v (λ b. WritesTrace drive (of_changes x) a a b)) (sym e) tt
first-wrote drive a y x k same r Writing h e = absurd h

-- ---- results

pub ends-map : {A : Type 0} (r : Result A RunFault) (P Q : Option ℕ → Type 0) → EndsAs r P → ((bad : Option ℕ) → P bad → Q bad) → EndsAs r Q
ends-map (Ok x) P Q h w = w None h
ends-map (Err (Script line)) P Q h w = w (Some line) h
ends-map (Err (Image n)) P Q h w = tt
ends-map (Err Memory) P Q h w = tt
ends-map (Err Reading) P Q h w = tt
ends-map (Err Writing) P Q h w = tt

pub err-map : {A : Type 0} (r : Result A RunFault) (P Q : Type 0) → OnErr r P → (P → Q) → OnErr r Q
err-map (Ok x) P Q h w = tt
err-map (Err f) P Q h w = w h

-- what was done stays so where the image is saved, or memory for it is refused
pub ends-saved : {A : Type 0} (r : Result A RunFault) (P : Option ℕ → Type 0) → IfErr r (λ f. f ≡ Memory) → P None → EndsAs r P
ends-saved (Ok x) P h p = p
ends-saved (Err f) P h p = subst (λ v. EndsBy v P) (sym h) tt
