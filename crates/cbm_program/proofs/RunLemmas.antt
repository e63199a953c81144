-- A script that runs, line by line.
use Rattle.cbm_iec.specs.declared.pace.Pace.{Pace}
use Rattle.std.proofs.Common.{arith, false, ◌≡◌, ℕ, ◌+◌, ◌<◌, ◌≤◌, List, [], ◌∷◌, ◌++◌, Option, Some, None, refl, ap, sym, ◌∙◌, append_assoc, append-nil, subst}
use Rattle.std.specs.Prelude.{IfSome, Result, Ok, Err}
use Rattle.std.specs.Io.KnownBytes.{Appends, IsAtEnd}
use Rattle.cbm_machine.specs.Machines.{Machine}
use Rattle.cbm_program.specs.declared.request.ScriptRequest.{ScriptRequest}
use Rattle.cbm_program.specs.declared.line.ScriptLine.{ScriptLine}
use Rattle.cbm_program.specs.declared.line.ScriptLine.TheVariants.{Skipped, Asks}
use Rattle.cbm_program.specs.declared.fault.RunFault.{RunFault}
use Rattle.cbm_program.specs.declared.fault.RunFault.TheVariants.{Script, Image, Memory, Reading, Writing}
use Rattle.cbm_host.specs.Requests.{longest}
use Rattle.cbm_iec.specs.declared.pace.Pace.TheVariants.{Profile, Kernal}
use Rattle.bus_traces.specs.Lines.{lines_of}
use Rattle.cbm_program.specs.Scripts.{printed, printed_by}
use Rattle.cbm_program.specs.Outcome.{IsServedTo, IsServedPart}
use Rattle.cbm_program.specs.Output.{AppendsPart, Prints, PrintsPart}
use Rattle.cbm_program.specs.Running.{requests_in, meaning, Asked, refused_at, with_script_line, asked_from, script_of, ReadsLine, ComesBad, LineRead, LineIsInRange, EndsAs, IsOfWriting}
use Rattle.bus_traces.proofs.Appending.{appends-nothing, appends-more}
use Rattle.cbm_program.proofs.OutputLemmas.{part_after, part_before, whole_part}

-- ---- requests after requests

text-append : (pace : Pace) (xs ys : List ScriptRequest) (m : Machine) → (printed pace (xs ++ ys) m).text ≡ (printed pace xs m).text ++ (printed pace ys (printed pace xs m).machine).text
text-append pace [] ys m = refl
text-append pace (r ∷ xs) ys m =
    ap (λ t. (printed_by pace r m).text ++ t) (text-append pace xs ys (printed_by pace r m).machine)
    ∙ sym (append_assoc (printed_by pace r m).text (printed pace xs (printed_by pace r m).machine).text (printed pace ys (printed pace (r ∷ xs) m).machine).text)

machine-append : (pace : Pace) (xs ys : List ScriptRequest) (m : Machine) → (printed pace (xs ++ ys) m).machine ≡ (printed pace ys (printed pace xs m).machine).machine
machine-append pace [] ys m = refl
machine-append pace (r ∷ xs) ys m = machine-append pace xs ys (printed_by pace r m).machine

-- requests in front of what is asked
abbrev pub afterwards : List ScriptRequest → Asked → Asked
afterwards done asked = record { requests = done ++ asked.requests; bad = asked.bad }

afterwards-append : (xs ys : List ScriptRequest) (a : Asked) → afterwards xs (afterwards ys a) ≡ afterwards (xs ++ ys) a
afterwards-append xs ys a = ap (λ t. let r : Asked = record { requests = t; bad = a.bad } in r) (sym (append_assoc xs ys a.requests))

asked-end : (n : ℕ) → asked_from n [] ≡ refused_at None
unfolding asked_from
asked-end n = refl

asked-bad : (n : ℕ) (line : List ℕ) (lines : List (List ℕ)) → meaning n line ≡ None → asked_from n (line ∷ lines) ≡ refused_at (Some n)
unfolding asked_from
asked-bad n line lines e = ap (λ o. with_script_line o n (asked_from (n + 1) lines)) e

line-asks : (line : ScriptLine) (n : ℕ) (rest : Asked) → with_script_line (Some line) n rest ≡ afterwards (requests_in line) rest
line-asks Skipped n rest = refl
line-asks (Asks request) n rest = refl

asked-line : (n : ℕ) (bytes : List ℕ) (lines : List (List ℕ)) (line : ScriptLine) → meaning n bytes ≡ Some line
    → asked_from n (bytes ∷ lines) ≡ afterwards (requests_in line) (asked_from (n + 1) lines)
unfolding asked_from
asked-line n bytes lines line e = ap (λ o. with_script_line o n (asked_from (n + 1) lines)) e ∙ line-asks line n (asked_from (n + 1) lines)

-- ---- a run before line n

-- what the input asks is what is done, and then what is left asks
abbrev pub Follows : Option (List ℕ) → Option (List ℕ) → ℕ → List ScriptRequest → Type 0
Follows None left n done = Unit {0}
Follows (Some xs) None n done = ⊥
Follows (Some xs) (Some ys) n done = script_of xs ≡ afterwards done (asked_from n (lines_of ys))

-- The requests so far are done, and what is left follows them.
pub record Running (pace : Pace) (a b input left : Option (List ℕ)) (stood now : Machine → Type 0) (n : ℕ) : Type 0 where
  pub done : List ScriptRequest
  pub follows : Follows input left n done
  pub prints : Prints a b stood now (printed pace done)

follows-start : (x : Option (List ℕ)) → Follows x x 1 []
follows-start None = tt
follows-start (Some xs) = refl

pub run-start : (pace : Pace) (a x l : Option (List ℕ)) (stood : Machine → Type 0) → l ≡ x → Running pace a a x l stood stood 1
run-start pace a x l stood e = record {
  done = [];
  follows = subst (λ o. Follows x o 1 []) (sym e) (follows-start x);
  prints = λ m s. (appends-nothing a, s);
}

follows-line : (x l k : Option (List ℕ)) (n : ℕ) (done : List ScriptRequest) (line : ScriptLine) → Follows x l n done → ReadsLine l k n line
    → Follows x k (n + 1) (done ++ requests_in line)
follows-line None l k n done line f t = tt
follows-line (Some xs) None k n done line f t = absurd f
follows-line (Some xs) (Some ys) None n done line f t = absurd t
follows-line (Some xs) (Some ys) (Some zs) n done line f (bytes, e, means) =
    f ∙ (ap (λ o. afterwards done o) (ap (λ ls. asked_from n ls) e ∙ asked-line n bytes (lines_of zs) line means)
    ∙ afterwards-append done (requests_in line) (asked_from (n + 1) (lines_of zs)))

-- one line more is done
prints-line : (pace : Pace) (a b c : Option (List ℕ)) (stood now next : Machine → Type 0) (done requests : List ScriptRequest)
    → Prints a b stood now (printed pace done)
    → Prints b c now next (printed pace requests)
    → Prints a c stood next (printed pace (done ++ requests))
prints-line pace a b c stood now next done requests p q m s =
    let first = p m s in
    let second = q (printed pace done m).machine first.1 in (
      subst (λ t. Appends a c t) (sym (text-append pace done requests m))
          (appends-more a b c (printed pace done m).text (printed pace requests (printed pace done m).machine).text first.0 second.0),
      subst (λ x. next x) (sym (machine-append pace done requests m)) second.1,
    )

pub run-line : (pace : Pace) (a b c x l k : Option (List ℕ)) (stood now next : Machine → Type 0) (n : ℕ) (line : ScriptLine) → Running pace a b x l stood now n → ReadsLine l k n line
    → Prints b c now next (printed pace (requests_in line)) → Running pace a c x k stood next (n + 1)
run-line pace a b c x l k stood now next n line r t p = record {
  done = r.done ++ requests_in line;
  follows = follows-line x l k n r.done line r.follows t;
  prints = prints-line pace a b c stood now next r.done (requests_in line) r.prints p;
}

-- ---- what is written is a beginning of what the input prints

-- a beginning of what all the input prints
abbrev pub Begun : Pace → Option (List ℕ) → Option (List ℕ) → Option (List ℕ) → (Machine → Type 0) → Type 0
Begun pace a b x stood = IsServedPart pace false x a b stood

begun : (pace : Pace) (a b : Option (List ℕ)) (stood : Machine → Type 0) (done : List ScriptRequest) (asked rest : Asked) → asked ≡ afterwards done rest
    → PrintsPart a b stood (printed pace done)
    → PrintsPart a b stood (printed pace asked.requests)
begun pace a b stood done asked rest e p m s =
    let same : asked.requests ≡ done ++ rest.requests = ap (λ (o : Asked). o.requests) e in
    subst (λ rs. AppendsPart a b (printed pace rs m).text) (sym same)
    (subst (λ t. AppendsPart a b t) (sym (text-append pace done rest.requests m))
    (part_before a b (printed pace done m).text (printed pace rest.requests (printed pace done m).machine).text (p m s)))

whole : (pace : Pace) (a b : Option (List ℕ)) (stood now : Machine → Type 0) (requests : List ScriptRequest) → Prints a b stood now (printed pace requests) → PrintsPart a b stood (printed pace requests)
whole pace a b stood now requests p m s = whole_part a b (printed pace requests m).text (p m s).0

pub run-part : (pace : Pace) (a b x l : Option (List ℕ)) (stood now : Machine → Type 0) (n : ℕ) → Running pace a b x l stood now n → Begun pace a b x stood
run-part pace a b None l stood now n r = tt
run-part pace a b (Some xs) None stood now n r = absurd r.follows
run-part pace a b (Some xs) (Some ys) stood now n r =
    begun pace a b stood r.done (script_of xs) (asked_from n (lines_of ys)) r.follows (whole pace a b stood now r.done r.prints)

part-line : (pace : Pace) (a b c : Option (List ℕ)) (stood now : Machine → Type 0) (done requests : List ScriptRequest)
    → Prints a b stood now (printed pace done)
    → PrintsPart b c now (printed pace requests)
    → PrintsPart a c stood (printed pace (done ++ requests))
part-line pace a b c stood now done requests p q m s =
    let first = p m s in
    subst (λ t. AppendsPart a c t) (sym (text-append pace done requests m))
    (part_after a b c (printed pace done m).text (printed pace requests (printed pace done m).machine).text first.0 (q (printed pace done m).machine first.1))

-- the same where a line's own text broke off
pub run-broken : (pace : Pace) (a b c x l k : Option (List ℕ)) (stood now : Machine → Type 0) (n : ℕ) (line : ScriptLine) → Running pace a b x l stood now n → ReadsLine l k n line
    → PrintsPart b c now (printed pace (requests_in line)) → Begun pace a c x stood
run-broken pace a b c None l k stood now n line r t p = tt
run-broken pace a b c (Some xs) None k stood now n line r t p = absurd r.follows
run-broken pace a b c (Some xs) (Some ys) None stood now n line r t p = absurd t
run-broken pace a b c (Some xs) (Some ys) (Some zs) stood now n line r t p =
    begun pace a c stood (r.done ++ requests_in line) (script_of xs) (asked_from (n + 1) (lines_of zs))
    (follows-line (Some xs) (Some ys) (Some zs) n r.done line r.follows t) (part-line pace a b c stood now r.done (requests_in line) r.prints p)

-- ---- the run's end: at the script's end, or at a bad line

abbrev pub Ended : Pace → Option (List ℕ) → Option (List ℕ) → Option (List ℕ) → (Machine → Type 0) → (Machine → Type 0) → Option ℕ → Type 0
Ended pace a b x stood now bad = IsServedTo pace false x a b stood now bad

ended : (pace : Pace) (a b : Option (List ℕ)) (xs : List ℕ) (stood now : Machine → Type 0) (done : List ScriptRequest) (bad : Option ℕ) → script_of xs ≡ afterwards done (refused_at bad)
    → Prints a b stood now (printed pace done) → Ended pace a b (Some xs) stood now bad
ended pace a b xs stood now done bad e p = (
  ap (λ (o : Asked). o.bad) e,
  subst (λ rs. Prints a b stood now (printed pace rs)) (sym (ap (λ (o : Asked). o.requests) e ∙ append-nil done)) p,
)

pub run-end : (pace : Pace) (a b x l : Option (List ℕ)) (stood now : Machine → Type 0) (n : ℕ) → Running pace a b x l stood now n → IsAtEnd l → Ended pace a b x stood now None
run-end pace a b None l stood now n r at = tt
run-end pace a b (Some xs) None stood now n r at = absurd r.follows
run-end pace a b (Some xs) (Some ys) stood now n r at =
    ended pace a b xs stood now r.done None (r.follows ∙ ap (λ o. afterwards r.done o) (ap (λ t. asked_from n (lines_of t)) at ∙ asked-end n)) r.prints

run-bad : (pace : Pace) (a b x l : Option (List ℕ)) (stood now : Machine → Type 0) (n : ℕ) → Running pace a b x l stood now n → ComesBad l n → Ended pace a b x stood now (Some n)
run-bad pace a b None l stood now n r bad = tt
run-bad pace a b (Some xs) None stood now n r bad = absurd r.follows
run-bad pace a b (Some xs) (Some ys) stood now n r (line, lines, e, none) =
    ended pace a b xs stood now r.done (Some n) (r.follows ∙ ap (λ o. afterwards r.done o) (ap (λ ls. asked_from n ls) e ∙ asked-bad n line lines none)) r.prints

-- a reading that gave no line: the fault that it gave ends the run as it should
pub faulted : {A : Type 0} (pace : Pace) (a b x l k : Option (List ℕ)) (stood now : Machine → Type 0) (n : ℕ) (r : Result A RunFault) (f : RunFault) → Running pace a b x l stood now n
    → LineRead l k n (Err f) → r ≡ Err f → EndsAs r (λ bad. Ended pace a b x stood now bad)
faulted pace a b x l k stood now n r (Script bad) run h e =
    subst (λ v. EndsAs v (λ bad. Ended pace a b x stood now bad)) (sym e) (subst (λ i. Ended pace a b x stood now (Some i)) (sym h.0) (run-bad pace a b x l stood now n run h.1))
faulted pace a b x l k stood now n r (Image number) run h e = absurd h
faulted pace a b x l k stood now n r Memory run h e = absurd h
faulted pace a b x l k stood now n r Reading run h e = subst (λ v. EndsAs v (λ bad. Ended pace a b x stood now bad)) (sym e) tt
faulted pace a b x l k stood now n r Writing run h e = absurd h

-- a fault of writing says nothing of the end
pub outside : {A : Type 0} (r : Result A RunFault) (f : RunFault) (P : Option ℕ → Type 0) → r ≡ Err f → IsOfWriting f → EndsAs r P
outside r f P e h = subst (λ v. EndsAs v P) (sym (e ∙ ap Err h)) tt

-- ---- a run whose next line was read

pub record RunningOn (pace : Pace) (a b input left : Option (List ℕ)) (stood now : Machine → Type 0) (n : ℕ) (next : Option ScriptLine) : Type 0 where
  pub before : Option (List ℕ)
  pub running : Running pace a b input before stood now n
  pub read : LineRead before left n (Ok next)

pub on-start : (pace : Pace) (a input left : Option (List ℕ)) (stood : Machine → Type 0) (next : Option ScriptLine) → LineRead input left 1 (Ok next) → RunningOn pace a a input left stood stood 1 next
on-start pace a input left stood next r = record { before = input; running = run-start pace a input input stood refl; read = r }

-- it is carried out, and the one after it was read
pub on-line : (pace : Pace) (a b c input l k : Option (List ℕ)) (stood now next : Machine → Type 0) (n : ℕ) (line : ScriptLine) (afterwards-it : Option ScriptLine) → RunningOn pace a b input l stood now n (Some line) → Prints b c now next (printed pace (requests_in line))
    → LineRead l k (n + 1) (Ok afterwards-it) → RunningOn pace a c input k stood next (n + 1) afterwards-it
on-line pace a b c input l k stood now next n line afterwards-it r p read = record { before = l; running = run-line pace a b c input r.before l stood now next n line r.running r.read.0 p; read = read }

-- it is carried out, and the one after it can't be had
pub on-faulted : {A : Type 0} (pace : Pace) (a b c input l k : Option (List ℕ)) (stood now next : Machine → Type 0) (n : ℕ) (line : ScriptLine) (r : Result A RunFault) (f : RunFault) → RunningOn pace a b input l stood now n (Some line) → Prints b c now next (printed pace (requests_in line))
    → LineRead l k (n + 1) (Err f) → r ≡ Err f → EndsAs r (λ bad. Ended pace a c input stood next bad)
on-faulted pace a b c input l k stood now next n line r f o p read e = faulted pace a c input l k stood next (n + 1) r f (run-line pace a b c input o.before l stood now next n line o.running o.read.0 p) read e

pub on-part : (pace : Pace) (a b c input l : Option (List ℕ)) (stood now next : Machine → Type 0) (n : ℕ) (line : ScriptLine) → RunningOn pace a b input l stood now n (Some line) → Prints b c now next (printed pace (requests_in line)) → Begun pace a c input stood
on-part pace a b c input l stood now next n line o p = run-part pace a c input l stood next (n + 1) (run-line pace a b c input o.before l stood now next n line o.running o.read.0 p)

-- its own text broke off
pub on-broken : (pace : Pace) (a b c input l : Option (List ℕ)) (stood now : Machine → Type 0) (n : ℕ) (line : ScriptLine) → RunningOn pace a b input l stood now n (Some line) → PrintsPart b c now (printed pace (requests_in line)) → Begun pace a c input stood
on-broken pace a b c input l stood now n line o p = run-broken pace a b c input o.before l stood now n line o.running o.read.0 p

-- there is none
pub on-end : (pace : Pace) (a b input l : Option (List ℕ)) (stood now : Machine → Type 0) (n : ℕ) → RunningOn pace a b input l stood now n None → Ended pace a b input stood now None
on-end pace a b input l stood now n o = run-end pace a b input o.before stood now n o.running o.read

-- ---- what the reading of a line says of it

pub each-some : {A : Type 0} (o : Option A) (P : Type 0) → P → IfSome o (λ x. P)
each-some None P h = tt
each-some (Some x) P h = h

pub read-channel : (l k : Option (List ℕ)) (n : ℕ) (line : Option ScriptLine) → LineRead l k n (Ok line) → IfSome line LineIsInRange
read-channel l k n None h = tt
read-channel l k n (Some line) h = h.2

pub read-few : (l k : Option (List ℕ)) (n : ℕ) (line : Option ScriptLine) → LineRead l k n (Ok line) → IfSome line (λ x. n < 1000001)
read-few l k n None h = tt
read-few l k n (Some line) h = h.1

-- ---- the pace of a drive that stays at it

pub prints-at : (e f : Pace) (a b : Option (List ℕ)) (stood now : Machine → Type 0) (requests : List ScriptRequest) → e ≡ f → Prints a b stood now (printed e requests) → Prints a b stood now (printed f requests)
prints-at e f a b stood now requests same p = subst (λ (x : Pace). Prints a b stood now (printed x requests)) same p

pub part-at : (e f : Pace) (a b : Option (List ℕ)) (stood : Machine → Type 0) (requests : List ScriptRequest) → e ≡ f → PrintsPart a b stood (printed e requests) → PrintsPart a b stood (printed f requests)
part-at e f a b stood requests same p = subst (λ (x : Pace). PrintsPart a b stood (printed x requests)) same p

-- no request takes longer
pub longest_most : (e : Pace) → longest e ≤ 320000000
longest_most Profile = omega arith
longest_most Kernal = omega arith
