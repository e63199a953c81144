-- What a line of a script prints.
use Rattle.cbm_iec.specs.declared.pace.Pace.{Pace}
use Rattle.std.proofs.Common.{◌≡◌, ℕ, List, [], ◌∷◌, Option, sym, subst, append-nil, Ok, Err}
use Rattle.std.specs.Prelude.{Result, OnOk, OnErr, IfErr}
use Rattle.cbm_program.specs.declared.fault.RunFault.{RunFault}
use Rattle.std.specs.Io.KnownBytes.{Appends, Keeps}
use Rattle.cbm_machine.specs.Machines.{Machine}
use Rattle.cbm_program.specs.declared.request.ScriptRequest.{ScriptRequest}
use Rattle.cbm_program.specs.declared.line.ScriptLine.{ScriptLine}
use Rattle.cbm_program.specs.declared.line.ScriptLine.TheVariants.{Asks}
use Rattle.cbm_program.specs.Scripts.{printed, printed_by}
use Rattle.cbm_program.specs.Output.{Prints, PrintsPart}
use Rattle.cbm_program.specs.Running.{requests_in}
use Rattle.bus_traces.proofs.Appending.{appends-kept}
use Rattle.cbm_program.proofs.OutputLemmas.{part_before, whole_part}

one-prints : (pace : Pace) (a b c : Option (List ℕ)) (stood now : Machine → Type 0) (request : ScriptRequest)
    → Prints a b stood now (printed_by pace request) → Keeps b c
    → Prints a c stood now (printed pace (request ∷ []))
one-prints pace a b c stood now request p k m s =
    let r = p m s in
    (subst (λ t. Appends a c t) (sym (append-nil (printed_by pace request m).text)) (appends-kept a b c (printed_by pace request m).text r.0 k), r.1)

-- what a request prints, and then nothing more
pub asks-prints : (pace : Pace) (a b c : Option (List ℕ)) (stood now : Machine → Type 0) (line : ScriptLine) (request : ScriptRequest) → line ≡ Asks request
    → Prints a b stood now (printed_by pace request) → Keeps b c
    → Prints a c stood now (printed pace (requests_in line))
asks-prints pace a b c stood now line request e p k = rw e (one-prints pace a b c stood now request p k)

pub asks-part : (pace : Pace) (a b c : Option (List ℕ)) (stood now : Machine → Type 0) (line : ScriptLine) (request : ScriptRequest) → line ≡ Asks request
    → Prints a b stood now (printed_by pace request) → Keeps b c
    → PrintsPart a c stood (printed pace (requests_in line))
asks-part pace a b c stood now line request e p k =
    rw e (λ m s. whole_part a c (printed pace (request ∷ []) m).text (one-prints pace a b c stood now request p k m s).0)

-- a request that broke off
pub asks-broken : (pace : Pace) (a b : Option (List ℕ)) (stood : Machine → Type 0) (line : ScriptLine) (request : ScriptRequest) → line ≡ Asks request
    → PrintsPart a b stood (printed_by pace request) → PrintsPart a b stood (printed pace (requests_in line))
asks-broken pace a b stood line request e p = rw e (λ m s. part_before a b (printed_by pace request m).text [] (p m s))

pub if_err : {A E P : Type 0} (r : Result A E) → P → OnErr r P
if_err (Ok a) p = tt
if_err (Err e) p = p

-- a fault that is handed on: nothing is promised of what is done, and it is the same fault
pub none_ok : {A : Type 0} (r : Result A RunFault) (f : RunFault) (P : Type 0) → r ≡ Err f → OnOk r P
none_ok r f P e = subst (λ v. OnOk v P) (sym e) tt

pub same_err : {A : Type 0} (r : Result A RunFault) (f : RunFault) (P : RunFault → Type 0) → r ≡ Err f → P f → IfErr r P
same_err r f P e h = subst (λ v. IfErr v P) (sym e) h
