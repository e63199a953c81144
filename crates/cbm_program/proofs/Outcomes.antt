-- What a run promises, from a drive to an image.
use Rattle.std.proofs.Common.{◌≡◌, ℕ, List, [], Bool, false, Option, None, refl, sym, subst, ◌∙◌}
use Rattle.std.proofs.lemmas.Result.{IfOk-weaker}
use Rattle.std.specs.Prelude.{IfOk, Result, Ok, Err, codes}
use Rattle.cbm_machine.specs.Machines.{Machine}
use Rattle.cbm_host.specs.Hosted.{party_of}
use Rattle.cbm_iec.specs.declared.pace.Pace.{Pace}
use Rattle.cbm_iec.specs.declared.party.Party.{Party}
use Rattle.bus_traces.specs.Lines.{TakesLine}
use Rattle.cbm_program.specs.declared.fault.RunFault.{RunFault}
use Rattle.cbm_program.specs.declared.fault.RunFault.TheVariants.{Script, Image, Memory, Reading, Writing}
use Rattle.cbm_program.specs.Beginnings.{NotTimed, FirstRead}
use Rattle.cbm_program.specs.Checking.{checked_text}
use Rattle.cbm_program.specs.Outcome.{ServesScript, PlaysScript, IsRun}
use Rattle.cbm_program.specs.Output.{AppendsPart, AppendsMore}
use Rattle.cbm_program.specs.Running.{EndsAs, EndsBy, IsOfScript, IsOfWriting}
use Rattle.cbm_program.specs.Starts.{IsRunRefusal}
use Rattle.cbm_program.specs.Timetables.{of_requests, of_changes}
use Rattle.cbm_program.specs.Traces.{WritesTrace, WritesAfter}
use Rattle.cbm_program.proofs.LinePrints.{if_err}
use Rattle.cbm_program.proofs.OutputLemmas.{grows_none, grows_on}
use Rattle.cbm_program.proofs.RunLemmas.{outside}
use Rattle.cbm_program.proofs.StartLemmas.{AreAmong, Said, ended-among, part-among, ended-afterwards, served-afterwards, part-afterwards, part-cut, nothing-part, ends-again, ends-any}
use Rattle.cbm_program.proofs.TraceLemmas.{requests_are, no_changes, changes_are, no_requests, first-of, first-traced, first-wrote, traced-among, cut-among, cut-text, cut-nothing, traced-afterwards, left-afterwards, cut-afterwards, ends-map, err-map}

no-ok : {A : Type 0} (r : Result A RunFault) (f : RunFault) (P : A → Type 0) → r ≡ Err f → IfOk r P
no-ok r f P e = subst (λ v. IfOk v P) (sym e) tt

any-ok : {A : Type 0} (r : Result A RunFault) → IfOk r (λ x. Unit {0})
any-ok (Ok x) = tt
any-ok (Err f) = tt

-- ---- a script of one kind is none of the other

module _ {A : Type 0} (r : Result A RunFault) (a b : Option (List ℕ)) (stood : Machine → Type 0) (holds : A → Machine → Type 0) where
  serves-none : (pace : Pace) (checks : Bool) → ServesScript r stood holds pace checks None a b
  serves-none pace checks = record { ended = ends-any r _ (λ bad. tt); disk = any-ok r; fault = if_err r tt }

  plays-none : (drive : Party) (checks : Bool) → PlaysScript r stood holds drive checks None a b
  plays-none drive checks = record { ended = ends-any r _ (λ bad. tt); disk = any-ok r; fault = if_err r tt }

  -- a trace, and no line of a check before it
  writes-afterwards : (drive : Party) (input : Option (List ℕ)) → AppendsMore a b → EndsAs r (WritesTrace drive input a b) → EndsAs r (λ bad. WritesAfter drive false input a b bad)
  writes-afterwards drive input grows w = ends-map r _ _ w (λ bad h. (a, (λ off. refl), grows_none a, h))

  pub run-served : (pace : Pace) (device : ℕ) (x : Option (List ℕ)) → NotTimed x → ServesScript r stood holds pace false x a b → AppendsMore a b → IsRun r stood holds pace device false x a b
  run-served pace device x n s grows = record {
    served = subst (λ o. ServesScript r stood holds pace false o a b) (sym (requests_are x n)) s;
    played = subst (λ o. PlaysScript r stood holds (party_of pace device) false o a b) (sym (no_changes x n)) (plays-none (party_of pace device) false);
    wrote = writes-afterwards (party_of pace device) (of_changes x) grows (ends-any r _ (λ bad. subst (λ o. WritesTrace (party_of pace device) o a b bad) (sym (no_changes x n)) tt));
    grows = grows;
  }

  pub run-played : (pace : Pace) (device : ℕ) (x k : Option (List ℕ)) → TakesLine x k (codes "lines") → PlaysScript r stood holds (party_of pace device) false x a b → EndsAs r (WritesTrace (party_of pace device) x a b)
      → AppendsMore a b → IsRun r stood holds pace device false x a b
  run-played pace device x k t p w grows = record {
    served = subst (λ o. ServesScript r stood holds pace false o a b) (sym (no_requests x k t)) (serves-none pace false);
    played = subst (λ o. PlaysScript r stood holds (party_of pace device) false o a b) (sym (changes_are x k t)) p;
    wrote = writes-afterwards (party_of pace device) (of_changes x) grows (subst (λ o. EndsAs r (WritesTrace (party_of pace device) o a b)) (sym (changes_are x k t)) w);
    grows = grows;
  }

-- the first line can't be had, and nothing is written
pub run-first : {A : Type 0} (r : Result A RunFault) (f : RunFault) (a y x k : Option (List ℕ)) (stood : Machine → Type 0) (holds : A → Machine → Type 0) (pace : Pace) (device : ℕ) → y ≡ x → FirstRead y k (Err f) → r ≡ Err f
    → IsRun r stood holds pace device false x a a
run-first r f a y x k stood holds pace device same h e = record {
  served = record {
    ended = first-of pace a y x k same stood (λ m. Unit {0}) (λ m s. tt) r f h e;
    disk = no-ok r f _ e;
    fault = if_err r (nothing-part pace false a (of_requests x) stood);
  };
  played = record {
    ended = first-traced a x k stood (λ m. Unit {0}) (party_of pace device) r f (subst (λ o. FirstRead o k (Err f)) same h) e;
    disk = no-ok r f _ e;
    fault = if_err r (cut-nothing [] a (of_changes x) stood (party_of pace device));
  };
  wrote = writes-afterwards r a a stood holds (party_of pace device) (of_changes x) (grows_none a) (first-wrote (party_of pace device) a y x k same r f h e);
  grows = grows_none a;
}

-- ---- after the line of a check

pub run-afterwards : {A : Type 0} (r : Result A RunFault) (a b c x : Option (List ℕ)) (stood : Machine → Type 0) (holds : A → Machine → Type 0) (pace : Pace) (device : ℕ) (checks : Bool) → Said checks a b stood → (checks ≡ false → b ≡ a) → AppendsMore a b
    → IsRun r stood holds pace device false x b c → IsRun r stood holds pace device checks x a c
run-afterwards r a b c x stood holds pace device checks said none grows run = record {
  served = record {
    ended = ends-map r _ _ run.served.ended (λ bad h. ended-afterwards pace checks a b c stood said (λ m. Unit {0}) (of_requests x) bad h);
    disk = IfOk-weaker r _ _ (λ after h. served-afterwards pace checks a b c stood said (holds after) (of_requests x) h) run.served.disk;
    fault = err-map r _ _ run.served.fault (λ h. part-afterwards pace checks a b c stood said (of_requests x) h);
  };
  played = record {
    ended = ends-map r _ _ run.played.ended (λ bad h. traced-afterwards checks a b c (of_changes x) stood (λ m. Unit {0}) (party_of pace device) bad said h);
    disk = IfOk-weaker r _ _ (λ after h. left-afterwards checks a b c (of_changes x) stood (holds after) (party_of pace device) said h) run.played.disk;
    fault = err-map r _ _ run.played.fault (λ h. cut-afterwards checks a b c (of_changes x) stood (party_of pace device) said h);
  };
  wrote = ends-map r _ _ run.wrote (λ bad h. (b, none, grows, subst (λ o. WritesTrace (party_of pace device) (of_changes x) o c bad) (h.1 refl) h.3));
  grows = grows_on a b c grows run.grows;
}

-- the check's own line broke off
pub run-cut : {A : Type 0} (r : Result A RunFault) (f : RunFault) (a b x : Option (List ℕ)) (stood : Machine → Type 0) (holds : A → Machine → Type 0) (pace : Pace) (device : ℕ) (checks : Bool) → r ≡ Err f → IsOfWriting f
    → ((m : Machine) → stood m → AppendsPart a b (checked_text checks)) → AppendsMore a b → IsRun r stood holds pace device checks x a b
run-cut r f a b x stood holds pace device checks e writing part grows = record {
  served = record { ended = outside r f _ e writing; disk = no-ok r f _ e; fault = if_err r (part-cut pace checks a b (of_requests x) stood part) };
  played = record { ended = outside r f _ e writing; disk = no-ok r f _ e; fault = if_err r (cut-text (checked_text checks) a b (of_changes x) stood (party_of pace device) part) };
  wrote = outside r f _ e writing;
  grows = grows;
}

-- ---- from a medium to an image

-- the run broke off, and so does what was to be done after it
pub run-again : {A B : Type 0} (r : Result A RunFault) (f : RunFault) (a b x : Option (List ℕ)) (some all : Machine → Type 0) (holds : A → Machine → Type 0) (held : B → Machine → Type 0) (pace : Pace) (device : ℕ) (checks : Bool) → AreAmong some all
    → r ≡ Err f → IsRun {A = B} (Err f) all held pace device checks x a b → IsRun r some holds pace device checks x a b
run-again r f a b x some all holds held pace device checks among e run = record {
  served = record {
    ended = ends-again r f _ _ run.served.ended e (λ bad h. ended-among pace checks a b some all (λ m. Unit {0}) (λ m. Unit {0}) among (λ m s. s) (of_requests x) bad h);
    disk = no-ok r f _ e;
    fault = if_err r (part-among pace checks a b (of_requests x) some all among run.served.fault);
  };
  played = record {
    ended = ends-again r f _ _ run.played.ended e (λ bad h. traced-among (checked_text checks) a b (of_changes x) some all (λ m. Unit {0}) (λ m. Unit {0}) (party_of pace device) bad among (λ m s. s) h);
    disk = no-ok r f _ e;
    fault = if_err r (cut-among (checked_text checks) a b (of_changes x) some all (party_of pace device) among run.played.fault);
  };
  wrote = ends-again r f _ _ run.wrote e (λ bad h. h);
  grows = run.grows;
}

-- the image isn't taken, and nothing was done
pub run-refused : {A : Type 0} (r : Result A RunFault) (f : RunFault) (a x : Option (List ℕ)) (stood : Machine → Type 0) (holds : A → Machine → Type 0) (pace : Pace) (device : ℕ) (checks : Bool) → r ≡ Err f → ((P : Option ℕ → Type 0) → EndsAs r P)
    → IsRun r stood holds pace device checks x a a
run-refused r f a x stood holds pace device checks e no-end = record {
  served = record { ended = no-end _; disk = no-ok r f _ e; fault = if_err r (nothing-part pace checks a (of_requests x) stood) };
  played = record { ended = no-end _; disk = no-ok r f _ e; fault = if_err r (cut-nothing (checked_text checks) a (of_changes x) stood (party_of pace device)) };
  wrote = no-end _;
  grows = grows_none a;
}

refused-by : (why : Option ℕ) (f : RunFault) (P : Option ℕ → Type 0) → IsRunRefusal why f → EndsBy f P
refused-by why (Script line) P h = absurd h
refused-by why (Image n) P h = tt
refused-by why Memory P h = tt
refused-by why Reading P h = tt
refused-by why Writing P h = tt

-- such a fault is no end of a script
pub refused-ends : {A : Type 0} (r : Result A RunFault) (f : RunFault) (why : Option ℕ) (P : Option ℕ → Type 0) → r ≡ Err f → IsRunRefusal why f → EndsAs r P
refused-ends r f why P e h = subst (λ v. EndsAs v P) (sym e) (refused-by why f P h)

-- memory was lacking before anything was read, so nothing ended
pub lacking-ends : {A : Type 0} (r : Result A RunFault) (f : RunFault) (P : Option ℕ → Type 0) → r ≡ Err f → f ≡ Memory → EndsAs r P
lacking-ends r f P e h = refused-ends r f None P e (subst (IsRunRefusal None) (sym h) tt)

not-image : (f : RunFault) (n : ℕ) → IsOfScript f → f ≡ Image n → ⊥
not-image f n h e = subst IsOfScript e h

not-memory : (f : RunFault) → IsOfScript f → f ≡ Memory → ⊥
not-memory f h e = subst IsOfScript e h

-- a run blames no image,
pub refused-again : {A : Type 0} (r : Result A RunFault) (f : RunFault) (n : ℕ) (P : Type 0) → r ≡ Err f → IsOfScript f → r ≡ Err (Image n) → P
refused-again r f n P e h i = absurd (not-image f n h (let same : Err f ≡ Err (Image n) = sym e ∙ i in cc))

-- nor is it one for whose drive memory is lacking
pub lacking-image : {A : Type 0} (r : Result A RunFault) (f : RunFault) (n : ℕ) (P : Type 0) → r ≡ Err f → f ≡ Memory → r ≡ Err (Image n) → P
lacking-image r f n P e h i = absurd (let same : Err f ≡ Err (Image n) = sym e ∙ i in cc)

-- and never lacks memory
pub not-lacking : {A : Type 0} (r : Result A RunFault) (f : RunFault) (P : Type 0) → r ≡ Err f → IsOfScript f → r ≡ Err Memory → P
not-lacking r f P e h i = absurd (not-memory f h (let same : Err f ≡ Err Memory = sym e ∙ i in cc))
