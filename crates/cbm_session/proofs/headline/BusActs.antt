-- What each machine of a bus ran: the acts that count for its drive among the steps that were played.
use Rattle.std.proofs.Common.{◌≡◌, ℕ, Bool, true, false, List, [], ◌∷◌, ◌++◌, append_assoc, Option, Some, None, ap, sym, ◌∙◌, subst, refl, eq-eqb}
use Rattle.std.proofs.lemmas.List.{append-nil}
use Rattle.std.specs.Prelude.{if◌then◌else◌, nat_eq}
use Rattle.cbm_iec.specs.Machines.{acted}
use Rattle.cbm_iec.specs.declared.machine.Act.{Act}
use Rattle.cbm_iec.specs.declared.lines.Change.{Change}
use Rattle.cbm_session.specs.Among.{CountsFor}
use Rattle.cbm_session.specs.Answers.{run_acts}
use Rattle.cbm_session.specs.Following.{own_steps}
use Rattle.cbm_session.specs.Playing.{Station}
use Rattle.cbm_session.specs.Steps.{Mark, Step, acts_for, with_mark, Plain, ForEach, For}

mark_append : (d : ℕ) (mark : Mark) (xs ys : List Act) → with_mark d mark (xs ++ ys) ≡ with_mark d mark xs ++ ys
mark_append d Plain xs ys = refl
mark_append d (ForEach a) xs ys = refl
mark_append d (For o a) xs ys = go (nat_eq d o)
  where
    go : (v : Bool) → (if v then a ∷ (xs ++ ys) else xs ++ ys) ≡ (if v then a ∷ xs else xs) ++ ys
    go true = refl
    go false = refl

pub acts_append : (d : ℕ) (xs ys : List Step) → acts_for d (xs ++ ys) ≡ acts_for d xs ++ acts_for d ys
acts_append d [] ys = refl
acts_append d (x ∷ xs) ys = ap (λ (v : List Act). with_mark d x.mark v) (acts_append d xs ys) ∙ mark_append d x.mark (acts_for d xs) (acts_for d ys)

-- of another drive's reaction nothing counts for d
other_acts : (d o : ℕ) (cs : List Change) (act : Option Act) → nat_eq d o ≡ false → acts_for d (own_steps o cs act) ≡ []
other_acts d o [] act n = refl
other_acts d o (c ∷ []) None n = refl
other_acts d o (c ∷ []) (Some a) n = ap (λ (v : Bool). if v then a ∷ [] else []) n
other_acts d o (c ∷ e ∷ []) None n = refl
other_acts d o (c ∷ e ∷ []) (Some a) n = ap (λ (v : Bool). if v then a ∷ [] else []) n
other_acts d o (c ∷ e ∷ x ∷ cs) act n = refl

module _ (M : Type 0) (step : M → Act → M) (peek : M → Option (ℕ × Bool)) where
  pub run_append : (m : M) (xs ys : List Act) → run_acts M step peek m (xs ++ ys) ≡ run_acts M step peek (run_acts M step peek m xs) ys
  run_append m [] ys = refl
  run_append m (x ∷ xs) ys = run_append (step m x) xs ys

  -- what was told by a step is what it runs
  pub mark_acted : (d : ℕ) (mark : Mark) (act : Option Act) (m : M) → CountsFor d mark act → run_acts M step peek m (with_mark d mark []) ≡ acted M step act m
  mark_acted d Plain act m c = ap (λ (o : Option Act). acted M step o m) (sym c)
  mark_acted d (ForEach a) act m c = ap (λ (o : Option Act). acted M step o m) (sym c)
  mark_acted d (For o a) act m c = go (nat_eq d o) ∙ ap (λ (x : Option Act). acted M step x m) (sym c)
    where
      go : (v : Bool) → run_acts M step peek m (if v then a ∷ [] else []) ≡ acted M step (if v then Some a else None) m
      go true = refl
      go false = refl

  -- and by a reaction of its own
  pub own_acted : (d : ℕ) (cs : List Change) (act : Option Act) (m : M) → (own_steps d cs act ≡ [] → ⊥) → run_acts M step peek m (acts_for d (own_steps d cs act)) ≡ acted M step act m
  own_acted d [] act m n = absurd (n refl)
  own_acted d (c ∷ []) None m n = refl
  own_acted d (c ∷ []) (Some a) m n = ap (λ (v : Bool). run_acts M step peek m (if v then a ∷ [] else [])) (eq-eqb d d refl)
  own_acted d (c ∷ e ∷ []) None m n = refl
  own_acted d (c ∷ e ∷ []) (Some a) m n = ap (λ (v : Bool). run_acts M step peek m (if v then a ∷ [] else [])) (eq-eqb d d refl)
  own_acted d (c ∷ e ∷ x ∷ cs) act m n = absurd (n refl)

  -- the machine of a drive has run what counts for it among these steps; and those of all
  abbrev pub HasRun : (ℕ → M) → List Step → Station M → Type 0
  HasRun ms done s = s.machine ≡ run_acts M step peek (ms s.port.party.device) (acts_for s.port.party.device done)

  abbrev pub AllRan : (ℕ → M) → List Step → List (Station M) → Type 0
  AllRan ms done [] = Unit {0}
  AllRan ms done (s ∷ ss) = HasRun ms done s × AllRan ms done ss

  -- a machine goes on with what counts among more steps
  pub run_on : (m m0 : M) (d : ℕ) (done zs : List Step) (act : Option Act) → m ≡ run_acts M step peek m0 (acts_for d done) → ((x : M) → run_acts M step peek x (acts_for d zs) ≡ acted M step act x) → acted M step act m ≡ run_acts M step peek m0 (acts_for d (done ++ zs))
  run_on m m0 d done zs act h k =
      ap (λ (x : M). acted M step act x) h
      ∙ sym (k (run_acts M step peek m0 (acts_for d done)))
      ∙ sym (run_append m0 (acts_for d done) (acts_for d zs))
      ∙ ap (λ (v : List Act). run_acts M step peek m0 v) (sym (acts_append d done zs))

  -- and stays where another drive's reaction is heard
  pub run_other : (m m0 : M) (d o : ℕ) (done : List Step) (cs : List Change) (act : Option Act) → nat_eq d o ≡ false → m ≡ run_acts M step peek m0 (acts_for d done) → m ≡ run_acts M step peek m0 (acts_for d (done ++ own_steps o cs act))
  run_other m m0 d o done cs act n h =
      h ∙ ap (λ (v : List Act). run_acts M step peek m0 v)
      (sym (append-nil (acts_for d done)) ∙ ap (λ (v : List Act). acts_for d done ++ v) (sym (other_acts d o cs act n)) ∙ sym (acts_append d done (own_steps o cs act)))

  pub ran_before : (ms : ℕ → M) (done : List Step) (before : List (Station M)) (o : Station M) (afterwards : List (Station M)) → AllRan ms done (before ++ o ∷ afterwards) → AllRan ms done before × HasRun ms done o × AllRan ms done afterwards
  ran_before ms done [] o afterwards h = (tt, h.0, h.1)
  ran_before ms done (b ∷ before) o afterwards h = let k = ran_before ms done before o afterwards h.1 in ((h.0, k.0), k.1, k.2)

  pub ran_joined : (ms : ℕ → M) (done : List Step) (before : List (Station M)) (o : Station M) (afterwards : List (Station M)) → AllRan ms done before → HasRun ms done o → AllRan ms done afterwards → AllRan ms done (before ++ o ∷ afterwards)
  ran_joined ms done [] o afterwards a b c = (b, c)
  ran_joined ms done (x ∷ before) o afterwards a b c = (a.0, ran_joined ms done before o afterwards a.1 b c)

  ran_nothing : (ms : ℕ → M) (done : List Step) (ss : List (Station M)) → AllRan ms done ss → AllRan ms (done ++ []) ss
  ran_nothing ms done ss h = subst (λ (v : List Step). AllRan ms v ss) (sym (append-nil done)) h

  -- what the machines ran from these stations to those: what counts among these steps
  pub record RanOn (from : List (Station M)) (zs : List Step) (there : List (Station M)) : Type 0 where
    pub runs : (ms : ℕ → M) (done : List Step) → AllRan ms done from → AllRan ms (done ++ zs) there

  pub ran_then : {ss ss2 ss3 : List (Station M)} {xs ys : List Step} → RanOn ss xs ss2 → RanOn ss2 ys ss3 → RanOn ss (xs ++ ys) ss3
  ran_then {ss} {ss2} {ss3} {xs} {ys} f g = record { runs = λ ms done h. subst (λ (v : List Step). AllRan ms v ss3) (append_assoc done xs ys) (g.runs ms (done ++ xs) (f.runs ms done h)) }

  pub ran_stays : {ss ss2 : List (Station M)} → ss2 ≡ ss → RanOn ss [] ss2
  ran_stays {ss} {ss2} e = record { runs = λ ms done h. subst (λ (v : List (Station M)). AllRan ms (done ++ []) v) (sym e) (ran_nothing ms done ss h) }
