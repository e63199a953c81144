-- What each act of a machine keeps, a bus keeps as long as it plays.
use Rattle.std.proofs.Common.{ℕ, Bool, List, [], ◌∷◌, ◌++◌, map, Option, Some, None, sym, subst}
use Rattle.cbm_iec.specs.Machines.{acted}
use Rattle.cbm_iec.specs.declared.machine.Act.{Act}
use Rattle.cbm_iec.specs.declared.event.Event.{Event}
use Rattle.cbm_iec.specs.declared.lines.Change.{Change}
use Rattle.cbm_session.specs.Playing.{Station, Plays, stays, change, reaction, tell, hear, hear_all, react, shown}

module _ (M : Type 0) (step : M → Act → M) (says : M → Option (ℕ × Bool)) (P : M → Type 0) (kept : (m : M) (act : Act) → P m → P (step m act)) where
  -- it holds of the machine of each station
  abbrev pub AllOf : List (Station M) → Type 0
  AllOf [] = Unit {0}
  AllOf (s ∷ ss) = P s.machine × AllOf ss

  acts : (o : Option Act) (m : M) → P m → P (acted M step o m)
  acts None m h = h
  acts (Some act) m h = kept m act h

  hears : (cs : List Change) (s : Station M) → P s.machine → P (hear_all M step says cs s).machine
  hears [] s h = h
  hears (c ∷ cs) s h = hears cs (hear M step says c s) (acts _ s.machine h)

  all_told : (c : Change) (ss : List (Station M)) → AllOf ss → AllOf (map (λ s. tell M step says c s) ss)
  all_told c [] h = tt
  all_told c (s ∷ ss) h = (acts _ s.machine h.0, all_told c ss h.1)

  reacts : (t : ℕ) (before : List (Station M)) (o : Station M) (afterwards : List (Station M)) (cs : List Change) → AllOf (before ++ o ∷ afterwards) → AllOf (map (λ s. hear_all M step says cs s) before ++ react M step says t o ∷ map (λ s. hear_all M step says cs s) afterwards)
  reacts t [] o afterwards cs h = (acts _ o.machine h.0, all_heard afterwards h.1)
    where
      all_heard : (ss : List (Station M)) → AllOf ss → AllOf (map (λ s. hear_all M step says cs s) ss)
      all_heard [] h = tt
      all_heard (s ∷ ss) h = (hears cs s h.0, all_heard ss h.1)
  reacts t (s ∷ before) o afterwards cs h = (hears cs s h.0, reacts t before o afterwards cs h.1)

  -- ALONG A PLAY
  pub kept_along : {n n2 : ℕ} {ss ss2 : List (Station M)} {es : List Event} → Plays M step says n ss es n2 ss2 → AllOf ss → AllOf ss2
  kept_along (stays bytes none from same) h = subst AllOf (sym same) h
  kept_along {ss = ss} (change c more bytes later time e plays) h = kept_along plays (all_told c ss h)
  kept_along (reaction t before o afterwards more bytes parts first e plays) h = kept_along plays (reacts t before o afterwards (shown M step says t o) (subst AllOf parts h))
