-- When a request is over: at the end that its host waits for after the last event, or where it gives up.
use Rattle.std.proofs.Common.{◌≡◌, ℕ, ◌≤◌, ◌<◌, min, inl, inr, Bool, true, false, List, Option, Some, None, leb-true, leb-false, refl, subst, arith}
use Rattle.std.specs.Prelude.{nat_le}
use Rattle.cbm_drive.specs.Players.{Turns}
use Rattle.cbm_host.specs.Engines.{Engined, engine_due, stage_end}
use Rattle.cbm_host.specs.Performed.{over_at}
use Rattle.cbm_host.specs.Performers.{GoesOnFrom, StopsPerforming}
use Rattle.cbm_host.specs.Stages.{stage_due, stage_passed}
use Rattle.cbm_host.specs.declared.stage.Stage.{Stage}
use Rattle.cbm_host.specs.declared.stage.Stage.TheVariants.{Attending, Framing, Calling, Releasing, Turning, Taking, Ending, Done}
use Rattle.cbm_iec.specs.declared.machine.Act.{Act}
use Rattle.cbm_iec.specs.declared.event.Event.{Event}
use Rattle.cbm_session.specs.Playing.{Station}

-- what is told of the end, at this stage
record Tells (limit end : ℕ) (s : Stage) : Type 0 where
  pub there : (t : ℕ) → stage_end s ≡ Some t → t ≤ limit → end ≡ t
  pub late : (t : ℕ) → stage_end s ≡ Some t → limit < t → end ≡ limit
  pub given_up : stage_end s ≡ None → end ≡ limit

sooner_of : (limit end t : ℕ) → Tells limit end (Done t) → end ≡ min t limit
sooner_of limit end t h = by (nat_le t limit) refl
  where
    by : (b : Bool) → nat_le t limit ≡ b → end ≡ min t limit
    by true e = let l = leb-true t limit e in let same = h.there t refl l in omega (arith, l, same)
    by false e = let l = leb-false t limit e in let same = h.late t refl l in omega (arith, l, same)

module _ (M : Type 0) (step : M → Act → M) (says : M → Option (ℕ × Bool)) (p : Turns) (limit end n : ℕ) (ss : List (Station M)) (es : List Event) where
  -- the host still waits, or does something
  still : (s : Stage) → Tells limit end s → StopsPerforming M step says p limit n ss es (stage_due s) → end ≡ over_at limit s
  still (Attending at q a) h k = h.given_up refl
  still (Framing frame afterwards) h k = h.given_up refl
  still (Calling at) h k = h.given_up refl
  still (Releasing at r) h k = h.given_up refl
  still (Turning until) h k = h.given_up refl
  still (Taking take) h k = h.given_up refl
  still (Ending until) h k = let late = k.0 in let same = h.given_up refl in omega (arith, late, same)
  still (Done t) h k = sooner_of limit end t h

  -- it has waited
  waited : (s : Stage) → Tells limit end (stage_passed s) → end ≡ over_at limit s
  waited (Attending at q a) h = h.given_up refl
  waited (Framing frame afterwards) h = h.given_up refl
  waited (Calling at) h = h.given_up refl
  waited (Releasing at r) h = h.given_up refl
  waited (Turning until) h = h.given_up refl
  waited (Taking take) h = h.given_up refl
  waited (Ending until) h = sooner_of limit end until h
  waited (Done t) h = sooner_of limit end t h

  -- THE END, by the stage after the last event
  pub over_then : (afterwards e : Engined) → GoesOnFrom M step says n ss es afterwards e → StopsPerforming M step says p limit n ss es (engine_due e)
      → ((t : ℕ) → stage_end e.stage ≡ Some t → t ≤ limit → end ≡ t) → ((t : ℕ) → stage_end e.stage ≡ Some t → limit < t → end ≡ limit) → (stage_end e.stage ≡ None → end ≡ limit) → end ≡ over_at limit afterwards.stage
  over_then afterwards e (inl same) stops there late given_up = subst (λ (x : Engined). end ≡ over_at limit x.stage) same (still e.stage (record { there = there; late = late; given_up = given_up }) stops)
  over_then afterwards e (inr passed) stops there late given_up = waited afterwards.stage (subst (λ (x : Engined). Tells limit end x.stage) passed.2 (record { there = there; late = late; given_up = given_up }))
