-- From rest, and an event that is pending.
use Rattle.std.proofs.Common.{◌≡◌, ℕ, Bool, Option, None, Some, List, [], ◌∷◌, ◌++◌, sym, ap, subst, refl, ◌∙◌, arith}
use Rattle.std.proofs.lemmas.List.{append_assoc, append-nil}
use Rattle.std.specs.Prelude.{is_some, true, false}
use Rattle.cbm_iec.specs.declared.machine.Act.{Act}
use Rattle.cbm_iec.specs.declared.event.Event.{Event}
use Rattle.cbm_iec.specs.declared.party.Party.{Party}
use Rattle.cbm_session.specs.Playing.{at_rest}
use Rattle.bus_beside.specs.Courses.{Course, Sides, Lie, GoOnBeside, EndsBeside, AreSwitchedOn, HaveSeen, SeesOn, LiesBeside, pending_event}
use Rattle.bus_beside.specs.Seats.{SeatedTwice, Sit, failed_in_all}

pub not_some : {A : Type 0} (o : Option A) (b : Bool) → b ≡ is_some o → b ≡ false → o ≡ None
not_some None b e f = refl
not_some (Some x) b e f = absurd (let z : true ≡ false = sym e ∙ f in cc)

module _ (D M : Type 0) (stands : D → M → Type 0) (step : M → Act → M) (says : M → Option (ℕ × Bool)) where
  -- drives that are switched on are both plays' from rest
  sit_rest : (xs : List (SeatedTwice D)) (bs : List Party) (ms : ℕ → M) → AreSwitchedOn D M stands step says xs bs ms → Sit D M stands xs (at_rest M step says ms bs) (at_rest M step says ms bs)
  sit_rest [] [] ms h = tt
  sit_rest [] (b ∷ bs) ms h = absurd h
  sit_rest (x ∷ xs) [] ms h = absurd h
  sit_rest (x ∷ xs) (b ∷ bs) ms h = (
    record {
      state = ms b.device;
      real = λ i. record { port = sym h.0.0.0 i; rest = sym h.0.0.1 i; machine = ms b.device };
      tidy = λ i. record { port = sym h.0.1.0 i; rest = sym h.0.1.1 i; machine = ms b.device };
      machine = h.0.2;
    },
    sit_rest xs bs ms h.1,
  )

  pub lies_at_rest : (failures : D → ℕ) (b : Course D) (xs : List (SeatedTwice D)) (bs : List Party) (ms : ℕ → M) → b.seats ≡ xs → b.from ≡ 0 → b.tidy_from ≡ 0 → AreSwitchedOn D M stands step says xs bs ms
      → Lie D M stands step says failures (failed_in_all failures xs) bs ms b [] []
  lies_at_rest failures b xs bs ms seats from tidy_from h =
      subst (λ (c : Course D). Lie D M stands step says failures (failed_in_all failures xs) bs ms c [] []) (λ i. record { seats = sym seats i; from = sym from i; tidy_from = sym tidy_from i })
      (record {
        counted = omega arith;
        lies = λ u. record { stations = at_rest M step says ms bs; tidied = at_rest M step says ms bs; reaches = λ end more tidied rest. rest; sit = sit_rest xs bs ms h };
      })

  -- nothing is pending
  none_pending : (failures : D → ℕ) (least : ℕ) (bs : List Party) (ms : ℕ → M) (b : Sides D) (es fs : List Event) → b.second ≡ None → HaveSeen D M stands step says failures least bs ms b es fs
      → Lie D M stands step says failures least bs ms b.course es fs
  none_pending failures least bs ms b es fs none h =
      let nothing : (xs : List Event) → xs ++ pending_event b.second ≡ xs = λ xs. ap (λ (s : Option Event). xs ++ pending_event s) none ∙ append-nil xs in
      subst (λ (xs : List Event). Lie D M stands step says failures least bs ms b.course xs fs) (nothing es)
      (subst (λ (xs : List Event). Lie D M stands step says failures least bs ms b.course (es ++ pending_event b.second) xs) (nothing fs) h)

  -- the plays go on, and so much of it was seen
  pub seen_on : (failures : D → ℕ) (b : Sides D) (c : Course D) (made made2 next next2 : List Event) (second : Option Event) → b.second ≡ None → GoOnBeside D M stands step says failures b.course c made made2
      → made ≡ next ++ pending_event second → made2 ≡ next2 ++ pending_event second → SeesOn D M stands step says failures b (record { course = c; second = second }) next next2
  seen_on failures b c made made2 next next2 second none go e e2 least bs ms es fs h =
      subst (λ (xs : List Event). Lie D M stands step says failures least bs ms c xs (fs ++ next2 ++ pending_event second)) (ap (λ (m : List Event). es ++ m) e ∙ sym (append_assoc es next (pending_event second)))
      (subst (λ (xs : List Event). Lie D M stands step says failures least bs ms c (es ++ made) xs) (ap (λ (m : List Event). fs ++ m) e2 ∙ sym (append_assoc fs next2 (pending_event second)))
      (go least bs ms es fs (none_pending failures least bs ms b es fs none h)))

  -- all of it was seen
  pub seen_all : (failures : D → ℕ) (b : Sides D) (c : Course D) (made made2 : List Event) (second : Option Event) → b.second ≡ None → second ≡ None → GoOnBeside D M stands step says failures b.course c made made2
      → SeesOn D M stands step says failures b (record { course = c; second = second }) made made2
  seen_all failures b c made made2 second none still go = seen_on failures b c made made2 made made2 second none go
      (sym (ap (λ (s : Option Event). made ++ pending_event s) still ∙ append-nil made)) (sym (ap (λ (s : Option Event). made2 ++ pending_event s) still ∙ append-nil made2))

  -- it is over
  pub seen_out : (failures : D → ℕ) (b : Sides D) (c : Course D) (second : Option Event) (end : ℕ) → b.second ≡ None → EndsBeside D M stands step says failures b.course c end
      → LiesBeside D M stands step says failures b (record { course = c; second = second }) end
  seen_out failures b c second end none ends least bs ms es fs h = ends least bs ms es fs (none_pending failures least bs ms b es fs none h)
