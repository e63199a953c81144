use Rattle.std.proofs.Common.{ℕ, refl, ◌∙◌, subst, List, [], ◌++◌, arith}
use Rattle.cbm_host.proofs.Performed.{if_no, if_yes, if_err, added_none, added_more, match_err}
use Rattle.cbm_host.proofs.performing.run.Goals as goal
use Rattle.cbm_host.specs.Performed.{HasAddedUpTo}
use Rattle.cbm_drive.specs.Playback.{Shown}
use Rattle.cbm_host.specs.Recorded.{IsPerformingBack}
use Rattle.std.proofs.lemmas.List.{append_assoc}

pub events-init : goal.events-init
events-init g c = record { performing = λ u e limit old ss p. p; counted = omega arith; within = added_none c.args.performer.now.limit c.args.events.now.items c.args.events.now.items refl; limit = refl; recorded = ([], λ later e limit old ss p. p) }

pub events-preserved : goal.events-preserved
events-preserved g c = record {
  performing = λ u e limit old ss p.
      (let k = c.events.invariant.performing (omega (arith, u, c.step.ensures.counted)) e limit old ss p in
      if_yes c.in_ok-step.field-0 _ _ c.if-branch.true (c.in_ok-step.ensures.performing (omega (arith, u, c.events.invariant.counted)) e limit old ss k));
  counted = omega (arith, c.step.ensures.counted, c.events.invariant.counted);
  within = added_more _ _ _ _ c.events.invariant.within (subst (λ (l : ℕ). HasAddedUpTo l c.events.events.items c.step.new.events.items) c.events.invariant.limit c.step.ensures.within);
  limit = c.step.ensures.limit ∙ c.events.invariant.limit;
  recorded =
      (let shows = g.D.Machine.shows in
      let before = c.events.invariant.recorded in
      let step = c.in_ok-step.ensures.recorded in (
        before.0 ++ step.0,
        λ later e limit old ss p.
            let first = subst (λ (l : List Shown). IsPerformingBack shows l e limit c.args.performer.now c.args.bus.now old c.args.events.now.items c.args.done.now.bytes.items c.args.done.now.last ss) (append_assoc before.0 step.0 later) p in
            let k = before.1 (step.0 ++ later) e limit old ss first in
            if_yes c.in_ok-step.field-0 _ _ c.if-branch.true (step.1 later e limit old ss k),
      ));
}

-- no more come
pub returns-clause-performed : goal.returns-clause-performed
returns-clause-performed g c = λ u e limit old ss p.
    let k = c.events.invariant.performing (omega (arith, u, c.step.ensures.counted)) e limit old ss p in
    if_no c.in_ok-step.field-0 _ _ c.if-branch.false (c.in_ok-step.ensures.performing (omega (arith, u, c.events.invariant.counted)) e limit old ss k)

-- memory ran out
pub returns-in_err-step-clause-memory : goal.returns-in_err-step-clause-memory
returns-in_err-step-clause-memory g c = λ u e limit old ss p.
    let k = c.events.invariant.performing (omega (arith, u, c.step.ensures.counted)) e limit old ss p in
    if_err c.from_residual.result _ (λ x. c.in_err-step.ensures.memory (omega (arith, u, c.events.invariant.counted)) e limit old ss k)

pub returns-clause-counted : goal.returns-clause-counted
returns-clause-counted g c = omega (arith, c.step.ensures.counted, c.events.invariant.counted)

pub returns-in_err-step-clause-counted : goal.returns-in_err-step-clause-counted
returns-in_err-step-clause-counted g c = omega (arith, c.step.ensures.counted, c.events.invariant.counted)

-- what was added up to there
pub returns-clause-within : goal.returns-clause-within
returns-clause-within g c = added_more _ _ _ _ c.events.invariant.within (subst (λ (l : ℕ). HasAddedUpTo l c.events.events.items c.step.new.events.items) c.events.invariant.limit c.step.ensures.within)

pub returns-in_err-step-clause-within : goal.returns-in_err-step-clause-within
returns-in_err-step-clause-within g c = added_more _ _ _ _ c.events.invariant.within (subst (λ (l : ℕ). HasAddedUpTo l c.events.events.items c.step.new.events.items) c.events.invariant.limit c.step.ensures.within)

-- on any disk
pub returns-clause-recorded : goal.returns-clause-recorded
returns-clause-recorded g c =
    let shows = g.D.Machine.shows in
    let before = c.events.invariant.recorded in
    let step = c.in_ok-step.ensures.recorded in (
      before.0 ++ step.0,
      λ later e limit old ss p.
          let first = subst (λ (l : List Shown). IsPerformingBack shows l e limit c.args.performer.now c.args.bus.now old c.args.events.now.items c.args.done.now.bytes.items c.args.done.now.last ss) (append_assoc before.0 step.0 later) p in
          let k = before.1 (step.0 ++ later) e limit old ss first in
          if_no c.in_ok-step.field-0 _ _ c.if-branch.false (step.1 later e limit old ss k),
    )

pub returns-in_err-step-clause-recorded : goal.returns-in_err-step-clause-recorded
returns-in_err-step-clause-recorded g c =
    let shows = g.D.Machine.shows in
    let before = c.events.invariant.recorded in
    let step = c.in_err-step.ensures.recorded in (
      before.0 ++ step.0,
      λ later e limit old ss p.
          let first = subst (λ (l : List Shown). IsPerformingBack shows l e limit c.args.performer.now c.args.bus.now old c.args.events.now.items c.args.done.now.bytes.items c.args.done.now.last ss) (append_assoc before.0 step.0 later) p in
          let k = before.1 (step.0 ++ later) e limit old ss first in
          match_err c.from_residual.result _ _ _ c.from_residual.ensures.1 (λ x. step.1 later e limit old ss k),
    )
