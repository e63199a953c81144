use Rattle.std.proofs.Common.{◌++◌, refl, ap, ◌∙◌}
use Rattle.cbm_host.proofs.Performed.{if_err, added_none, added_one, cut_before, cut_after_it, performing_on, performing_still, match_err}
use Rattle.cbm_host.proofs.performing.step.Goals as goal
use Rattle.cbm_host.specs.Performed.{taken_with, last_with}
use Rattle.cbm_drive.specs.Playback.{Playback, played_says, played_step, IsPlayedBack}

pub returns-in_default-clause-performing : goal.returns-in_default-clause-performing
returns-in_default-clause-performing g c = λ u e limit old ss p.
    performing_still _ g.D.Machine.State g.D.Machine.stands g.D.Machine.stands g.D.Machine.step g.D.Machine.says e limit c.args.performer.now c.next.new.self c.args.bus.now c.next.new.bus old c.args.events.now.items c.args.done.now.bytes.items c.args.done.now.last ss p (c.in_default.ensures.next u 0 ss p.made p.going)

pub returns-clause-performing : goal.returns-clause-performing
returns-clause-performing g c = λ u e limit old ss p.
    performing_on _ g.D.Machine.State g.D.Machine.stands g.D.Machine.stands g.D.Machine.step g.D.Machine.says e limit c.args.performer.now c.next.new.self c.args.bus.now c.next.new.bus old c.args.events.now.items c.push.new.self.items c.args.done.now.bytes.items c.take.new.self.bytes.items c.args.done.now.last c.take.new.self.last ss
    c.in-Some.event p (c.in-Some.ensures.next u 0 ss p.made p.going) c.in_ok-push.ensures.items (c.in_ok-take.ensures.bytes ∙ ap (λ o. c.args.done.now.bytes.items ++ taken_with o) c.byte.ensures) (c.in_ok-take.ensures.last ∙ ap (λ o. last_with o c.args.done.now.last) c.byte.ensures)

-- no memory for the event, or for the byte that was taken with it
pub returns-in_err-push-clause-memory : goal.returns-in_err-push-clause-memory
returns-in_err-push-clause-memory g c = λ u e limit old ss p.
    if_err c.from_residual.result _ (λ x. cut_before _ g.D.Machine.State g.D.Machine.stands g.D.Machine.stands g.D.Machine.step g.D.Machine.says e limit c.args.performer.now c.next.new.self c.args.bus.now c.next.new.bus old c.args.events.now.items c.push.new.self.items c.args.done.now.bytes.items c.args.done.now.last ss
    c.in-Some.event p (c.in-Some.ensures.next u 0 ss p.made p.going) c.in_err-push.ensures.items)

pub returns-in_err-take-clause-memory : goal.returns-in_err-take-clause-memory
returns-in_err-take-clause-memory g c = λ u e limit old ss p.
    if_err c.from_residual-in_err-take.result _ (λ x. cut_after_it _ g.D.Machine.State g.D.Machine.stands g.D.Machine.stands g.D.Machine.step g.D.Machine.says e limit c.args.performer.now c.next.new.self c.args.bus.now c.next.new.bus old c.args.events.now.items c.push.new.self.items c.args.done.now.bytes.items c.args.done.now.last ss
    c.in-Some.event p (c.in-Some.ensures.next u 0 ss p.made p.going) c.in_ok-push.ensures.items)

-- the event was added, or none
pub returns-in_default-clause-within : goal.returns-in_default-clause-within
returns-in_default-clause-within g c = added_none c.args.performer.now.limit c.args.events.now.items c.args.events.now.items refl

pub returns-clause-within : goal.returns-clause-within
returns-clause-within g c = added_one c.args.performer.now.limit c.args.events.now.items c.push.new.self.items c.in-Some.event c.in_ok-push.ensures.items c.in-Some.ensures.within

pub returns-in_err-push-clause-within : goal.returns-in_err-push-clause-within
returns-in_err-push-clause-within g c = added_none c.args.performer.now.limit c.args.events.now.items c.push.new.self.items c.in_err-push.ensures.items

pub returns-in_err-take-clause-within : goal.returns-in_err-take-clause-within
returns-in_err-take-clause-within g c = added_one c.args.performer.now.limit c.args.events.now.items c.push.new.self.items c.in-Some.event c.in_ok-push.ensures.items c.in-Some.ensures.within

-- ---- the same on any disk

pub returns-in_default-clause-recorded : goal.returns-in_default-clause-recorded
returns-in_default-clause-recorded g c =
    let shows = g.D.Machine.shows in
    let none = c.in_default.ensures.recorded in (
      none.0,
      λ later e limit old ss p.
          performing_still _ Playback (IsPlayedBack shows (none.0 ++ later)) (IsPlayedBack shows later) played_step played_says e limit c.args.performer.now c.next.new.self c.args.bus.now c.next.new.bus old c.args.events.now.items c.args.done.now.bytes.items c.args.done.now.last ss p
          (none.1 later 0 ss p.made p.going),
    )

pub returns-clause-recorded : goal.returns-clause-recorded
returns-clause-recorded g c =
    let shows = g.D.Machine.shows in
    let next = c.in-Some.ensures.recorded in (
      next.0,
      λ later e limit old ss p.
          performing_on _ Playback (IsPlayedBack shows (next.0 ++ later)) (IsPlayedBack shows later) played_step played_says e limit c.args.performer.now c.next.new.self c.args.bus.now c.next.new.bus old c.args.events.now.items c.push.new.self.items c.args.done.now.bytes.items
          c.take.new.self.bytes.items c.args.done.now.last c.take.new.self.last ss c.in-Some.event p (next.1 later 0 ss p.made p.going) c.in_ok-push.ensures.items (c.in_ok-take.ensures.bytes ∙ ap (λ o. c.args.done.now.bytes.items ++ taken_with o) c.byte.ensures)
          (c.in_ok-take.ensures.last ∙ ap (λ o. last_with o c.args.done.now.last) c.byte.ensures),
    )

pub returns-in_err-push-clause-recorded : goal.returns-in_err-push-clause-recorded
returns-in_err-push-clause-recorded g c =
    let shows = g.D.Machine.shows in
    let next = c.in-Some.ensures.recorded in (
      next.0,
      λ later e limit old ss p.
          match_err c.from_residual.result _ _ _ c.from_residual.ensures.1 (λ x. cut_before _ Playback (IsPlayedBack shows (next.0 ++ later)) (IsPlayedBack shows later) played_step played_says e limit c.args.performer.now c.next.new.self c.args.bus.now c.next.new.bus old c.args.events.now.items c.push.new.self.items c.args.done.now.bytes.items
          c.args.done.now.last ss c.in-Some.event p (next.1 later 0 ss p.made p.going) c.in_err-push.ensures.items),
    )

pub returns-in_err-take-clause-recorded : goal.returns-in_err-take-clause-recorded
returns-in_err-take-clause-recorded g c =
    let shows = g.D.Machine.shows in
    let next = c.in-Some.ensures.recorded in (
      next.0,
      λ later e limit old ss p.
          match_err c.from_residual-in_err-take.result _ _ _ c.from_residual-in_err-take.ensures.1 (λ x. cut_after_it _ Playback (IsPlayedBack shows (next.0 ++ later)) (IsPlayedBack shows later) played_step played_says e limit c.args.performer.now c.next.new.self c.args.bus.now c.next.new.bus old c.args.events.now.items c.push.new.self.items c.args.done.now.bytes.items
          c.args.done.now.last ss c.in-Some.event p (next.1 later 0 ss p.made p.going) c.in_ok-push.ensures.items),
    )
