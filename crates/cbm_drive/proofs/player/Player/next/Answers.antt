use Rattle.std.proofs.Common.{◌≡◌, ◌+◌, [], Option, Some, refl, sym, ap, subst, ◌∙◌, arith}
use Rattle.std.specs.Prelude.{◌<◌, IfSome}
use Rattle.cbm_iec.specs.declared.event.Event.{Event}
use Rattle.cbm_drive.specs.Playback.{Playback, IsPlayedBack, played_says, played_step}
use Rattle.cbm_drive.specs.Players.{Turns}
use Rattle.cbm_drive.proofs.Players.{after_match, given_second, given_by, next_sooner}
use Rattle.cbm_drive.proofs.player.Player.next.Goals as goal

-- what is still to be given comes later
pub returns-then-event-upto-clause-gives : goal.returns-then-event-upto-clause-gives
returns-then-event-upto-clause-gives g c =
    let is : c.args.self.now.second ≡ Some c.in-Some.event = sym (ap (λ (p : Turns). p.second) c.self.view_is) ∙ c.in-Some.is in
    record {
      given = λ u n ss es a. record {
        same = refl;
        bus = refl;
        second = subst (λ (o : Option Event). IfSome o (λ e. c.args.upto < e.change.moment)) (sym is) c.if-event-upto.true;
        waiting = λ none. absurd (let z = sym is ∙ none in cc);
        silent = λ none. absurd (let z = sym is ∙ none in cc);
      };
      recorded = λ one. (
        [],
        (λ later n ss es a. (
          refl,
          record {
            same = refl;
            bus = refl;
            second = subst (λ (o : Option Event). IfSome o (λ e. c.args.upto < e.change.moment)) (sym is) c.if-event-upto.true;
            waiting = λ none. absurd (let z = sym is ∙ none in cc);
            silent = λ none. absurd (let z = sym is ∙ none in cc);
          },
        )),
      );
    }

-- it is given
pub returns-in-Some-clause-gives : goal.returns-in-Some-clause-gives
returns-in-Some-clause-gives g c =
    let is : c.args.self.now.second ≡ Some c.in-Some.event = sym (ap (λ (p : Turns). p.second) c.self.view_is) ∙ c.in-Some.is in
    record {
      given = λ u n ss es a. given_second _ g.D.Machine.State g.D.Machine.stands g.D.Machine.step g.D.Machine.says c.args.self.now _ c.args.bus.now c.args.upto n ss es c.in-Some.event is refl (ap (λ (p : Turns). p.from) c.self.view_is) c.if-event-upto.false a;
      recorded = λ one. (
        [],
        (λ later n ss es a. given_second _ Playback (IsPlayedBack g.D.Machine.shows later) played_step played_says c.args.self.now _ c.args.bus.now c.args.upto n ss es c.in-Some.event is refl (ap (λ (p : Turns). p.from) c.self.view_is) c.if-event-upto.false a),
      );
    }

-- the change that waits takes its turn
pub returns-in-Some-waiting-clause-gives : goal.returns-in-Some-waiting-clause-gives
returns-in-Some-waiting-clause-gives g c = record {
  given = λ u n ss es a.
      after_match c.turn.result _ _ _ (λ e given. given_by _ g.D.Machine.State g.D.Machine.stands g.D.Machine.step g.D.Machine.says c.turn.new.self c.turn.new.bus c.in-Some-waiting.change.moment c.args.upto n ss es e c.if-change-upto.true given) (c.turn.ensures.gives.given u n ss es a);
  recorded = λ one.
      let k = c.turn.ensures.gives.recorded one in (
        k.0,
        (λ later n ss es a.
            after_match c.turn.result _ _ _ (λ e given. given_by _ Playback (IsPlayedBack g.D.Machine.shows later) played_step played_says c.turn.new.self c.turn.new.bus c.in-Some-waiting.change.moment c.args.upto n ss es e c.if-change-upto.true given)
            (k.1 later n ss es a)),
      );
}

pub returns-in-Some-waiting-clause-event : goal.returns-in-Some-waiting-clause-event
returns-in-Some-waiting-clause-event g c = next_sooner c.args.self.now c.turn.new.self c.args.bus.now c.turn.new.bus c.in-Some-waiting.change.moment (c.args.upto + 1) c.turn.result (omega (arith, c.if-change-upto.true)) c.turn.ensures.event
