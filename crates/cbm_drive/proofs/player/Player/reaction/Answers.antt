use Rattle.std.proofs.Common.{◌+◌, [], ◌++◌, Option, refl, sym, subst, arith}
use Rattle.cbm_drive.specs.Playback.{Playback, IsPlayedBack, played_says, played_step}
use Rattle.cbm_drive.proofs.Alone.{byte_of}
use Rattle.std.specs.Prelude.{◌<◌, IfSome}
use Rattle.cbm_iec.specs.declared.event.Event.{Event}
use Rattle.cbm_drive.proofs.Players.{waits_past, waits_after, some_match, shown_next}
use Rattle.cbm_drive.proofs.player.Player.reaction.Goals as goal

pub give-requires-clause-waiting : goal.give-requires-clause-waiting
give-requires-clause-waiting g c = waits_after c.in_ok-moment.moment (c.args.upto + 1) c.args.self.now.waiting c.in_ok-moment.ensures.first.before c.requires.turn.waiting

pub returns-clause-gives : goal.returns-clause-gives
returns-clause-gives g c = record {
  given = λ u n ss es a.
      some_match c.give.result _ _
      (shown_next _ g.D.Machine.State g.D.Machine.stands g.D.Machine.step g.D.Machine.says g.met.D.Machine.byte g.D.Machine.stands c.args.self.now c.give.new.self c.args.bus.now c.first_shown.new.self c.args.upto c.in_ok-moment.moment c.in_ok-moment.answer.device n c.in_ok-moment.answer.changes.items ss es c.give.result
      c.requires.turn.second a (c.in_ok-moment.ensures.shown.played u a.stations a.from (a.from + (c.args.upto + 1)) a.now (omega arith) (omega arith)) c.first_shown.ensures.host c.give.ensures.from c.in_ok-moment.ensures.first.moments
      c.in_ok-moment.ensures.first.shows c.give.ensures.given (let l = c.in_ok-moment.ensures.first.before in omega (arith, l)));
  recorded = λ one.
      let k = c.in_ok-moment.ensures.shown.recorded one in (
        k.0,
        (λ later n ss es a.
            some_match c.give.result _ _
            (shown_next _ Playback (IsPlayedBack g.D.Machine.shows later) played_step played_says (byte_of g.D.Machine.shows later) (IsPlayedBack g.D.Machine.shows (k.0 ++ later)) c.args.self.now c.give.new.self c.args.bus.now c.first_shown.new.self c.args.upto
            c.in_ok-moment.moment c.in_ok-moment.answer.device n c.in_ok-moment.answer.changes.items ss es c.give.result c.requires.turn.second a ((k.1 later a.stations a.now).0 a.from (a.from + (c.args.upto + 1)) (omega arith) (omega arith)) c.first_shown.ensures.host
            c.give.ensures.from c.in_ok-moment.ensures.first.moments c.in_ok-moment.ensures.first.shows c.give.ensures.given (let l = c.in_ok-moment.ensures.first.before in omega (arith, l)))),
      );
}

-- nothing shows, so nothing happens
pub returns-then-not-shows_before-clause-gives : goal.returns-then-not-shows_before-clause-gives
returns-then-not-shows_before-clause-gives g c = record {
  given = λ u n ss es a. record {
    same = refl;
    bus = refl;
    second = subst (λ (o : Option Event). IfSome o (λ e. c.args.upto < e.change.moment)) (sym c.requires.turn.second) tt;
    waiting = λ none. waits_past c.args.upto c.args.self.now.waiting c.requires.turn.waiting;
    silent = λ none. c.if-not-shows_before.ensures.says a.stations a.now;
  };
  recorded = λ one. (
    [],
    (λ later n ss es a. (
      refl,
      record {
        same = refl;
        bus = refl;
        second = subst (λ (o : Option Event). IfSome o (λ e. c.args.upto < e.change.moment)) (sym c.requires.turn.second) tt;
        waiting = λ none. waits_past c.args.upto c.args.self.now.waiting c.requires.turn.waiting;
        silent = λ none. c.if-not-shows_before.ensures.recorded later a.stations a.now;
      },
    )),
  );
}

-- what shows before a limit is found
pub returns-in_err-moment-clause-gives : goal.returns-in_err-moment-clause-gives
returns-in_err-moment-clause-gives g c = record {
  given = λ u n ss es a. absurd (let some = c.in_err-moment.ensures.shown.some u a.stations a.now (c.if-not-shows_before.ensures.says a.stations a.now) in cc);
  recorded = λ one.
      let k = c.in_err-moment.ensures.shown.recorded one in (
        k.0,
        (λ later n ss es a. absurd (let some = (k.1 later a.stations a.now).1 (c.if-not-shows_before.ensures.recorded (k.0 ++ later) a.stations a.now) in cc)),
      );
}
