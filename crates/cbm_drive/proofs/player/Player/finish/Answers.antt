use Rattle.std.proofs.Common.{◌≡◌, ◌+◌, [], ◌++◌, None, sym, ap, refl, ◌∙◌, arith}
use Rattle.cbm_drive.specs.Players.{Turns}
use Rattle.cbm_drive.specs.Playback.{Playback, IsPlayedBack, played_says, played_step}
use Rattle.cbm_drive.proofs.Alone.{byte_of}
use Rattle.cbm_drive.proofs.Players.{after_match, given_second, shown_next, is_finished}
use Rattle.cbm_drive.proofs.player.Player.finish.Goals as goal

pub returns-in-Some-clause-gives : goal.returns-in-Some-clause-gives
returns-in-Some-clause-gives g c = record {
  given = λ u n ss es a.
      (let second = sym (ap (λ (p : Turns). p.second) c.self.view_is) ∙ (sym c.take.ensures.value ∙ c.in-Some.is) in
      (given_second _ g.D.Machine.State g.D.Machine.stands g.D.Machine.step g.D.Machine.says c.args.self.now _ c.args.bus.now c.in-Some.event.change.moment n ss es c.in-Some.event second c.take.ensures.after (ap (λ (p : Turns). p.from) c.self.view_is) (omega arith) a).after);
  recorded = λ one. (
    [],
    (λ later n ss es a.
        let second = sym (ap (λ (p : Turns). p.second) c.self.view_is) ∙ (sym c.take.ensures.value ∙ c.in-Some.is) in
        (given_second _ Playback (IsPlayedBack g.D.Machine.shows later) played_step played_says c.args.self.now _ c.args.bus.now c.in-Some.event.change.moment n ss es c.in-Some.event second c.take.ensures.after (ap (λ (p : Turns). p.from) c.self.view_is) (omega arith) a).after),
  );
}

pub returns-in-Some-first_shown-clause-gives : goal.returns-in-Some-first_shown-clause-gives
returns-in-Some-first_shown-clause-gives g c = record {
  given = λ u n ss es a.
      let second : c.args.self.now.second ≡ None = sym (ap (λ (p : Turns). p.second) c.self.view_is) ∙ (sym c.take.ensures.value ∙ c.in_default.is) in
      after_match c.give.result _ _ _ (λ e given. given.after)
      (shown_next _ g.D.Machine.State g.D.Machine.stands g.D.Machine.step g.D.Machine.says g.met.D.Machine.byte g.D.Machine.stands c.args.self.now c.give.new.self c.args.bus.now c.first_shown.new.self c.args.upto c.in-Some-first_shown.moment c.in-Some-first_shown.answer.device n
      c.in-Some-first_shown.answer.changes.items ss es c.give.result second a (c.in-Some-first_shown.ensures.shown.played u a.stations a.from (a.from + (c.args.upto + 1)) a.now (omega arith) (omega arith)) c.first_shown.ensures.host c.give.ensures.from
      c.in-Some-first_shown.ensures.first.moments c.in-Some-first_shown.ensures.first.shows c.give.ensures.given (let l = c.in-Some-first_shown.ensures.first.before in omega (arith, l)));
  recorded = λ one.
      let k = c.in-Some-first_shown.ensures.shown.recorded one in (
        k.0,
        (λ later n ss es a.
            let second : c.args.self.now.second ≡ None = sym (ap (λ (p : Turns). p.second) c.self.view_is) ∙ (sym c.take.ensures.value ∙ c.in_default.is) in
            after_match c.give.result _ _ _ (λ e given. given.after)
            (shown_next _ Playback (IsPlayedBack g.D.Machine.shows later) played_step played_says (byte_of g.D.Machine.shows later) (IsPlayedBack g.D.Machine.shows (k.0 ++ later)) c.args.self.now c.give.new.self c.args.bus.now c.first_shown.new.self c.args.upto c.in-Some-first_shown.moment
            c.in-Some-first_shown.answer.device n c.in-Some-first_shown.answer.changes.items ss es c.give.result second a ((k.1 later a.stations a.now).0 a.from (a.from + (c.args.upto + 1)) (omega arith) (omega arith)) c.first_shown.ensures.host c.give.ensures.from
            c.in-Some-first_shown.ensures.first.moments c.in-Some-first_shown.ensures.first.shows c.give.ensures.given (let l = c.in-Some-first_shown.ensures.first.before in omega (arith, l)))),
      );
}

pub returns-in-None-clause-gives : goal.returns-in-None-clause-gives
returns-in-None-clause-gives g c = record {
  given = λ u n ss es a.
      let second : c.args.self.now.second ≡ None = sym (ap (λ (p : Turns). p.second) c.self.view_is) ∙ (sym c.take.ensures.value ∙ c.in_default.is) in
      let from = a.before in
      is_finished _ g.D.Machine.State g.D.Machine.stands g.D.Machine.step g.D.Machine.says g.met.D.Machine.byte g.D.Machine.stands c.args.self.now (record { waiting = c.self.inside.waiting; second = c.take.new.self; from = c.args.upto + 1; taken = c.self.inside.taken }) c.args.bus.now c.first_shown.new.self c.args.upto n ss es
      second c.take.ensures.after refl a (c.in-None.ensures.shown.played u a.stations a.from (c.args.upto + 1) a.now (omega (arith, from, c.requires.done.from)) (omega arith)) c.first_shown.ensures.host (c.in-None.ensures.first.settled refl);
  recorded = λ one.
      let k = c.in-None.ensures.shown.recorded one in (
        k.0,
        (λ later n ss es a.
            let second : c.args.self.now.second ≡ None = sym (ap (λ (p : Turns). p.second) c.self.view_is) ∙ (sym c.take.ensures.value ∙ c.in_default.is) in
            let from = a.before in
            is_finished _ Playback (IsPlayedBack g.D.Machine.shows later) played_step played_says (byte_of g.D.Machine.shows later) (IsPlayedBack g.D.Machine.shows (k.0 ++ later)) c.args.self.now (record { waiting = c.self.inside.waiting; second = c.take.new.self; from = c.args.upto + 1; taken = c.self.inside.taken })
            c.args.bus.now c.first_shown.new.self c.args.upto n ss es second c.take.ensures.after refl a ((k.1 later a.stations a.now).0 a.from (c.args.upto + 1) (omega (arith, from, c.requires.done.from)) (omega arith)) c.first_shown.ensures.host (c.in-None.ensures.first.settled refl)),
      );
}
