use Rattle.std.proofs.Common.{◌+◌, List, ◌++◌, None, refl, sym, ap, subst, ◌∙◌, arith}
use Rattle.std.proofs.lemmas.List.{append_assoc}
use Rattle.cbm_iec.specs.declared.lines.Lines.{Lines}
use Rattle.cbm_drive.specs.Playback.{Shown, Playback, IsPlayedBack, played_says, played_step}
use Rattle.cbm_drive.specs.Players.{Turns}
use Rattle.cbm_drive.specs.Seats.{IsBusAt}
use Rattle.cbm_drive.proofs.Alone.{IsBack, byte_of}
use Rattle.cbm_drive.proofs.Players.{waits_for, shown_next, given_change}
use Rattle.cbm_drive.proofs.player.Player.turn.Goals as goal

pub give-requires-clause-waiting : goal.give-requires-clause-waiting
give-requires-clause-waiting g c = waits_for (c.in-Some.moment + 1) c.args.self.now.waiting c.args.change c.requires.waiting (let l = c.in-Some.ensures.first.before in omega (arith, l)) c.requires.moment

pub returns-in-Some-clause-gives : goal.returns-in-Some-clause-gives
returns-in-Some-clause-gives g c = record {
  given = λ u n ss es a.
      shown_next _ g.D.Machine.State g.D.Machine.stands g.D.Machine.step g.D.Machine.says g.met.D.Machine.byte g.D.Machine.stands c.args.self.now c.give.new.self c.args.bus.now c.first_shown.new.self c.args.change.moment c.in-Some.moment c.in-Some.answer.device n c.in-Some.answer.changes.items ss es c.give.result
      c.requires.second a (c.in-Some.ensures.shown.played u a.stations a.from (a.from + c.args.change.moment) a.now (omega arith) (omega arith)) c.first_shown.ensures.host c.give.ensures.from c.in-Some.ensures.first.moments
      c.in-Some.ensures.first.shows c.give.ensures.given (let l = c.in-Some.ensures.first.before in omega (arith, l));
  recorded = λ one.
      let k = c.in-Some.ensures.shown.recorded one in (
        k.0,
        (λ later n ss es a.
            shown_next _ Playback (IsPlayedBack g.D.Machine.shows later) played_step played_says (byte_of g.D.Machine.shows later) (IsPlayedBack g.D.Machine.shows (k.0 ++ later)) c.args.self.now c.give.new.self c.args.bus.now c.first_shown.new.self c.args.change.moment
            c.in-Some.moment c.in-Some.answer.device n c.in-Some.answer.changes.items ss es c.give.result c.requires.second a ((k.1 later a.stations a.now).0 a.from (a.from + c.args.change.moment) (omega arith) (omega arith)) c.first_shown.ensures.host
            c.give.ensures.from c.in-Some.ensures.first.moments c.in-Some.ensures.first.shows c.give.ensures.given (let l = c.in-Some.ensures.first.before in omega (arith, l))),
      );
}

pub returns-clause-gives : goal.returns-clause-gives
returns-clause-gives g c = record {
  given = λ u n ss es a.
      let second = ap (λ (p : Turns). p.second) c.self.view_is ∙ c.requires.second in
      let from = a.before in (
        given_change _ g.D.Machine.State g.D.Machine.stands g.D.Machine.step g.D.Machine.says g.met.D.Machine.byte g.D.Machine.stands g.D.Machine.stands g.met.D.Machine.byte c.args.self.now (record { waiting = None; second = c.self.inside.second; from = c.args.change.moment; taken = c.self.inside.taken }) c.args.bus.now c.line.new.self c.args.change.moment n c.args.change
            c.first_shown.new.self.drives ss es c.requires.second second refl (omega arith) a (c.in_default.ensures.shown.played (omega (arith, u, c.line.ensures.carried.counted)) a.stations a.from c.args.change.moment a.now (omega (arith, from, c.requires.from)) (omega arith))
            (c.in_default.ensures.first.settled refl) (λ us h. c.line.ensures.tells.told (omega (arith, u, c.first_shown.ensures.carried.counted)) us (subst (λ (l : Lines). IsBusAt _ g.D.Machine.State g.D.Machine.stands l c.first_shown.new.self.drives us) (sym c.first_shown.ensures.host) h)),
        refl,
      );
  recorded = λ one.
      let k = c.in_default.ensures.shown.recorded one in
      let w = c.line.ensures.tells.recorded one in (
        k.0 ++ w.0,
        (λ later n ss es a.
            (let second = ap (λ (p : Turns). p.second) c.self.view_is ∙ c.requires.second in
            let from = a.before in
            let start : IsBack g.D.Machine.shows (k.0 ++ (w.0 ++ later)) c.args.bus.now.host c.args.bus.now.drives a.stations =
            subst (λ (v : List Shown). IsBack g.D.Machine.shows v c.args.bus.now.host c.args.bus.now.drives a.stations) (append_assoc k.0 w.0 later) a.now in (
              given_change _ Playback (IsPlayedBack g.D.Machine.shows later) played_step played_says (byte_of g.D.Machine.shows later) (IsPlayedBack g.D.Machine.shows ((k.0 ++ w.0) ++ later)) (IsPlayedBack g.D.Machine.shows (w.0 ++ later))
                  (byte_of g.D.Machine.shows (w.0 ++ later)) c.args.self.now (record { waiting = None; second = c.self.inside.second; from = c.args.change.moment; taken = c.self.inside.taken }) c.args.bus.now c.line.new.self c.args.change.moment n c.args.change
                  c.first_shown.new.self.drives ss es c.requires.second second refl (omega arith) a ((k.1 (w.0 ++ later) a.stations start).0 a.from c.args.change.moment (omega (arith, from, c.requires.from)) (omega arith))
                  (c.in_default.ensures.first.settled refl)
                  (λ us h. w.1 later us (subst (λ (l : Lines). IsBack g.D.Machine.shows (w.0 ++ later) l c.first_shown.new.self.drives us) (sym c.first_shown.ensures.host) h)),
              refl,
            ))),
      );
}
