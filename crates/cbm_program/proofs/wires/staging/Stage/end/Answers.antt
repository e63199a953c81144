use Rattle.cbm_drive.proofs.Unfailed.{never_failed}
use Rattle.std.proofs.Common.{Err, ap, ◌+◌, [], refl, sym, subst, arith, ◌∙◌, append-nil}
use Rattle.std.proofs.lemmas.Result.{err_from_is_err_and}
use Rattle.cbm_drive.specs.Players.{IsGivenBefore}
use Rattle.cbm_drive.specs.Desks.{desk_shows}
use Rattle.cbm_program.proofs.LinePrints.{if_err, same_err}
use Rattle.cbm_program.proofs.OutputLemmas.{grows_none, grows_on}
use Rattle.cbm_program.proofs.Staging.{none_played, played_event, replays_none, replays_event, replays_over, part_event, of_drive, ended_on}
use Rattle.cbm_program.proofs.wires.staging.Stage.end.Goals as goal

pub events-init : goal.events-init
events-init g c = record {
  played = none_played g.M.Medium.seen _ c.args.self.now.player c.args.self.now.player c.args.self.now.bus c.args.self.now.bus refl refl refl;
  wrote = replays_none desk_shows _ c.args.self.now.player c.args.self.now.player c.args.self.now.bus c.args.self.now.bus refl refl refl;
  waiting = c.requires.open.waiting;
  second = subst (IsGivenBefore (c.args.end + 1)) (sym c.requires.open.second) tt;
  from = (let l = c.requires.open.from in omega (arith, l));
  tracks = refl;
  grown = grows_none _;
}

pub returns-in_err-print_event-clause-staged : goal.returns-in_err-print_event-clause-staged
returns-in_err-print_event-clause-staged g c =
    let p = err_from_is_err_and c.from_residual.result c.from_residual.ensures.1 in
    record {
      err = if_err c.from_residual.result (λ ss es h. part_event g.M.Medium.seen _ _ _ [] [] [] (c.args.end + 1) c.events.self.player c.finish.new.self c.events.self.bus c.finish.new.bus ss es c.in-Some.event (c.events.invariant.played ss es h)
          (λ fs at_. c.in-Some.ensures.gives.given (never_failed (λ x. (g.M.Medium.seen x.dos.medium).failures) (λ x. g.met.M.Steady.steady x.dos.medium) c.events.self.bus.drives c.finish.new.bus.drives) 0 ss fs at_) (append-nil _ ∙ of_drive c.in-Some.event c.in-Some.ensures.event.drive) c.finish.ensures.event.second c.in_err-print_event.ensures.err);
      fault = same_err c.from_residual.result _ _ (p.1 ∙ ap Err p.2) c.in_err-print_event.ensures.fault;
      grows = grows_on _ _ _ c.events.invariant.grown c.in_err-print_event.ensures.grows;
      tracks = c.finish.ensures.carried.lasting ∙ c.events.invariant.tracks;
    }

pub events-smaller : goal.events-smaller
events-smaller g c = c.in-Some.ensures.event.fewer (c.args.end + 1) (omega arith)

pub events-preserved : goal.events-preserved
events-preserved g c = record {
  played = λ ss es h. played_event g.M.Medium.seen _ _ _ [] [] c.events.self.player c.finish.new.self c.events.self.bus c.finish.new.bus ss es c.in-Some.event (c.events.invariant.played ss es h)
      (λ fs at_. c.in-Some.ensures.gives.given (never_failed (λ x. (g.M.Medium.seen x.dos.medium).failures) (λ x. g.met.M.Steady.steady x.dos.medium) c.events.self.bus.drives c.finish.new.bus.drives) 0 ss fs at_) (of_drive c.in-Some.event c.in-Some.ensures.event.drive) c.in_ok-print_event.ensures.ok;
  wrote = replays_event desk_shows _ _ _ [] [] c.args.self.now.player c.events.self.player c.finish.new.self c.args.self.now.bus c.events.self.bus c.finish.new.bus c.in-Some.event c.events.invariant.wrote (let k = c.in-Some.ensures.gives.recorded refl in (k.0, λ later ss fs at_. k.1 later 0 ss fs at_)) (of_drive c.in-Some.event c.in-Some.ensures.event.drive) c.in_ok-print_event.ensures.ok;
  waiting = c.finish.ensures.event.waiting;
  second = c.finish.ensures.event.second;
  from = c.finish.ensures.event.from;
  tracks = c.finish.ensures.carried.lasting ∙ c.events.invariant.tracks;
  grown = grows_on _ _ _ c.events.invariant.grown c.in_ok-print_event.ensures.grows;
}

pub returns-clause-ok : goal.returns-clause-ok
returns-clause-ok g c = ended_on g.M.Medium.seen _ _ c.args.end c.args.self.now.player c.events.self.player c.finish.new.self c.args.self.now.bus c.events.self.bus c.finish.new.bus c.events.invariant.played (λ ss fs at_. c.in_default.ensures.gives.given (never_failed (λ x. (g.M.Medium.seen x.dos.medium).failures) (λ x. g.met.M.Steady.steady x.dos.medium) c.events.self.bus.drives c.finish.new.bus.drives) 0 ss fs at_)

pub returns-clause-wrote : goal.returns-clause-wrote
returns-clause-wrote g c =
    let k = c.in_default.ensures.gives.recorded refl in
    replays_over desk_shows _ _ c.args.end c.args.self.now.player c.events.self.player c.finish.new.self c.args.self.now.bus c.events.self.bus c.finish.new.bus c.events.invariant.wrote (k.0, λ later ss fs at_. k.1 later 0 ss fs at_)
