use Rattle.cbm_drive.proofs.Added.{not_host, still_waits}
use Rattle.cbm_drive.proofs.Unfailed.{never_failed}
use Rattle.std.proofs.Common.{rules, ◌+◌, ◌∷◌, [], refl, sym, ap, subst, ◌∙◌, arith}
use Rattle.cbm_drive.specs.Players.{Turns, IsGivenBefore}
use Rattle.cbm_drive.specs.Desks.{desk_shows}
use Rattle.cbm_program.proofs.LinePrints.{if_err}
use Rattle.cbm_program.proofs.OutputLemmas.{grows_none, grows_on}
use Rattle.cbm_program.proofs.Staging.{none_played, played_event, replays_none, replays_event, part_event, of_drive, of_host, turn_rest, what_comes}
use Rattle.cbm_program.proofs.wires.staging.Stage.change.Goals as goal

pub events-init : goal.events-init
events-init g c =
    let after = (c.offer.ensures.taken c.requires.open.from).1 in
    record {
      played = none_played g.M.Medium.seen _ c.args.self.now.player c.offer.new.self c.args.self.now.bus c.args.self.now.bus (sym (ap (λ (p : Turns). p.second) after)) (sym (ap (λ (p : Turns). p.from) after)) refl;
      wrote = replays_none desk_shows _ c.args.self.now.player c.offer.new.self c.args.self.now.bus c.args.self.now.bus (sym (ap (λ (p : Turns). p.second) after)) (sym (ap (λ (p : Turns). p.from) after)) refl;
      waiting = ap (λ (p : Turns). p.waiting) after;
      second = subst (IsGivenBefore (c.args.change.moment + 1)) (sym (ap (λ (p : Turns). p.second) after ∙ c.requires.open.second)) tt;
      tracks = refl;
      grown = grows_none _;
    }

pub returns-in_err-print_event-clause-staged : goal.returns-in_err-print_event-clause-staged
returns-in_err-print_event-clause-staged g c =
    let rest = turn_rest c.in-Some.event c.args.change c.events.self.player.waiting c.next.new.self.waiting c.events.invariant.waiting c.in-Some.ensures.event.turn in
    record {
      err = if_err c.from_residual.result (λ ss es h. part_event g.M.Medium.seen _ _ _ [] (c.args.change ∷ []) rest.0 (c.args.change.moment + 1) c.events.self.player c.next.new.self c.events.self.bus c.next.new.bus ss es c.in-Some.event (c.events.invariant.played ss es h)
          (λ fs at_. (c.in-Some.ensures.gives.given (never_failed (λ x. (g.M.Medium.seen x.dos.medium).failures) (λ x. g.met.M.Steady.steady x.dos.medium) c.events.self.bus.drives c.next.new.bus.drives) 0 ss fs at_).after) rest.1 c.in-Some.ensures.event.second c.in_err-print_event.ensures.err);
      fault = (search rules);
      grows = grows_on _ _ _ c.events.invariant.grown c.in_err-print_event.ensures.grows;
      tracks = c.next.ensures.carried.lasting ∙ c.events.invariant.tracks;
    }

pub returns-in-Host-clause-ok : goal.returns-in-Host-clause-ok
returns-in-Host-clause-ok g c = λ ss es h.
    played_event g.M.Medium.seen _ _ _ [] (c.args.change ∷ []) c.events.self.player c.next.new.self c.events.self.bus c.next.new.bus ss es c.in-Some.event (c.events.invariant.played ss es h)
    (λ fs at_. (c.in-Some.ensures.gives.given (never_failed (λ x. (g.M.Medium.seen x.dos.medium).failures) (λ x. g.met.M.Steady.steady x.dos.medium) c.events.self.bus.drives c.next.new.bus.drives) 0 ss fs at_).after) (of_host c.in-Some.event c.args.change c.events.self.player.waiting c.next.new.self.waiting c.in-Host.is c.events.invariant.waiting c.in-Some.ensures.event.turn) c.in_ok-print_event.ensures.ok

pub returns-in-Host-clause-wrote : goal.returns-in-Host-clause-wrote
returns-in-Host-clause-wrote g c =
    replays_event desk_shows _ _ _ [] (c.args.change ∷ []) c.args.self.now.player c.events.self.player c.next.new.self c.args.self.now.bus c.events.self.bus c.next.new.bus c.in-Some.event c.events.invariant.wrote (let k = c.in-Some.ensures.gives.recorded refl in (k.0, λ later ss fs at_. (k.1 later 0 ss fs at_).after)) (of_host c.in-Some.event c.args.change c.events.self.player.waiting c.next.new.self.waiting c.in-Host.is c.events.invariant.waiting c.in-Some.ensures.event.turn) c.in_ok-print_event.ensures.ok

pub returns-in-Host-clause-staged : goal.returns-in-Host-clause-staged
returns-in-Host-clause-staged g c = record {
  err = (search rules);
  fault = (search rules);
  grows = grows_on _ _ _ c.events.invariant.grown c.in_ok-print_event.ensures.grows;
  tracks = c.next.ensures.carried.lasting ∙ c.events.invariant.tracks;
}

pub events-smaller : goal.events-smaller
events-smaller g c = c.in-Some.ensures.event.fewer (not_host c.in-Some.event.who c.in_default-who.not-Host) (c.args.change.moment + 1) (omega arith)

pub events-preserved : goal.events-preserved
events-preserved g c =
    let drive = not_host c.in-Some.event.who c.in_default-who.not-Host in
    record {
      played = λ ss es h. played_event g.M.Medium.seen _ _ _ [] [] c.events.self.player c.next.new.self c.events.self.bus c.next.new.bus ss es c.in-Some.event (c.events.invariant.played ss es h)
          (λ fs at_. (c.in-Some.ensures.gives.given (never_failed (λ x. (g.M.Medium.seen x.dos.medium).failures) (λ x. g.met.M.Steady.steady x.dos.medium) c.events.self.bus.drives c.next.new.bus.drives) 0 ss fs at_).after) (of_drive c.in-Some.event drive) c.in_ok-print_event.ensures.ok;
      wrote = replays_event desk_shows _ _ _ [] [] c.args.self.now.player c.events.self.player c.next.new.self c.args.self.now.bus c.events.self.bus c.next.new.bus c.in-Some.event c.events.invariant.wrote (let k = c.in-Some.ensures.gives.recorded refl in (k.0, λ later ss fs at_. (k.1 later 0 ss fs at_).after)) (of_drive c.in-Some.event drive) c.in_ok-print_event.ensures.ok;
      waiting = still_waits c.in-Some.event c.events.self.player.waiting c.next.new.self.waiting drive c.in-Some.ensures.event.turn ∙ c.events.invariant.waiting;
      second = c.in-Some.ensures.event.second;
      tracks = c.next.ensures.carried.lasting ∙ c.events.invariant.tracks;
      grown = grows_on _ _ _ c.events.invariant.grown c.in_ok-print_event.ensures.grows;
    }

pub returns-clause-wrote : goal.returns-clause-wrote
returns-clause-wrote g c = (let z = what_comes c.events.self.player.waiting c.args.change _ c.events.invariant.waiting c.in_default.ensures.comes in absurd (cc))

pub returns-clause-open : goal.returns-clause-open
returns-clause-open g c = (let z = what_comes c.events.self.player.waiting c.args.change _ c.events.invariant.waiting c.in_default.ensures.comes in absurd (cc))
