use Rattle.std.proofs.Common.{◌∷◌, [], ◌++◌, refl, sym, ap, subst, ◌∙◌, arith, List}
use Rattle.cbm_iec.specs.declared.event.Event.{Event}
use Rattle.cbm_drive.specs.Players.{Turns, pending, change_taken, HasAdded}
use Rattle.cbm_drive.proofs.Added.{after_take, added_none, added_event, host_of, none_of_host, not_host, still_waits}
use Rattle.cbm_drive.proofs.Unfailed.{carried_none, carried_on}
use Rattle.cbm_drive.proofs.playing.play_change.Goals as goal

pub events-init : goal.events-init
events-init g c = record {
  added = λ u n ss es a. subst (λ (p : Turns). HasAdded _ g.D.Machine.State g.D.Machine.stands g.D.Machine.step g.D.Machine.says p c.args.bus.now c.args.events.now.items c.args.events.now.items [] n ss es) (sym c.take.ensures)
      (added_none _ g.D.Machine.State g.D.Machine.stands g.D.Machine.step g.D.Machine.says (change_taken c.args.change c.args.player.now) c.args.bus.now c.args.events.now.items n ss es c.requires.open.second (after_take _ g.D.Machine.State g.D.Machine.stands g.D.Machine.step g.D.Machine.says c.args.change c.args.player.now c.args.bus.now n ss es a));
  waiting = ap (λ (p : Turns). p.waiting) c.take.ensures;
  second = ap (λ (p : Turns). p.second) c.take.ensures ∙ c.requires.open.second;
  carried = carried_none c.args.bus.now.drives;
}

-- the change itself
pub returns-in-Host-clause-added : goal.returns-in-Host-clause-added
returns-in-Host-clause-added g c = λ u n ss es a.
    added_event _ g.D.Machine.State g.D.Machine.stands g.D.Machine.step g.D.Machine.says c.events.player c.next.new.self c.add.new.player c.events.bus c.next.new.bus c.args.events.now.items c.events.events.items c.add.new.events.items [] (c.args.change ∷ []) (c.args.change ∷ []) n ss es c.in-Some.event
    (c.events.invariant.added (omega (arith, u, c.next.ensures.carried.counted)) n ss es a) (λ fs at_. (c.in-Some.ensures.gives.given (omega (arith, u, c.events.invariant.carried.counted)) n ss fs at_).after)
    (c.add.ensures.events ∙ ap (λ (v : List Event). v ++ c.in-Some.event ∷ pending c.next.new.self.second) c.reserve.ensures.items) c.add.ensures.player
    (host_of c.in-Some.event.who c.in-Some.event.change c.args.change c.events.player.waiting c.next.new.self.waiting c.in-Host.is c.events.invariant.waiting c.in-Some.ensures.event.turn) refl

-- what comes before it
pub events-preserved : goal.events-preserved
events-preserved g c =
    let drive = not_host c.in-Some.event.who c.in_default-who.not-Host in
    record {
      added = λ u n ss es a. added_event _ g.D.Machine.State g.D.Machine.stands g.D.Machine.step g.D.Machine.says c.events.player c.next.new.self c.add.new.player c.events.bus c.next.new.bus c.args.events.now.items c.events.events.items c.add.new.events.items [] [] [] n ss es c.in-Some.event
          (c.events.invariant.added (omega (arith, u, c.next.ensures.carried.counted)) n ss es a) (λ fs at_. (c.in-Some.ensures.gives.given (omega (arith, u, c.events.invariant.carried.counted)) n ss fs at_).after)
          (c.add.ensures.events ∙ ap (λ (v : List Event). v ++ c.in-Some.event ∷ pending c.next.new.self.second) c.reserve.ensures.items) c.add.ensures.player (none_of_host c.in-Some.event.who c.in-Some.event.change [] drive) refl;
      waiting = ap (λ (p : Turns). p.waiting) c.add.ensures.player ∙ still_waits c.in-Some.event c.events.player.waiting c.next.new.self.waiting drive c.in-Some.ensures.event.turn ∙ c.events.invariant.waiting;
      second = ap (λ (p : Turns). p.second) c.add.ensures.player;
      carried = carried_on c.events.invariant.carried c.next.ensures.carried;
    }
