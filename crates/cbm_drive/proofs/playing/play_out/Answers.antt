use Rattle.std.proofs.Common.{◌∷◌, [], ◌++◌, refl, ap, ◌∙◌, arith, List}
use Rattle.cbm_iec.specs.declared.event.Event.{Event}
use Rattle.cbm_drive.specs.Players.{Turns, pending}
use Rattle.cbm_drive.proofs.Added.{added_none, added_event, added_still, added_same, none_of_host}
use Rattle.cbm_drive.proofs.Unfailed.{carried_none, carried_on}
use Rattle.cbm_drive.proofs.playing.play_out.Goals as goal

pub events-init : goal.events-init
events-init g c = record {
  added = λ u n ss es a. added_none _ g.D.Machine.State g.D.Machine.stands g.D.Machine.step g.D.Machine.says c.args.player.now c.args.bus.now c.args.events.now.items n ss es c.requires.open.second a;
  open_ = c.requires.open;
  carried = carried_none c.args.bus.now.drives;
}

-- nothing is due any more
pub returns-in_default-clause-added : goal.returns-in_default-clause-added
returns-in_default-clause-added g c = λ u n ss es a.
    added_same _ g.D.Machine.State g.D.Machine.stands g.D.Machine.step g.D.Machine.says c.finish.new.self c.finish.new.bus c.args.events.now.items c.events.events.items c.reserve.new.self.items [] n ss es c.reserve.ensures.items
    (added_still _ g.D.Machine.State g.D.Machine.stands g.D.Machine.step g.D.Machine.says c.events.player c.finish.new.self c.events.bus c.finish.new.bus c.args.events.now.items c.events.events.items [] n ss es
    (c.events.invariant.added (omega (arith, u, c.finish.ensures.carried.counted)) n ss es a)
    (λ fs at_. (let over = c.in_default.ensures.gives.given (omega (arith, u, c.events.invariant.carried.counted)) n ss fs at_ in (over.after, over.second))))

-- one event more
pub events-preserved : goal.events-preserved
events-preserved g c = record {
  added = λ u n ss es a. added_event _ g.D.Machine.State g.D.Machine.stands g.D.Machine.step g.D.Machine.says c.events.player c.finish.new.self c.add.new.player c.events.bus c.finish.new.bus c.args.events.now.items c.events.events.items c.add.new.events.items [] [] [] n ss es c.in-Some.event
      (c.events.invariant.added (omega (arith, u, c.finish.ensures.carried.counted)) n ss es a) (λ fs at_. c.in-Some.ensures.gives.given (omega (arith, u, c.events.invariant.carried.counted)) n ss fs at_)
      (c.add.ensures.events ∙ ap (λ (v : List Event). v ++ c.in-Some.event ∷ pending c.finish.new.self.second) c.reserve.ensures.items) c.add.ensures.player (none_of_host c.in-Some.event.who c.in-Some.event.change [] c.in-Some.ensures.event.drive) refl;
  open_ = record {
    waiting = ap (λ (p : Turns). p.waiting) c.add.ensures.player ∙ c.finish.ensures.event.waiting;
    second = ap (λ (p : Turns). p.second) c.add.ensures.player;
    from = (let same = ap (λ (p : Turns). p.from) c.add.ensures.player in omega (arith, same, c.finish.ensures.event.from));
  };
  carried = carried_on c.events.invariant.carried c.finish.ensures.carried;
}
