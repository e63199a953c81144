use Rattle.std.proofs.Common.{ℕ, Option, sym, subst, ap, ◌∙◌}
use Rattle.std.specs.Prelude.{is_some}
use Rattle.bus_wires.proofs.Standing.{stands_alike, stands_with, all_given}
use Rattle.bus_wires.specs.Looks.{WiresStand}
use Rattle.bus_wires.specs.declared.wires.Wires.{Wires}
use Rattle.bus_wires.proofs.wires.Wires.next.Goals as goal

-- an event was given
pub returns-in-Some-clause-given : goal.returns-in-Some-clause-given
returns-in-Some-clause-given c = λ bs cs es s.
    let w = c.moments.self in
    stands_with bs c.event.new.self w cs es c.in-Some.event (c.moments.invariant.stands bs cs es s) c.in-Some.ensures.moment c.in-Some.ensures.given c.in-Some.ensures.alike

-- the moment is over, and no other is known
pub returns-then-not-turn-clause-shown : goal.returns-then-not-turn-clause-shown
returns-then-not-turn-clause-shown c = λ bs cs es s.
    let still = stands_alike bs c.event.new.self c.moments.self cs es (c.moments.invariant.stands bs cs es s) c.in_default.ensures.kept c.in_default.ensures.alike in
    subst (λ (w : Wires). WiresStand bs w cs es) (sym (c.turn.ensures.same c.if-not-turn.true)) still

pub returns-then-not-turn-clause-exact : goal.returns-then-not-turn-clause-exact
returns-then-not-turn-clause-exact c = λ bs cs es s e.
    let still = stands_alike bs c.event.new.self c.moments.self cs es (c.moments.invariant.stands bs cs es s) c.in_default.ensures.kept c.in_default.ensures.alike in
    let same = c.turn.ensures.same c.if-not-turn.true in
    all_given bs c.event.new.self cs es still c.in_default.ensures.settled (ap (λ (w : Wires). w.ahead.items) (sym same) ∙ e)

-- where the capture has ended, nothing that was read is left
pub returns-then-not-turn-clause-over : goal.returns-then-not-turn-clause-over
returns-then-not-turn-clause-over c = λ bs cs es s e.
    let still = stands_alike bs c.event.new.self c.moments.self cs es (c.moments.invariant.stands bs cs es s) c.in_default.ensures.kept c.in_default.ensures.alike in
    let ended = ap (λ (o : Option ℕ). is_some o) (c.in_default.ensures.alike.3 ∙ c.moments.invariant.end) ∙ e in
    ap (λ (w : Wires). w.ahead.items) (c.turn.ensures.same c.if-not-turn.true) ∙ c.turn.ensures.left bs cs es still ended c.if-not-turn.true

-- the next moment begins
pub moments-preserved : goal.moments-preserved
moments-preserved c = record {
  stands = λ bs cs es s.
      let still = stands_alike bs c.event.new.self c.moments.self cs es (c.moments.invariant.stands bs cs es s) c.in_default.ensures.kept c.in_default.ensures.alike in
      c.turn.ensures.stands bs cs es still c.in_default.ensures.settled c.if-not-turn.false;
  end = c.turn.ensures.end ∙ (c.in_default.ensures.alike.3 ∙ c.moments.invariant.end);
}
