use Rattle.std.proofs.Common.{sym, subst, ap, ◌∙◌}
use Rattle.bus_wires.specs.Looks.{WiresStand, AreWiresSettled}
use Rattle.bus_wires.specs.declared.wires.Wires.{Wires}
use Rattle.bus_wires.proofs.wires.Wires.turn.Goals as goal

-- no reaction comes first
pub returns-else-react-clause-stands : goal.returns-else-react-clause-stands
returns-else-react-clause-stands c = λ bs cs es s h e.
    let same = sym (c.react-in-len1-up-default.ensures.same c.if-react.false) in
    c.take.ensures.stands bs cs es (subst (λ (w : Wires). WiresStand bs w cs es) same s) (subst (λ (w : Wires). AreWiresSettled w) same h) e

pub returns-else-react-clause-left : goal.returns-else-react-clause-left
returns-else-react-clause-left c = λ bs cs es s e f.
    let same = sym (c.react-in-len1-up-default.ensures.same c.if-react.false) in
    ap (λ (w : Wires). w.ahead.items) same ∙ c.take.ensures.left bs cs es (subst (λ (w : Wires). WiresStand bs w cs es) same s) f
