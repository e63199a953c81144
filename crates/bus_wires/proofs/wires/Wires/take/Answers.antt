use Rattle.std.proofs.Common.{◌∙◌, List, ap, sym, subst, remove}
use Rattle.bus_wires.proofs.Standing.{stands_first, stands_same}
use Rattle.bus_wires.specs.Cable.{parties_of, Shows}
use Rattle.bus_wires.specs.Looks.{WiresStandAt, FirstAfter}
use Rattle.bus_wires.specs.declared.looks.Look.{Look}
use Rattle.bus_wires.proofs.wires.Wires.take.Goals as goal

-- the first moment begins
pub returns-clause-stands : goal.returns-clause-stands
returns-clause-stands c = λ bs cs es s h e.
    let w = c.args.self.now in
    let p = parties_of w.hands in
    let same = sym c.as_slice.ensures.value in
    let here = subst (λ (xs : List Look). WiresStandAt bs p w.moment w.wires xs cs es) same s in
    let settled = subst (λ (xs : List Look). FirstAfter w.moment xs → Shows p w.wires) same h in
    let first = stands_first bs p w.moment w.wires c.as_slice.result.now _ cs es c.in-len1-up.len_at_least here settled in
    let a = c.begin.ensures.alike in
    stands_same bs p _ _ _ _ _ _ _ cs es first (ap parties_of c.begin.ensures.hands) a.0 a.1
    (a.2 ∙ (c.remove.ensures.items ∙ ap (λ (xs : List Look). remove xs 0) same))
