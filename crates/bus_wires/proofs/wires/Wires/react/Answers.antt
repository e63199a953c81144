use Rattle.std.proofs.Common.{ap, arith}
use Rattle.bus_wires.proofs.Standing.{stands_due, stands_same, none_after}
use Rattle.bus_wires.specs.Cable.{parties_of}
use Rattle.bus_wires.proofs.wires.Wires.react.Goals as goal

-- a reaction comes before all that is ahead
pub returns-clause-stands : goal.returns-clause-stands
returns-clause-stands c = λ bs cs es s h e.
    let w = c.args.self.now in
    let p = parties_of w.hands in
    let due = c.in-Some.due in
    let before = c.in-Some.ensures.before in
    let later = c.in-Some.ensures.later in
    let front = none_after due c.args.limit w.ahead.items before c.requires in
    let shown = h (none_after w.moment c.args.limit w.ahead.items (omega (arith, before, later)) c.requires) in
    let a = c.begin.ensures.alike in
    stands_same bs p _ due _ w.wires _ w.ahead.items _ cs es (stands_due bs p w.moment due w.wires w.ahead.items cs es s shown later front) (ap parties_of c.begin.ensures.hands) a.0 a.1 a.2
