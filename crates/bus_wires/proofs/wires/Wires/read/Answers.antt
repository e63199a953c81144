use Rattle.std.proofs.Common.{ap}
use Rattle.bus_wires.proofs.Standing.{stands_read, stands_same, both_done}
use Rattle.bus_wires.specs.Cable.{parties_of}
use Rattle.bus_wires.specs.declared.looks.Look.{Look}
use Rattle.bus_wires.proofs.wires.Wires.read.Goals as goal

-- one change more was read
pub returns-clause-stands : goal.returns-clause-stands
returns-clause-stands c = λ bs cs es s.
    let w = c.args.self.now in
    let n = c.look.new.self in
    let p = parties_of w.hands in
    both_done c.look.result _ _ _
    (λ added later. stands_same bs p (parties_of n.hands) w.moment n.moment w.wires n.wires _ n.ahead.items _ es (stands_read bs p w.moment w.wires w.ahead.items cs es c.args.change s later)
    (ap parties_of c.look.ensures.hands) (ap (λ (k : Look). k.moment) c.look.ensures.now) (ap (λ (k : Look). k.wires) c.look.ensures.now) added)
    c.look.ensures.added c.look.ensures.later
