use Rattle.std.proofs.Common.{◌≡◌, List, length, ◌+◌, ◌-◌, ◌^◌}
use Rattle.bus_wires.specs.Looks.{WiresStand}
use Rattle.cbm_iec.specs.declared.event.Event.{Event}
use Rattle.cbm_iec.specs.declared.lines.Change.{Change}
use Rattle.cbm_iec.specs.declared.party.Party.{Party}
use Rattle.bus_wires.proofs.wires.Wires.next.Given as goal

-- what was read and given stands
abbrev pub invariant-moments : goal.invariant-moments
invariant-moments l = record {
  stands : (bs : List Party) (cs : List Change) (es : List Event) → WiresStand bs l.initial.self cs es → WiresStand bs l.self cs es;
  end : l.self.end ≡ l.initial.self.end;
}

abbrev pub decreases-moments : goal.decreases-moments
decreases-moments l = (2 ^ 50 - l.self.moment) + length l.self.ahead.items
