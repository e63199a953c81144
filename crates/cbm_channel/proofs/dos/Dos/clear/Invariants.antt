use Rattle.std.proofs.Common.{◌≡◌, Ok, drop}
use Rattle.cbm_machine.specs.Machines.{Machine}
use Rattle.cbm_channel.specs.ChannelCalls.{KeepsElse, KeepsRest}
use Rattle.cbm_channel.specs.Commanded.{all_scratched, CanAllGo, is_slot_among}
use Rattle.cbm_channel.specs.Standing.{Stands, uses_of}
use Rattle.cbm_channel.proofs.Scratches.{IsClearing}
use Rattle.cbm_channel.proofs.Cleared.{ScratchesSoFar}
use Rattle.cbm_channel.proofs.dos.Dos.clear.Given as goal

abbrev pub invariant-slots : goal.invariant-slots
invariant-slots g l =
    ((m : Machine) → Stands g.M.Medium.seen l.fn.self m → CanAllGo m.disk (uses_of l.fn.self.channels m.channels) l.slots
    → IsClearing (g.M.Medium.seen l.fn.self.medium).tracks (g.M.Medium.seen l.self-inside.volume).content (uses_of l.fn.self.channels m.channels) m.disk (all_scratched m.disk l.slots) (drop l.slot-index l.slots))
    × KeepsElse {A = Unit {0}} (Ok tt) (g.M.Medium.seen l.fn.self.medium) (g.M.Medium.seen l.self-inside.volume)
    × (record { medium = l.self-inside.volume; channels = l.self-inside.channels.items; told = l.self-inside.telling; text = l.self-inside.text } ≡ record (l.fn.self) { medium = l.self-inside.volume })
    × ((m : Machine) → Stands g.M.Medium.seen l.fn.self m → CanAllGo m.disk (uses_of l.fn.self.channels m.channels) l.slots → KeepsRest (g.M.Medium.seen l.fn.self.medium) (g.M.Medium.seen l.self-inside.volume) (is_slot_among l.slots))
    × ScratchesSoFar (g.M.Medium.seen l.fn.self.medium) (g.M.Medium.seen l.self-inside.volume) (drop l.slot-index l.slots) l.slots
