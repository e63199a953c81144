use Rattle.std.proofs.Common.{◌≡◌, ◌+◌, length, drop}
use Rattle.cbm_machine.specs.Machines.{Machine}
use Rattle.cbm_channel.specs.Standing.{Stands}
use Rattle.cbm_channel.proofs.Copies.{IsAdding}
use Rattle.cbm_channel.proofs.dos.Dos.add_sources.Given as goal

abbrev pub invariant-names : goal.invariant-names
invariant-names g l = (length l.slots.items ≡ length l.fn.slots.items + l.name-index)
    × ((m : Machine) → Stands g.M.Medium.seen l.fn.self m → IsAdding m.disk l.names (drop l.name-index l.names) l.fn.slots.items l.slots.items)
