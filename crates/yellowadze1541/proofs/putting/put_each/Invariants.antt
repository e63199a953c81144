use Rattle.std.proofs.Common.{◌≡◌, drop}
use Rattle.cbm_machine.specs.Machines.{Machine}
use Rattle.cbm_channel.specs.Standing.{Stands}
use Rattle.yellowadze1541.proofs.PuttingLemmas.{PutSoFar}
use Rattle.yellowadze1541.proofs.putting.put_each.Given as goal

-- those that were put, before those that are left, are the whole
abbrev pub invariant-loop-file : goal.invariant-loop-file
invariant-loop-file g l = (l.put ≡ l.file-index)
    × ((m : Machine) → Stands g.M.Medium.seen l.initial.dos m → PutSoFar (drop l.file-index l.files) l.files l.file-index (Stands g.M.Medium.seen l.dos) m)
