use Rattle.std.proofs.Common.{◌≡◌}
use Rattle.cbm_device.specs.Channels.{by_call}
use Rattle.cbm_device.proofs.Calling.{Hearing}
use Rattle.cbm_device.proofs.calls.hear.Given as goal

abbrev pub invariant-loop-byte : goal.invariant-loop-byte
invariant-loop-byte g l = (l.drive.port ≡ l.fn.drive.port) × Hearing (by_call g.A.From.from_gives g.D.Takes.takes) l.bytes l.byte-index l.left l.fn.drive.machine l.drive.machine
