use Rattle.std.proofs.Common.{◌≡◌, length}
use Rattle.cbm_device.specs.Channels.{by_call, IsPeeked}
use Rattle.cbm_device.proofs.Calling.{Speaking}
use Rattle.cbm_device.proofs.calls.take_bytes.Given as goal

abbrev pub invariant-loop-count : goal.invariant-loop-count
invariant-loop-count g l = (l.drive.port ≡ l.fn.drive.port) × Speaking (by_call g.A.From.from_gives g.D.Takes.takes) (IsPeeked g.D.Machine.shows g.D.Machine.stands g.D.Machine.says)
    (length l.fn.out) l.count l.fn.out l.out l.fn.drive.machine l.drive.machine
