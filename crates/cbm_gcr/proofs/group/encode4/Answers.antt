use Rattle.std.proofs.Common.{arith, ◌*◌, ◌+◌}
use Rattle.cbm_gcr.proofs.Blocks.{coded}
use Rattle.cbm_gcr.proofs.group.encode4.Goals as goal

pub returns : goal.returns
returns c = coded c.args.bytes.now (((c.ten_of.result * 1024 + c.ten_of-2.result) * 1024 + c.ten_of-3.result) * 1024 + c.ten_of-4.result)
    (omega arith) c.fits-bytes (omega arith)
