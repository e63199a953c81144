use Rattle.std.proofs.Common.{arith}
use Rattle.cbm_host.proofs.Hosting.{are_equal}
use Rattle.cbm_host.proofs.request.are_equal.Goals as goal

pub returns : goal.returns
returns c = are_equal c.args.count c.args.byte (let f = c.ranges.byte in omega arith)
