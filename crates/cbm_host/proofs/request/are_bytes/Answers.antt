use Rattle.std.proofs.Common.{arith}
use Rattle.cbm_host.proofs.Hosting.{are_bytes}
use Rattle.cbm_host.proofs.request.are_bytes.Goals as goal

pub returns : goal.returns
returns c = are_bytes c.args.items.now (λ i. let f = c.type_inv.items i in omega arith)
