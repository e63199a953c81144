use Rattle.std.proofs.Common.{sym, ap}
use Rattle.cbm_host.proofs.request.Request.most.Goals as goal
use Rattle.cbm_host.specs.Engines.{most_of}

pub returns-in-Status : goal.returns-in-Status
returns-in-Status c = sym (ap most_of c.in-Status.is)
