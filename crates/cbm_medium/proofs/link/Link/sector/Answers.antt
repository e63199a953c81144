use Rattle.std.proofs.Common.{rules}
use Rattle.cbm_medium.proofs.link.Link.sector.Goals as goal

pub returns : goal.returns
returns c = search rules
