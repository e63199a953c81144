use Rattle.std.proofs.Common.{rules}
use Rattle.cbm_relfile.proofs.growth.fresh.fresh_byte.Goals as goal

pub returns-then-place-length-eq0 : goal.returns-then-place-length-eq0
returns-then-place-length-eq0 c = search rules

pub returns-else-place-count : goal.returns-else-place-count
returns-else-place-count c = search rules
