use Rattle.std.proofs.Common.{rules}
use Rattle.cbm_iec.proofs.ear.Ear.data.Goals as goal

-- what DATA is decides from when EOI is timed
pub returns-in-Ready : goal.returns-in-Ready
returns-in-Ready c = search rules
