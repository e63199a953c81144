use Rattle.std.proofs.Common.{rules}
use Rattle.cbm_iec.proofs.mouth.Mouth.data.Goals as goal

-- a byte that is freed for keeps its end
pub returns-in-Offering : goal.returns-in-Offering
returns-in-Offering c = search rules

-- only a pull of DATA marks the last byte
pub returns-in-EoiOffered : goal.returns-in-EoiOffered
returns-in-EoiOffered c = search rules
