use Rattle.cbm_bam.proofs.Marks.{marks_none}
use Rattle.cbm_bam.proofs.sector_set.SectorSet.new.Goals as goal

pub returns : goal.returns
returns c = marks_none
