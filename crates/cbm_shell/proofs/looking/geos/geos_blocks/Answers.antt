use Rattle.cbm_bam.specs.Marks.{is_marked}
use Rattle.cbm_shell.proofs.GeosLemmas.{one_geos}
use Rattle.cbm_shell.proofs.looking.geos.geos_blocks.Goals as goal

pub returns : goal.returns
returns g c = one_geos (is_marked c.new-used.result) (is_marked c.use_geos.new.used) _ c.new-used.ensures c.use_geos.ensures
