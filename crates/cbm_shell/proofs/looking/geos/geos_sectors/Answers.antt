use Rattle.cbm_bam.specs.Marks.{is_marked}
use Rattle.cbm_shell.proofs.GeosLemmas.{all_geos}
use Rattle.cbm_shell.proofs.looking.geos.geos_sectors.Goals as goal

pub returns : goal.returns
returns g c =
    all_geos (is_marked c.new-used.result) (is_marked c.use_border.new.used) (is_marked c.use_all_geos.new.used) _ _ c.new-used.ensures c.use_border.ensures c.use_all_geos.ensures
