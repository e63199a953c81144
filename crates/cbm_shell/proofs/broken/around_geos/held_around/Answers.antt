use Rattle.std.proofs.Common.{◌++◌}
use Rattle.cbm_medium.specs.Place.{directory_head}
use Rattle.cbm_bam.specs.Marks.{is_marked}
use Rattle.cbm_shell.specs.Mapping.{used_in}
use Rattle.cbm_shell.specs.Geos.{border_in, in_geos}
use Rattle.cbm_shell.proofs.UndeleteLemmas.{joined}
use Rattle.cbm_shell.proofs.broken.around_geos.held_around.Goals as goal

pub returns : goal.returns
returns g c =
    let content = (g.M.Medium.seen c.args.medium.now).content in
    let used = used_in c.args.geometry content c.args.entries.now in
    let border = border_in c.args.geometry content (content directory_head) in
    let geos = in_geos c.args.geometry content c.args.entries.now in
    joined (is_marked c.use_border.new.used) (is_marked c.use_all_geos.new.used) (used ++ border) geos
    (joined (is_marked c.used_sectors-held.result) (is_marked c.use_border.new.used) used border c.used_sectors-held.ensures c.use_border.ensures)
    c.use_all_geos.ensures
