use Rattle.std.proofs.Common.{rules}
use Rattle.cbm_bam.specs.Marks.{is_marked}
use Rattle.cbm_volume.proofs.formatted.NewHeads.{is_new_head}
use Rattle.cbm_volume.proofs.disk.formatting.new_head.Goals as goal

pub returns : goal.returns
returns c =
    is_new_head c.args.geometry c.args.title.now c.args.id c.around_map.result c.anew.result (is_marked c.used_by_new.result) c.requires (search rules) c.used_by_new.ensures c.around_map.ensures
    c.anew.ensures.length (search rules) c.anew.ensures.free c.anew.ensures.counted c.anew.ensures.spare c.anew.ensures.outside
