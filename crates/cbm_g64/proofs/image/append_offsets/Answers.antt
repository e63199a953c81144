use Rattle.std.proofs.Common.{◌∙◌}
use Rattle.cbm_g64.specs.NewFile.{new_place}
use Rattle.cbm_g64.proofs.Imaging.{entries_none, entries_more}
use Rattle.cbm_g64.proofs.image.append_offsets.Goals as goal

pub loop-i-init : goal.loop-i-init
loop-i-init c = entries_none new_place c.args.out.now.items

pub loop-i-preserved : goal.loop-i-preserved
loop-i-preserved c = c.in_ok-extend_from_slice.ensures.items ∙ entries_more new_place c.args.out.now.items c.loop-i.out.items c.entry.result c.loop-i.i c.loop-i.invariant c.entry.ensures
