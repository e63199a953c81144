use Rattle.std.proofs.Common.{◌∙◌, ap, ℕ, ◌++◌, replicate}
use Rattle.byteorder.specs.Endian.{little_bytes}
use Rattle.cbm_g64.specs.NewFile.{new_zone}
use Rattle.cbm_g64.proofs.Imaging.{entries_none, entries_more}
use Rattle.cbm_g64.proofs.image.append_speeds.Goals as goal

pub loop-i-init : goal.loop-i-init
loop-i-init c = entries_none new_zone c.args.out.now.items

pub loop-i-preserved : goal.loop-i-preserved
loop-i-preserved c = c.in_ok-extend_from_slice.ensures.items ∙ entries_more new_zone c.args.out.now.items c.loop-i.out.items c.entry.result c.loop-i.i c.loop-i.invariant (c.entry.ensures ∙ ap (λ (x : ℕ). little_bytes 4 x ++ replicate 4 0) c.zone.ensures)
