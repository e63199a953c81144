use Rattle.std.proofs.Common.{◌∙◌, ap, ℕ, List, ◌++◌, replicate}
use Rattle.cbm_g64.proofs.Imaging.{blocks_none, blocks_more}
use Rattle.cbm_g64.proofs.image.append_blocks.Goals as goal

pub loop-i-init : goal.loop-i-init
loop-i-init c = blocks_none c.args.out.now.items

pub loop-i-preserved : goal.loop-i-preserved
loop-i-preserved c =
    c.in_ok-extend_from_slice-2.ensures.items
    ∙ ap (λ (v : List ℕ). v ++ replicate 7928 0) c.in_ok-extend_from_slice.ensures.items
    ∙ blocks_more c.args.out.now.items c.loop-i.out.items c.length_field.result c.loop-i.i c.loop-i.invariant c.length_field.ensures
