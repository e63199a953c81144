use Rattle.std.proofs.Common.{ap, ◌∙◌, List, ℕ}
use borrow.Rule.Slice.PartMut.{put_mid}
use Rattle.cbm_volume.proofs.disk.formatting.put_label.Goals as goal

pub returns : goal.returns
returns c = ap (λ (x : List ℕ). put_mid 144 27 c.args.head.now x) (c.copy_from_slice.ensures.after ∙ c.new_label.ensures)
