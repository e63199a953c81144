use Rattle.std.proofs.Common.{ap, List, ℕ}
use borrow.Rule.Slice.PartMut.{put_mid}
use Rattle.cbm_shell.proofs.changing.locking.mark.put_mark.Goals as goal

pub returns : goal.returns
returns c = ap (λ (x : List ℕ). put_mid 162 5 c.args.head.now x) c.copy_from_slice.ensures.after
