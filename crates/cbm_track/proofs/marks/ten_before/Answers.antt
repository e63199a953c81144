use Rattle.cbm_track.proofs.Tens.{ten_back}
use Rattle.cbm_track.proofs.marks.ten_before.Goals as goal

pub returns-then-place-ge10-clause-value : goal.returns-then-place-ge10-clause-value
returns-then-place-ge10-clause-value c = ten_back c.args.place c.args.bits c.requires.place c.requires.some c.if-place-ge10.true
