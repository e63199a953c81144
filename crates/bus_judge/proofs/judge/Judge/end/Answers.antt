use Rattle.bus_judge.proofs.Quiet.{in_time}
use Rattle.bus_judge.proofs.judge.Judge.end.Goals as goal

-- nothing was due
pub returns-then-is_quiet : goal.returns-then-is_quiet
returns-then-is_quiet c = λ bs done bus s b. in_time bs c.args.self.now done c.args.moment bus s b (c.is_quiet.ensures c.if-is_quiet.true)
