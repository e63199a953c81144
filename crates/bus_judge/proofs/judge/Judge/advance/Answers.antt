use Rattle.bus_judge.proofs.Standing.{stands_more}
use Rattle.bus_judge.specs.Judging.{and_then}
use Rattle.bus_judge.specs.Views.{point_of}
use Rattle.bus_judge.proofs.judge.Judge.advance.Goals as goal

-- one step more was seen
pub returns-then-self-len-2-clause-stands : goal.returns-then-self-len-2-clause-stands
returns-then-self-len-2-clause-stands c = λ bs done mark s a.
    let j = c.args.self.now in
    stands_more bs (point_of j.point) j.whole j.steps.items (record { event = c.args.event; mark = mark }) j.seen done s a

-- and with it all of the piece
pub returns-clause-stands : goal.returns-clause-stands
returns-clause-stands c = λ bs done mark s a.
    let j = c.args.self.now in
    let more = stands_more bs (point_of j.point) j.whole j.steps.items (record { event = c.args.event; mark = mark }) j.seen done s a in
    c.come.ensures.stands bs (and_then done c.args.event mark) more
