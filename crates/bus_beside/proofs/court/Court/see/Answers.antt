use Rattle.bus_beside.proofs.Judged.{judged_more}
use Rattle.bus_beside.proofs.court.Court.see.Goals as goal

pub returns : goal.returns
returns c = λ bs es h. judged_more bs c.args.self.now c.see.new.self c.args.event es c.in_ok-see.field-0 (λ done st. c.in_ok-see.ensures.stands bs done st) c.in_ok-see.ensures.busy h
