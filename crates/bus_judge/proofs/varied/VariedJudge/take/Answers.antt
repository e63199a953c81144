use Rattle.std.proofs.Common.{refl}
use Rattle.bus_judge.proofs.Ranging.{stands_after, begins_after}
use Rattle.bus_judge.specs.declared.varied.Taken.{Taken}
use Rattle.bus_judge.proofs.varied.VariedJudge.take.Goals as goal

-- the session of the quickest drives goes on, and the change is in its range
pub returns-clause-stands : goal.returns-clause-stands
returns-clause-stands c = λ bs rs trail v.
    let t : Taken = record { event = c.args.event; mark = c.in-Ok.mark; due = c.args.due } in
    let done = c.in-Ok.ensures.stands bs _ v.stands in
    let both = stands_after bs rs c.args.self.now.ranges.items c.see.new.self trail t c.moved.result c.args.self.now.lag c.base-lag.result c.moved.ensures v.ranges done v.in_range (c.if-not-is_in_range.ensures refl) in
    record { stands = both.0; in_range = both.1; ranges = v.ranges }

pub returns-clause-begins : goal.returns-clause-begins
returns-clause-begins c = λ bs rs trail v.
    let t : Taken = record { event = c.args.event; mark = c.in-Ok.mark; due = c.args.due } in
    let done = c.in-Ok.ensures.stands bs _ v.stands in
    let both = stands_after bs rs c.args.self.now.ranges.items c.see.new.self trail t c.moved.result c.args.self.now.lag c.base-lag.result c.moved.ensures v.ranges done v.in_range (c.if-not-is_in_range.ensures refl) in
    record { begins = begins_after bs trail t c.moved.result c.moved.ensures (c.in-Ok.ensures.begins bs _ v.stands); end = c.base-lag.result; in_range = both.1 }
