use Rattle.bus_judge.proofs.varied.VariedJudge.next.Goals as goal

-- the change was taken from those that wait
pub returns-in-Ok-clause-stands : goal.returns-in-Ok-clause-stands
returns-in-Ok-clause-stands c = λ bs rs trail v.
    (c.in-Ok.ensures.stands bs rs trail (record { stands = v.stands; in_range = v.in_range; ranges = v.ranges }), c.in-Ok.ensures.begins bs rs trail (record { stands = v.stands; in_range = v.in_range; ranges = v.ranges }))
