use Rattle.std.proofs.Common.{sym, subst}
use Rattle.bus_beside.specs.Keeping.{Looked, KeepsSoFar}
use Rattle.bus_beside.proofs.loosely.Loosely.end.Goals as goal

pub returns-clause-loosely : goal.returns-clause-loosely
returns-clause-loosely g c = λ least bs ms es bus h.
    let k = subst (λ (l : Looked _). KeepsSoFar _ g.D.Machine.State g.D.Machine.stands g.D.Machine.step g.D.Machine.says g.D.Machine.failures least bs ms l es) (sym c.self.view_is) h in
    λ u. (k.tidied, (c.in_ok-end-2.ensures least bs ms es k.tidied k.seen u, c.in_ok-end.ensures bs k.tidied bus k.judged))

pub returns-clause-kept : goal.returns-clause-kept
returns-clause-kept g c = λ least bs ms es bus h.
    let k = subst (λ (l : Looked _). KeepsSoFar _ g.D.Machine.State g.D.Machine.stands g.D.Machine.step g.D.Machine.says g.D.Machine.failures least bs ms l es) (sym c.self.view_is) h in
    λ u n ss plays late later. c.keeps_loosely.ensures.keeps bs ms n c.args.moment es ss bus (record { more = g.met.D.Machine.more }) plays late later
    (k.tidied, (c.in_ok-end-2.ensures least bs ms es k.tidied k.seen u, c.in_ok-end.ensures bs k.tidied bus k.judged))
