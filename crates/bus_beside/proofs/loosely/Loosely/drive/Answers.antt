use Rattle.std.proofs.Common.{[], ◌∷◌, ◌++◌, sym, subst}
use Rattle.bus_beside.specs.Keeping.{Looked, KeepsSoFar}
use Rattle.bus_beside.proofs.loosely.Loosely.drive.Goals as goal

pub returns : goal.returns
returns g c = λ least bs ms es h.
    let k = subst (λ (l : Looked _). KeepsSoFar _ g.D.Machine.State g.D.Machine.stands g.D.Machine.step g.D.Machine.says g.D.Machine.failures least bs ms l es) (sym c.self.view_is) h in
    record { tidied = k.tidied ++ c.args.event ∷ []; judged = c.in_ok-see.ensures bs k.tidied k.judged; seen = c.in_ok-drive.ensures least bs ms es k.tidied k.seen }
