use Rattle.std.proofs.Common.{◌≡◌, Option, None, ap, sym, ◌∙◌, subst}
use Rattle.cbm_drive.proofs.drive.Drive.due.Goals as goal
use Rattle.cbm_iec.specs.Machines.{acted}
use Rattle.cbm_iec.specs.Ports.{reaction_act}
use Rattle.cbm_iec.specs.declared.machine.Act.{Act}
use Rattle.cbm_drive.specs.Seats.{Seated}

-- where the reaction has no act the machine stays as it is
pub returns-in_default-clause-machine : goal.returns-in_default-clause-machine
returns-in_default-clause-machine g c = λ u m stood.
    let here = subst (λ (x : g.row.D.Denot). g.D.Machine.stands x m) (ap (λ (x : Seated _). x.machine) (sym c.self.view_is)) stood in
    let alike = c.said-said.ensures.says m stood in
    let none : reaction_act (g.D.Machine.says m) c.args.self.now.port ≡ None = sym alike.act ∙ ap (λ (x : Seated _). reaction_act c.said-said.result x.port) (sym c.self.view_is) ∙ sym c.due-reaction.ensures.act ∙ c.in_default.is in
    subst (λ (v : Option Act). g.D.Machine.stands c.self.inside.machine (acted g.D.Machine.State g.D.Machine.step v m)) (sym none) here
