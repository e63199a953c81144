use Rattle.std.proofs.Common.{ap, ◌∙◌}
use Rattle.cbm_machine.specs.Machines.{start}
use Rattle.cbm_drive.specs.Afresh.{told_first}
use Rattle.cbm_drive.specs.Desks.{at_first}
use Rattle.cbm_drive.proofs.Afresh.{all_closed_is}
use Rattle.cbm_drive.proofs.desk.Desk.at_power_up.Goals as goal

pub returns-clause-value : goal.returns-clause-value
returns-clause-value g c =
    let on = c.new.ensures in
    c.new-2.ensures.value ∙ ap (at_first c.args.device) (all_closed_is c.new.result c.args.medium told_first on.medium on.channels on.told on.text)

-- the DOS stands for a machine at power up, and so does its desk
pub returns-clause-stands : goal.returns-clause-stands
returns-clause-stands g c = λ d h.
    let seen = g.M.Medium.seen in
    c.new-2.ensures.stands (start d (seen c.args.medium).protected (seen c.args.medium).tracks) (c.new.ensures.stands d h)
