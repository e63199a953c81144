use Rattle.std.proofs.Common.{ap, subst, sym, ◌∙◌}
use Rattle.cbm_machine.specs.Machines.{start}
use Rattle.cbm_drive.specs.Desks.{DeskStands, at_first, with_pace}
use Rattle.cbm_device.specs.ImageDisks.{counted_seen}
use Rattle.cbm_device.proofs.device.powered.Goals as goal

pub returns-clause-machine : goal.returns-clause-machine
returns-clause-machine c = c.new.ensures.machine ∙ c.with_pace-desk.ensures.value ∙ ap (with_pace c.args.party.pace) c.at_power_up.ensures.value

pub returns-clause-stands : goal.returns-clause-stands
returns-clause-stands c = λ d h.
    let b = c.args.party in
    let now = counted_seen c.args.disk in
    let first = at_first b.device (start d now.protected now.tracks) in
    subst (λ x. DeskStands counted_seen x (with_pace b.pace first)) (sym c.new.ensures.machine) (c.with_pace-desk.ensures.stands first (c.at_power_up.ensures.stands d h))
