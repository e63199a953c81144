use Rattle.std.proofs.Common.{ap, sym, subst, ◌∙◌}
use Rattle.cbm_machine.specs.Machines.{start}
use Rattle.cbm_drive.specs.Desks.{DeskStands, at_first, with_pace}
use Rattle.cbm_bus.proofs.powered.drive_with.Goals as goal
use Rattle.cbm_bus.specs.Powered.{powered}

pub returns-clause-machine : goal.returns-clause-machine
returns-clause-machine g c = c.new.ensures.machine ∙ c.with_pace-desk.ensures.value ∙ ap (with_pace c.args.party.pace) c.at_power_up.ensures.value

pub returns-clause-powered : goal.returns-clause-powered
returns-clause-powered g c = λ d h.
    let seen = g.M.Medium.seen in
    let s = seen c.args.disk in
    let party = c.args.party in
    record {
      port = c.new.ensures.port;
      machine = subst (λ x. DeskStands seen x (powered party s d)) (sym c.new.ensures.machine) (c.with_pace-desk.ensures.stands (at_first party.device (start d s.protected s.tracks)) (c.at_power_up.ensures.stands d h));
    }
