use Rattle.std.proofs.Common.{◌<◌, sym, ap, subst}
use Rattle.std.specs.Prelude.{IfSome}
use Rattle.cbm_machine.specs.Machines.{start}
use Rattle.cbm_drive.specs.Desks.{Desk, DeskStands, at_first, desk_shows, shown_from}
use Rattle.cbm_drive.specs.KeptDesks.{KeptDesk}
use Rattle.cbm_drive.specs.Addressing.{Addressed, channel_said}
use Rattle.cbm_host.specs.Hosted.{party_of}
use Rattle.cbm_host.specs.Served.{at_power_up}
use Rattle.cbm_program.proofs.Staging.{starts_at, starts_fresh}
use Rattle.cbm_program.proofs.wires.staging.Stage.new.Goals as goal

pub returns-clause-at : goal.returns-clause-at
returns-clause-at g c = λ d h.
    let seen = g.M.Medium.seen in
    let m = start d (seen c.args.medium).protected (seen c.args.medium).tracks in
    starts_at seen (party_of c.args.pace c.args.device) m c.new-3.result c.new-2.result c.new.result c.new-3.ensures c.new-2.ensures.host c.new-2.ensures.drives c.new.ensures.port
    (subst (λ x. DeskStands seen x (at_power_up c.args.pace c.args.device m)) (sym c.new.ensures.machine) (c.with_pace-desk.ensures.stands (at_first c.args.device m) (c.at_power_up.ensures.stands d h)))

-- a drive that isn't addressed has nothing to say
pub returns-clause-fresh : goal.returns-clause-fresh
returns-clause-fresh g c =
    let first = c.at_power_up.result in
    let silent : IfSome (desk_shows first) (λ s. s.0 < 256) = subst (λ (a : Addressed). IfSome (shown_from (channel_said a.role a.channel) first.dos) (λ s. s.0 < 256)) (sym (ap (λ (d : KeptDesk _). d.addressed) c.at_power_up.ensures.value)) tt in
    let paced : IfSome (desk_shows c.with_pace-desk.result) (λ s. s.0 < 256) = subst (λ (x : Desk _). IfSome (desk_shows x) (λ s. s.0 < 256)) (sym c.with_pace-desk.ensures.value) silent in
    starts_fresh desk_shows c.args.pace c.args.device c.new-3.result c.new-2.result c.new.result c.new-3.ensures c.new-2.ensures.host c.new-2.ensures.drives c.new.ensures.port (subst (λ x. IfSome (desk_shows x) (λ s. s.0 < 256)) (sym c.new.ensures.machine) paced)
