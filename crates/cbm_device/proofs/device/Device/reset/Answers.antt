use Rattle.std.proofs.Common.{refl, subst}
use Rattle.cbm_device.specs.Devices.{OnLines, IsRestarted}
use Rattle.cbm_device.proofs.device.Device.reset.Goals as goal

pub returns : goal.returns
returns c =
    let now : OnLines = record { seat = c.restart.new.self; kind = c.self.inside.kind; latest = c.self.inside.latest } in
    subst (λ (o : OnLines). IsRestarted o now) c.self.view_is
    (record { port = c.restart.ensures.port; machine = c.restart.ensures.machine; kind = refl; latest = refl; stands = λ d h. c.restart.ensures.stands d h })
