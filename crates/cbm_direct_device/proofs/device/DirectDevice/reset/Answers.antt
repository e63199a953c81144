use Rattle.std.proofs.Common.{refl, subst}
use Rattle.cbm_direct_device.specs.DirectDevices.{DirectOnLines, IsRestartedDirect}
use Rattle.cbm_direct_device.proofs.device.DirectDevice.reset.Goals as goal

pub returns : goal.returns
returns c =
    let now : DirectOnLines = record { seat = c.switch_on_again.new.self; kind = c.self.inside.kind; latest = c.self.inside.latest } in
    subst (λ (o : DirectOnLines). IsRestartedDirect o now) c.self.view_is
    (record { port = c.switch_on_again.ensures.port; machine = c.switch_on_again.ensures.machine; kind = refl; latest = refl })
