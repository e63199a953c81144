use Rattle.std.proofs.Common.{None, refl, subst}
use Rattle.cbm_device.specs.Devices.{OnLines, IsExchanged}
use Rattle.cbm_device.specs.ImageDisks.{Counted, no_disk}
use Rattle.cbm_device.proofs.device.Device.eject.Goals as goal

pub returns-clause-ok : goal.returns-clause-ok
returns-clause-ok c =
    let now : OnLines = record { seat = c.insert.new.self; kind = None; latest = c.self.inside.latest } in
    subst (λ (o : OnLines). IsExchanged no_disk None o now) c.self.view_is
    (subst (λ (k : Counted). IsExchanged k None (record { seat = c.self.inside.drive; kind = c.self.inside.kind; latest = c.self.inside.latest }) now) c.blank.ensures
    (record { port = c.insert.ensures.port; machine = c.insert.ensures.machine; same_kind = refl; latest = refl; stands = c.insert.ensures.stands }))
