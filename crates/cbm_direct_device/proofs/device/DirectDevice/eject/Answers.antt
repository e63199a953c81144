use Rattle.std.proofs.Common.{None, refl, subst}
use Rattle.cbm_device.specs.ImageDisks.{Counted, no_disk}
use Rattle.cbm_direct_device.specs.DirectDevices.{DirectOnLines, IsExchangedDirect}
use Rattle.cbm_direct_device.proofs.device.DirectDevice.eject.Goals as goal

pub returns-clause-ok : goal.returns-clause-ok
returns-clause-ok c =
    let now : DirectOnLines = record { seat = c.put_in.new.self; kind = None; latest = c.self.inside.latest } in
    subst (λ (o : DirectOnLines). IsExchangedDirect no_disk None o now) c.self.view_is
    (subst (λ (k : Counted). IsExchangedDirect k None (record { seat = c.self.inside.drive; kind = c.self.inside.kind; latest = c.self.inside.latest }) now) c.blank.ensures
    (record { port = c.put_in.ensures.port; machine = c.put_in.ensures.machine; same_kind = refl; latest = refl }))
