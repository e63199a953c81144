use Rattle.std.proofs.Common.{Some, ap, refl, subst}
use Rattle.cbm_image.specs.Images.{kind_of}
use Rattle.cbm_device.specs.Devices.{OnLines, IsExchanged}
use Rattle.cbm_device.proofs.device.Device.insert.Goals as goal

pub returns-clause-ok : goal.returns-clause-ok
returns-clause-ok c =
    let disk = c.in_ok-disk.disk in
    let now : OnLines = record { seat = c.insert.new.self; kind = Some c.kind_of.result; latest = c.self.inside.latest } in (
      disk,
      c.in_ok-disk.ensures.ok,
      subst (λ (o : OnLines). IsExchanged disk (Some (kind_of c.args.image.now)) o now) c.self.view_is
          (record { port = c.insert.ensures.port; machine = c.insert.ensures.machine; same_kind = ap Some c.kind_of.ensures; latest = refl; stands = c.insert.ensures.stands }),
    )
