use Rattle.std.proofs.Common.{Some, ap, refl, subst}
use Rattle.cbm_image.specs.Images.{kind_of}
use Rattle.cbm_direct_device.specs.DirectDevices.{DirectOnLines, IsExchangedDirect}
use Rattle.cbm_direct_device.proofs.device.DirectDevice.insert.Goals as goal

pub returns-clause-ok : goal.returns-clause-ok
returns-clause-ok c =
    let disk = c.in_ok-disk.disk in
    let now : DirectOnLines = record { seat = c.put_in.new.self; kind = Some c.kind_of.result; latest = c.self.inside.latest } in (
      disk,
      c.in_ok-disk.ensures.ok,
      subst (λ (o : DirectOnLines). IsExchangedDirect disk (Some (kind_of c.args.image.now)) o now) c.self.view_is
          (record { port = c.put_in.ensures.port; machine = c.put_in.ensures.machine; same_kind = ap Some c.kind_of.ensures; latest = refl }),
    )
