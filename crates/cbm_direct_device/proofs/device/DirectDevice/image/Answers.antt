use Rattle.std.proofs.Common.{ap, inr, refl, sym, ◌∙◌}
use Rattle.cbm_device.specs.Devices.{IsUnsaved}
use Rattle.cbm_device.specs.declared.refusal.DeviceRefusal.TheVariants.{Absent}
use Rattle.cbm_device.proofs.Giving.{gives}
use Rattle.cbm_direct_device.specs.DirectDevices.{DirectOnLines, IsImageFromDirect}
use Rattle.cbm_direct_device.proofs.Saved.{saved_from}
use Rattle.cbm_direct_device.proofs.device.DirectDevice.image.Goals as goal

pub returns-in-Some : goal.returns-in-Some
returns-in-Some c =
    let d = c.args.self.now in
    let kind = ap (λ (o : DirectOnLines). o.kind) (sym c.self.view_is) ∙ c.in-Some.is in
    gives (λ v. v.items) (IsImageFromDirect d) (IsUnsaved d.kind) c.save.result c.given.result _ c.args.out.now c.given.new.out c.args.needed.now c.given.new.needed
    (saved_from (λ v. v.items) c.save.result d c.in-Some.kind c.disk.result.now kind c.disk.ensures.disk c.disk.ensures.sound c.save.ensures.ok c.save.ensures.err) c.given.ensures refl

-- there is no disk
pub returns-in-None : goal.returns-in-None
returns-in-None c = inr (Absent, ap (λ (o : DirectOnLines). o.kind) (sym c.self.view_is) ∙ c.in-None.is, refl, refl, refl)
