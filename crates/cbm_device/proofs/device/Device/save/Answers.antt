use Rattle.std.proofs.Common.{refl}
use Rattle.cbm_device.specs.Making.{IsWantOfMemory}
use Rattle.cbm_device.specs.Snapshots.{IsSnapshot}
use Rattle.cbm_device.proofs.Giving.{gives}
use Rattle.cbm_device.proofs.Keeping.{either}
use Rattle.cbm_device.proofs.device.Device.save.Goals as goal

pub returns : goal.returns
returns c =
    gives (λ v. v.items) (IsSnapshot c.args.self.now) IsWantOfMemory c.snapshot.result c.given.result _ c.args.out.now c.given.new.out c.args.needed.now c.given.new.needed
    (either c.snapshot.result (λ v. IsSnapshot c.args.self.now v.items) IsWantOfMemory c.snapshot.ensures.ok c.snapshot.ensures.err) c.given.ensures refl
