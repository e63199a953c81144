use Rattle.std.proofs.Common.{rules, refl}
use Rattle.cbm_device.specs.Snapshots.{parts_of}
use Rattle.cbm_device.proofs.image_disk.saving.sectors_of.Goals as goal

pub returns-in-1-clause-ok : goal.returns-in-1-clause-ok
returns-in-1-clause-ok c = c.d64_of.ensures.ok (parts_of c.args.parts.now) (search rules) refl refl

pub returns-in-2-clause-ok : goal.returns-in-2-clause-ok
returns-in-2-clause-ok c = c.g64_of.ensures.ok (parts_of c.args.parts.now) (search rules) refl refl
