use Rattle.std.proofs.Common.{refl, true, []}
use Rattle.cbm_device.specs.declared.image_disk.Sectors.TheVariants.{Blank}
use Rattle.cbm_device.specs.Snapshots.{DiskParts}
use Rattle.cbm_device.proofs.Keeping.{kept_so}
use Rattle.cbm_device.proofs.image_disk.saving.keep_blank.Goals as goal

pub returns : goal.returns
returns c =
    let p : DiskParts = record { format = 0; protected = true; writes = c.args.writes; image = [] } in
    kept_so c.save_parts.result Blank c.args.writes p c.args.out.now.items c.save_parts.new.out.items refl refl c.save_parts.ensures
