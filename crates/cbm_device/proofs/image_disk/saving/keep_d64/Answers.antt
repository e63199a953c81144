use Rattle.std.proofs.Common.{refl, ◌∙◌}
use Rattle.cbm_image.specs.declared.any_disk.AnyDisk.TheVariants.{D64}
use Rattle.cbm_device.specs.declared.image_disk.Sectors.TheVariants.{Held}
use Rattle.cbm_device.specs.Snapshots.{DiskParts}
use Rattle.cbm_device.proofs.Keeping.{kept_so}
use Rattle.cbm_device.proofs.image_disk.saving.keep_d64.Goals as goal

pub returns : goal.returns
returns c =
    let p : DiskParts = record { format = 1; protected = c.protected.result; writes = c.args.writes; image = c.as_slice.result.now } in
    kept_so c.save_parts.result (Held (D64 c.args.disk.now)) c.args.writes p c.args.out.now.items c.save_parts.new.out.items (refl, c.protected.ensures, c.as_slice.ensures.value ∙ c.in-Ok.ensures.ok) refl c.save_parts.ensures
