use Rattle.std.proofs.Common.{refl, ◌∙◌, ap}
use Rattle.cbm_g64.specs.File.{g64_fault, g64_circles}
use Rattle.cbm_g64.specs.Rest.{g64_rest}
use Rattle.cbm_image.specs.declared.any_disk.AnyDisk.TheVariants.{G64}
use Rattle.cbm_device.specs.declared.image_disk.Sectors.TheVariants.{Held}
use Rattle.cbm_device.specs.Snapshots.{DiskParts}
use Rattle.cbm_device.proofs.Keeping.{kept_so}
use Rattle.cbm_device.proofs.image_disk.saving.keep_g64.Goals as goal

pub returns : goal.returns
returns c =
    let p : DiskParts = record { format = 2; protected = c.protected.result; writes = c.args.writes; image = c.as_slice.result.now } in
    kept_so c.save_parts.result (Held (G64 c.args.disk.now)) c.args.writes p c.args.out.now.items c.save_parts.new.out.items (
      refl,
      c.protected.ensures,
      ap g64_fault c.as_slice.ensures.value ∙ c.in-Ok.ensures.again.0,
      ap (λ f. g64_circles f 35) c.as_slice.ensures.value ∙ c.in-Ok.ensures.again.1,
      ap g64_rest c.as_slice.ensures.value ∙ c.in-Ok.ensures.rest,
    ) refl c.save_parts.ensures
