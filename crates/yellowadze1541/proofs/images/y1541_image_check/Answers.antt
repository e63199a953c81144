use Rattle.std.proofs.Common.{◌≡◌, inl, inr, rules, subst, sym, to_z, of_z, w32}
use Rattle.std.specs.Prelude.{IsOk}
use Rattle.cbm_volume.specs.check.WholeDisk.{DiskFault}
use Rattle.cbm_volume.specs.declared.Unsound.{Unsound}
use Rattle.cbm_image.specs.Images.{kind_of, tracks_of}
use Rattle.cbm_shell.specs.Images.{IsChecked}
use Rattle.cbm_device.specs.declared.refusal.DeviceRefusal.TheVariants as why
use Rattle.cbm_device.specs.Answers.{answer_number}
use Rattle.yellowadze1541.specs.Looks.{image_held, used_by}
use Rattle.yellowadze1541.proofs.images.y1541_image_check.Goals as goal

pub returns-in-Ok-Err : goal.returns-in-Ok-Err
returns-in-Ok-Err c =
    let image = c.args.image.now in
    let told = c.told.ensures in
    let same : to_z w32 (of_z w32 c.number.result) ≡ answer_number why.Unsound = search rules in
    let shown : Unsound = record { number = c.told.result.what; track = c.told.result.track; sector = c.told.result.sector } in
    let is : c.in-Ok-Err.unsound ≡ shown = λ i. record { number = sym told.what i; track = sym told.track i; sector = sym told.sector i } in
    let fault : DiskFault (used_by image) (image_held image) c.in-Ok-Err.unsound =
    subst (λ r. IsChecked (tracks_of (kind_of image) image) (image_held image) r) c.in-Ok-Err.field-0-is c.in-Ok-Err.ensures.ok in
    record {
      told = inr (inl (same, subst (λ u. DiskFault (used_by image) (image_held image) u) is fault));
      exact = λ l sound. absurd (let ok = subst (λ r. IsOk r) c.in-Ok-Err.field-0-is (c.in-Ok-Err.ensures.exact l sound) in cc);
    }
