use Rattle.std.proofs.Common.{◌≡◌, ◌⊎◌, false, refl, true, rules, to_z, of_z, w32}
use Rattle.cbm_machine.specs.Machines.{start}
use Rattle.cbm_image.specs.Images.{kind_of, tracks_of, ImageHolds}
use Rattle.cbm_shell.specs.Changing.{IsFine}
use Rattle.cbm_device.specs.Answers.{answer}
use Rattle.cbm_device.specs.Looking.{IsAccepted, IsSound}
use Rattle.cbm_device.specs.Making.{after_put, opened_for, IsUnmade, IsUnchanged}
use Rattle.cbm_device.proofs.Giving.{gives}
use Rattle.cbm_shell.specs.declared.changing.DiskChange.TheVariants.{File}
use Rattle.yellowadze1541.specs.Slots.{IsSomeFault}
use Rattle.yellowadze1541.specs.Odd.{IsMadeAround, IsNotMadeAround}
use Rattle.yellowadze1541.proofs.AroundLemmas.{kept_made, any_made}
use Rattle.yellowadze1541.proofs.PuttingLemmas.{one_put}
use Rattle.yellowadze1541.proofs.changes.y1541_image_put.Goals as goal

-- it is the one of a list of files
pub returns-clause-made : goal.returns-clause-made
returns-clause-made c = λ d h.
    let n = to_z w32 (of_z w32 c.number.result) in
    let same : n ≡ answer c.given.result = search rules in
    let image = c.args.image.now in
    let text = c.args.text in
    let bytes = c.args.bytes in
    let m = start d false (tracks_of (kind_of image) image) in
    let after = after_put text.now bytes.now m in
    gives (λ v. v.items) (λ b. IsFine after.status × ImageHolds (kind_of image) b after.disk) (IsUnmade image (opened_for text.now m) after) c.or_around-made.result c.given.result n
    c.args.out.now c.given.new.out c.args.needed.now c.given.new.needed
    (kept_made c.with_files-made.result c.or_around-made.result (λ v. IsFine after.status × ImageHolds (kind_of image) v.items after.disk) (IsUnmade image (opened_for text.now m) after) c.or_around-made.ensures.same (λ never. never)
    (one_put (λ v. v.items) c.with_files-made.result image (record { text = text; bytes = bytes }) m c.with_files-made.new.put (c.with_files-made.ensures.made d h))) c.given.ensures same

pub returns-clause-sound : goal.returns-clause-sound
returns-clause-sound c =
    let n = to_z w32 (of_z w32 c.number.result) in
    let same : n ≡ answer c.given.result = search rules in
    let image = c.args.image.now in
    let after = after_put c.args.text.now c.args.bytes.now in
    gives (λ v. v.items) (λ b. (IsAccepted image × IsSound image) ⊎ IsMadeAround image after b) (λ r. IsUnchanged image r ⊎ IsSomeFault (IsNotMadeAround image after) r) c.or_around-made.result c.given.result n
    c.args.out.now c.given.new.out c.args.needed.now c.given.new.needed
    (any_made (λ v. v.items) c.with_files-made.result c.or_around-made.result true image (File c.args.text c.args.bytes) after (IsAccepted image × IsSound image) (IsUnchanged image) (λ m. refl) c.or_around-made.ensures.same c.or_around-made.ensures.stays
    c.or_around-made.ensures.around c.with_files-made.ensures.sound) c.given.ensures same
