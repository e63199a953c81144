use Rattle.std.proofs.Common.{◌≡◌, false, rules, length, to_z, of_z, w32}
use Rattle.cbm_machine.specs.Machines.{start}
use Rattle.cbm_image.specs.Images.{kind_of, tracks_of, ImageHolds}
use Rattle.cbm_device.specs.Answers.{answer}
use Rattle.cbm_device.specs.Looking.{IsAccepted, IsSound}
use Rattle.cbm_device.specs.Making.{IsUnchanged}
use Rattle.cbm_device.proofs.Giving.{gives}
use Rattle.yellowadze1541.specs.Putting.{after_files, ArePut, IsUnput}
use Rattle.yellowadze1541.proofs.putting.y1541_image_put_all.Goals as goal

pub returns-clause-made : goal.returns-clause-made
returns-clause-made c = λ d h.
    let n = to_z w32 (of_z w32 c.number.result) in
    let same : n ≡ answer c.given.result = search rules in
    let image = c.args.image.now in
    let files = c.args.files.now in
    let put = c.with_files.new.put in
    let m = start d false (tracks_of (kind_of image) image) in
    gives (λ v. v.items) (λ bytes. ArePut files m × (put ≡ length files) × ImageHolds (kind_of image) bytes (after_files files m).disk) (IsUnput image files m put) c.with_files.result c.given.result n
    c.args.out.now c.given.new.out c.args.needed.now c.given.new.needed (c.with_files.ensures.made d h) c.given.ensures same

pub returns-clause-sound : goal.returns-clause-sound
returns-clause-sound c =
    let n = to_z w32 (of_z w32 c.number.result) in
    let same : n ≡ answer c.given.result = search rules in
    let image = c.args.image.now in
    gives (λ v. v.items) (λ _. IsAccepted image × IsSound image) (IsUnchanged image) c.with_files.result c.given.result n c.args.out.now c.given.new.out c.args.needed.now c.given.new.needed
    c.with_files.ensures.sound c.given.ensures same
