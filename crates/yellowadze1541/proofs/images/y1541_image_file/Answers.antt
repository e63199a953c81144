use Rattle.std.proofs.Common.{◌≡◌, rules, to_z, of_z, w32}
use Rattle.cbm_shell.specs.Reading.{Gets}
use Rattle.cbm_device.specs.Answers.{answer}
use Rattle.cbm_device.specs.Looking.{IsAccepted, IsLookRefused, IsUngot}
use Rattle.cbm_device.proofs.Giving.{gives}
use Rattle.yellowadze1541.proofs.images.y1541_image_file.Goals as goal

pub returns-clause-got : goal.returns-clause-got
returns-clause-got c = λ d h.
    let n = to_z w32 (of_z w32 c.number.result) in
    let same : n ≡ answer c.given.result = search rules in
    gives (λ v. v.items) (Gets d c.args.pattern.now) (IsUngot c.args.image.now d c.args.pattern.now) c.file.result c.given.result n c.args.out.now c.given.new.out c.args.needed.now
    c.given.new.needed (c.file.ensures.got d h) c.given.ensures same

pub returns-clause-refused : goal.returns-clause-refused
returns-clause-refused c =
    let n = to_z w32 (of_z w32 c.number.result) in
    let same : n ≡ answer c.given.result = search rules in
    gives (λ v. v.items) (λ _. IsAccepted c.args.image.now) (IsLookRefused c.args.image.now) c.file.result c.given.result n c.args.out.now c.given.new.out c.args.needed.now
    c.given.new.needed c.file.ensures.refused c.given.ensures same
