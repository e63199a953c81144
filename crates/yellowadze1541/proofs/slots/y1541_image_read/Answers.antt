use Rattle.std.proofs.Common.{◌≡◌, rules, to_z, of_z, w32}
use Rattle.cbm_device.specs.Answers.{answer}
use Rattle.cbm_device.specs.ImageDisks.{IsOpenRefusal}
use Rattle.cbm_device.proofs.Giving.{gives}
use Rattle.yellowadze1541.specs.Slots.{IsReadIn, IsUnreadIn}
use Rattle.yellowadze1541.proofs.slots.y1541_image_read.Goals as goal

pub returns-clause-held : goal.returns-clause-held
returns-clause-held c =
    let n = to_z w32 (of_z w32 c.number.result) in
    let same : n ≡ answer c.given.result = search rules in
    gives (λ v. v.items) (IsReadIn c.args.image.now c.args.slot) (IsUnreadIn c.args.image.now c.args.slot) c.read.result c.given.result n c.args.out.now c.given.new.out c.args.needed.now c.given.new.needed
    c.read.ensures.held c.given.ensures same

pub returns-clause-means : goal.returns-clause-means
returns-clause-means c = λ d e bytes h stands has.
    let n = to_z w32 (of_z w32 c.number.result) in
    let same : n ≡ answer c.given.result = search rules in
    gives (λ v. v.items) (λ got. got ≡ bytes) (IsOpenRefusal c.args.image.now) c.read.result c.given.result n c.args.out.now c.given.new.out c.args.needed.now c.given.new.needed
    (c.read.ensures.means d e bytes h stands has) c.given.ensures same
