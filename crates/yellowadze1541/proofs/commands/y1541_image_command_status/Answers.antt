use Rattle.std.proofs.Common.{◌≡◌, false, rules, to_z, of_z, w32}
use Rattle.cbm_machine.specs.Machines.{start}
use Rattle.cbm_image.specs.Images.{kind_of, tracks_of, ImageHolds}
use Rattle.cbm_shell.specs.Changing.{IsFine}
use Rattle.cbm_device.specs.Answers.{answer}
use Rattle.cbm_device.specs.Looking.{IsAccepted, IsSound}
use Rattle.cbm_device.specs.Making.{after_command, IsUnchanged}
use Rattle.cbm_device.proofs.Giving.{gives}
use Rattle.yellowadze1541.specs.Commands.{IsSaidOf, IsUncommanded}
use Rattle.yellowadze1541.proofs.commands.y1541_image_command_status.Goals as goal

pub returns-clause-made : goal.returns-clause-made
returns-clause-made c = λ d h.
    let n = to_z w32 (of_z w32 c.number.result) in
    let same : n ≡ answer c.given.result = search rules in
    let image = c.args.image.now in
    let new = c.with_command.new.status in
    let after = after_command c.args.text.now (start d false (tracks_of (kind_of image) image)) in
    gives (λ v. v.items) (λ bytes. IsFine after.status × IsSaidOf after.status new × ImageHolds (kind_of image) bytes after.disk) (IsUncommanded image after c.args.status.now new) c.with_command.result c.given.result n
    c.args.out.now c.given.new.out c.args.needed.now c.given.new.needed (c.with_command.ensures.made d h) c.given.ensures same

pub returns-clause-sound : goal.returns-clause-sound
returns-clause-sound c =
    let n = to_z w32 (of_z w32 c.number.result) in
    let same : n ≡ answer c.given.result = search rules in
    let image = c.args.image.now in
    gives (λ v. v.items) (λ _. IsAccepted image × IsSound image) (IsUnchanged image) c.with_command.result c.given.result n c.args.out.now c.given.new.out c.args.needed.now c.given.new.needed
    c.with_command.ensures.sound c.given.ensures same
