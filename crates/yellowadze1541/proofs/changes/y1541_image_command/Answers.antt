use Rattle.std.proofs.Common.{◌≡◌, ◌⊎◌, ◌∙◌, false, refl, ap, rules, to_z, of_z, w32}
use Rattle.std.specs.Prelude.{not}
use Rattle.cbm_machine.specs.Machines.{start}
use Rattle.cbm_image.specs.Images.{kind_of, tracks_of, ImageHolds}
use Rattle.cbm_shell.specs.Changing.{IsFine}
use Rattle.cbm_device.specs.Answers.{answer}
use Rattle.cbm_device.specs.Looking.{IsAccepted, IsSound}
use Rattle.cbm_device.specs.Making.{after_command, IsUnmade, IsUnchanged}
use Rattle.cbm_device.proofs.Giving.{gives}
use Rattle.cbm_shell.specs.declared.changing.DiskChange.TheVariants.{Command}
use Rattle.yellowadze1541.specs.Slots.{IsSomeFault}
use Rattle.yellowadze1541.specs.Odd.{IsMadeAround, IsNotMadeAround}
use Rattle.yellowadze1541.proofs.AroundLemmas.{kept_made, any_made, stays_made}
use Rattle.yellowadze1541.proofs.CommandLemmas.{command_made}
use Rattle.yellowadze1541.proofs.changes.y1541_image_command.Goals as goal

-- what the drive says isn't asked for
pub returns-clause-made : goal.returns-clause-made
returns-clause-made c = λ d h.
    let n = to_z w32 (of_z w32 c.number.result) in
    let same : n ≡ answer c.given.result = search rules in
    let image = c.args.image.now in
    let after = after_command c.args.text.now (start d false (tracks_of (kind_of image) image)) in
    gives (λ v. v.items) (λ bytes. IsFine after.status × ImageHolds (kind_of image) bytes after.disk) (IsUnmade image after after) c.or_around-made.result c.given.result n
    c.args.out.now c.given.new.out c.args.needed.now c.given.new.needed
    (kept_made c.with_command-made.result c.or_around-made.result (λ v. IsFine after.status × ImageHolds (kind_of image) v.items after.disk) (IsUnmade image after after) c.or_around-made.ensures.same (λ never. never)
    (command_made (λ v. v.items) c.with_command-made.result image after c.unsaid-said.result c.with_command-made.new.status (c.with_command-made.ensures.made d h))) c.given.ensures same

pub returns-clause-sound : goal.returns-clause-sound
returns-clause-sound c =
    let n = to_z w32 (of_z w32 c.number.result) in
    let same : n ≡ answer c.given.result = search rules in
    let image = c.args.image.now in
    let after = after_command c.args.text.now in
    gives (λ v. v.items) (λ bytes. (IsAccepted image × IsSound image) ⊎ IsMadeAround image after bytes) (λ r. IsUnchanged image r ⊎ IsSomeFault (IsNotMadeAround image after) r) c.or_around-made.result c.given.result n
    c.args.out.now c.given.new.out c.args.needed.now c.given.new.needed
    (any_made (λ v. v.items) c.with_command-made.result c.or_around-made.result (not c.is_validate.result) image (Command c.args.text) after (IsAccepted image × IsSound image) (IsUnchanged image) (λ m. refl) c.or_around-made.ensures.same c.or_around-made.ensures.stays
    c.or_around-made.ensures.around c.with_command-made.ensures.sound) c.given.ensures same

pub returns-clause-validate : goal.returns-clause-validate
returns-clause-validate c = λ is.
    let n = to_z w32 (of_z w32 c.number.result) in
    let same : n ≡ answer c.given.result = search rules in
    let image = c.args.image.now in
    gives (λ v. v.items) (λ _. IsAccepted image × IsSound image) (IsUnchanged image) c.or_around-made.result c.given.result n c.args.out.now c.given.new.out c.args.needed.now c.given.new.needed
    (stays_made c.with_command-made.result c.or_around-made.result (λ _. IsAccepted image × IsSound image) (IsUnchanged image) (c.or_around-made.ensures.stays (ap not (c.is_validate.ensures ∙ is)))
    c.with_command-made.ensures.sound) c.given.ensures same
