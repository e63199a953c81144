use Rattle.std.proofs.Common.{◌≡◌, rules, subst, sym, to_z, of_z, w32}
use Rattle.cbm_device.specs.Answers.{answer, GivesBytes}
use Rattle.cbm_device.specs.Making.{IsWantOfMemory}
use Rattle.cbm_device.specs.Snapshots.{IsSnapshot}
use Rattle.yellowadze1541.specs.AnyDevices.{OfEither}
use Rattle.yellowadze1541.specs.Snapshots.{GivesState, GivesNoState}
use Rattle.yellowadze1541.proofs.any_device.AnyDevice.save.Goals as goal

pub returns-in-Plain : goal.returns-in-Plain
returns-in-Plain c =
    let n = to_z w32 (of_z w32 c.number.result) in
    let same : n ≡ answer c.save.result = search rules in
    let out = c.args.out.now in
    let made = c.save.new.out in
    let before = c.args.needed.now in
    let needed = c.save.new.needed in
    let given : GivesState n out made before needed c.in-Plain.device.value
    = subst (λ k. GivesBytes k out made before needed (IsSnapshot c.in-Plain.device.value) IsWantOfMemory) (sym same)
    (subst (λ d. GivesBytes (answer c.save.result) out made before needed (IsSnapshot d) IsWantOfMemory) c.deref.ensures c.save.ensures) in
    subst (λ d. OfEither (GivesState n out made before needed) (GivesNoState n out made before needed) d) (sym c.in-Plain.is) given
