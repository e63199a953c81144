use Rattle.std.proofs.Common.{◌≡◌, Some, rules, subst, sym, to_z, of_z, w32}
use Rattle.yellowadze1541.specs.AnyDevices.{OfEither}
use Rattle.yellowadze1541.specs.Snapshots.{GivesState, GivesNoState}
use Rattle.yellowadze1541.proofs.Saving.{saved_by}
use Rattle.yellowadze1541.proofs.snapshots.y1541_save.Goals as goal

pub returns-clause-saves : goal.returns-clause-saves
returns-clause-saves c =
    let n = to_z w32 (of_z w32 c.save-done.result) in
    let same : n ≡ c.save-done.result = search rules in
    let inner = c.in-Some.inner.value in
    let old : c.args.d.now.value ≡ Some inner = search rules in
    let out = c.args.out.now in
    let made = c.save-done.new.out in
    let before = c.args.needed.now in
    let needed = c.save-done.new.needed in
    let given : OfEither (GivesState n out made before needed) (GivesNoState n out made before needed) inner.device
    = subst (λ k. OfEither (GivesState k out made before needed) (GivesNoState k out made before needed) inner.device) (sym same)
    (subst (λ i. OfEither (GivesState c.save-done.result out made before needed) (GivesNoState c.save-done.result out made before needed) i.device) c.deref.ensures c.save-done.ensures) in
    saved_by n out made before needed c.args.d.now.value c.of.result.value inner old c.of.ensures given
