use Rattle.std.proofs.Common.{◌≡◌, [], ◌∷◌, rules, subst, to_z, of_z, w32}
use Rattle.std.specs.Prelude.{MatchResult}
use Rattle.cbm_shell.specs.Making.{IsNew}
use Rattle.cbm_device.specs.Answers.{answer}
use Rattle.cbm_device.specs.Making.{IsWantOfMemory}
use Rattle.cbm_device.proofs.Giving.{gives}
use Rattle.yellowadze1541.specs.Changes.{form_of}
use Rattle.yellowadze1541.proofs.changes.y1541_image_new.Goals as goal

pub returns-clause-made : goal.returns-clause-made
returns-clause-made c = λ small short.
    let n = to_z w32 (of_z w32 c.number-2.result) in
    let same : n ≡ answer c.given.result = search rules in
    let id = c.args.id0 ∷ c.args.id1 ∷ [] in
    gives (λ v. v.items) (IsNew (form_of c.args.form) c.args.title.now id) IsWantOfMemory c.made.result c.given.result n c.args.out.now c.given.new.out c.args.needed.now c.given.new.needed
    (subst (λ form. MatchResult c.made.result (λ v. IsNew form c.args.title.now id v.items) IsWantOfMemory) c.form_with.ensures c.made.ensures) c.given.ensures same
