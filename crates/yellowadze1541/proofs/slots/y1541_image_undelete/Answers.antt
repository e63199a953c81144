use Rattle.std.proofs.Common.{◌≡◌, rules, subst, ◌∙◌, to_z, of_z, w32}
use Rattle.std.specs.Prelude.{IfOk}
use Rattle.cbm_shell.specs.Undeleting.{IsUndeletedIn}
use Rattle.yellowadze1541.proofs.Slotting.{gives_shell, any_fault, same_some}
use Rattle.yellowadze1541.proofs.slots.y1541_image_undelete.Goals as goal

pub returns-clause-given : goal.returns-clause-given
returns-clause-given c = λ t is.
    let same : to_z w32 (of_z w32 c.handed.result) ≡ c.handed.result = search rules in
    let kinds : c.in-Some.kind ≡ t = same_some c.in-Some.kind t (c.in-Some.ensures ∙ is) in
    gives_shell (λ v. v.items) (λ v. IsUndeletedIn c.args.image.now v c.args.slot t) (λ _. Unit {0}) c.undeleted.result (to_z w32 (of_z w32 c.handed.result)) c.handed.result c.args.out.now
    c.handed.new.out c.args.needed.now c.handed.new.needed same
    (subst (λ k. IfOk c.undeleted.result (λ v. IsUndeletedIn c.args.image.now v.items c.args.slot k)) kinds c.undeleted.ensures) (any_fault c.undeleted.result) c.handed.ensures
