use Rattle.std.proofs.Common.{◌≡◌, rules, subst, to_z, of_z, w32}
use Rattle.std.specs.Prelude.{IfOk}
use Rattle.cbm_shell.specs.Locking.{IsRemarked}
use Rattle.yellowadze1541.proofs.Slotting.{gives_shell, any_fault}
use Rattle.yellowadze1541.proofs.slots.y1541_image_remark.Goals as goal

pub returns-clause-marked : goal.returns-clause-marked
returns-clause-marked c = λ five.
    let same : to_z w32 (of_z w32 c.handed.result) ≡ c.handed.result = search rules in
    gives_shell (λ v. v.items) (IsRemarked c.args.image.now c.args.mark.now) (λ _. Unit {0}) c.remark.result (to_z w32 (of_z w32 c.handed.result)) c.handed.result c.args.out.now
    c.handed.new.out c.args.needed.now c.handed.new.needed same
    (subst (λ mark. IfOk c.remark.result (λ v. IsRemarked c.args.image.now mark v.items)) c.five.ensures c.remark.ensures.mark) (any_fault c.remark.result) c.handed.ensures
