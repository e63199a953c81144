use Rattle.std.proofs.Common.{◌≡◌, rules, to_z, of_z, w32}
use Rattle.cbm_shell.specs.Locking.{IsRetitled}
use Rattle.cbm_shell.specs.Editing.{IsUneditedIn}
use Rattle.yellowadze1541.proofs.Slotting.{gives_shell}
use Rattle.yellowadze1541.proofs.slots.y1541_image_retitle.Goals as goal

pub returns-clause-titled : goal.returns-clause-titled
returns-clause-titled c = λ short.
    let same : to_z w32 (of_z w32 c.handed.result) ≡ c.handed.result = search rules in
    gives_shell (λ v. v.items) (IsRetitled c.args.image.now c.args.title.now) (IsUneditedIn c.args.image.now ⊥) c.retitle.result (to_z w32 (of_z w32 c.handed.result)) c.handed.result c.args.out.now c.handed.new.out c.args.needed.now c.handed.new.needed
    same c.retitle.ensures.title (c.retitle.ensures.fault) c.handed.ensures
