use Rattle.std.proofs.Common.{◌≡◌, rules, to_z, of_z, w32}
use Rattle.cbm_slots.specs.InSlots.{IsCopiedInSlot, IsNotCopiedInSlot}
use Rattle.yellowadze1541.proofs.Slotting.{gives_shell}
use Rattle.yellowadze1541.proofs.slots.y1541_image_copy.Goals as goal

pub returns-clause-copied : goal.returns-clause-copied
returns-clause-copied c = λ some short.
    let same : to_z w32 (of_z w32 c.handed.result) ≡ c.handed.result = search rules in
    gives_shell (λ v. v.items) (IsCopiedInSlot c.args.image.now c.args.slot c.args.name.now) (IsNotCopiedInSlot c.args.image.now c.args.slot c.args.name.now) c.copy.result (to_z w32 (of_z w32 c.handed.result)) c.handed.result c.args.out.now c.handed.new.out c.args.needed.now c.handed.new.needed
    same c.copy.ensures.copied (c.copy.ensures.fault) c.handed.ensures
