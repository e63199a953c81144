use Rattle.std.proofs.Common.{◌≡◌, rules, to_z, of_z, w32}
use Rattle.cbm_slots.specs.InSlots.{IsDeletedInSlot, IsNotDeletedInSlot}
use Rattle.yellowadze1541.proofs.Slotting.{gives_shell}
use Rattle.yellowadze1541.proofs.slots.y1541_image_delete.Goals as goal

pub returns : goal.returns
returns c =
    let same : to_z w32 (of_z w32 c.handed.result) ≡ c.handed.result = search rules in
    gives_shell (λ v. v.items) (IsDeletedInSlot c.args.image.now c.args.slot) (IsNotDeletedInSlot c.args.image.now c.args.slot) c.delete.result (to_z w32 (of_z w32 c.handed.result)) c.handed.result c.args.out.now c.handed.new.out c.args.needed.now c.handed.new.needed
    same c.delete.ensures.deleted (c.delete.ensures.fault) c.handed.ensures
