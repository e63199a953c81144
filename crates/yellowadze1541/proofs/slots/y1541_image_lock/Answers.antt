use Rattle.std.proofs.Common.{◌≡◌, rules, to_z, of_z, w32}
use Rattle.std.specs.Prelude.{not, ◌==◌}
use Rattle.cbm_slots.specs.InSlots.{IsLockedInSlot, IsNotLockedInSlot}
use Rattle.yellowadze1541.proofs.Slotting.{gives_shell}
use Rattle.yellowadze1541.proofs.slots.y1541_image_lock.Goals as goal

pub returns : goal.returns
returns c =
    let same : to_z w32 (of_z w32 c.handed.result) ≡ c.handed.result = search rules in
    gives_shell (λ v. v.items) (IsLockedInSlot c.args.image.now c.args.slot (not (c.args.locked == 0))) (IsNotLockedInSlot c.args.image.now c.args.slot) c.lock.result (to_z w32 (of_z w32 c.handed.result)) c.handed.result c.args.out.now c.handed.new.out c.args.needed.now c.handed.new.needed
    same c.lock.ensures.locked (c.lock.ensures.fault) c.handed.ensures
