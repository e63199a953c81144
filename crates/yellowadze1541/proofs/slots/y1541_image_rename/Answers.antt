use Rattle.std.proofs.Common.{◌≡◌, rules, to_z, of_z, w32}
use Rattle.cbm_slots.specs.InSlots.{IsRenamedInSlot, IsNotRenamedInSlot}
use Rattle.yellowadze1541.proofs.Slotting.{gives_shell}
use Rattle.yellowadze1541.proofs.slots.y1541_image_rename.Goals as goal

pub returns-clause-renamed : goal.returns-clause-renamed
returns-clause-renamed c = λ some short.
    let same : to_z w32 (of_z w32 c.handed.result) ≡ c.handed.result = search rules in
    gives_shell (λ v. v.items) (IsRenamedInSlot c.args.image.now c.args.slot c.args.name.now) (IsNotRenamedInSlot c.args.image.now c.args.slot c.args.name.now) c.rename.result (to_z w32 (of_z w32 c.handed.result)) c.handed.result c.args.out.now c.handed.new.out c.args.needed.now c.handed.new.needed
    same c.rename.ensures.renamed (c.rename.ensures.fault) c.handed.ensures
