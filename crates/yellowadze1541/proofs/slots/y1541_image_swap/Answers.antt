use Rattle.std.proofs.Common.{◌≡◌, rules, to_z, of_z, w32}
use Rattle.std.specs.Prelude.{◌∷◌, []}
use Rattle.cbm_shell.specs.Swapping.{AreSwappedIn, MissesSlotIn}
use Rattle.cbm_shell.specs.Editing.{IsUneditedIn}
use Rattle.yellowadze1541.proofs.Slotting.{gives_shell}
use Rattle.yellowadze1541.proofs.slots.y1541_image_swap.Goals as goal

pub returns : goal.returns
returns c =
    let same : to_z w32 (of_z w32 c.handed.result) ≡ c.handed.result = search rules in
    gives_shell (λ v. v.items) (AreSwappedIn c.args.image.now (record { first = c.args.first; second = c.args.second } ∷ [])) (IsUneditedIn c.args.image.now (MissesSlotIn c.args.image.now (record { first = c.args.first; second = c.args.second } ∷ []))) c.swap_entries.result (to_z w32 (of_z w32 c.handed.result)) c.handed.result c.args.out.now c.handed.new.out c.args.needed.now c.handed.new.needed
    same c.swap_entries.ensures.swapped (c.swap_entries.ensures.fault) c.handed.ensures
