use Rattle.std.proofs.Common.{◌≡◌, sym, ap, subst, arith, length, List, Bool, Ok, replicate}
use Rattle.std.proofs.lemmas.List.{take_at}
use Rattle.cbm_medium.specs.Content.{Content}
use Rattle.cbm_medium.specs.Place.{directory_head}
use Rattle.cbm_g64.specs.Head.{IsHead}
use Rattle.cbm_g64.specs.NewFile.{new_file}
use Rattle.cbm_g64.specs.Image.{IsHeld}
use Rattle.cbm_g64.proofs.Held.{held_fresh}
use Rattle.cbm_g64.proofs.disk.G64DiskMedium.format.Goals as goal

pub invariant_of-self : goal.invariant_of-self
invariant_of-self c =
    let l : length c.format_on.new.tracks ≡ 35 = omega (arith, ap length c.as_mut_slice.ensures.value, c.self.invariant.0.count) in
    subst (λ (t : List (List Bool)). (IsHeld new_file t) × (IsHead t (Ok (replicate 256 0)))) (sym (take_at c.format_on.new.tracks _ c.self.inside.tracks.len (omega (arith, ap length c.as_mut_slice.ensures.value))))
    (held_fresh c.args.id c.format_on.new.tracks l c.format_on.ensures.fresh, (ap (λ (f : Content). f directory_head) c.format_on.ensures.blank, tt))
