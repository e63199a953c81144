use Rattle.std.proofs.Common.{◌≡◌, ◌∙◌, ap, sym, subst, arith, codes, drop, Ok}
use Rattle.std.specs.Str.{bytes_eq}
use Rattle.cbm_medium.specs.Place.{directory_head}
use Rattle.cbm_direct.specs.Spared.{shows_geos}
use Rattle.cbm_direct.proofs.Sparing.{take_twice}
use Rattle.cbm_direct.proofs.spared.is_geos_disk.Goals as goal

pub returns-in-Ok : goal.returns-in-Ok
returns-in-Ok g c =
    let content = (g.M.Medium.seen c.args.medium.now).content in
    let reads : content directory_head ≡ Ok c.in-Ok.map = subst (λ p. content p ≡ Ok c.in-Ok.map) c.of_map.ensures.value c.in-Ok.ensures.ok in
    c.begins_as_geos.ensures ∙ ap (λ x. bytes_eq x (codes "GEOS format")) (take_twice 11 83 (drop 173 c.in-Ok.map) (omega arith)) ∙ ap shows_geos (sym reads)
