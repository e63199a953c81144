use Rattle.std.proofs.Common.{◌∙◌, ap, arith, codes, drop}
use Rattle.std.specs.Str.{bytes_eq}
use Rattle.cbm_shell.proofs.GeosLemmas.{take_twice}
use Rattle.cbm_shell.proofs.looking.geos.is_geos_map.Goals as goal

pub returns : goal.returns
returns c = c.is_geos_mark.ensures ∙ ap (λ x. bytes_eq x (codes "GEOS format")) (take_twice 11 83 (drop 173 c.args.map.now) (omega arith))
