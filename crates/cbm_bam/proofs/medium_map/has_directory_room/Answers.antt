use Rattle.std.proofs.Common.{sym, ap, ◌∙◌, find, is_some}
use Rattle.cbm_medium.specs.Content.{Cell}
use Rattle.cbm_medium.specs.Links.{or_nothing}
use Rattle.cbm_bam.specs.Map.{is_free_in}
use Rattle.cbm_bam.specs.Orders.{directory_order}
use Rattle.cbm_bam.proofs.medium_map.has_directory_room.Goals as goal

pub returns-clause-ok : goal.returns-clause-ok
returns-clause-ok g c =
    c.is_some.ensures ∙ ap is_some c.in_directory.ensures
    ∙ ap (λ (x : Cell). is_some (find (is_free_in (or_nothing x)) directory_order)) (sym c.in_ok-map.ensures.ok)
