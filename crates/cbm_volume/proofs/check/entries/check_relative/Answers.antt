use Rattle.std.proofs.Common.{sym, ap, ◌∙◌, inl, refl}
use Rattle.cbm_medium.specs.Place.{Place}
use Rattle.cbm_volume.specs.check.Claims.{fault_at}
use Rattle.cbm_volume.proofs.check.entries.check_relative.Goals as goal

-- a link to no sector of the disk
pub returns-then-is_end-clause-err : goal.returns-then-is_end-clause-err
returns-then-is_end-clause-err g c = inl (ap (λ (p : Place). p.track) (sym c.first_block-first.ensures) ∙ c.if-is_end.ensures.0 refl, c.at.ensures ∙ ap (fault_at 4) c.first_block-first.ensures)
