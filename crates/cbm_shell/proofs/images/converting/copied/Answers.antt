use Rattle.std.proofs.Common.{ap, refl, inl, ◌∙◌}
use Rattle.cbm_shell.proofs.ZeroImages.{content_zeros}
use Rattle.cbm_shell.proofs.images.converting.copied.Goals as goal

pub copy_tracks-requires-clause-blank : goal.copy_tracks-requires-clause-blank
copy_tracks-requires-clause-blank g c = λ p.
    content_zeros 174848 c.in-Ok.disk.bytes p (inl refl) refl (ap (λ d. d.bytes) c.in-Ok.ensures.ok ∙ c.as_slice.ensures.value ∙ c.in_ok-blank.ensures)
