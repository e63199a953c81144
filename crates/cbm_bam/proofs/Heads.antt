-- What a read of 18/0 meets is shown by the medium.
use Rattle.std.proofs.Common.{ap, inl, inr, ◌∙◌}
use Rattle.cbm_medium.specs.Place.{Place}
use Rattle.cbm_medium.specs.Seen.{Seen, ShowsGround}
use Rattle.cbm_medium.specs.declared.fault.Trouble.{Trouble}
use Rattle.cbm_bam.specs.Causes.{IsHeadFault}

pub head_shown : (s : Seen) (t : Trouble) → IsHeadFault s.content t → ShowsGround s t
head_shown s t h = inr (inl (ap (λ (p : Place). s.content p) (λ i. record { track = h.1 i; sector = h.2 i }) ∙ h.0))
