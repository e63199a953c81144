-- A medium that never fails by itself didn't fail in a request.
use Rattle.std.proofs.Common.{◌≡◌}
use Rattle.cbm_medium.specs.Seen.{Seen}
use Rattle.cbm_channel.specs.Standing.{Kept}
use Rattle.cbm_drive.proofs.Unfailed.{never_failed}
use Rattle.cbm_host.specs.Hosted.{Hosting, HasNotFailed}

pub has_not_failed : {M : Type 0} (seen : M → Seen) → ((k : M) → (seen k).failures ≡ 0) → (old new : Hosting (Kept M)) → HasNotFailed seen old new
has_not_failed seen steady old new = never_failed (λ x. (seen x.dos.medium).failures) (λ x. steady x.dos.medium) old.bus.drives new.bus.drives
