-- A record's trouble that is reported has its ground.
use Rattle.std.specs.Prelude.{◌≡◌}
use Rattle.std.proofs.Common.{ap, inl, inr}
use Rattle.cbm_medium.specs.Seen.{Seen}
use Rattle.cbm_medium.specs.declared.fault.Trouble.{Trouble}
use Rattle.cbm_machine.specs.Statuses.{trouble_status}
use Rattle.cbm_channel.specs.Grounds.{HidesRecords, IsToldFor}
use Rattle.cbm_channel.proofs.Troubles.{record_broken}
use Rattle.cbm_channel.specs.Standing.{Kept}

-- the status is the trouble's, which the content shows
pub told_hidden : {M : Type 0} (seen : M → Seen) (old new : Kept M) (t : Trouble) → new.told ≡ (record { status = trouble_status t; told = 0 }) → HidesRecords (seen old.medium) t → IsToldFor seen old new
told_hidden seen old new t told h = inr (inl (inr (inr (t, ap (λ x. x.status) told, record_broken (seen old.medium) t h))))
