-- A drive may keep what its parts may be.
use Rattle.std.proofs.Common.{◌≡◌, ℕ, ◌<◌, length, Result, Ok, Err}
use Rattle.std.specs.Prelude.{OnOk}
use Rattle.std.specs.List.{All}
use Rattle.cbm_machine.specs.Statuses.{status_line}
use Rattle.cbm_channel.specs.Saved.{MayBeKept, MayStand, IsGathered}
use Rattle.cbm_channel.specs.Standing.{Kept}

pub kept_of : {M : Type 0} {T E : Type 0} (most : ℕ) (k : Kept M) (r : Result T E) → length k.channels ≡ 15
    → k.told.told < length (status_line k.told.status) → IsGathered k.text → OnOk r (All (MayStand most) k.channels) → OnOk r (MayBeKept most k)
kept_of most k (Ok v) count told gathered all = record { count = count; each = all; told = told; gathered = gathered }
kept_of most k (Err e) count told gathered all = tt
