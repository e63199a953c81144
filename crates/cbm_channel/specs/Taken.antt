-- What a channel is after a byte that was taken, on any disk.
use Rattle.std.specs.Prelude.{ℕ, ◌≡◌, ◌<◌, true, drop, slice_index_or, Some, Result, Ok, Err}
use Rattle.cbm_medium.specs.declared.fault.Trouble.{Trouble}
use Rattle.cbm_medium.specs.Content.{Content}
use Rattle.cbm_medium.specs.Seen.{Seen}
use Rattle.cbm_chain.specs.Reading.{Reading, rest_of, one_less}
use Rattle.cbm_listing.specs.Listed.{with_next_taken}
use Rattle.cbm_channel.specs.declared.channel.Channel.{Channel}
use Rattle.cbm_channel.specs.declared.channel.Channel.TheVariants as code
use Rattle.cbm_channel.specs.Placed.{Placed, IsMoved}
use Rattle.cbm_machine.specs.Statuses.{trouble_status}
use Rattle.cbm_machine.specs.Told.{ToldStatus, after_the_next}
use Rattle.cbm_channel.specs.Grounds.{IsToldFor}
use Rattle.cbm_channel.specs.Shown.{has_records_on}
use Rattle.cbm_channel.specs.Standing.{Kept, SameBut}

-- A byte was taken of a channel. Of a file one byte less is left; or its chain breaks off after the byte that waits next,
-- which is the last then, and the trouble is reported. Of records the place goes on.
abbrev pub IsTakenBy : Content → Channel → Channel → Result (Unit {0}) Trouble → Type 0
IsTakenBy c (code.File slot r) new (Ok _) = (s : Reading) × (new ≡ code.File slot s) × (rest_of c s ≡ one_less (rest_of c r))
IsTakenBy c (code.File slot r) new (Err t) = (s : Reading) × (new ≡ code.File slot s) × ((rest_of c r).trouble ≡ Some t) × (s.bytes ≡ drop 1 (rest_of c r).bytes)
IsTakenBy c (code.Listing l) new (Ok _) = new ≡ code.Listing (with_next_taken l)
IsTakenBy c code.Closed new (Ok _) = new ≡ code.Closed
IsTakenBy c (code.Writing w full) new (Ok _) = new ≡ code.Writing w full
IsTakenBy c (code.Stopped slot) new (Ok _) = new ≡ code.Stopped slot
IsTakenBy c (code.Records r) new result = (s : Placed) × (new ≡ code.Records s) × IsMoved r.waiting r s result
IsTakenBy c (code.Listing l) new (Err t) = ⊥
IsTakenBy c code.Closed new (Err t) = ⊥
IsTakenBy c (code.Writing w full) new (Err t) = ⊥
IsTakenBy c (code.Stopped slot) new (Err t) = ⊥

-- a trouble is the status, reported from its beginning
abbrev pub told_after : Result (Unit {0}) Trouble → ToldStatus → ToldStatus
told_after (Ok _) told = told
told_after (Err t) told = record { status = trouble_status t; told = 0 }

-- a byte was taken, and what was met after it is reported
abbrev pub IsTaken : Content → Channel → Channel → ToldStatus → ToldStatus → Type 0
IsTaken c old new told next = (result : Result (Unit {0}) Trouble) × IsTakenBy c old new result × (next ≡ told_after result told)

-- on a channel from 0 to 14 it is what it is after that byte, and what was met after it is reported
abbrev pub IsTakenOn : {M : Type 0} → (M → Seen) → ℕ → Kept M → Kept M → Type 0
IsTakenOn seen ch old new = IsTaken (seen old.medium).content (slice_index_or old.channels ch code.Closed) (slice_index_or new.channels ch code.Closed) old.told new.told

-- WHAT A BYTE THAT WAS TAKEN LEAVES on any disk: on 15 the status is told on; the other channels stay; and a fault that is reported where
-- records are open has its ground in what the disk holds.
pub record TakesOne {M : Type 0} (seen : M → Seen) (ch : ℕ) (old new : Kept M) : Type 0 where
  pub status : ch ≡ 15 → new.told ≡ after_the_next old.told
  pub others : SameBut ch old.channels new.channels
  pub ground : ch < 15 → has_records_on ch old ≡ true → IsToldFor seen old new
