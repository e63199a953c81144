-- What a channel of the code shows, on any disk.
use Rattle.std.specs.Prelude.{ℕ, ◌≡◌, ◌==◌, Bool, true, false, not, drop, slice_index_or, if◌then◌else◌, Option, Some, None}
use Rattle.cbm_file.specs.Waiting.{next_shown}
use Rattle.cbm_channel.specs.declared.channel.Channel.{Channel}
use Rattle.cbm_channel.specs.declared.channel.Channel.TheVariants as code
use Rattle.cbm_channel.specs.Placed.{is_absent, shown_at}
use Rattle.cbm_channel.specs.Standing.{Kept}
use Rattle.cbm_machine.specs.declared.code.Code.{Code}
use Rattle.cbm_machine.specs.declared.code.Code.TheVariants.{NoRecord, FileNotOpen}
use Rattle.cbm_machine.specs.Told.{next_told}

-- nothing is open
abbrev pub is_channel_closed : Channel → Bool
is_channel_closed code.Closed = true
is_channel_closed (code.Listing l) = false
is_channel_closed (code.File slot r) = false
is_channel_closed (code.Writing w full) = false
is_channel_closed (code.Stopped slot) = false
is_channel_closed (code.Records r) = false

-- something is open
abbrev pub is_channel_open : Channel → Bool
is_channel_open x = not (is_channel_closed x)

-- what the channel refuses where it is asked to talk: it isn't open for reading, or the record of its place isn't there
abbrev pub talk_refused : Channel → Option Code
talk_refused code.Closed = Some FileNotOpen
talk_refused (code.Listing l) = None
talk_refused (code.File slot r) = None
talk_refused (code.Writing w full) = Some FileNotOpen
talk_refused (code.Stopped slot) = Some FileNotOpen
talk_refused (code.Records r) = if is_absent r.waiting then Some NoRecord else None

-- it is open for writing
abbrev pub is_written : Channel → Bool
is_written code.Closed = false
is_written (code.Listing l) = false
is_written (code.File slot r) = false
is_written (code.Writing w full) = true
is_written (code.Stopped slot) = true
is_written (code.Records r) = true

-- a file is being written on it: bytes go to the disk
abbrev pub is_writing : Channel → Bool
is_writing code.Closed = false
is_writing (code.Listing l) = false
is_writing (code.File slot r) = false
is_writing (code.Writing w full) = true
is_writing (code.Stopped slot) = false
is_writing (code.Records r) = false

-- it has records open
abbrev pub has_records : Channel → Bool
has_records code.Closed = false
has_records (code.Listing l) = false
has_records (code.File slot r) = false
has_records (code.Writing w full) = false
has_records (code.Stopped slot) = false
has_records (code.Records r) = true

-- the channel of this number of what the drive keeps
abbrev pub is_writing_on : {M : Type 0} → ℕ → Kept M → Bool
is_writing_on ch k = is_writing (slice_index_or k.channels ch code.Closed)

-- the channel has a relative file open
abbrev pub has_records_on : {M : Type 0} → ℕ → Kept M → Bool
has_records_on ch k = has_records (slice_index_or k.channels ch code.Closed)

-- what is reported and the medium are as they were
abbrev pub KeepsMediumAndStatus : {M : Type 0} → Kept M → Kept M → Type 0
KeepsMediumAndStatus old new = (new.told ≡ old.told) × (new.medium ≡ old.medium)

-- it has the slot open for writing
abbrev pub writes_on : ℕ → Channel → Bool
writes_on n code.Closed = false
writes_on n (code.Listing l) = false
writes_on n (code.File slot r) = false
writes_on n (code.Writing w full) = w.slot == n
writes_on n (code.Stopped slot) = slot == n
writes_on n (code.Records r) = r.slot == n

-- a file is being written on it in this slot, which CLOSE finishes
abbrev pub finishes_on : ℕ → Channel → Bool
finishes_on n code.Closed = false
finishes_on n (code.Listing l) = false
finishes_on n (code.File slot r) = false
finishes_on n (code.Writing w full) = w.slot == n
finishes_on n (code.Stopped slot) = false
finishes_on n (code.Records r) = false

-- so it is on the channel of this number
abbrev pub finished_by : {M : Type 0} → ℕ → Kept M → ℕ → Bool
finished_by ch k n = finishes_on n (slice_index_or k.channels ch code.Closed)

-- it has the records of the file in this slot open
abbrev pub records_on : ℕ → Channel → Bool
records_on n code.Closed = false
records_on n (code.Listing l) = false
records_on n (code.File slot r) = false
records_on n (code.Writing w full) = false
records_on n (code.Stopped slot) = false
records_on n (code.Records r) = r.slot == n

-- the channel of this number has
abbrev pub with_records_by : {M : Type 0} → ℕ → Kept M → ℕ → Bool
with_records_by ch k n = records_on n (slice_index_or k.channels ch code.Closed)

-- a file is being written on it in this slot, and doesn't replace one
abbrev pub appends_on : ℕ → Channel → Bool
appends_on n code.Closed = false
appends_on n (code.Listing l) = false
appends_on n (code.File slot r) = false
appends_on n (code.Writing w full) = if w.replaces then false else w.slot == n
appends_on n (code.Stopped slot) = false
appends_on n (code.Records r) = false

-- so it is on the channel of this number
abbrev pub appended_by : {M : Type 0} → ℕ → Kept M → ℕ → Bool
appended_by ch k n = appends_on n (slice_index_or k.channels ch code.Closed)

-- it has the slot open
abbrev pub uses_on : ℕ → Channel → Bool
uses_on n code.Closed = false
uses_on n (code.Listing l) = false
uses_on n (code.File slot r) = slot == n
uses_on n (code.Writing w full) = w.slot == n
uses_on n (code.Stopped slot) = slot == n
uses_on n (code.Records r) = r.slot == n

-- what a channel costs of the three that may be open
abbrev pub cost_on : Channel → ℕ
cost_on code.Closed = 0
cost_on (code.Listing l) = 1
cost_on (code.File slot r) = 1
cost_on (code.Writing w full) = 1
cost_on (code.Stopped slot) = 1
cost_on (code.Records r) = 2

-- the byte that waits on a channel from 0 to 14, and whether it is the last
abbrev pub shown_on : Channel → Option (ℕ × Bool)
shown_on code.Closed = None
shown_on (code.Listing l) = next_shown (drop l.taken l.bytes)
shown_on (code.File slot r) = next_shown r.bytes
shown_on (code.Writing w full) = None
shown_on (code.Stopped slot) = None
shown_on (code.Records r) = shown_at r.waiting r.position

-- the byte that waits on a channel
abbrev pub shown_by : {M : Type 0} → ℕ → Kept M → Option (ℕ × Bool)
shown_by ch k = if ch == 15 then next_told k.told else shown_on (slice_index_or k.channels ch code.Closed)
