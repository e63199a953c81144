-- What a drive keeps beside its disk, read from bytes: each step gives a value and what follows its bytes, or None.
use Rattle.std.specs.Prelude.{ℕ, zero, suc, ◌+◌, ◌*◌, ◌==◌, ◌&&◌, ◌||◌, not, nat_lt, nat_le, Bool, true, List, [], ◌∷◌, length, Option, Some, None, if◌then◌else◌}
use Rattle.cbm_saved.specs.Steps.{◌>>=◌}
use Rattle.cbm_saved.specs.Numbers.{pair_at, number_of_two}
use Rattle.cbm_saved.specs.Texts.{text_at}
use Rattle.cbm_medium.specs.Place.{Place, sectors_on}
use Rattle.cbm_chain.specs.Reading.{Reading}
use Rattle.cbm_chain.specs.Writing.{State}
use Rattle.cbm_listing.specs.Listed.{ListedBytes}
use Rattle.cbm_machine.specs.Statuses.{status_line}
use Rattle.cbm_machine.specs.Numbered.{code_with}
use Rattle.cbm_machine.specs.Told.{ToldStatus}
use Rattle.cbm_machine.specs.declared.code.Code.{Code}
use Rattle.cbm_machine.specs.declared.status.Status.{Status}
use Rattle.cbm_channel.specs.declared.channel.Channel.{Channel}
use Rattle.cbm_channel.specs.declared.channel.Channel.TheVariants as code
use Rattle.cbm_channel.specs.declared.on_record.Waiting.{Waiting}
use Rattle.cbm_channel.specs.declared.on_record.Waiting.TheVariants as waits
use Rattle.cbm_channel.specs.Placed.{Placed}
use Rattle.cbm_channel.specs.Standing.{Kept}

-- what 0 says is no, and what any other number says is yes
abbrev pub is_flag : ℕ → Bool
is_flag n = not (n == 0)

-- a number of tracks, no more than the disk's
abbrev pub loaded_tracks : ℕ → ℕ → Option ℕ
loaded_tracks most n = if (n == 35 || n == 40) && nat_le n most then Some n else None

-- the sector with these two numbers, if a disk has it
abbrev pub loaded_place : ℕ → ℕ → Option Place
loaded_place track sector = if nat_lt sector (sectors_on track) then Some (record { track = track; sector = sector }) else None

-- a listing of these bytes, of which so many were taken
abbrev pub listing_of : List ℕ → ℕ → Option ListedBytes
listing_of bytes taken = if nat_le (length bytes) 4672 && nat_le taken (length bytes) then Some (record { bytes = bytes; taken = taken }) else None

-- a listing
abbrev pub listing_at : List ℕ → Option (Channel × List ℕ)
listing_at bytes = do
  taken ← pair_at bytes
  text ← text_at taken.1
  listing ← listing_of text.0 taken.0
  Some (code.Listing listing, text.1)

-- a reader of these parts, which may stand so
abbrev pub reading_of : ℕ → List ℕ → Place → ℕ → Option Reading
reading_of tracks bytes next left =
    if nat_le (length bytes) 257 && (nat_lt 1 (length bytes) || next.track == 0)
    then Some (record { tracks = tracks; bytes = bytes; next = next; left = left }) else None

-- a file that is read
abbrev pub loaded_file : ℕ → List ℕ → Option (Channel × List ℕ)
loaded_file most (slot ∷ tracks ∷ track ∷ sector ∷ rest) = do
  t ← loaded_tracks most tracks
  left ← pair_at rest
  text ← text_at left.1
  reading ← reading_of t text.0 (record { track = track; sector = sector }) left.0
  Some (code.File slot reading, text.1)
loaded_file most _ = None

-- a block is on a track of the disk, or there is none
abbrev pub is_on : ℕ → Option Place → Bool
is_on tracks None = true
is_on tracks (Some p) = nat_le p.track tracks

-- a writer of these parts, which may stand so
abbrev pub chain_with : ℕ → Option Place → Option Place → ℕ → List ℕ → Option State
chain_with tracks first current count waiting =
    if nat_le (length waiting) 254 && is_on tracks current
    then Some (record { tracks = tracks; first = first; current = current; count = count; waiting = waiting }) else None

-- the writer of a chain
abbrev pub chain_at : ℕ → List ℕ → Option (State × List ℕ)
chain_at most (tracks ∷ a ∷ b ∷ c ∷ d ∷ rest) = do
  t ← loaded_tracks most tracks
  count ← pair_at rest
  text ← text_at count.1
  chain ← chain_with t (loaded_place a b) (loaded_place c d) count.0 text.0
  Some (chain, text.1)
chain_at most _ = None

-- a file that is written, and whether the disk was full
abbrev pub writing_at : ℕ → List ℕ → Option (Channel × List ℕ)
writing_at most (slot ∷ replaces ∷ full ∷ rest) = do
  chain ← chain_at most rest
  Some (code.Writing (record { slot = slot; replaces = is_flag replaces; chain = chain.0 }) (is_flag full), chain.1)
writing_at most _ = None

-- a file whose writing the medium refused
abbrev pub loaded_stopped : List ℕ → Option (Channel × List ℕ)
loaded_stopped (slot ∷ rest) = Some (code.Stopped slot, rest)
loaded_stopped _ = None

-- a record that waits, of at most 254 bytes
abbrev pub record_of_bytes : List ℕ → Option Waiting
record_of_bytes bytes = if nat_le (length bytes) 254 then Some (waits.Record (record { items = bytes })) else None

-- a record that waits
abbrev pub loaded_record : List ℕ → Option (Waiting × List ℕ)
loaded_record bytes = do
  text ← text_at bytes
  waiting ← record_of_bytes text.0
  Some (waiting, text.1)

-- what waits at a record's place
abbrev pub waiting_by : ℕ → List ℕ → Option (Waiting × List ℕ)
waiting_by kind rest =
    if kind == 0 then loaded_record rest else
    if kind == 1 then Some (waits.Absent, rest) else
    if kind == 2 then Some (waits.Broken, rest) else None

-- what waits at a place
abbrev pub waiting_at : List ℕ → Option (Waiting × List ℕ)
waiting_at (kind ∷ rest) = waiting_by kind rest
waiting_at _ = None

-- a record's number is below 2^18 where the record is there, and below 2^24 in any case
abbrev pub may_wait : ℕ → Waiting → Bool
may_wait number (waits.Record r) = nat_lt number 262144
may_wait number waits.Absent = nat_lt number 16777216
may_wait number waits.Broken = nat_lt number 16777216

-- an open relative file of these parts
abbrev pub placed_of : ℕ → ℕ → ℕ → ℕ → Waiting → Option Placed
placed_of slot width number position waiting =
    if may_wait number waiting
    then Some (record { slot = slot; width = width; number = number; position = position; waiting = waiting }) else None

-- a relative file that is open
abbrev pub placed_at : List ℕ → Option (Placed × List ℕ)
placed_at (slot ∷ width ∷ position ∷ low ∷ middle ∷ high ∷ rest) = do
  waiting ← waiting_at rest
  placed ← placed_of slot width (low + 256 * middle + 65536 * high) position waiting.0
  Some (placed, waiting.1)
placed_at _ = None

-- a channel that has it open
abbrev pub records_at : List ℕ → Option (Channel × List ℕ)
records_at bytes = do
  placed ← placed_at bytes
  Some (code.Records placed.0, placed.1)

-- a channel by its kind
abbrev pub channel_by : ℕ → ℕ → List ℕ → Option (Channel × List ℕ)
channel_by most kind rest =
    if kind == 0 then Some (code.Closed, rest) else
    if kind == 1 then listing_at rest else
    if kind == 2 then loaded_file most rest else
    if kind == 3 then writing_at most rest else
    if kind == 4 then loaded_stopped rest else
    if kind == 5 then records_at rest else None

-- a channel, over a disk of this many tracks
abbrev pub channel_at : ℕ → List ℕ → Option (Channel × List ℕ)
channel_at most (kind ∷ rest) = channel_by most kind rest
channel_at most _ = None

-- so many channels, one after another
abbrev pub channels_at : ℕ → ℕ → List ℕ → Option (List Channel × List ℕ)
channels_at most zero bytes = Some ([], bytes)
channels_at most (suc n) bytes = do
  first ← channel_at most bytes
  others ← channels_at most n first.1
  Some (first.0 ∷ others.0, others.1)

-- a status of whose line so many bytes were told
abbrev pub told_with : Code → ℕ → ℕ → ℕ → Option ToldStatus
told_with c first second told =
    if nat_lt told (length (status_line (record { code = c; first = first; second = second })))
    then Some (record { status = record { code = c; first = first; second = second }; told = told }) else None

-- the status, and how much of it was told
abbrev pub told_at : List ℕ → Option (ToldStatus × List ℕ)
told_at (number ∷ first ∷ second ∷ told ∷ rest) = do
  c ← code_with number
  t ← told_with c first second told
  Some (t, rest)
told_at _ = None

-- a gathered text has a byte at least, and no more than 256
abbrev pub gathered_of : ℕ → List ℕ → Option (ℕ × List ℕ)
gathered_of channel bytes = if nat_le 1 (length bytes) && nat_le (length bytes) 256 then Some (channel, bytes) else None

-- a gathered text, of its channel
abbrev pub some_gathered_at : List ℕ → Option (Option (ℕ × List ℕ) × List ℕ)
some_gathered_at (channel ∷ rest) = do
  text ← text_at rest
  gathered ← gathered_of channel text.0
  Some (Some gathered, text.1)
some_gathered_at _ = None

-- a text that is gathered with its channel, if one is
abbrev pub gathered_at : List ℕ → Option (Option (ℕ × List ℕ) × List ℕ)
gathered_at (kind ∷ rest) = if kind == 0 then Some (None, rest) else some_gathered_at rest
gathered_at _ = None

-- WHAT A DRIVE KEEPS, with this medium of so many tracks
abbrev pub dos_at : {M : Type 0} → M → ℕ → List ℕ → Option (Kept M × List ℕ)
dos_at medium most bytes = do
  told ← told_at bytes
  text ← gathered_at told.1
  channels ← channels_at most 15 text.1
  Some (record { medium = medium; channels = channels.0; told = told.0; text = text.0 }, channels.1)
