-- The drive's three buffers that a channel may have for itself.
use Rattle.std.specs.Prelude.{ℕ, ◌+◌, ◌%◌, ◌==◌, ◌||◌, Bool, true, false, List, Option, Some, None, if◌then◌else◌, replicate, slice_index, slice_set}
use Rattle.cbm_direct.specs.declared.form.Form.{Form}
use Rattle.cbm_direct.specs.declared.form.Form.TheVariants.{Whole, Counted}

-- a buffer: its channel, its 256 bytes, the place of the next one, and the place of the one that EOI comes with
pub record Buffered : Type 0 where
  pub channel : Option ℕ
  pub bytes : List ℕ
  pub pointer : ℕ
  pub last : ℕ

-- as it is at power up
abbrev pub free_buffer : Buffered
free_buffer = record { channel = None; bytes = replicate 256 0; pointer = 0; last = 255 }

-- whether the channel is this one
abbrev pub is_channel : ℕ → Option ℕ → Bool
is_channel ch None = false
is_channel ch (Some own) = own == ch

-- whether a channel has the buffer
abbrev pub has_it : ℕ → Buffered → Bool
has_it ch b = is_channel ch b.channel

-- whether no channel has it
abbrev pub is_free : Option ℕ → Bool
is_free None = true
is_free (Some own) = false

-- opened for a channel: its bytes stay, and the next byte is byte 1
abbrev pub with_channel_open : ℕ → Buffered → Buffered
with_channel_open ch b = record b { channel = Some ch; pointer = 1; last = 255 }

-- given back
abbrev pub given_back : Buffered → Buffered
given_back b = record b { channel = None }

-- it has a sector's bytes, and the next one is byte 0
abbrev pub with_sector_read : List ℕ → Buffered → Buffered
with_sector_read bytes b = record b { bytes = bytes; pointer = 0; last = 255 }

-- it has a sector's bytes, of which byte 0 says where EOI comes, and the next one is byte 1
abbrev pub with_counted_block : List ℕ → Buffered → Buffered
with_counted_block bytes b = record b { bytes = bytes; pointer = 1; last = slice_index bytes 0 }

-- it has a sector's bytes, whole or counted
abbrev pub loaded : Form → List ℕ → Buffered → Buffered
loaded Whole bytes b = with_sector_read bytes b
loaded Counted bytes b = with_counted_block bytes b

-- the next byte is this one
abbrev pub at_place : ℕ → Buffered → Buffered
at_place pointer b = record b { pointer = pointer }

-- the next byte is the one behind; byte 0 comes behind byte 255
abbrev pub pointer_on : Buffered → Buffered
pointer_on b = record b { pointer = (b.pointer + 1) % 256 }

-- the next byte becomes this one
abbrev pub with_byte_put : ℕ → Buffered → Buffered
with_byte_put byte b = record b { bytes = slice_set b.bytes b.pointer byte; pointer = (b.pointer + 1) % 256 }

-- the next byte, and whether EOI comes with it
abbrev pub next_in : Buffered → ℕ × Bool
next_in b = (slice_index b.bytes b.pointer, b.pointer == b.last)

-- its bytes, of which byte 0 says the place of the byte before the next one
abbrev pub bytes_counted : Buffered → List ℕ
bytes_counted b = slice_set b.bytes 0 ((b.pointer + 255) % 256)

-- its bytes, whole or counted
abbrev pub bytes_by_form : Form → Buffered → List ℕ
bytes_by_form Whole b = b.bytes
bytes_by_form Counted b = bytes_counted b

-- the three buffers
pub record ThreeBuffers : Type 0 where
  pub first : Buffered
  pub second : Buffered
  pub third : Buffered

-- all free
abbrev pub three_free : ThreeBuffers
three_free = record { first = free_buffer; second = free_buffer; third = free_buffer }

-- whether a channel has one of them
abbrev pub has_buffer : ℕ → ThreeBuffers → Bool
has_buffer ch b = has_it ch b.first || has_it ch b.second || has_it ch b.third

-- the buffer of a channel becomes another
abbrev pub on_buffer : (Buffered → Buffered) → ℕ → ThreeBuffers → ThreeBuffers
on_buffer f ch b =
    if has_it ch b.first then record b { first = f b.first }
    else if has_it ch b.second then record b { second = f b.second }
    else if has_it ch b.third then record b { third = f b.third }
    else b

-- THE BYTE THAT A CHANNEL'S BUFFER SHOWS, and whether EOI comes with it
abbrev pub shown_in : ℕ → ThreeBuffers → Option (ℕ × Bool)
shown_in ch b =
    if has_it ch b.first then Some (next_in b.first)
    else if has_it ch b.second then Some (next_in b.second)
    else if has_it ch b.third then Some (next_in b.third)
    else None

-- what the buffer of a channel has
abbrev pub bytes_of_channel : Form → ℕ → ThreeBuffers → Option (List ℕ)
bytes_of_channel form ch b =
    if has_it ch b.first then Some (bytes_by_form form b.first)
    else if has_it ch b.second then Some (bytes_by_form form b.second)
    else if has_it ch b.third then Some (bytes_by_form form b.third)
    else None

-- one if a channel has it
abbrev pub taken_one : Option ℕ → ℕ
taken_one None = 0
taken_one (Some own) = 1

-- how many channels have one
abbrev pub taken_count : ThreeBuffers → ℕ
taken_count b = taken_one b.first.channel + taken_one b.second.channel + taken_one b.third.channel

-- the first that is free becomes a channel's
abbrev pub with_any_for : ℕ → ThreeBuffers → Option ThreeBuffers
with_any_for ch b =
    if is_free b.first.channel then Some (record b { first = with_channel_open ch b.first })
    else if is_free b.second.channel then Some (record b { second = with_channel_open ch b.second })
    else if is_free b.third.channel then Some (record b { third = with_channel_open ch b.third })
    else None

-- the buffer of this number, 0 to 2, becomes a channel's, if it is free
abbrev pub with_number_for : ℕ → ℕ → ThreeBuffers → Option ThreeBuffers
with_number_for number ch b =
    if number == 0 then (if is_free b.first.channel then Some (record b { first = with_channel_open ch b.first }) else None)
    else if number == 1 then (if is_free b.second.channel then Some (record b { second = with_channel_open ch b.second }) else None)
    else if number == 2 then (if is_free b.third.channel then Some (record b { third = with_channel_open ch b.third }) else None)
    else None
