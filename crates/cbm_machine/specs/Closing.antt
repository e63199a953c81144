-- Bytes that are written, and CLOSE.
use Rattle.std.specs.Prelude.{ℕ, ◌+◌, ◌-◌, ◌*◌, ◌==◌, Bool, true, false, List, [], ◌∷◌, ◌++◌, length, if◌then◌else◌, Option, Some, None}
use Rattle.cbm_file.specs.Files.{File, Disk, file_at}
use Rattle.cbm_file.specs.Changes.{finished_in, replaced_in}
use Rattle.cbm_machine.specs.declared.code.Code.TheVariants.{DiskFull}
use Rattle.cbm_machine.specs.Statuses.{return}
use Rattle.cbm_machine.specs.Machines.{Channel, Closed, Writing, Machine, say, with_disk, with_free, channel, with_channel}

-- The byte goes to the file, and claims a block where those so far are full. Where none is free, it and all later ones are dropped.
abbrev pub put_on : ℕ → ℕ → Channel → Machine → Machine
put_on ch b (Writing s bytes blocks full replaces) m =
    if full then m else
    if length bytes == 254 * blocks then
    (if m.disk.free == 0
    then say DiskFull (with_channel ch (Writing s bytes blocks true replaces) m)
    else with_free (m.disk.free - 1) (with_channel ch (Writing s (bytes ++ b ∷ []) (blocks + 1) full replaces) m))
    else with_channel ch (Writing s (bytes ++ b ∷ []) blocks full replaces) m
put_on ch b c m = m

-- A file with no byte gets a return.
abbrev pub with_some_byte : ℕ → Channel → Machine → Machine
with_some_byte ch (Writing s [] blocks full replaces) m = put_on ch return (Writing s [] blocks full replaces) m
with_some_byte ch c m = m

-- The slot of a written file is closed. A replacement gives the old blocks back, or on a full disk the new ones.
abbrev pub finish_slot : Option File → ℕ → List ℕ → ℕ → Bool → Bool → Disk → Disk
finish_slot None s bytes blocks full replaces d = d
finish_slot (Some f) s bytes blocks full true d =
    if full then record d { free = d.free + blocks }
    else replaced_in (Some f) d s bytes blocks
finish_slot (Some f) s bytes blocks full false d = finished_in (Some f) d s bytes blocks

-- what CLOSE of a channel does to the disk
abbrev pub finish_on : Channel → Machine → Machine
finish_on (Writing s bytes blocks full replaces) m = with_disk (finish_slot (file_at m.disk s) s bytes blocks full replaces m.disk) m
finish_on c m = m

-- the text of this channel is dropped
abbrev pub forget_text : ℕ → Option (ℕ × List ℕ) → Option (ℕ × List ℕ)
forget_text ch None = None
forget_text ch (Some t) = if t.0 == ch then None else Some t

-- the machine without this channel's text
abbrev pub without_text : ℕ → Machine → Machine
without_text ch m = record m { text = forget_text ch m.text }

-- the file is finished and the channel closed
abbrev pub finish_channel : ℕ → Machine → Machine
finish_channel ch m = with_channel ch Closed (finish_on (channel m ch) m)

-- CLOSE of a channel from 0 to 14
abbrev pub close_one : ℕ → Machine → Machine
close_one ch m = without_text ch (finish_channel ch (with_some_byte ch (channel m ch) m))

-- CLOSE of several, in order
abbrev pub close_all : List ℕ → Machine → Machine
close_all [] m = m
close_all (ch ∷ chs) m = close_all chs (close_one ch m)

-- the channels for files
abbrev pub channel_numbers : List ℕ
channel_numbers = 0 ∷ 1 ∷ 2 ∷ 3 ∷ 4 ∷ 5 ∷ 6 ∷ 7 ∷ 8 ∷ 9 ∷ 10 ∷ 11 ∷ 12 ∷ 13 ∷ 14 ∷ []

-- CLOSE of 15 closes 0 to 14 in order.
abbrev pub close : ℕ → Machine → Machine
close ch m = if ch == 15 then without_text 15 (close_all channel_numbers m) else close_one ch m
